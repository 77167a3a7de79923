use Rattle.build_store.proofs.HeldLemmas.{loaded_on}
use Rattle.build_store.proofs.file_turn.end_loaded.Goals as goal

pub returns-clause-on : goal.returns-clause-on
returns-clause-on c kept =
    loaded_on kept c.args.held.now c.take_choice.new.self c.end.new.self c.args.number c.in_ok-part.part (record { asked = c.in-File.asked; needs = c.args.needs }) c.end.result
    c.requires.places c.requires.busy c.take_choice.ensures.taken c.end.ensures.ended c.end.ensures.err
