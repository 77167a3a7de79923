use Rattle.cm_outside.proofs.snapshot.Snapshot.ask_file.Goals as goal

pub returns-clause-fixed : goal.returns-clause-fixed
returns-clause-fixed g c = rw (← c.in_ok-copy.ensures) c.ask.ensures.fixed
