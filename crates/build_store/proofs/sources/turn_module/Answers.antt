use Rattle.std.proofs.Common.{◌≢◌, ◌∙◌, Some, rules, sym}
use Rattle.cm_outside.specs.declared.tree.TreeFault.TheVariants.{Failed}
use Rattle.build_store.specs.Changes.{fault_of}
use Rattle.build_store.proofs.ChangesWent.{went_ended, went_nowhere}
use Rattle.std.proofs.lemmas.Result.{IfOk-weaker}
use Rattle.cm_outside.specs.Faults.{Rose}
use Rattle.build_store.specs.LeftBehind.{has_ended}
use Rattle.build_store.proofs.BehindTurns.{choices_same, file_behind, sources_behind}
use Rattle.build_store.proofs.FileTurns.{choice_in}
use Rattle.build_store.proofs.HeaderEnds.{on_end}
use Rattle.build_store.proofs.sources.turn_module.Goals as goal

pub returns-in_err-file_turn-in-File-clause-went : goal.returns-in_err-file_turn-in-File-clause-went
returns-in_err-file_turn-in-File-clause-went g c =
    let other : fault_of c.from_residual.result ≢ Some Failed = search rules in
    went_ended g.T.Tree g.K.Keeper c.args.tree.now c.args.tree.now (fault_of c.from_residual.result) other (went_nowhere g.T.Tree g.K.Keeper c.args.tree.now)

pub returns-in_err-file_turn-in-File-clause-on : goal.returns-in_err-file_turn-in-File-clause-on
returns-in_err-file_turn-in-File-clause-on g c = c.in_err-file_turn-in-File.ensures.on (g.K.Keeper.records c.args.tree.now.kept)

pub returns-in_ok-file_turn-in-File-clause-on : goal.returns-in_ok-file_turn-in-File-clause-on
returns-in_ok-file_turn-in-File-clause-on g c = c.in_ok-file_turn-in-File.ensures.on (g.K.Keeper.records c.args.tree.now.kept)

pub returns-in_ok-file_turn-in-File-clause-unknown : goal.returns-in_ok-file_turn-in-File-clause-unknown
returns-in_ok-file_turn-in-File-clause-unknown g c = c.in_ok-file_turn-in-File.ensures.unknown (g.K.Keeper.records c.args.tree.now.kept)

pub returns-in_ok-file_turn-in-File-clause-turn : goal.returns-in_ok-file_turn-in-File-clause-turn
returns-in_ok-file_turn-in-File-clause-turn g c t chain end agrees table runs = c.in_ok-file_turn-in-File.ensures.turn (g.K.Keeper.records c.args.tree.now.kept) t chain end table agrees runs

pub returns-in_ok-file_turn-in-File-clause-behind : goal.returns-in_ok-file_turn-in-File-clause-behind
returns-in_ok-file_turn-in-File-clause-behind g c t chain end agrees table runs =
    let read = choice_in c.args.held.now c.args.number c.items.result.now c.index-items-number.result c.requires.places c.requires.number c.items.ensures c.index-items-number.is in
    file_behind c.args.held.now c.args.number _ _ (has_ended c.in_ok-file_turn-in-File.field-0) t (g.C.Cache.files c.args.cache.now) (Rose (g.C.Cache.faults c.args.cache.now) (g.C.Cache.faults c.args.cache.now)) (sym read ∙ c.in-File.is)

pub returns-in-Sources-clause-behind : goal.returns-in-Sources-clause-behind
returns-in-Sources-clause-behind g c =
    let read = choice_in c.args.held.now c.args.number c.items.result.now c.index-items-number.result c.requires.places c.requires.number c.items.ensures c.index-items-number.is in
    IfOk-weaker c.header_turn.result _ _
    (λ turn turned t chain end agrees table runs.
    sources_behind c.args.held.now c.args.number (has_ended turn) t (g.C.Cache.files c.args.cache.now) (g.C.Cache.files c.header_turn.new.cache) (Rose (g.C.Cache.faults c.args.cache.now) (g.C.Cache.faults c.header_turn.new.cache)) (sym read ∙ c.in-Sources.is)
    (turned t chain end agrees table runs))
    c.header_turn.ensures.behind

pub returns-in-Sources-clause-chosen : goal.returns-in-Sources-clause-chosen
returns-in-Sources-clause-chosen g c =
    on_end c.header_turn.result _ (choices_same c.args.held.now c.header_turn.new.held c.header_turn.ensures.choices)

pub returns-in-Sources-clause-unknown : goal.returns-in-Sources-clause-unknown
returns-in-Sources-clause-unknown g c = IfOk-weaker c.header_turn.result _ _ (λ turn new. new (g.K.Keeper.records c.args.tree.now.kept)) c.header_turn.ensures.unknown
