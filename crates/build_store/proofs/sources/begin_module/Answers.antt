use Rattle.std.proofs.Common.{◌≢◌, Some, rules}
use Rattle.cm_outside.specs.declared.tree.TreeFault.TheVariants.{Failed}
use Rattle.cm_outside.specs.Faults.{Rose}
use Rattle.build_store.specs.Changes.{fault_of}
use Rattle.build_store.proofs.ChangesWent.{went_ended, went_nowhere}
use Rattle.build_store.proofs.TellingLemmas.{begun_by}
use Rattle.build_store.proofs.sources.begin_module.Goals as goal

pub returns-in_err-key-clause-went : goal.returns-in_err-key-clause-went
returns-in_err-key-clause-went g c =
    let other : fault_of c.from_residual.result ≢ Some Failed = search rules in
    went_ended g.T.Tree g.K.Keeper c.args.tree.now c.args.tree.now (fault_of c.from_residual.result) other (went_nowhere g.T.Tree g.K.Keeper c.args.tree.now)

pub returns-clause-begun : goal.returns-clause-begun
returns-clause-begun g c =
    let said = c.in_ok-decision.ensures in
    begun_by (g.K.Keeper.records c.decide.new.tree.kept) c.args.held.now c.note.new.self c.args.number (g.C.Cache.files c.args.cache.now) (g.C.Cache.honest c.decide.new.cache)
    (Rose (g.C.Cache.faults c.args.cache.now) (g.C.Cache.faults c.decide.new.cache)) c.args.steps.now.compiles c.count_built.new.steps.compiles c.in_ok-key.key c.in_ok-decision.decision
    c.in_ok-key.ensures c.in_ok-note.ensures.done said.choice said.numbered said.chosen said.origin c.count_built.ensures
