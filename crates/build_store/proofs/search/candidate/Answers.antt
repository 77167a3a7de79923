use Rattle.build_store.proofs.SearchFound.{no_candidate}
use Rattle.build_store.proofs.search.candidate.Goals as goal

pub returns-in_default-clause-came : goal.returns-in_default-clause-came
returns-in_default-clause-came g c more = no_candidate (g.K.Keeper.records c.args.tree.now.kept) c.args.numbers.now _ more (rw c.in_default.is at (c.in_ok-path.ensures _ c.join.ensures))
