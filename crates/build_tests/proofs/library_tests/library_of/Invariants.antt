use Rattle.build_store.specs.Libraries.{IsOf}
use Rattle.build_tests.proofs.library_tests.library_of.Given as goal

abbrev pub invariant-loop-at : goal.invariant-loop-at
invariant-loop-at l = IsOf l.table l.library
