use Rattle.unit_fold.specs.Steps.{WaitsFor}
use Rattle.unit_fold.proofs.tests.ended.Given as goal

abbrev pub invariant-loop : goal.invariant-loop
invariant-loop l = WaitsFor l.event l.fold.stage
