use Rattle.std.proofs.Common.{take}
use Rattle.std.specs.Prelude.{All}
use Rattle.export_closure.specs.Closure.{IsPattern}
use Rattle.export_closure.proofs.tests.are_patterns.Given as goal

abbrev pub invariant-loop-pattern : goal.invariant-loop-pattern
invariant-loop-pattern l = All (IsPattern l.n) (take l.pattern-index l.patterns)
