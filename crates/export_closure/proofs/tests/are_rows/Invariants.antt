use Rattle.std.proofs.Common.{ℕ, ◌<◌, length}
use Rattle.std.specs.Prelude.{slice_get, IfSome}
use Rattle.export_closure.specs.Closure.{IsRow}
use Rattle.export_closure.proofs.tests.are_rows.Given as goal

abbrev pub invariant-loop-at : goal.invariant-loop-at
invariant-loop-at l = (k : ℕ) → k < l.at → IfSome (slice_get l.rows k) (IsRow (length l.rows) k)
