use Rattle.std.proofs.Common.{◌≡◌, length}
use Rattle.build_store.specs.Errors.{has_error}
use Rattle.build_store.proofs.errors.has_error.Given as goal

abbrev pub invariant-loop-line : goal.invariant-loop-line
invariant-loop-line l = has_error l.output ≡ has_error l.rest

abbrev pub decreases-loop-line : goal.decreases-loop-line
decreases-loop-line l = length l.rest
