use Rattle.std.proofs.Common.{◌≡◌, drop}
use Rattle.cm_source.specs.Places.{after}
use Rattle.cm_source.proofs.position.place_after.Given as goal

abbrev pub invariant-loop-byte : goal.invariant-loop-byte
invariant-loop-byte l =
    after (record { line = l.line; column = l.column }) (drop l.byte-index l.passed) ≡ after l.fn.place l.passed
