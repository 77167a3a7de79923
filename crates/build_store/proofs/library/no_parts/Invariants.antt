use Rattle.std.proofs.Common.{◌≡◌, replicate, None}
use Rattle.build_store.proofs.library.no_parts.Given as goal

abbrev pub invariant-loop : goal.invariant-loop
invariant-loop l = l.parts ≡ replicate l.counter None
