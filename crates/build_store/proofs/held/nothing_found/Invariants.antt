use Rattle.std.proofs.Common.{◌≡◌, replicate, None}
use Rattle.build_store.proofs.held.nothing_found.Given as goal

abbrev pub invariant-loop : goal.invariant-loop
invariant-loop l = l.found ≡ replicate l.counter None
