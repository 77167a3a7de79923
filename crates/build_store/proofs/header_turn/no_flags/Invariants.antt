use Rattle.std.proofs.Common.{◌≡◌, replicate, false}
use Rattle.build_store.proofs.header_turn.no_flags.Given as goal

abbrev pub invariant-loop : goal.invariant-loop
invariant-loop l = l.flags.items ≡ replicate l.counter false
