use Rattle.std.proofs.Common.{◌≡◌, take}
use Rattle.build_store.proofs.header_turn.copy_of.Given as goal

abbrev pub invariant-loop-number : goal.invariant-loop-number
invariant-loop-number l = l.copied ≡ take l.number-index l.numbers
