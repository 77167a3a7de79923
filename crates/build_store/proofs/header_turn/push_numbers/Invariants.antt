use Rattle.std.proofs.Common.{◌≡◌, ◌++◌, take}
use Rattle.build_store.proofs.header_turn.push_numbers.Given as goal

abbrev pub invariant-loop-number : goal.invariant-loop-number
invariant-loop-number l = l.numbers ≡ l.initial.numbers ++ take l.number-index l.more
