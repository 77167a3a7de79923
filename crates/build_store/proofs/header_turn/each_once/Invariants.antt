use Rattle.std.proofs.Common.{◌≡◌, ◌<◌, [], length, take}
use Rattle.std.specs.List.{AllByRecursion}
use Rattle.build_store.specs.Headers.{MarksEach}
use Rattle.build_store.specs.Order.{new_of}
use Rattle.build_store.proofs.header_turn.each_once.Given as goal

abbrev pub invariant-loop-number : goal.invariant-loop-number
invariant-loop-number l = record {
  len : length l.seen.items ≡ l.size;
  marks : MarksEach l.seen.items l.once;
  once : AllByRecursion (λ n. n < l.size) l.numbers → l.once ≡ new_of [] (take l.number-index l.numbers);
}
