use Rattle.std.proofs.Common.{◌≡◌, drop}
use Rattle.build_store.specs.Loads.{first_new}
use Rattle.build_store.proofs.file_turn.next_need.Given as goal

abbrev pub invariant-loop-number : goal.invariant-loop-number
invariant-loop-number l = first_new l.slots l.needs ≡ first_new l.slots (drop l.number-index l.needs)
