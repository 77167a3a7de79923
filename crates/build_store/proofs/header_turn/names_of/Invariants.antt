use Rattle.std.proofs.Common.{◌≡◌, map, take}
use Rattle.build_store.specs.Targets.{name_of}
use Rattle.build_store.proofs.header_turn.names_of.Given as goal

abbrev pub invariant-loop-number : goal.invariant-loop-number
invariant-loop-number l = l.names ≡ map (name_of l.table) (take l.number-index l.numbers)
