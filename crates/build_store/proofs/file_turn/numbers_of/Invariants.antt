use Rattle.std.proofs.Common.{◌≡◌, take}
use Rattle.build_store.specs.Loads.{needs_by}
use Rattle.build_store.proofs.file_turn.numbers_of.Given as goal

abbrev pub invariant-loop-name : goal.invariant-loop-name
invariant-loop-name l = l.numbers ≡ needs_by l.held.table (take l.name-index l.names)
