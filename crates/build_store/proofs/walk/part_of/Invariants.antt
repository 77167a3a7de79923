use Rattle.std.proofs.Common.{◌≡◌, take}
use Rattle.build_store.specs.Parts.{part_of}
use Rattle.build_store.proofs.walk.part_of.Given as goal

abbrev pub invariant-loop-item : goal.invariant-loop-item
invariant-loop-item l = l.part ≡ part_of (take l.item-index l.items)
