-- Each item so far has been copied.
use Rattle.std.proofs.Common.{◌≡◌, take}
use Rattle.cm_core.proofs.list.List.copy.Given as goal

abbrev pub invariant-loop-item : goal.invariant-loop-item
invariant-loop-item g l = l.copied ≡ take l.item-index l.item-items
