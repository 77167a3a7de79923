use Rattle.std.proofs.Common.{◌≡◌, ◌++◌, drop}
use Rattle.unit_fold.specs.Blocks.{item_lines}
use Rattle.unit_fold.proofs.blocks.push_items.Given as goal

abbrev pub invariant-loop-item : goal.invariant-loop-item
invariant-loop-item l = l.initial.out.items ++ item_lines l.path l.items ≡ l.out.items ++ item_lines l.path (drop l.item-index l.items)
