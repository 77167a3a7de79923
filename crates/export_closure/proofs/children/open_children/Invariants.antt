-- The rows so far stand in the lists of their parents.
use Rattle.std.proofs.Common.{◌≡◌, ℕ, ◌≤◌, ◌&&◌, [], length, get_or, ltb}
use Rattle.export_closure.specs.Closure.{is_open_child}
use Rattle.export_closure.specs.Found.{is_found}
use Rattle.export_closure.proofs.children.open_children.Given as goal

abbrev pub invariant-loop-at : goal.invariant-loop-at
invariant-loop-at l =
    (length l.children.items ≤ l.at)
    × ((parent at : ℕ) → is_found (get_or l.children.items parent []) at ≡ (ltb at l.at && is_open_child l.rows parent at))
