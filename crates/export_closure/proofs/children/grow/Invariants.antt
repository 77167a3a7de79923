-- There are no more lists than there are to be, and they hold what they held.
use Rattle.std.proofs.Common.{◌≡◌, ℕ, ◌+◌, ◌-◌, ◌≤◌, max, [], length, get_or}
use Rattle.export_closure.proofs.children.grow.Given as goal

abbrev pub invariant-loop-alloc : goal.invariant-loop-alloc
invariant-loop-alloc l =
    (length l.lists.items ≤ max (length l.initial.lists.items) (l.at + 1))
    × ((p : ℕ) → get_or l.lists.items p [] ≡ get_or l.initial.lists.items p [])

abbrev pub decreases-loop-alloc : goal.decreases-loop-alloc
decreases-loop-alloc l = l.at + 1 - length l.lists.items
