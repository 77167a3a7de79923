-- The directives at the places so far have been copied.
use Rattle.std.proofs.Common.{◌≡◌, take}
use Rattle.macro_sets.specs.Histories.{in_order}
use Rattle.macro_sets.proofs.history.History.nodes.Given as goal

abbrev pub invariant-loop-place : goal.invariant-loop-place
invariant-loop-place l = l.nodes ≡ in_order l.self-inside.groups (take l.place-index l.place-items)
