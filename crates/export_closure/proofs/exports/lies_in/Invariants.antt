-- What is left to find from the parent reached is what was to find.
use Rattle.std.proofs.Common.{◌≡◌, ◌<◌, length}
use Rattle.export_closure.specs.Closure.{lies_in}
use Rattle.export_closure.proofs.exports.lies_in.Given as goal

abbrev pub invariant-loop-at : goal.invariant-loop-at
invariant-loop-at l =
    (l.at.index < length l.rows)
    × (lies_in l.rows l.outer.index (length l.rows) l.fn.sub.index ≡ lies_in l.rows l.outer.index (length l.rows) l.at.index)

abbrev pub decreases-loop-at : goal.decreases-loop-at
decreases-loop-at l = l.at.index
