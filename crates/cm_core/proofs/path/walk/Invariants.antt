-- The parts that are left lead on from the names so far to where all parts lead from the root.
use Rattle.std.proofs.Common.{◌≡◌, [], map, drop}
use Rattle.cm_core.specs.Paths.{walked}
use Rattle.cm_core.proofs.path.walk.Given as goal

abbrev pub invariant-loop-part : goal.invariant-loop-part
invariant-loop-part l =
    walked (map (λ name. name.now) l.names.items) (map (λ part. part.now) (drop l.part-index l.parts))
    ≡ walked [] (map (λ part. part.now) l.parts)
