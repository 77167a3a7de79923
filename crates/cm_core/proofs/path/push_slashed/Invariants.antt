-- The names that are left complete what is to be added.
use Rattle.std.proofs.Common.{◌≡◌, ◌++◌, map, drop, string_bytes}
use Rattle.cm_core.specs.Paths.{slashed}
use Rattle.cm_core.proofs.path.push_slashed.Given as goal

abbrev pub invariant-loop-name : goal.invariant-loop-name
invariant-loop-name l =
    string_bytes l.text ++ slashed (map (λ name. name.now) (drop l.name-index l.names))
    ≡ string_bytes l.initial.text ++ slashed (map (λ name. name.now) l.names)
