-- The lines so far are those of the maps that were passed.
use Rattle.std.proofs.Common.{◌≡◌, ◌++◌, drop}
use Rattle.build_store.specs.CleanBuild.{map_lines}
use Rattle.build_store.proofs.building.push_maps.Given as goal

abbrev pub invariant-loop-fault : goal.invariant-loop-fault
invariant-loop-fault l = l.initial.out.items ++ map_lines l.faults ≡ l.out.items ++ map_lines (drop l.fault-index l.faults)
