use Rattle.std.proofs.Common.{◌≡◌, drop}
use Rattle.build_store.specs.Tables.{unknown_export}
use Rattle.build_store.proofs.map_read.unknown_export.Given as goal

abbrev pub invariant-loop-target : goal.invariant-loop-target
invariant-loop-target l = unknown_export l.maps 1 l.targets ≡ unknown_export l.maps l.number (drop l.target-index l.targets)
