use Rattle.std.proofs.Common.{◌≡◌, drop}
use Rattle.build_store.specs.Tables.{empty_table, with_maps}
use Rattle.build_store.proofs.settle.settle.Given as goal

abbrev pub invariant-loop-map : goal.invariant-loop-map
invariant-loop-map l = with_maps l.maps empty_table l.maps ≡ with_maps l.maps l.table (drop l.map-index l.maps)
