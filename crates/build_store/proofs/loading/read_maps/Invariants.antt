use Rattle.std.proofs.Common.{[], None, drop}
use Rattle.build_store.specs.Changes.{Went}
use Rattle.build_store.specs.Steps.{Comes}
use Rattle.build_store.specs.Tables.{read_maps}
use Rattle.build_store.proofs.loading.read_maps.Given as goal

abbrev pub invariant-loop-map : goal.invariant-loop-map
invariant-loop-map g l = record {
  went : Went g.T.Tree g.K.Keeper l.initial.tree l.tree None;
  came : Comes (g.K.Keeper.records l.tree.kept) l.initial.numbers l.numbers (read_maps [] l.maps) (read_maps l.read (drop l.map-index l.maps));
}
