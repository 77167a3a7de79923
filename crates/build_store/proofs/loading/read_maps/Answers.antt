use Rattle.std.proofs.Common.{◌≡◌, Some, None, sym, subst, refl, arith, length, slice_get}
use Rattle.std.proofs.lemmas.Option.{slice_get_read}
use Rattle.build_store.specs.Changes.{Went, fault_of}
use Rattle.build_store.proofs.ChangesWent.{fault_given, went_nowhere, went_then}
use Rattle.build_store.proofs.TableRead.{map_past}
use Rattle.build_store.proofs.SearchSteps.{comes_nowhere}
use Rattle.build_store.proofs.loading.read_maps.Goals as goal

pub loop-map-init : goal.loop-map-init
loop-map-init g c = record {
  went = went_nowhere g.T.Tree g.K.Keeper c.args.tree.now;
  came = rw c.new-read.ensures (comes_nowhere (g.K.Keeper.records c.args.tree.now.kept) c.args.numbers.now _);
}

pub returns-in_err-read_next-clause-went : goal.returns-in_err-read_next-clause-went
returns-in_err-read_next-clause-went g c =
    let whole : Went g.T.Tree g.K.Keeper c.args.tree.now c.read_next.new.tree (Some c.in_err-read_next.field-0.0) =
    went_then g.T.Tree g.K.Keeper c.args.tree.now c.loop-map.tree c.read_next.new.tree (Some c.in_err-read_next.field-0.0) c.loop-map.invariant.went c.in_err-read_next.ensures.went in
    let same : Some c.in_err-read_next.field-0.0 ≡ fault_of c.from_residual.result = sym (fault_given c.from_residual.result c.in_err-read_next.field-0.0 c.from_residual.ensures.1) in
    subst (Went g.T.Tree g.K.Keeper c.args.tree.now c.read_next.new.tree) same whole

pub loop-map-preserved : goal.loop-map-preserved
loop-map-preserved g c =
    let went = c.in_ok-read_next.ensures.went in
    let map = c.map-item.result in
    let there : slice_get c.args.maps.now c.loop-map.map-index ≡ Some map = slice_get_read c.args.maps.now (length c.args.maps.now) c.loop-map.map-index map refl (omega arith) c.map-item.is in
    record {
      went = went_then g.T.Tree g.K.Keeper c.args.tree.now c.loop-map.tree c.read_next.new.tree None c.loop-map.invariant.went went;
      came = map_past (g.K.Keeper.records c.loop-map.tree.kept) (g.K.Keeper.records c.read_next.new.tree.kept) c.args.numbers.now c.loop-map.numbers c.read_next.new.numbers
          c.args.maps.now c.loop-map.map-index map c.loop-map.read c.read_next.new.read went.grew went.back there c.loop-map.invariant.came c.in_ok-read_next.ensures.came;
    }
