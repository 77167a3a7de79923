use Rattle.std.proofs.Common.{◌≡◌, Some, None, sym, subst, refl, arith, length, slice_get}
use Rattle.std.proofs.lemmas.Option.{slice_get_read}
use Rattle.build_store.specs.Changes.{Went, fault_of}
use Rattle.build_store.proofs.ChangesWent.{fault_given, went_nowhere, went_then}
use Rattle.build_store.proofs.SearchFound.{folder_past}
use Rattle.build_store.proofs.SearchSteps.{comes_nowhere}
use Rattle.build_store.proofs.search.find_in_folders.Goals as goal

pub loop-folder-init : goal.loop-folder-init
loop-folder-init g c = record {
  went = went_nowhere g.T.Tree g.K.Keeper c.args.tree.now;
  came = comes_nowhere (g.K.Keeper.records c.args.tree.now.kept) c.args.numbers.now _;
}

pub returns-in_err-path-clause-went : goal.returns-in_err-path-clause-went
returns-in_err-path-clause-went g c =
    let whole : Went g.T.Tree g.K.Keeper c.args.tree.now c.candidate.new.tree (Some c.in_err-path.field-0.0) =
    went_then g.T.Tree g.K.Keeper c.args.tree.now c.loop-folder.tree c.candidate.new.tree (Some c.in_err-path.field-0.0) c.loop-folder.invariant.went c.in_err-path.ensures.went in
    let same : Some c.in_err-path.field-0.0 ≡ fault_of c.from_residual.result = sym (fault_given c.from_residual.result c.in_err-path.field-0.0 c.from_residual.ensures.1) in
    subst (Went g.T.Tree g.K.Keeper c.args.tree.now c.candidate.new.tree) same whole

pub returns-in-Some-clause-went : goal.returns-in-Some-clause-went
returns-in-Some-clause-went g c =
    went_then g.T.Tree g.K.Keeper c.args.tree.now c.loop-folder.tree c.candidate.new.tree None c.loop-folder.invariant.went c.in_ok-path.ensures.went

pub returns-in-Some-clause-came : goal.returns-in-Some-clause-came
returns-in-Some-clause-came g c =
    let went = c.in_ok-path.ensures.went in
    let folder = c.folder-item.result in
    let there : slice_get c.args.folders.now c.loop-folder.folder-index ≡ Some folder = slice_get_read c.args.folders.now (length c.args.folders.now) c.loop-folder.folder-index folder refl (omega arith) c.folder-item.is in
    folder_past (g.K.Keeper.records c.loop-folder.tree.kept) (g.K.Keeper.records c.candidate.new.tree.kept) c.args.numbers.now c.loop-folder.numbers c.candidate.new.numbers
    c.args.folders.now c.args.text.now c.loop-folder.folder-index folder c.in_ok-path.field-0 (Some c.in-Some.path) went.grew went.back there c.in-Some.is c.loop-folder.invariant.came c.in_ok-path.ensures.came

pub loop-folder-preserved : goal.loop-folder-preserved
loop-folder-preserved g c =
    let went = c.in_ok-path.ensures.went in
    let folder = c.folder-item.result in
    let there : slice_get c.args.folders.now c.loop-folder.folder-index ≡ Some folder = slice_get_read c.args.folders.now (length c.args.folders.now) c.loop-folder.folder-index folder refl (omega arith) c.folder-item.is in
    record {
      went = went_then g.T.Tree g.K.Keeper c.args.tree.now c.loop-folder.tree c.candidate.new.tree None c.loop-folder.invariant.went went;
      came = folder_past (g.K.Keeper.records c.loop-folder.tree.kept) (g.K.Keeper.records c.candidate.new.tree.kept) c.args.numbers.now c.loop-folder.numbers c.candidate.new.numbers
          c.args.folders.now c.args.text.now c.loop-folder.folder-index folder c.in_ok-path.field-0 None went.grew went.back there c.in_default.is c.loop-folder.invariant.came c.in_ok-path.ensures.came;
    }
