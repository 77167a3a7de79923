use Rattle.std.proofs.lemmas.Result.{IfOk-weaker}
use Rattle.build_store.specs.Changes.{fault_of}
use Rattle.build_store.proofs.ChangesWent.{went_then}
use Rattle.build_store.proofs.SearchFound.{folders_after}
use Rattle.build_store.proofs.search.find_path.Goals as goal

pub returns-clause-went : goal.returns-clause-went
returns-clause-went g c =
    went_then g.T.Tree g.K.Keeper c.args.tree.now c.candidate.new.tree c.find_in_folders.new.tree (fault_of c.find_in_folders.result) c.in_ok-path.ensures.went c.find_in_folders.ensures.went

pub returns-clause-came : goal.returns-clause-came
returns-clause-came g c =
    let went = c.find_in_folders.ensures.went in
    IfOk-weaker c.find_in_folders.result _ _
    (λ p second. folders_after (g.K.Keeper.records c.candidate.new.tree.kept) (g.K.Keeper.records c.find_in_folders.new.tree.kept) c.args.numbers.now c.candidate.new.numbers c.find_in_folders.new.numbers
    c.args.file.now c.args.includes.now c.args.text.now c.in_ok-folder.folder c.in_ok-path.field-0 p went.grew went.back c.in_ok-folder.ensures c.in_default.is c.in_ok-path.ensures.came second)
    c.find_in_folders.ensures.came
