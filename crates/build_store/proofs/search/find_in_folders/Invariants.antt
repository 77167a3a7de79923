use Rattle.std.proofs.Common.{None, drop}
use Rattle.build_store.specs.Changes.{Went}
use Rattle.build_store.specs.Search.{found, in_folders}
use Rattle.build_store.specs.Steps.{Comes}
use Rattle.build_store.proofs.search.find_in_folders.Given as goal

abbrev pub invariant-loop-folder : goal.invariant-loop-folder
invariant-loop-folder g l = record {
  went : Went g.T.Tree g.K.Keeper l.initial.tree l.tree None;
  came : Comes (g.K.Keeper.records l.tree.kept) l.initial.numbers l.numbers (found (in_folders l.folders l.text)) (found (in_folders (drop l.folder-index l.folders) l.text));
}
