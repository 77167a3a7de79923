-- What a build leaves of a tree through a snapshot that began with no answer kept.
use Rattle.std.proofs.Common.{◌≡◌, true, sym, subst, List, [], Option, Some}
use Rattle.std.specs.List.{IsDistinct}
use Rattle.std.proofs.lemmas.List.Elements.{All-nil}
use Rattle.cm_outside.specs.Asks.{Agrees}
use Rattle.cm_outside.specs.Keeping.{AreKept, is_of_kind}
use Rattle.cm_outside.specs.Trees.{Contents, answer}
use Rattle.cm_outside.specs.declared.keeper.Keeper.{Ghosts as KeeperWords}
use Rattle.cm_outside.specs.declared.question.Record.{Record}
use Rattle.cm_outside.specs.declared.snapshot.Snapshot.{Snapshot}
use Rattle.cm_outside.specs.declared.tree.Tree.{Ghosts as TreeWords}
use Rattle.cm_outside.specs.declared.tree.TreeFault.{TreeFault}
use Rattle.build_store.specs.Changes.{Went}
use Rattle.build_store.specs.Stores.{PutsEachOnce}
use Rattle.build_store.proofs.BuildEnds.{puts_each}

pub none_kept : (kept : List Record) → kept ≡ [] → AreKept kept
unfolding IsDistinct
none_kept kept none = subst (λ rs. AreKept rs) (sym none) (record { once = tt; kinds = All-nil (λ (r : Record). is_of_kind r.question r.answer ≡ true) })

module _ {T K : Type 0} (words : TreeWords T) (keeper : KeeperWords K) (old new : Snapshot T K) (fault : Option TreeFault) (went : Went words keeper old new fault)
    (none : keeper.records old.kept ≡ []) where
  -- the answers since are those of the tree
  pub agrees_since : (t : Contents) → words.contents old.tree.now ≡ Some t → Agrees (answer t) (keeper.records new.kept)
  agrees_since t tells = went.told t tells (subst (λ rs. Agrees (answer t) rs) (sym none) tt)

  -- and the questions that were put are those of the answers, between the trees before and after it
  pub puts_since : (before now : T) → old.tree.now ≡ before → now ≡ new.tree.now → PutsEachOnce (words.reads before) (words.reads now)
  puts_since before now is_before is_now =
      let P : T × T → Type 0 = λ ts. PutsEachOnce (words.reads ts.0) (words.reads ts.1) in
      subst P (λ i. (is_before i, sym is_now i))
      (puts_each fault (keeper.records old.kept) (keeper.records new.kept) (words.reads old.tree.now) (words.reads new.tree.now) none
      (went.kept (none_kept (keeper.records old.kept) none)) went.noted)
