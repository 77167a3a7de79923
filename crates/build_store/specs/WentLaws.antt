-- Laws of what questions through a snapshot leave: nothing where nothing is asked, and what they leave together, one after
-- another. own
use Rattle.std.proofs.Common.{◌≡◌, ◌≢◌, inl, inr, List, [], ◌∷◌, ◌++◌, length, map, drop, Option, Some, None, refl, sym, ap, ◌∙◌, append_assoc, arith}
use Rattle.std.proofs.lemmas.List.{drop_at, append-nil}
use Rattle.cm_outside.proofs.Grown.{Grew-after, Grew-front, Grew-same}
use Rattle.cm_outside.specs.Keeping.{Grew, new_questions, noting_all}
use Rattle.cm_outside.specs.Reads.{noting}
use Rattle.cm_outside.specs.declared.keeper.Keeper.{Ghosts as KeeperWords}
use Rattle.cm_outside.specs.declared.question.Question.{Question}
use Rattle.cm_outside.specs.declared.question.Record.{Record}
use Rattle.cm_outside.specs.declared.snapshot.Snapshot.{Snapshot}
use Rattle.cm_outside.specs.declared.tree.Tree.{Ghosts as TreeWords}
use Rattle.cm_outside.specs.declared.tree.TreeFault.{TreeFault}
use Rattle.cm_outside.specs.declared.tree.TreeFault.TheVariants.{Failed, NoMemory}
use Rattle.build_store.specs.Changes.{HasPut, Went}

-- ---- the questions that a tree tells

question_of : Record → Question
question_of r = r.question

drop_whole : (xs : List Record) → drop (length xs) xs ≡ []
drop_whole xs = ap (drop (length xs)) (sym (append-nil xs)) ∙ drop_at xs [] (length xs) refl

nothing_noted : (before : Option (List Question)) → noting_all [] before ≡ before
nothing_noted None = refl
nothing_noted (Some asked) = ap (λ qs. Some qs) (append-nil asked)

-- where nothing is new, nothing was put
pub none_put : (kept : List Record) (before : Option (List Question)) → noting_all (new_questions kept kept) before ≡ before
none_put kept before = ap (λ rs. noting_all (map (λ (r : Record). r.question) rs) before) (drop_whole kept) ∙ nothing_noted before

noting_twice : (qs more : List Question) (before : Option (List Question)) → noting_all more (noting_all qs before) ≡ noting_all (qs ++ more) before
noting_twice qs more None = refl
noting_twice qs more (Some asked) = ap (λ all. Some all) (append_assoc asked qs more)

map_both : (xs ys : List Record) → map (λ (r : Record). r.question) (xs ++ ys) ≡ map (λ (r : Record). r.question) xs ++ map (λ (r : Record). r.question) ys
map_both [] ys = refl
map_both (x ∷ xs) ys = ap (λ qs. x.question ∷ qs) (map_both xs ys)

new_then : (old mid new : List Record) → Grew old mid → Grew mid new → new_questions old new ≡ new_questions old mid ++ new_questions mid new
new_then old mid new a b =
    let first : mid ≡ old ++ drop (length old) mid = Grew-front old mid a in
    let second : new ≡ mid ++ drop (length mid) new = Grew-front mid new b in
    let whole : new ≡ old ++ (drop (length old) mid ++ drop (length mid) new) =
    second ∙ ap (λ rs. rs ++ drop (length mid) new) first ∙ append_assoc old (drop (length old) mid) (drop (length mid) new) in
    ap (λ rs. map (λ (r : Record). r.question) rs)
    (ap (drop (length old)) whole ∙ drop_at old (drop (length old) mid ++ drop (length mid) new) (length old) refl)
    ∙ map_both (drop (length old) mid) (drop (length mid) new)

-- what was put in two parts was put in the whole
all_then : (old mid new : List Record) (r0 r1 : Option (List Question)) → Grew old mid → Grew mid new → r1 ≡ noting_all (new_questions old mid) r0
    → noting_all (new_questions mid new) r1 ≡ noting_all (new_questions old new) r0
all_then old mid new r0 r1 a b is =
    ap (noting_all (new_questions mid new)) is ∙ noting_twice (new_questions old mid) (new_questions mid new) r0 ∙ ap (λ qs. noting_all qs r0) (sym (new_then old mid new a b))

put_then : (fault : Option TreeFault) (old mid new : List Record) (r0 r1 r2 : Option (List Question)) → Grew old mid → Grew mid new
    → HasPut None old mid r0 r1 → HasPut fault mid new r1 r2 → HasPut fault old new r0 r2
put_then None old mid new r0 r1 r2 a b is more = more ∙ all_then old mid new r0 r1 a b is
put_then (Some fault) old mid new r0 r1 r2 a b is (inl more) = inl (more ∙ all_then old mid new r0 r1 a b is)
put_then (Some fault) old mid new r0 r1 r2 a b is (inr more) = inr (more.0, more.1, more.2 ∙ ap (noting more.0) (all_then old mid new r0 r1 a b is))

pub put_ended : (fault : Option TreeFault) (old new : List Record) (before now : Option (List Question)) → HasPut None old new before now → HasPut fault old new before now
put_ended None old new before now is = is
put_ended (Some fault) old new before now is = inl is

-- ---- what is left of a snapshot

module _ {T K : Type 0} (words : TreeWords T) (keeper : KeeperWords K) where
  -- where nothing was asked
  pub went_nowhere : (s : Snapshot T K) → Went words keeper s s None
  went_nowhere s = record {
    same_reference = refl;
    kept = λ are. are;
    grew = Grew-same (keeper.records s.kept);
    back = λ f h. h;
    told = λ t tells h. h;
    contents = refl;
    noted = sym (none_put (keeper.records s.kept) (words.reads s.tree.now));
    later = omega arith;
    cause = λ is. absurd (cc);
  }

  -- questions that were all answered, and then more
  pub went_then : (old mid new : Snapshot T K) (fault : Option TreeFault) → Went words keeper old mid None → Went words keeper mid new fault → Went words keeper old new fault
  went_then old mid new fault a b = record {
    same_reference = b.same_reference ∙ a.same_reference;
    kept = λ are. b.kept (a.kept are);
    grew = Grew-after (keeper.records old.kept) (keeper.records mid.kept) (keeper.records new.kept) a.grew b.grew;
    back = λ f h. a.back f (b.back f h);
    told = λ t tells h. b.told t (a.contents ∙ tells) (a.told t tells h);
    contents = b.contents ∙ a.contents;
    noted = put_then fault (keeper.records old.kept) (keeper.records mid.kept) (keeper.records new.kept) (words.reads old.tree.now) (words.reads mid.tree.now) (words.reads new.tree.now) a.grew b.grew a.noted b.noted;
    later = omega (arith, a.later, b.later);
    cause = λ is. omega (arith, a.later, b.cause is);
  }

  -- questions that were all answered, where the call then ends for want of memory
  pub went_ended : (old new : Snapshot T K) (fault : Option TreeFault) → fault ≢ Some Failed → Went words keeper old new None → Went words keeper old new fault
  went_ended old new fault other a = record {
    same_reference = a.same_reference;
    kept = a.kept;
    grew = a.grew;
    back = a.back;
    told = a.told;
    contents = a.contents;
    noted = put_ended fault (keeper.records old.kept) (keeper.records new.kept) (words.reads old.tree.now) (words.reads new.tree.now) a.noted;
    later = a.later;
    cause = λ is. absurd (other is);
  }

  -- where memory runs out before anything is asked
  pub went_refused : (s : Snapshot T K) → Went words keeper s s (Some NoMemory)
  went_refused s = went_ended s s (Some NoMemory) (λ e. absurd (cc)) (went_nowhere s)
