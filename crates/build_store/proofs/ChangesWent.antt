-- Questions through a snapshot, one after another: what they leave together.
use Rattle.std.proofs.Common.{◌≡◌, ◌≢◌, inl, inr, Bool, true, false, List, [], ◌∷◌, ◌++◌, length, map, drop, Option, Some, None, Result, Ok, Err, OnErr, IsErrAnd, refl, sym, ap, ◌∙◌, append_assoc, arith}
use Rattle.std.proofs.lemmas.List.{drop_at, append-nil}
use Rattle.cm_outside.proofs.Grown.{Grew-after, Grew-front, Grew-same}
use Rattle.cm_outside.specs.Asks.{Agrees}
use Rattle.cm_outside.specs.Faults.{HasCause, Rose}
use Rattle.cm_outside.specs.Keeping.{AreKept, Grew, NotesNew, is_kept, new_questions, noting_all}
use Rattle.cm_outside.specs.Reads.{Notes, noting}
use Rattle.cm_outside.specs.Trees.{Contents, answer}
use Rattle.cm_outside.specs.declared.keeper.Keeper.{Ghosts as KeeperWords}
use Rattle.cm_outside.specs.declared.question.Question.{Question}
use Rattle.cm_outside.specs.declared.question.Answer.{Answer}
use Rattle.cm_outside.specs.declared.question.Record.{Record}
use Rattle.cm_outside.specs.declared.snapshot.Snapshot.{Snapshot}
use Rattle.cm_outside.specs.declared.tree.Tree.{Ghosts as TreeWords}
use Rattle.cm_outside.specs.declared.tree.TreeFault.{TreeFault}
use Rattle.cm_outside.specs.declared.tree.TreeFault.TheVariants.{Failed, NoMemory}
use Rattle.build_store.specs.Changes.{HasPut, Went, fault_of}

-- ---- the questions that a tree tells

question_of : Record → Question
question_of r = r.question

drop_whole : (xs : List Record) → drop (length xs) xs ≡ []
drop_whole xs = ap (drop (length xs)) (sym (append-nil xs)) ∙ drop_at xs [] (length xs) refl

nothing_noted : (before : Option (List Question)) → noting_all [] before ≡ before
nothing_noted None = refl
nothing_noted (Some asked) = ap (λ qs. Some qs) (append-nil asked)

-- where nothing is new, nothing was put
pub none_put : (kept : List Record) (before : Option (List Question)) → noting_all (new_questions kept kept) before ≡ before
none_put kept before = ap (λ rs. noting_all (map (λ (r : Record). r.question) rs) before) (drop_whole kept) ∙ nothing_noted before

noting_twice : (qs more : List Question) (before : Option (List Question)) → noting_all more (noting_all qs before) ≡ noting_all (qs ++ more) before
noting_twice qs more None = refl
noting_twice qs more (Some asked) = ap (λ all. Some all) (append_assoc asked qs more)

map_both : (xs ys : List Record) → map (λ (r : Record). r.question) (xs ++ ys) ≡ map (λ (r : Record). r.question) xs ++ map (λ (r : Record). r.question) ys
map_both [] ys = refl
map_both (x ∷ xs) ys = ap (λ qs. x.question ∷ qs) (map_both xs ys)

new_then : (old mid new : List Record) → Grew old mid → Grew mid new → new_questions old new ≡ new_questions old mid ++ new_questions mid new
new_then old mid new a b =
    let first : mid ≡ old ++ drop (length old) mid = Grew-front old mid a in
    let second : new ≡ mid ++ drop (length mid) new = Grew-front mid new b in
    let whole : new ≡ old ++ (drop (length old) mid ++ drop (length mid) new) =
    second ∙ ap (λ rs. rs ++ drop (length mid) new) first ∙ append_assoc old (drop (length old) mid) (drop (length mid) new) in
    ap (λ rs. map (λ (r : Record). r.question) rs)
    (ap (drop (length old)) whole ∙ drop_at old (drop (length old) mid ++ drop (length mid) new) (length old) refl)
    ∙ map_both (drop (length old) mid) (drop (length mid) new)

-- what was put in two parts was put in the whole
all_then : (old mid new : List Record) (r0 r1 : Option (List Question)) → Grew old mid → Grew mid new → r1 ≡ noting_all (new_questions old mid) r0
    → noting_all (new_questions mid new) r1 ≡ noting_all (new_questions old new) r0
all_then old mid new r0 r1 a b is =
    ap (noting_all (new_questions mid new)) is ∙ noting_twice (new_questions old mid) (new_questions mid new) r0 ∙ ap (λ qs. noting_all qs r0) (sym (new_then old mid new a b))

put_then : (fault : Option TreeFault) (old mid new : List Record) (r0 r1 r2 : Option (List Question)) → Grew old mid → Grew mid new
    → HasPut None old mid r0 r1 → HasPut fault mid new r1 r2 → HasPut fault old new r0 r2
put_then None old mid new r0 r1 r2 a b is more = more ∙ all_then old mid new r0 r1 a b is
put_then (Some fault) old mid new r0 r1 r2 a b is (inl more) = inl (more ∙ all_then old mid new r0 r1 a b is)
put_then (Some fault) old mid new r0 r1 r2 a b is (inr more) = inr (more.0, more.1, more.2 ∙ ap (noting more.0) (all_then old mid new r0 r1 a b is))

put_ended : (fault : Option TreeFault) (old new : List Record) (before now : Option (List Question)) → HasPut None old new before now → HasPut fault old new before now
put_ended None old new before now is = is
put_ended (Some fault) old new before now is = inl is

-- one refused question
put_refused : (A : Type 0) (fault : TreeFault) (q : Question) (old new : List Record) (before now : Option (List Question)) → new ≡ old → is_kept q old ≡ false
    → Notes {A = A} q before now (Err fault) → HasPut (Some fault) old new before now
put_refused A fault q old new before now same absent notes =
    let there : is_kept q new ≡ false = ap (is_kept q) same ∙ absent in
    let none : before ≡ noting_all (new_questions old new) before = sym (ap (λ rs. noting_all (new_questions old rs) before) same ∙ none_put old before) in
    by fault notes there none
  where
    by : (fault : TreeFault) → Notes {A = A} q before now (Err fault) → is_kept q new ≡ false → before ≡ noting_all (new_questions old new) before → HasPut (Some fault) old new before now
    by Failed notes there none = inr (q, there, notes ∙ ap (noting q) none)
    by NoMemory (inl put) there none = inr (q, there, put ∙ ap (noting q) none)
    by NoMemory (inr not) there none = inl (not ∙ none)

-- the fault that `?` hands on
pub fault_given : {A : Type 0} → (r : Result A TreeFault) (fault : TreeFault) → IsErrAnd r (λ e. e ≡ fault) → fault_of r ≡ Some fault
fault_given (Ok a) fault h = absurd h
fault_given (Err e) fault h = ap (λ x. Some x) h

-- ---- what is left of a snapshot

module _ {T K : Type 0} (words : TreeWords T) (keeper : KeeperWords K) where
  -- where nothing was asked
  pub went_nowhere : (s : Snapshot T K) → Went words keeper s s None
  went_nowhere s = record {
    same_reference = refl;
    kept = λ are. are;
    grew = Grew-same (keeper.records s.kept);
    back = λ f h. h;
    told = λ t tells h. h;
    contents = refl;
    noted = sym (none_put (keeper.records s.kept) (words.reads s.tree.now));
    later = omega arith;
    cause = λ is. absurd (cc);
  }

  -- questions that were all answered, and then more
  pub went_then : (old mid new : Snapshot T K) (fault : Option TreeFault) → Went words keeper old mid None → Went words keeper mid new fault → Went words keeper old new fault
  went_then old mid new fault a b = record {
    same_reference = b.same_reference ∙ a.same_reference;
    kept = λ are. b.kept (a.kept are);
    grew = Grew-after (keeper.records old.kept) (keeper.records mid.kept) (keeper.records new.kept) a.grew b.grew;
    back = λ f h. a.back f (b.back f h);
    told = λ t tells h. b.told t (a.contents ∙ tells) (a.told t tells h);
    contents = b.contents ∙ a.contents;
    noted = put_then fault (keeper.records old.kept) (keeper.records mid.kept) (keeper.records new.kept) (words.reads old.tree.now) (words.reads mid.tree.now) (words.reads new.tree.now) a.grew b.grew a.noted b.noted;
    later = omega (arith, a.later, b.later);
    cause = λ is. omega (arith, a.later, b.cause is);
  }

  -- questions that were all answered, where the call then ends for want of memory
  pub went_ended : (old new : Snapshot T K) (fault : Option TreeFault) → fault ≢ Some Failed → Went words keeper old new None → Went words keeper old new fault
  went_ended old new fault other a = record {
    same_reference = a.same_reference;
    kept = a.kept;
    grew = a.grew;
    back = a.back;
    told = a.told;
    contents = a.contents;
    noted = put_ended fault (keeper.records old.kept) (keeper.records new.kept) (words.reads old.tree.now) (words.reads new.tree.now) a.noted;
    later = a.later;
    cause = λ is. absurd (other is);
  }

  -- one question
  noted_at : (A : Type 0) (q : Question) (old new : Snapshot T K) (fault : TreeFault) (b : Bool) → is_kept q (keeper.records old.kept) ≡ b → keeper.records new.kept ≡ keeper.records old.kept
      → (is_kept q (keeper.records old.kept) ≡ true → new.tree.now ≡ old.tree.now)
      → (is_kept q (keeper.records old.kept) ≡ false → Notes {A = A} q (words.reads old.tree.now) (words.reads new.tree.now) (Err fault))
      → HasPut (Some fault) (keeper.records old.kept) (keeper.records new.kept) (words.reads old.tree.now) (words.reads new.tree.now)
  noted_at A q old new fault true is same untouched once =
      inl (ap words.reads (untouched is)
      ∙ sym (ap (λ rs. noting_all (new_questions (keeper.records old.kept) rs) (words.reads old.tree.now)) same ∙ none_put (keeper.records old.kept) (words.reads old.tree.now)))
  noted_at A q old new fault false is same untouched once =
      put_refused A fault q (keeper.records old.kept) (keeper.records new.kept) (words.reads old.tree.now) (words.reads new.tree.now) same is (once is)

  module _ {A : Type 0} (q : Question) (old new : Snapshot T K) where
    noted_by : (result : Result A TreeFault) → OnErr result (keeper.records new.kept ≡ keeper.records old.kept)
        → (is_kept q (keeper.records old.kept) ≡ true → new.tree.now ≡ old.tree.now)
        → NotesNew q (keeper.records old.kept) (keeper.records new.kept) (words.reads old.tree.now) (words.reads new.tree.now) result
        → HasPut (fault_of result) (keeper.records old.kept) (keeper.records new.kept) (words.reads old.tree.now) (words.reads new.tree.now)
    noted_by (Ok a) err untouched noted = noted.all
    noted_by (Err fault) err untouched noted = noted_at A q old new fault (is_kept q (keeper.records old.kept)) refl err untouched noted.once

    cause_by : (result : Result A TreeFault) → HasCause (words.faults old.tree.now) (words.faults new.tree.now) result Failed → fault_of result ≡ Some Failed → Rose (words.faults old.tree.now) (words.faults new.tree.now)
    cause_by (Ok a) cause is = absurd (cc)
    cause_by (Err fault) cause is = let same : fault ≡ Failed = cc in cause.cause (ap (λ e. Err e) same)

    pub went_asked : (result : Result A TreeFault) → new.tree.ghost_name ≡ old.tree.ghost_name
        → OnErr result (keeper.records new.kept ≡ keeper.records old.kept) → AreKept (keeper.records new.kept) → Grew (keeper.records old.kept) (keeper.records new.kept)
        → ((f : Question → Answer) → Agrees f (keeper.records new.kept) → Agrees f (keeper.records old.kept))
        → ((t : Contents) → words.contents old.tree.now ≡ Some t → Agrees (answer t) (keeper.records old.kept) → Agrees (answer t) (keeper.records new.kept))
        → words.contents new.tree.now ≡ words.contents old.tree.now
        → (is_kept q (keeper.records old.kept) ≡ true → new.tree.now ≡ old.tree.now)
        → NotesNew q (keeper.records old.kept) (keeper.records new.kept) (words.reads old.tree.now) (words.reads new.tree.now) result
        → HasCause (words.faults old.tree.now) (words.faults new.tree.now) result Failed → Went words keeper old new (fault_of result)
    went_asked result same err are grew back told contents untouched noted cause = record {
      same_reference = same;
      kept = λ were. are;
      grew = grew;
      back = back;
      told = told;
      contents = contents;
      noted = noted_by result err untouched noted;
      later = cause.later;
      cause = cause_by result cause;
    }

  -- a fault of the tree has its cause
  pub went_cause : {A : Type 0} → (old new : Snapshot T K) (result : Result A TreeFault) → Went words keeper old new (fault_of result)
      → HasCause (words.faults old.tree.now) (words.faults new.tree.now) result Failed
  went_cause old new (Ok a) went = record { later = went.later; cause = λ is. absurd (cc) }
  went_cause old new (Err fault) went = record { later = went.later; cause = λ is. let same : fault ≡ Failed = cc in went.cause (ap (λ e. Some e) same) }
