-- What a question leaves among the kept answers.
use Rattle.std.proofs.Common.{◌≡◌, ℕ, ◌+◌, ◌<◌, suc, zero, Bool, true, false, cond, not, ◌||◌, List, [], ◌∷◌, ◌++◌, length, slice_get, get_or, position, Some, refl, sym, ap, subst, ◌∙◌, arith}
use Rattle.std.specs.List.{position_or_len, All, IsDistinct}
use Rattle.std.proofs.lemmas.Option.{slice_get-get_or, get_or_from_slice_get, slice_get_within}
use Rattle.std.proofs.lemmas.List.Quantifiers.{position-Some}
use Rattle.std.proofs.lemmas.List.Elements.{All-append, All-cons, All-nil}
use Rattle.std.proofs.lemmas.Map.Keys.{apart_from_distinct}
use Rattle.cm_outside.specs.Asks.{Agrees}
use Rattle.cm_outside.specs.Keeping.{AreKept, Asked, Grew, answered, is_kept, is_of_kind, keeping, same_asked}
use Rattle.cm_outside.specs.QuestionLaws.{same_question_decides}
use Rattle.cm_outside.specs.Trees.{same_question}
use Rattle.cm_outside.specs.declared.question.Question.{Question}
use Rattle.cm_outside.specs.declared.question.Answer.{Answer}
use Rattle.cm_outside.specs.declared.question.Record.{Record}

module _ (f : Question → Answer) where
  pub Agrees-front : (xs ys : List Record) → Agrees f (xs ++ ys) → Agrees f xs
  Agrees-front [] ys h = tt
  Agrees-front (x ∷ xs) ys h = (h.0, Agrees-front xs ys h.1)

  pub Agrees-push : (xs : List Record) (r : Record) → Agrees f xs → f r.question ≡ r.answer → Agrees f (xs ++ r ∷ [])
  Agrees-push [] r h e = (e, tt)
  Agrees-push (x ∷ xs) r h e = (h.0, Agrees-push xs r h.1 e)

  pub Agrees-at : (xs : List Record) (at : ℕ) (r : Record) → slice_get xs at ≡ Some r → Agrees f xs → f r.question ≡ r.answer
  Agrees-at [] at r e h = absurd (cc)
  Agrees-at (x ∷ xs) zero r e h = let same : x ≡ r = cc in subst (λ (s : Record). f s.question ≡ s.answer) same h.0
  Agrees-at (x ∷ xs) (suc at) r e h = Agrees-at xs at r e h.1

  -- answers that agree with the kept ones after a question agreed before it
  pub Agrees-back : (r : Record) (old new : List Record) → new ≡ keeping r old → Agrees f new → Agrees f old
  Agrees-back r old new grows h = by (is_kept r.question old) (subst (Agrees f) grows h)
    where
      by : (b : Bool) → Agrees f (cond b old (old ++ r ∷ [])) → Agrees f old
      by true h = h
      by false h = Agrees-front old (r ∷ []) h

  -- and those that give the new answer too agree after it
  pub Agrees-after : (q : Question) (r : Record) (old new : List Record) → new ≡ keeping r old → is_kept q old ≡ false → r ≡ answered q (f q) → Agrees f old → Agrees f new
  Agrees-after q r old new grows absent is h =
      let end : new ≡ old ++ answered q (f q) ∷ [] = grows ∙ ap (λ s. keeping s old) is ∙ ap (λ b. cond b old (old ++ answered q (f q) ∷ [])) absent in
      subst (Agrees f) (sym end) (Agrees-push old (answered q (f q)) h refl)

  -- the record of a question's number is its answer's
  pub fixed_at : (q : Question) (old new : List Record) (at : ℕ) → Asked q old new at → Agrees f new → slice_get new at ≡ Some (answered q (f q))
  fixed_at q old new at asked h =
      asked.there ∙ ap (λ a. Some (answered q a)) (sym (Agrees-at new at (answered q asked.answer) asked.there h))

-- what stands at a place of records of the right kinds that the question has
found_at : (q : Question) (kept : List Record) (at : ℕ) (r : Record) → AreKept kept → at < length kept → slice_get kept at ≡ Some r → get_or kept at r ≡ r
    → same_question q r.question ≡ true → true ≡ is_kept q kept → Asked q kept kept at
found_at q kept at r are within there is same kept_is =
    let own : q ≡ r.question = (same_question_decides q r.question).0 same in
    let P : Record → Type 0 = λ s. is_of_kind s.question s.answer ≡ true in
    record {
      answer = r.answer;
      within = within;
      there = there ∙ ap (λ o. Some (answered o r.answer)) (sym own);
      kind = ap (λ o. is_of_kind o r.answer) own ∙ subst P is (are.kinds at r within);
      grows = ap (λ b. cond b kept (kept ++ answered q r.answer ∷ [])) kept_is;
    }

-- a question that is kept has its number
pub asked_again : (q : Question) (kept : List Record) (at : ℕ) → AreKept kept → Some at ≡ position (λ (r : Record). same_question q r.question) kept
    → true ≡ is_kept q kept → Asked q kept kept at
asked_again q [] at are found there = absurd (cc)
asked_again q (x ∷ xs) at are found there =
    let place = position-Some (λ (r : Record). same_question q r.question) (x ∷ xs) at x (sym found) in
    let r : Record = get_or (x ∷ xs) at x in
    let stored : slice_get (x ∷ xs) at ≡ Some r = slice_get-get_or (x ∷ xs) at x place.0 in
    found_at q (x ∷ xs) at r are place.0 stored (get_or_from_slice_get (x ∷ xs) at r r stored) place.1 there

-- a new question comes last
last_at : (r : Record) (kept : List Record) → is_kept r.question kept ≡ false → slice_get (kept ++ r ∷ []) (position_or_len (same_asked r) kept) ≡ Some r
last_at r [] absent = refl
last_at r (x ∷ xs) absent = by (same_question r.question x.question) absent (last_at r xs)
  where
    by : (b : Bool) → (b || is_kept r.question xs) ≡ false → (is_kept r.question xs ≡ false → slice_get (xs ++ r ∷ []) (position_or_len (same_asked r) xs) ≡ Some r)
        → slice_get (x ∷ (xs ++ r ∷ [])) (cond (not b) (1 + position_or_len (same_asked r) xs) 0) ≡ Some r
    by true absent f = absurd (cc)
    by false absent f =
        let next : 1 + position_or_len (same_asked r) xs ≡ suc (position_or_len (same_asked r) xs) = omega arith in
        rw next (f absent)

pub asked_first : (r : Record) (old new : List Record) (at : ℕ) → is_of_kind r.question r.answer ≡ true → new ≡ keeping r old → at ≡ position_or_len (same_asked r) old
    → is_kept r.question old ≡ false → Asked r.question old new at
asked_first r old new at kind grows place absent =
    let end : keeping r old ≡ old ++ r ∷ [] = ap (λ b. cond b old (old ++ r ∷ [])) absent in
    let stored : slice_get new at ≡ Some r = ap (λ l. slice_get l at) (grows ∙ end) ∙ ap (λ n. slice_get (old ++ r ∷ []) n) place ∙ last_at r old absent in
    record {
      answer = r.answer;
      within = slice_get_within new at r stored;
      there = stored;
      kind = kind;
      grows = grows;
    }

kinds_after : (r : Record) (old : List Record) → is_of_kind r.question r.answer ≡ true → All (λ (s : Record). is_of_kind s.question s.answer ≡ true) old
    → All (λ (s : Record). is_of_kind s.question s.answer ≡ true) (keeping r old)
kinds_after r old kind kinds = by (is_kept r.question old)
  where
    P : Record → Type 0
    P s = is_of_kind s.question s.answer ≡ true

    by : (b : Bool) → All P (cond b old (old ++ r ∷ []))
    by true = kinds
    by false = All-append P old (r ∷ []) kinds (All-cons P r [] kind (All-nil P))

pub are_kept_after : (r : Record) (old new : List Record) → is_of_kind r.question r.answer ≡ true → AreKept old → new ≡ keeping r old → IsDistinct same_asked new → AreKept new
are_kept_after r old new kind are grows once =
    let P : List Record → Type 0 = All (λ (s : Record). is_of_kind s.question s.answer ≡ true) in
    record { once = once; kinds = subst P (sym grows) (kinds_after r old kind are.kinds) }

apart_at : (q : Question) (kept : List Record) (a b : ℕ) (r s : Record) → IsDistinct same_asked kept → slice_get kept a ≡ Some r → slice_get kept b ≡ Some s
    → r.question ≡ q → s.question ≡ q → a < b → ⊥
apart_at q kept a b r s once at_a at_b own_r own_s less =
    let read_a = get_or_from_slice_get kept a r r at_a in
    let read_b = get_or_from_slice_get kept b s r at_b in
    let apart : same_asked (get_or kept a r) (get_or kept b r) ≡ false = apart_from_distinct same_asked kept a b r once less (slice_get_within kept b s at_b) in
    let same : same_asked (get_or kept a r) (get_or kept b r) ≡ true =
    (same_question_decides (get_or kept a r).question (get_or kept b r).question).1 (ap (λ (x : Record). x.question) read_a ∙ own_r ∙ sym (ap (λ (x : Record). x.question) read_b ∙ own_s)) in
    absurd (cc)

-- a question has one number
pub one_number : (kept : List Record) (a b : ℕ) (r s : Record) → AreKept kept → slice_get kept a ≡ Some r → slice_get kept b ≡ Some s → r.question ≡ s.question → a ≡ b
one_number kept a b r s are at_a at_b same =
    let before : a < b → ⊥ = apart_at s.question kept a b r s are.once at_a at_b same refl in
    let after : b < a → ⊥ = apart_at s.question kept b a s r are.once at_b at_a refl same in
    omega arith

-- asked again, a question has the number that it had
pub same_number : (q : Question) (old mid new : List Record) (a b : ℕ) → Asked q old mid a → Asked q mid new b → Grew mid new → AreKept new → a ≡ b
same_number q old mid new a b first second grew are =
    one_number new a b (answered q first.answer) (answered q second.answer) are (grew.same a first.within ∙ first.there) second.there refl

-- the answer that is lent of a question's number
module _ (q : Question) (old new : List Record) (at : ℕ) (r : Record) (a : Answer) (asked : Asked q old new at) (there : slice_get new at ≡ Some r) (lent : a ≡ r.answer) where
  own_answer : a ≡ asked.answer
  own_answer = let stored = asked.there in let same : r ≡ answered q asked.answer = cc in lent ∙ ap (λ (s : Record). s.answer) same

  pub lent_grows : new ≡ keeping (answered q a) old
  lent_grows = asked.grows ∙ ap (λ b. keeping (answered q b) old) (sym own_answer)

  pub lent_kind : is_of_kind q a ≡ true
  lent_kind = ap (λ b. is_of_kind q b) own_answer ∙ asked.kind

  pub lent_fixed : (f : Question → Answer) → Agrees f new → a ≡ f q
  lent_fixed f h = own_answer ∙ sym (Agrees-at f new at (answered q asked.answer) asked.there h)
