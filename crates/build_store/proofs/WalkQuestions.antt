-- The first askings of what walks ask: what the maps were asked stands in front, and asks nothing more later.
use Rattle.std.proofs.Common.{◌≡◌, Bool, true, false, not, cond, List, [], ◌∷◌, ◌++◌, refl, sym, ap, ◌∙◌, append_assoc}
use Rattle.std.specs.List.{filter}
use Rattle.std.proofs.lemmas.Slice.Eq.{bytes_eq-Decides}
use Rattle.cm_outside.specs.declared.question.Question.{Question}
use Rattle.cm_outside.specs.declared.question.Question.TheVariants.{Read, List as Listing}
use Rattle.cm_outside.specs.declared.question.Record.{Record}
use Rattle.cm_outside.specs.Firsts.{others, firsts}
use Rattle.cm_outside.specs.Trees.{same_question}
use Rattle.cm_outside.proofs.Firsts.{firsts_append, firsts_twice}

same_question_own : (q : Question) → same_question q q ≡ true
same_question_own (Read p) = (bytes_eq-Decides p p).1 refl
same_question_own (Listing d) = (bytes_eq-Decides d d).1 refl

-- ---- filters in any order, and twice

module _ {A : Type 0} where
  filter_cond : (p : A → Bool) (b : Bool) (x : A) (xs : List A) → filter p (cond b (x ∷ xs) xs) ≡ cond b (cond (p x) (x ∷ filter p xs) (filter p xs)) (filter p xs)
  filter_cond p true x xs = refl
  filter_cond p false x xs = refl

  cond_swap : (b c : Bool) (u v : List A) → cond b (cond c u v) v ≡ cond c (cond b u v) v
  cond_swap true true u v = refl
  cond_swap true false u v = refl
  cond_swap false true u v = refl
  cond_swap false false u v = refl

  cond_twice : (b : Bool) (u v : List A) → cond b (cond b u v) v ≡ cond b u v
  cond_twice true u v = refl
  cond_twice false u v = refl

  filter_swap : (p q : A → Bool) (xs : List A) → filter p (filter q xs) ≡ filter q (filter p xs)
  filter_swap p q [] = refl
  filter_swap p q (x ∷ xs) =
      filter_cond p (q x) x (filter q xs)
      ∙ ap (λ ys. cond (q x) (cond (p x) (x ∷ ys) ys) ys) (filter_swap p q xs)
      ∙ cond_swap (q x) (p x) (x ∷ filter q (filter p xs)) (filter q (filter p xs))
      ∙ sym (filter_cond q (p x) x (filter p xs))

  filter_twice : (p : A → Bool) (xs : List A) → filter p (filter p xs) ≡ filter p xs
  filter_twice p [] = refl
  filter_twice p (x ∷ xs) =
      filter_cond p (p x) x (filter p xs)
      ∙ ap (λ ys. cond (p x) (cond (p x) (x ∷ ys) ys) ys) (filter_twice p xs)
      ∙ cond_twice (p x) (x ∷ filter p xs) (filter p xs)

-- ---- a question that was asked before

asks_other : Question → Record → Bool
asks_other q s = not (same_question q s.question)

past_own : (q : Question) (r : Record) (zs : List Record) → q ≡ r.question → others q (r ∷ zs) ≡ others q zs
past_own q r zs is = ap (λ b. cond (not b) (r ∷ others q zs) (others q zs)) (ap (λ p. same_question p r.question) is ∙ same_question_own r.question)

others_again : (r : Record) (xs ys : List Record) → others r.question (firsts (xs ++ r ∷ ys)) ≡ others r.question (firsts (xs ++ ys))
others_again r [] ys = past_own r.question r (others r.question (firsts ys)) refl ∙ filter_twice (λ (s : Record). not (same_question r.question s.question)) (firsts ys)
others_again r (s ∷ xs) ys =
    let p : Record → Bool = λ u. not (same_question r.question u.question) in
    let q : Record → Bool = λ u. not (same_question s.question u.question) in
    let inner : filter p (filter q (firsts (xs ++ r ∷ ys))) ≡ filter p (filter q (firsts (xs ++ ys))) =
    filter_swap p q (firsts (xs ++ r ∷ ys)) ∙ ap (filter q) (others_again r xs ys) ∙ filter_swap q p (firsts (xs ++ ys)) in
    ap (λ zs. cond (p s) (s ∷ zs) zs) inner

asked_again : (ts xs : List Record) → firsts (ts ++ (xs ++ ts)) ≡ firsts (ts ++ xs)
asked_again [] xs = ap firsts (append_nil xs)
  where
    append_nil : (zs : List Record) → zs ++ [] ≡ zs
    append_nil [] = refl
    append_nil (z ∷ zs) = ap (λ us. z ∷ us) (append_nil zs)
asked_again (r ∷ ts) xs =
    ap (λ zs. r ∷ zs)
    (ap (λ zs. others r.question (firsts zs)) (sym (append_assoc ts xs (r ∷ ts)))
    ∙ others_again r (ts ++ xs) ts
    ∙ ap (λ zs. others r.question (firsts zs)) (append_assoc ts xs ts)
    ∙ ap (others r.question) (asked_again ts xs))

-- what stands in front asks nothing more behind the rest
pub asked_between : (ts xs ys : List Record) → firsts (ts ++ (xs ++ (ts ++ ys))) ≡ firsts (ts ++ (xs ++ ys))
asked_between ts xs ys =
    ap firsts (ap (λ zs. ts ++ zs) (sym (append_assoc xs ts ys)) ∙ sym (append_assoc ts (xs ++ ts) ys))
    ∙ firsts_append (ts ++ (xs ++ ts)) (ts ++ xs) ys ys (asked_again ts xs) refl
    ∙ ap firsts (append_assoc ts xs ys)

-- behind the same questions, one part and then another
pub asked_both : (ts ms rs ns ss : List Record) → firsts (ts ++ ms) ≡ firsts (ts ++ rs) → firsts (ts ++ ns) ≡ firsts (ts ++ ss)
    → firsts (ts ++ (ms ++ ns)) ≡ firsts (ts ++ (rs ++ ss))
asked_both ts ms rs ns ss h k =
    sym (asked_between ts ms ns) ∙ ap firsts (sym (append_assoc ts ms (ts ++ ns)))
    ∙ firsts_append (ts ++ ms) (ts ++ rs) (ts ++ ns) (ts ++ ss) h k
    ∙ ap firsts (append_assoc ts rs (ts ++ ss)) ∙ asked_between ts rs ss

-- the first askings of what a module asks, behind those of the maps
pub asked_module : (ts ms : List Record) → firsts (ts ++ firsts (ts ++ ms)) ≡ firsts (ts ++ firsts ms)
asked_module ts ms =
    firsts_append ts ts (firsts (ts ++ ms)) (ts ++ ms) refl (firsts_twice (ts ++ ms))
    ∙ asked_between ts [] ms
    ∙ firsts_append ts ts ms (firsts ms) refl (sym (firsts_twice ms))
