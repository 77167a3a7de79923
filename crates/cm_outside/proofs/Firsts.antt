-- Laws of first askings: what agrees with them agrees with all, and they hang only on the first askings of the parts.
use Rattle.std.proofs.Common.{◌≡◌, ℕ, Bool, true, false, not, cond, List, [], ◌∷◌, ◌++◌, refl, sym, ap, ◌∙◌}
use Rattle.std.specs.List.{filter}
use Rattle.std.proofs.lemmas.List.Elements.{filter-append}
use Rattle.std.proofs.lemmas.Slice.Eq.{bytes_eq-Decides}
use Rattle.std.proofs.Math.Bool.{true≢false}
use Rattle.cm_outside.specs.declared.question.Question.{Question}
use Rattle.cm_outside.specs.declared.question.Question.TheVariants.{Read, List as Listing}
use Rattle.cm_outside.specs.declared.question.Answer.{Answer}
use Rattle.cm_outside.specs.declared.question.Record.{Record}
use Rattle.cm_outside.specs.Asks.{Asks, Done, Ask, Begin, asked, Agrees}
use Rattle.cm_outside.specs.Trees.{same_question, same_text}
use Rattle.cm_outside.specs.Firsts.{others, firsts}

-- answers agree with their own records
pub agrees_own : {A : Type 0} → (p : Asks A) (t : Question → Answer) → Agrees t (asked p t)
agrees_own (Done x) t = tt
agrees_own (Ask q next) t = (refl, agrees_own (next (t q)) t)
agrees_own (Begin m p) t = agrees_own p t

agrees_cond : (t : Question → Answer) (r : Record) (rest : List Record) (b : Bool) → t r.question ≡ r.answer → Agrees t rest → Agrees t (cond b (r ∷ rest) rest)
agrees_cond t r rest true own h = (own, h)
agrees_cond t r rest false own h = h

agrees_filter : (t : Question → Answer) (test : Record → Bool) (rs : List Record) → Agrees t rs → Agrees t (filter test rs)
agrees_filter t test [] h = tt
agrees_filter t test (r ∷ rs) h = agrees_cond t r (filter test rs) (test r) h.0 (agrees_filter t test rs h.1)

pub agrees_firsts : (t : Question → Answer) (rs : List Record) → Agrees t rs → Agrees t (firsts rs)
agrees_firsts t [] h = tt
agrees_firsts t (r ∷ rs) h = (h.0, agrees_filter t _ (firsts rs) (agrees_firsts t rs h.1))

same_text_is : (p q : List ℕ) → same_text p q ≡ true → p ≡ q
same_text_is p q h = (bytes_eq-Decides p q).0 h

pub same_question_is : (q r : Question) → same_question q r ≡ true → q ≡ r
same_question_is (Read p) (Read q) h = ap (λ path. Read path) (same_text_is p q h)
same_question_is (Listing d) (Listing e) h = ap (λ folder. Listing folder) (same_text_is d e h)
same_question_is (Read p) (Listing e) h = absurd (true≢false (sym h))
same_question_is (Listing d) (Read q) h = absurd (true≢false (sym h))

-- what agrees with the records that ask something else, and as t does on this question, agrees with all of t's
agrees_others_at : (t u : Question → Answer) (q : Question) (r : Record) (rest kept : List Record) (b : Bool) → same_question q r.question ≡ b → u q ≡ t q
    → t r.question ≡ r.answer → (Agrees u kept → Agrees u rest) → Agrees u (cond (not b) (r ∷ kept) kept) → Agrees u (r ∷ rest)
agrees_others_at t u q r rest kept true is same own more h =
    let asks : q ≡ r.question = same_question_is q r.question is in (ap u (sym asks) ∙ same ∙ ap t asks ∙ own, more h)
agrees_others_at t u q r rest kept false is same own more h = (h.0, more h.1)

agrees_others : (t u : Question → Answer) (q : Question) → u q ≡ t q → (rs : List Record) → Agrees t rs → Agrees u (others q rs) → Agrees u rs
agrees_others t u q same [] ht hu = tt
agrees_others t u q same (r ∷ rs) ht hu =
    agrees_others_at t u q r rs (others q rs) (same_question q r.question) refl same ht.0 (agrees_others t u q same rs ht.1) hu

-- a later asking of a question was answered as the first
pub agrees_all : (t u : Question → Answer) (rs : List Record) → Agrees t rs → Agrees u (firsts rs) → Agrees u rs
agrees_all t u [] ht hu = tt
agrees_all t u (r ∷ rs) ht hu =
    (hu.0, agrees_all t u rs ht.1 (agrees_others t u r.question (hu.0 ∙ sym ht.0) (firsts rs) (agrees_firsts t rs ht.1) hu.1))

-- two filters

module _ {A : Type 0} where
  filter_cond : (p : A → Bool) (b : Bool) (x : A) (xs : List A) → filter p (cond b (x ∷ xs) xs) ≡ cond b (cond (p x) (x ∷ filter p xs) (filter p xs)) (filter p xs)
  filter_cond p true x xs = refl
  filter_cond p false x xs = refl

  cond_swap : (b c : Bool) (u v : A) → cond b (cond c u v) v ≡ cond c (cond b u v) v
  cond_swap true true u v = refl
  cond_swap true false u v = refl
  cond_swap false true u v = refl
  cond_swap false false u v = refl

  cond_twice : (b : Bool) (u v : A) → cond b (cond b u v) v ≡ cond b u v
  cond_twice true u v = refl
  cond_twice false u v = refl

filter_swap : {A : Type 0} (p q : A → Bool) (xs : List A) → filter p (filter q xs) ≡ filter q (filter p xs)
filter_swap p q [] = refl
filter_swap p q (x ∷ xs) =
    filter_cond p (q x) x (filter q xs)
    ∙ ap (λ ys. cond (q x) (cond (p x) (x ∷ ys) ys) ys) (filter_swap p q xs)
    ∙ cond_swap (q x) (p x) (x ∷ filter q (filter p xs)) (filter q (filter p xs))
    ∙ sym (filter_cond q (p x) x (filter p xs))

filter_twice : {A : Type 0} (p : A → Bool) (xs : List A) → filter p (filter p xs) ≡ filter p xs
filter_twice p [] = refl
filter_twice p (x ∷ xs) =
    filter_cond p (p x) x (filter p xs)
    ∙ ap (λ ys. cond (p x) (cond (p x) (x ∷ ys) ys) ys) (filter_twice p xs)
    ∙ cond_twice (p x) (x ∷ filter p xs) (filter p xs)

-- first askings of one list and then another

-- those that ask nothing that the first list asks
abbrev beyond : List Record → List Record → List Record
beyond [] zs = zs
beyond (r ∷ rs) zs = others r.question (beyond rs zs)

firsts_both : (xs ys : List Record) → firsts (xs ++ ys) ≡ firsts xs ++ beyond xs (firsts ys)
firsts_both [] ys = refl
firsts_both (r ∷ xs) ys =
    ap (λ zs. r ∷ zs) (ap (others r.question) (firsts_both xs ys) ∙ filter-append (λ (s : Record). not (same_question r.question s.question)) (firsts xs) (beyond xs (firsts ys)))

beyond_others_at : (q : Question) (r : Record) (rs zs : List Record) (b : Bool) → same_question q r.question ≡ b
    → others q (beyond (others q rs) zs) ≡ others q (beyond rs zs) → others q (beyond (cond (not b) (r ∷ others q rs) (others q rs)) zs) ≡ others q (beyond (r ∷ rs) zs)
beyond_others_at q r rs zs true is more =
    let asks : q ≡ r.question = same_question_is q r.question is in
    more ∙ sym (filter_twice (λ (s : Record). not (same_question q s.question)) (beyond rs zs)) ∙ ap (λ w. others q (others w (beyond rs zs))) asks
beyond_others_at q r rs zs false is more =
    filter_swap (λ (s : Record). not (same_question q s.question)) (λ (s : Record). not (same_question r.question s.question)) (beyond (others q rs) zs)
    ∙ ap (others r.question) more
    ∙ filter_swap (λ (s : Record). not (same_question r.question s.question)) (λ (s : Record). not (same_question q s.question)) (beyond rs zs)

beyond_others : (q : Question) (rs zs : List Record) → others q (beyond (others q rs) zs) ≡ others q (beyond rs zs)
beyond_others q [] zs = refl
beyond_others q (r ∷ rs) zs = beyond_others_at q r rs zs (same_question q r.question) refl (beyond_others q rs zs)

beyond_firsts : (xs zs : List Record) → beyond (firsts xs) zs ≡ beyond xs zs
beyond_firsts [] zs = refl
beyond_firsts (r ∷ xs) zs = beyond_others r.question (firsts xs) zs ∙ ap (others r.question) (beyond_firsts xs zs)

-- they hang only on the first askings of both
pub firsts_append : (xs ys us vs : List Record) → firsts xs ≡ firsts ys → firsts us ≡ firsts vs → firsts (xs ++ us) ≡ firsts (ys ++ vs)
firsts_append xs ys us vs h k =
    firsts_both xs us ∙ sym (ap (λ zs. firsts xs ++ zs) (beyond_firsts xs (firsts us)))
    ∙ (λ i. h i ++ beyond (h i) (k i))
    ∙ ap (λ zs. firsts ys ++ zs) (beyond_firsts ys (firsts vs)) ∙ sym (firsts_both ys vs)

firsts_others_at : (q : Question) (r : Record) (rs rest : List Record) (b : Bool) → same_question q r.question ≡ b → firsts rest ≡ others q (firsts rs)
    → firsts (cond (not b) (r ∷ rest) rest) ≡ others q (r ∷ others r.question (firsts rs))
firsts_others_at q r rs rest true is h =
    let asks : q ≡ r.question = same_question_is q r.question is in
    h ∙ sym (filter_twice (λ (s : Record). not (same_question q s.question)) (firsts rs)) ∙ ap (λ w. others q (others w (firsts rs))) asks
    ∙ sym (ap (λ b. cond (not b) (r ∷ others q (others r.question (firsts rs))) (others q (others r.question (firsts rs)))) is)
firsts_others_at q r rs rest false is h =
    ap (λ zs. r ∷ others r.question zs) h
    ∙ ap (λ zs. r ∷ zs) (filter_swap (λ (s : Record). not (same_question r.question s.question)) (λ (s : Record). not (same_question q s.question)) (firsts rs))
    ∙ sym (ap (λ b. cond (not b) (r ∷ others q (others r.question (firsts rs))) (others q (others r.question (firsts rs)))) is)

firsts_others : (q : Question) (rs : List Record) → firsts (others q rs) ≡ others q (firsts rs)
firsts_others q [] = refl
firsts_others q (r ∷ rs) = firsts_others_at q r rs (others q rs) (same_question q r.question) refl (firsts_others q rs)

-- the first askings of first askings are these
pub firsts_twice : (rs : List Record) → firsts (firsts rs) ≡ firsts rs
firsts_twice [] = refl
firsts_twice (r ∷ rs) =
    ap (λ zs. r ∷ zs) (ap (others r.question) (firsts_others r.question (firsts rs)) ∙ filter_twice (λ (s : Record). not (same_question r.question s.question)) (firsts (firsts rs)) ∙ ap (others r.question) (firsts_twice rs))
