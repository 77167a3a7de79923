-- Folds: what they end with where one is put behind another, where imports are replaced by folds, and where they are answered by
-- programs; and folds that end, as Cyclic, at the first import that is.
use Rattle.std.proofs.Common.{◌≡◌, ◌∙◌, refl, sym, ap, ℕ, List, [], ◌∷◌, ◌++◌, Option, Some, None}
use Rattle.cm_outside.specs.declared.question.Question.{Question}
use Rattle.cm_outside.specs.declared.question.Answer.{Answer}
use Rattle.cm_outside.specs.Asks.{Asks, value, begun, value-then_ask, begun-then_ask}
use Rattle.build_store.specs.Needs.{Needs, Ends, Puts, Imports, then_needs, or_cyclic, strictly, answered, end_of, met}
use Rattle.build_store.proofs.ListLemmas.{some≢none, Every}
use Rattle.build_store.proofs.Chains.{IsBrought}

-- ---- ends and what is met

module _ {B A C : Type 0} (more : A → Needs B C) (t : Question → Answer) (f : ℕ → Option B) where
  pub end_of-then_needs : (n : Needs B A) → end_of (then_needs n more) t f ≡ end_of (more (end_of n t f)) t f
  end_of-then_needs (Ends a) = refl
  end_of-then_needs (Puts q next) = end_of-then_needs (next (t q))
  end_of-then_needs (Imports x next) = end_of-then_needs (next (f x))

  pub met-then_needs : (n : Needs B A) → met (then_needs n more) t f ≡ met n t f ++ met (more (end_of n t f)) t f
  met-then_needs (Ends a) = refl
  met-then_needs (Puts q next) = met-then_needs (next (t q))
  met-then_needs (Imports x next) = ap (λ xs. x ∷ xs) (met-then_needs (next (f x)))

-- what each begins, one after the other
abbrev pub begun_by : (ℕ → List ℕ) → List ℕ → List ℕ
begun_by begins [] = []
begun_by begins (x ∷ xs) = begins x ++ begun_by begins xs

module _ {B A : Type 0} where
  -- answered by programs it ends with what it does where the imports bring what these give
  pub value-answered : (import : ℕ → Asks (Option B)) (n : Needs B A) (t : Question → Answer) → value (answered import n) t ≡ end_of n t (λ x. value (import x) t)
  value-answered import (Ends a) t = refl
  value-answered import (Puts q next) t = value-answered import (next (t q)) t
  value-answered import (Imports x next) t = value-then_ask (import x) (λ b. answered import (next b)) t ∙ value-answered import (next (value (import x) t)) t

  -- the modules begun are those that the imports begin that are met
  pub begun-answered : (import : ℕ → Asks (Option B)) (n : Needs B A) (t : Question → Answer)
      → begun (answered import n) t ≡ begun_by (λ x. begun (import x) t) (met n t (λ x. value (import x) t))
  begun-answered import (Ends a) t = refl
  begun-answered import (Puts q next) t = begun-answered import (next (t q)) t
  begun-answered import (Imports x next) t =
      begun-then_ask (import x) (λ b. answered import (next b)) t
      ∙ ap (λ ms. begun (import x) t ++ ms) (begun-answered import (next (value (import x) t)) t)

  -- where the imports that are met bring the same, it is the same
  pub alike_needs : (n : Needs B A) (t : Question → Answer) (f g : ℕ → Option B) → Every (λ x. g x ≡ f x) (met n t f) → (end_of n t g ≡ end_of n t f) × (met n t g ≡ met n t f)
  alike_needs (Ends a) t f g same = (refl, refl)
  alike_needs (Puts q next) t f g same = alike_needs (next (t q)) t f g same
  alike_needs (Imports x next) t f g same =
      let rest = alike_needs (next (f x)) t f g same.1 in
      (ap (λ o. end_of (next o) t g) same.0 ∙ rest.0, ap (λ o. x ∷ met (next o) t g) same.0 ∙ ap (λ xs. x ∷ xs) rest.1)

-- ---- strictness

-- at an import that is Cyclic it ends as Cyclic
abbrev pub IsStrict : {B A : Type 0} → Needs B (Option A) → Type 0
IsStrict (Ends a) = Unit {0}
IsStrict (Puts q next) = (a : Answer) → IsStrict (next a)
IsStrict {B} (Imports x next) = (next None ≡ Ends None) × ((b : B) → IsStrict (next (Some b)))

module _ {B A : Type 0} where
  pub strict-then_needs : {C : Type 0} → (n : Needs B (Option C)) (more : C → Needs B (Option A)) → IsStrict n → ((c : C) → IsStrict (more c)) → IsStrict (then_needs n (or_cyclic more))
  strict-then_needs (Ends None) more s h = tt
  strict-then_needs (Ends (Some c)) more s h = h c
  strict-then_needs (Puts q next) more s h = λ a. strict-then_needs (next a) more (s a) h
  strict-then_needs (Imports x next) more s h = (ap (λ n. then_needs n (or_cyclic more)) s.0, λ b. strict-then_needs (next (Some b)) more (s.1 b) h)

  pub strict-strictly : (import : ℕ → Needs B (Option B)) → ((x : ℕ) → IsStrict (import x)) → (n : Needs B A) → IsStrict (strictly import n)
  strict-strictly import each (Ends a) = tt
  strict-strictly import each (Puts q next) = λ a. strict-strictly import each (next a)
  strict-strictly import each (Imports x next) = strict-then_needs (import x) (λ b. strictly import (next (Some b))) (each x) (λ b. strict-strictly import each (next (Some b)))

  -- where a strict fold brings something each import that it met brought something
  pub strict_met : (n : Needs B (Option A)) → IsStrict n → (t : Question → Answer) (f : ℕ → Option B) → IsBrought (end_of n t f) → Every (λ x. IsBrought (f x)) (met n t f)
  strict_met (Ends a) s t f e = tt
  strict_met (Puts q next) s t f e = strict_met (next (t q)) (s (t q)) t f e
  strict_met (Imports x next) s t f e = by (f x) (λ b. strict_met (next (Some b)) (s.1 b) t f) e
    where
      by : (o : Option B) → ((b : B) → IsBrought (end_of (next (Some b)) t f) → Every (λ y. IsBrought (f y)) (met (next (Some b)) t f)) → IsBrought (end_of (next o) t f) → IsBrought o × Every (λ y. IsBrought (f y)) (met (next o) t f)
      by None rest h = absurd (some≢none (sym h.1 ∙ ap (λ n. end_of n t f) s.0))
      by (Some b) rest h = ((b, refl), rest b h)
