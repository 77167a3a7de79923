-- Folds whose imports all name modules of the plan: so does what is made of them.
use Rattle.std.proofs.Common.{◌≡◌, ◌∙◌, sym, ap, ℕ, zero, suc, Bool, true, false, cond, ◌==◌, inl, inr, List, [], ◌∷◌, ◌++◌, Option, Some, None, true≢false}
use Rattle.cm_outside.specs.declared.question.Question.{Question}
use Rattle.cm_outside.specs.declared.question.Answer.{Answer}
use Rattle.build_store.specs.Needs.{Needs, Ends, Puts, Imports, then_needs, or_cyclic, strictly, met}
use Rattle.build_store.specs.Modules.{Plan, is_in, is_free, left, import_by, within, own_import, sub_of, in_turn, inside}
use Rattle.build_store.specs.Memo.{IsNamed}
use Rattle.build_store.proofs.ListLemmas.{in_cases}

module _ {B : Type 0} (p : Plan B) where
  -- each import of the fold names a module of the plan, whatever the fold is given
  abbrev pub Names : {A : Type 0} → Needs B A → Type 0
  Names (Ends a) = Unit {0}
  Names (Puts q next) = (a : Answer) → Names (next a)
  Names (Imports x next) = (is_in (p.top x) p.tops ≡ true) × ((o : Option B) → Names (next o))

  pub names-then_needs : {A C : Type 0} (n : Needs B A) (more : A → Needs B C) → Names n → ((a : A) → Names (more a)) → Names (then_needs n more)
  names-then_needs (Ends a) more h g = g a
  names-then_needs (Puts q next) more h g = λ a. names-then_needs (next a) more (h a) g
  names-then_needs (Imports x next) more h g = (h.0, λ o. names-then_needs (next o) more (h.1 o) g)

  names-or_cyclic : {A C : Type 0} (more : C → Needs B (Option A)) → ((c : C) → Names (more c)) → (o : Option C) → Names (or_cyclic more o)
  names-or_cyclic more g None = tt
  names-or_cyclic more g (Some c) = g c

  names-strictly : {A : Type 0} (import : ℕ → Needs B (Option B)) → ((x : ℕ) → is_in (p.top x) p.tops ≡ true → Names (import x)) → (n : Needs B A) → Names n → Names (strictly import n)
  names-strictly import each (Ends a) h = tt
  names-strictly import each (Puts q next) h = λ a. names-strictly import each (next a) (h a)
  names-strictly import each (Imports x next) h =
      names-then_needs (import x) (or_cyclic (λ b. strictly import (next (Some b)))) (each x h.0)
      (names-or_cyclic (λ b. strictly import (next (Some b))) (λ b. names-strictly import each (next (Some b)) (h.1 (Some b))))

  names_cond : {A : Type 0} (b : Bool) (n o : Needs B A) → Names n → Names o → Names (cond b n o)
  names_cond true n o h g = h
  names_cond false n o h g = g

  names-import_by : (m : ℕ) (own : ℕ → Needs B (Option B)) → ((x : ℕ) → Names (own x)) → (x : ℕ) → is_in (p.top x) p.tops ≡ true → Names (import_by p m own x)
  names-import_by m own each x top = names_cond (p.top x == m) (own x) (Imports x (λ b. Ends b)) (each x) (top, λ o. tt)

  module _ (folds : (x : ℕ) → Names (p.fold x)) where
    names-within : (m k : ℕ) (inner : List ℕ) (x : ℕ) → Names (within p m k inner x)
    unfolding within
    names-within m zero inner x = tt
    names-within m (suc k) inner x =
        names_cond (is_free (p.subs m) inner x) (strictly (import_by p m (λ y. within p m k (x ∷ inner) y)) (p.fold x)) (Ends None)
        (names-strictly (import_by p m (λ y. within p m k (x ∷ inner) y)) (names-import_by m (λ y. within p m k (x ∷ inner) y) (λ y. names-within m k (x ∷ inner) y)) (p.fold x) (folds x))
        tt

    names-sub_of : (m : ℕ) (inner : List ℕ) (x : ℕ) → Names (sub_of p m inner x)
    unfolding sub_of own_import
    names-sub_of m inner x =
        names-strictly (import_by p m (own_import p m (x ∷ inner))) (names-import_by m (own_import p m (x ∷ inner)) (λ y. names-within m (left (p.subs m) (x ∷ inner)) (x ∷ inner) y)) (p.fold x) (folds x)

    names-in_turn : (sub : ℕ → Needs B (Option B)) → ((x : ℕ) → Names (sub x)) → (done : List B) (xs : List ℕ) → Names (in_turn sub p.together done xs)
    names-in_turn sub each done [] = tt
    names-in_turn sub each done (x ∷ xs) =
        names-then_needs (sub x) (or_cyclic (λ b. in_turn sub p.together (done ++ (b ∷ [])) xs)) (each x)
        (names-or_cyclic (λ b. in_turn sub p.together (done ++ (b ∷ [])) xs) (λ b. names-in_turn sub each (done ++ (b ∷ [])) xs))

    names-inside : (m : ℕ) → Names (inside p m)
    unfolding inside
    names-inside m = names-in_turn (sub_of p m []) (names-sub_of m []) [] (p.subs m)

  names_met : {A : Type 0} (n : Needs B A) → Names n → (t : Question → Answer) (brings : ℕ → Option B) (x : ℕ) → is_in x (met n t brings) ≡ true → is_in (p.top x) p.tops ≡ true
  names_met (Ends a) h t brings x e = absurd (true≢false (sym e))
  names_met (Puts q next) h t brings x e = names_met (next (t q)) (h (t q)) t brings x e
  names_met (Imports y next) h t brings x e =
      elim (in_cases x y (met (next (brings y)) t brings) e) [
        | inl same ↦ ap (λ n. is_in (p.top n) p.tops) same ∙ h.0
        | inr more ↦ names_met (next (brings y)) (h.1 (brings y)) t brings x more
      ]

  -- Every import that such a fold meets names a module of the plan.
  pub named_of : {A : Type 0} (n : Needs B A) → Names n → IsNamed p n
  named_of n h = record { named = names_met n h }

  -- and so do those of a whole module, where its submodules' do
  pub named_inside : ((x : ℕ) → Names (p.fold x)) → (m : ℕ) → IsNamed p (inside p m)
  named_inside folds m = named_of (inside p m) (names-inside folds m)
