-- The submodules of one module as things in chains: what a submodule comes to behind each chain of them.
use Rattle.std.proofs.Common.{◌≡◌, ◌∙◌, refl, sym, ap, ℕ, zero, suc, ◌≤◌, Bool, true, false, cond, ◌==◌, List, [], ◌∷◌, Option, Some, None, arith}
use Rattle.std.proofs.Math.Path.{fun_ext}
use Rattle.std.specs.List.{filter}
use Rattle.std.proofs.lemmas.Bool.{false_from_ne_true}
use Rattle.cm_outside.specs.declared.question.Question.{Question}
use Rattle.cm_outside.specs.declared.question.Answer.{Answer}
use Rattle.build_store.specs.Needs.{Needs, Ends, Puts, Imports, or_cyclic, strictly, end_of, met}
use Rattle.build_store.specs.Modules.{Plan, is_in, is_free, left, import_by, within, own_import, sub_of}
use Rattle.build_store.specs.Outcomes.{strict_fold, brought_within, own_imports, LeadsWithin}
use Rattle.build_store.proofs.ListLemmas.{Every, cond_false, free_parts, left_less, left_none_less}
use Rattle.build_store.proofs.NeedLemmas.{end_of-then_needs, alike_needs, IsStrict, strict-strictly, strict_met}
use Rattle.build_store.proofs.Chains.{IsBrought, Web, chained, behind, free, alone_from, alone_is_body, behind_deep, one_outcome, comes_back, Comes}

-- ---- what holds of each that passes

every_filter_at : (test : ℕ → Bool) (P Q : ℕ → Type 0) → ((x : ℕ) → test x ≡ true → P x → Q x) → (x : ℕ) (kept : List ℕ) → P x → Every Q kept
    → (b : Bool) → test x ≡ b → Every Q (cond b (x ∷ kept) kept)
every_filter_at test P Q more x kept here rest true is = (more x is here, rest)
every_filter_at test P Q more x kept here rest false is = rest

every_filter : (test : ℕ → Bool) (P Q : ℕ → Type 0) → ((x : ℕ) → test x ≡ true → P x → Q x) → (xs : List ℕ) → Every P xs → Every Q (filter test xs)
every_filter test P Q more [] h = tt
every_filter test P Q more (x ∷ xs) h = every_filter_at test P Q more x (filter test xs) h.0 (every_filter test P Q more xs h.1) (test x) refl

unfiltered_at : (test : ℕ → Bool) (P Q : ℕ → Type 0) → ((x : ℕ) → test x ≡ true → P x → Q x) → ((x : ℕ) → test x ≡ false → Q x) → (x : ℕ) (xs kept : List ℕ)
    → (Every P kept → Every Q xs) → (b : Bool) → test x ≡ b → Every P (cond b (x ∷ kept) kept) → Q x × Every Q xs
unfiltered_at test P Q more other x xs kept rest true is h = (more x is h.0, rest h.1)
unfiltered_at test P Q more other x xs kept rest false is h = (other x is, rest h)

unfiltered : (test : ℕ → Bool) (P Q : ℕ → Type 0) → ((x : ℕ) → test x ≡ true → P x → Q x) → ((x : ℕ) → test x ≡ false → Q x) → (xs : List ℕ)
    → Every P (filter test xs) → Every Q xs
unfiltered test P Q more other [] h = tt
unfiltered test P Q more other (x ∷ xs) h = unfiltered_at test P Q more other x xs (filter test xs) (unfiltered test P Q more other xs) (test x) refl h

-- ---- imports replaced by folds

module _ {B : Type 0} where
  abbrev asks : ℕ → Needs B (Option B)
  asks y = Imports y (λ b. Ends b)

  pub end_of-strictly : {A : Type 0} (import : ℕ → Needs B (Option B)) (n : Needs B A) (t : Question → Answer) (brings : ℕ → Option B)
      → end_of (strictly import n) t brings ≡ end_of (strictly asks n) t (λ x. end_of (import x) t brings)
  end_of-strictly import (Ends a) t brings = refl
  end_of-strictly import (Puts q next) t brings = end_of-strictly import (next (t q)) t brings
  end_of-strictly import (Imports x next) t brings =
      end_of-then_needs (or_cyclic (λ b. strictly import (next (Some b)))) t brings (import x)
      ∙ by (end_of (import x) t brings) (λ b. end_of-strictly import (next (Some b)) t brings)
    where
      by : (o : Option B) → ((b : B) → end_of (strictly import (next (Some b))) t brings ≡ end_of (strictly asks (next (Some b))) t (λ y. end_of (import y) t brings))
          → end_of (or_cyclic (λ b. strictly import (next (Some b))) o) t brings ≡ end_of (or_cyclic (λ b. strictly asks (next (Some b))) o) t (λ y. end_of (import y) t brings)
      by None rest = refl
      by (Some b) rest = rest b

-- ---- the fuel is invisible

module _ {B : Type 0} (p : Plan B) (m : ℕ) where
  none_left : (inner : List ℕ) (x : ℕ) → left (p.subs m) inner ≤ zero → is_free (p.subs m) inner x ≡ false
  none_left inner x none =
      false_from_ne_true (is_free (p.subs m) inner x) (λ e. let parts = free_parts (p.subs m) inner x e in let less = left_less (p.subs m) inner x parts.0 parts.1 in omega arith)

  enough : (k j : ℕ) (inner : List ℕ) (x : ℕ) → left (p.subs m) inner ≤ k → left (p.subs m) inner ≤ j → within p m k inner x ≡ within p m j inner x
  unfolding within
  enough zero zero inner x one other = refl
  enough zero (suc j) inner x one other = sym (cond_false (is_free (p.subs m) inner x) _ (Ends None) (none_left inner x one))
  enough (suc k) zero inner x one other = cond_false (is_free (p.subs m) inner x) _ (Ends None) (none_left inner x other)
  enough (suc k) (suc j) inner x one other = by (is_free (p.subs m) inner x) refl (λ y r s. enough k j (x ∷ inner) y r s)
    where
      by : (b : Bool) → is_free (p.subs m) inner x ≡ b
          → ((y : ℕ) → left (p.subs m) (x ∷ inner) ≤ k → left (p.subs m) (x ∷ inner) ≤ j → within p m k (x ∷ inner) y ≡ within p m j (x ∷ inner) y)
          → cond b (strictly (import_by p m (λ y. within p m k (x ∷ inner) y)) (p.fold x)) (Ends None)
          ≡ cond b (strictly (import_by p m (λ y. within p m j (x ∷ inner) y)) (p.fold x)) (Ends None)
      by true is rest =
          let parts = free_parts (p.subs m) inner x is in
          let less = left_less (p.subs m) inner x parts.0 parts.1 in
          ap (λ (f : ℕ → Needs B (Option B)). strictly (import_by p m f) (p.fold x)) (fun_ext (λ y. rest y (omega arith) (omega arith)))
      by false is rest = refl

  pub within_full : (k : ℕ) (inner : List ℕ) (x : ℕ) → left (p.subs m) inner ≤ k → within p m k inner x ≡ own_import p m inner x
  unfolding own_import
  within_full k inner x room = enough k (left (p.subs m) inner) inner x room (omega arith)

  -- an import of the module's own submodule is Cyclic where that is not free, else it is the submodule behind those being folded
  pub inner_rule : (inner : List ℕ) (x : ℕ) → own_import p m inner x ≡ cond (is_free (p.subs m) inner x) (sub_of p m inner x) (Ends None)
  unfolding within own_import sub_of
  inner_rule inner x =
      enough (left (p.subs m) inner) (suc (left (p.subs m) inner)) inner x (omega arith) (omega arith)
      ∙ ap (λ (f : ℕ → Needs B (Option B)). cond (is_free (p.subs m) inner x) (strictly (import_by p m f) (p.fold x)) (Ends None))
      (fun_ext (λ y. let less = left_none_less (p.subs m) inner x in enough (left (p.subs m) inner) (left (p.subs m) (x ∷ inner)) (x ∷ inner) y (omega arith) (omega arith)))

-- ---- submodules as things in chains

module _ {B : Type 0} (p : Plan B) (m : ℕ) (t : Question → Answer) (brings : ℕ → Option B) where
  -- what an import brings, of the module itself by `f`
  abbrev mixed : (ℕ → Option B) → ℕ → Option B
  mixed f y = cond (p.top y == m) (f y) (brings y)

  pub strict-strict_fold : (x : ℕ) → IsStrict (strict_fold p x)
  unfolding strict_fold
  strict-strict_fold x = strict-strictly asks (λ y. (refl, λ b. tt)) (p.fold x)

  mixed_some : (f : ℕ → Option B) (y : ℕ) → (p.top y == m) ≡ true → IsBrought (mixed f y) → IsBrought (f y)
  mixed_some f y own h = (h.0, sym (ap (λ c. cond c (f y) (brings y)) own) ∙ h.1)

  mixed_own : (f g : ℕ → Option B) (y : ℕ) → (p.top y == m) ≡ true → g y ≡ f y → mixed g y ≡ mixed f y
  mixed_own f g y own h = ap (λ o. cond (p.top y == m) o (brings y)) h

  mixed_other : (f g : ℕ → Option B) (y : ℕ) → (p.top y == m) ≡ false → mixed g y ≡ mixed f y
  mixed_other f g y other = ap (λ c. cond c (g y) (brings y)) other ∙ sym (ap (λ c. cond c (f y) (brings y)) other)

  abbrev submodules : Web B
  submodules = record {
    known = p.subs m;
    body = λ x f. end_of (strict_fold p x) t (mixed f);
    meets = λ x f. filter (λ y. p.top y == m) (met (strict_fold p x) t (mixed f));
    strict = λ x f e. every_filter (λ y. p.top y == m) (λ y. IsBrought (mixed f y)) (λ y. IsBrought (f y)) (mixed_some f) (met (strict_fold p x) t (mixed f))
        (strict_met (strict_fold p x) (strict-strict_fold x) t (mixed f) e);
    alike = λ x f g same. alike_submodules x f g same;
  }
    where
      alike_submodules : (x : ℕ) (f g : ℕ → Option B) → Every (λ y. g y ≡ f y) (filter (λ y. p.top y == m) (met (strict_fold p x) t (mixed f)))
          → (end_of (strict_fold p x) t (mixed g) ≡ end_of (strict_fold p x) t (mixed f))
          × (filter (λ y. p.top y == m) (met (strict_fold p x) t (mixed g)) ≡ filter (λ y. p.top y == m) (met (strict_fold p x) t (mixed f)))
      alike_submodules x f g same =
          let r = alike_needs (strict_fold p x) t (mixed f) (mixed g)
          (unfiltered (λ y. p.top y == m) (λ y. g y ≡ f y) (λ y. mixed g y ≡ mixed f y) (mixed_own f g) (mixed_other f g) (met (strict_fold p x) t (mixed f)) same) in
          (r.0, ap (filter (λ y. p.top y == m)) r.1)

  end_of_cond : (c : Bool) (n : Needs B (Option B)) → end_of (cond c n (Ends None)) t brings ≡ cond c (end_of n t brings) None
  end_of_cond true n = refl
  end_of_cond false n = refl

  end_of_import_by : (own : ℕ → Needs B (Option B)) (y : ℕ) → end_of (import_by p m own y) t brings ≡ mixed (λ x. end_of (own x) t brings) y
  end_of_import_by own y = by (p.top y == m)
    where
      by : (c : Bool) → end_of (cond c (own y) (Imports y (λ b. Ends b))) t brings ≡ cond c (end_of (own y) t brings) (brings y)
      by true = refl
      by false = refl

  -- a fold whose imports are replaced by what has these ends
  end_of_sub : (own : ℕ → Needs B (Option B)) (x : ℕ) → end_of (strictly (import_by p m own) (p.fold x)) t brings ≡ end_of (strict_fold p x) t (mixed (λ y. end_of (own y) t brings))
  unfolding strict_fold
  end_of_sub own x =
      end_of-strictly (import_by p m own) (p.fold x) t brings
      ∙ ap (end_of (strictly asks (p.fold x)) t) (fun_ext (end_of_import_by own))

  end_of-within : (k : ℕ) (inner : List ℕ) (x : ℕ) → end_of (within p m k inner x) t brings ≡ chained submodules k inner x
  unfolding within
  end_of-within zero inner x = refl
  end_of-within (suc k) inner x =
      end_of_cond (is_free (p.subs m) inner x) (strictly (import_by p m (λ y. within p m k (x ∷ inner) y)) (p.fold x))
      ∙ ap (λ o. cond (is_free (p.subs m) inner x) o None)
      (end_of_sub (λ y. within p m k (x ∷ inner) y) x
      ∙ ap (λ (f : ℕ → Option B). end_of (strict_fold p x) t (mixed f)) (fun_ext (λ y. end_of-within k (x ∷ inner) y)))

  end_of-sub_of : (inner : List ℕ) (x : ℕ) → end_of (sub_of p m inner x) t brings ≡ behind submodules inner x
  unfolding sub_of own_import
  end_of-sub_of inner x =
      end_of_sub (λ y. within p m (left (p.subs m) (x ∷ inner)) (x ∷ inner) y) x
      ∙ ap (λ (f : ℕ → Option B). end_of (strict_fold p x) t (mixed f)) (fun_ext (end_of-within (left (p.subs m) (x ∷ inner)) (x ∷ inner)))

  brought_within_is : brought_within p m t brings ≡ mixed (free submodules)
  unfolding brought_within own_import
  brought_within_is = fun_ext (λ y. ap (λ o. cond (p.top y == m) o (brings y)) (end_of-within (left (p.subs m) []) [] y))

  -- a submodule is its fold where each import of its module brings what it does with nothing being folded
  pub submodule_is_fold : (x : ℕ) → end_of (sub_of p m [] x) t brings ≡ end_of (strict_fold p x) t (brought_within p m t brings)
  submodule_is_fold x = end_of-sub_of [] x ∙ alone_is_body submodules x ∙ ap (end_of (strict_fold p x) t) (sym brought_within_is)

  comes_within : (inner : List ℕ) (x : ℕ) → LeadsWithin p m t brings inner x → Comes submodules inner x
  unfolding own_imports
  comes_within [] x h = tt
  comes_within (y ∷ inner) x h =
      (ap (λ (f : ℕ → Option B). is_in x (filter (λ z. p.top z == m) (met (strict_fold p y) t f))) (sym brought_within_is) ∙ h.0, comes_within inner y h.1)

  -- One outcome of a submodule: behind those that come to it, it comes to what it does by itself.
  pub one_outcome_within : (inner : List ℕ) (x : ℕ) → LeadsWithin p m t brings inner x → end_of (sub_of p m inner x) t brings ≡ end_of (sub_of p m [] x) t brings
  one_outcome_within inner x h = end_of-sub_of inner x ∙ one_outcome submodules inner x (comes_within inner x h) ∙ sym (end_of-sub_of [] x)

  -- A submodule that comes back to itself is Cyclic.
  pub comes_back_within : (inner : List ℕ) (x : ℕ) → LeadsWithin p m t brings inner x → is_in x inner ≡ true → end_of (sub_of p m [] x) t brings ≡ None
  comes_back_within inner x h here = end_of-sub_of [] x ∙ comes_back submodules inner x (comes_within inner x h) here

  -- what meets no Cyclic import behind some of them meets none by itself
  pub alone_within : (inner : List ℕ) (x : ℕ) (b : B) → end_of (sub_of p m inner x) t brings ≡ Some b → end_of (sub_of p m [] x) t brings ≡ Some b
  alone_within inner x b e =
      end_of-sub_of [] x ∙ alone_from submodules (left (p.subs m) (x ∷ inner)) x b (behind_deep submodules inner x b (sym (end_of-sub_of inner x) ∙ e))
