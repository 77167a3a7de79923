-- Modules as things in chains: what a module comes to behind each chain, what it asks there, and what is begun.
use Rattle.std.proofs.Common.{◌≡◌, ◌∙◌, refl, sym, ap, ℕ, zero, suc, ◌≤◌, Bool, true, false, cond, ◌==◌, ◌&&◌, List, [], ◌∷◌, ◌++◌, map, Option, Some, None, arith}
use Rattle.std.proofs.Math.Path.{fun_ext}
use Rattle.std.proofs.lemmas.Bool.{false_from_ne_true}
use Rattle.cm_outside.specs.declared.question.Question.{Question}
use Rattle.cm_outside.specs.declared.question.Answer.{Answer}
use Rattle.cm_outside.specs.Asks.{Asks, Done, Begin, value}
use Rattle.build_store.specs.Needs.{Needs, Ends, Imports, answered, end_of, met}
use Rattle.build_store.specs.Modules.{Plan, is_in, is_free, left, import_by, within, own_import, sub_of, in_turn, inside, import_of, import_in, mod_of, unit_of}
use Rattle.build_store.specs.Outcomes.{brought, imports, Leads}
use Rattle.build_store.proofs.ListLemmas.{some≢none, none_unless, cond_false, Every, every_of_map, every_to_map, free_parts, not_free, left_less, left_none_less, every_at, in_filter}
use Rattle.build_store.proofs.NeedLemmas.{value-answered, alike_needs, IsStrict, strict-then_needs, strict-strictly, strict_met}
use Rattle.build_store.proofs.Chains.{IsBrought, Web, chained, behind, free, alone_from, alone_is_body, behind_deep, one_outcome, comes_back, Comes}

-- ---- a module is strict

module _ {B : Type 0} (p : Plan B) where
  strict-import_by : (m : ℕ) (own : ℕ → Needs B (Option B)) → ((x : ℕ) → IsStrict (own x)) → (x : ℕ) → IsStrict (import_by p m own x)
  strict-import_by m own each x = by (p.top x == m)
    where
      by : (b : Bool) → IsStrict (cond b (own x) (Imports x (λ o. Ends o)))
      by true = each x
      by false = (refl, λ b. tt)

  strict_cond : (b : Bool) (n : Needs B (Option B)) → IsStrict n → IsStrict (cond b n (Ends None))
  strict_cond true n s = s
  strict_cond false n s = tt

  strict-within : (m k : ℕ) (inner : List ℕ) (x : ℕ) → IsStrict (within p m k inner x)
  unfolding within
  strict-within m zero inner x = tt
  strict-within m (suc k) inner x =
      strict_cond (is_free (p.subs m) inner x) _
      (strict-strictly (import_by p m (λ y. within p m k (x ∷ inner) y)) (strict-import_by m (λ y. within p m k (x ∷ inner) y) (λ y. strict-within m k (x ∷ inner) y)) (p.fold x))

  pub strict-sub_of : (m : ℕ) (inner : List ℕ) (x : ℕ) → IsStrict (sub_of p m inner x)
  unfolding sub_of own_import
  strict-sub_of m inner x =
      strict-strictly (import_by p m (own_import p m (x ∷ inner))) (strict-import_by m (own_import p m (x ∷ inner)) (λ y. strict-within m (left (p.subs m) (x ∷ inner)) (x ∷ inner) y)) (p.fold x)

  strict-in_turn : (sub : ℕ → Needs B (Option B)) → ((x : ℕ) → IsStrict (sub x)) → (done : List B) (xs : List ℕ) → IsStrict (in_turn sub p.together done xs)
  strict-in_turn sub each done [] = tt
  strict-in_turn sub each done (x ∷ xs) =
      strict-then_needs (sub x) (λ b. in_turn sub p.together (done ++ (b ∷ [])) xs) (each x) (λ b. strict-in_turn sub each (done ++ (b ∷ [])) xs)

  pub strict-inside : (m : ℕ) → IsStrict (inside p m)
  unfolding inside
  strict-inside m = strict-in_turn (sub_of p m []) (strict-sub_of m []) [] (p.subs m)

-- ---- the fuel is invisible

module _ {B : Type 0} (p : Plan B) where
  not_left : (chain : List ℕ) (x : ℕ) → left p.tops chain ≤ zero → is_free p.tops chain x ≡ false
  not_left chain x none =
      false_from_ne_true (is_free p.tops chain x) (λ e. let parts = free_parts p.tops chain x e in let less = left_less p.tops chain x parts.0 parts.1 in omega arith)

  pub enough : (k j : ℕ) (chain : List ℕ) (x : ℕ) → left p.tops chain ≤ k → left p.tops chain ≤ j → import_of p k chain x ≡ import_of p j chain x
  unfolding import_of
  enough zero zero chain x one other = refl
  enough zero (suc j) chain x one other = sym (cond_false (is_free p.tops chain (p.top x)) _ (Done None) (not_left chain (p.top x) one))
  enough (suc k) zero chain x one other = cond_false (is_free p.tops chain (p.top x)) _ (Done None) (not_left chain (p.top x) other)
  enough (suc k) (suc j) chain x one other = by (is_free p.tops chain (p.top x)) refl (λ y r s. enough k j (p.top x ∷ chain) y r s)
    where
      by : (b : Bool) → is_free p.tops chain (p.top x) ≡ b
          → ((y : ℕ) → left p.tops (p.top x ∷ chain) ≤ k → left p.tops (p.top x ∷ chain) ≤ j → import_of p k (p.top x ∷ chain) y ≡ import_of p j (p.top x ∷ chain) y)
          → cond b (Begin (p.top x) (answered (λ y. import_of p k (p.top x ∷ chain) y) (inside p (p.top x)))) (Done None)
          ≡ cond b (Begin (p.top x) (answered (λ y. import_of p j (p.top x ∷ chain) y) (inside p (p.top x)))) (Done None)
      by true is rest =
          let parts = free_parts p.tops chain (p.top x) is in
          let less = left_less p.tops chain (p.top x) parts.0 parts.1 in
          ap (λ (f : ℕ → Asks (Option B)). Begin (p.top x) (answered f (inside p (p.top x)))) (fun_ext (λ y. rest y (omega arith) (omega arith)))
      by false is rest = refl

  -- the fuel is invisible
  pub in_full : (k : ℕ) (chain : List ℕ) (x : ℕ) → left p.tops chain ≤ k → import_of p k chain x ≡ import_in p chain x
  unfolding import_in
  in_full k chain x room = enough k (left p.tops chain) chain x room (omega arith)

  -- an import is Cyclic where its module is not free, else it is the module behind the chain
  pub chain_rule : (chain : List ℕ) (x : ℕ) → import_in p chain x ≡ cond (is_free p.tops chain (p.top x)) (mod_of p chain (p.top x)) (Done None)
  unfolding import_of import_in mod_of
  chain_rule chain x =
      enough (left p.tops chain) (suc (left p.tops chain)) chain x (omega arith) (omega arith)
      ∙ ap (λ (f : ℕ → Asks (Option B)). cond (is_free p.tops chain (p.top x)) (Begin (p.top x) (answered f (inside p (p.top x)))) (Done None))
      (fun_ext (λ y. let less = left_none_less p.tops chain (p.top x) in enough (left p.tops chain) (left p.tops (p.top x ∷ chain)) (p.top x ∷ chain) y (omega arith) (omega arith)))

-- ---- modules as things in chains

module _ {B : Type 0} (p : Plan B) (t : Question → Answer) where
  abbrev pub modules : Web B
  modules = record {
    known = p.tops;
    body = λ m f. end_of (inside p m) t (λ x. f (p.top x));
    meets = λ m f. map p.top (met (inside p m) t (λ x. f (p.top x)));
    strict = λ m f e. every_to_map (λ y. IsBrought (f y)) p.top (met (inside p m) t (λ x. f (p.top x))) (strict_met (inside p m) (strict-inside p m) t (λ x. f (p.top x)) e);
    alike = λ m f g same. alike_modules m f g same;
  }
    where
      alike_modules : (m : ℕ) (f g : ℕ → Option B) → Every (λ y. g y ≡ f y) (map p.top (met (inside p m) t (λ x. f (p.top x))))
          → (end_of (inside p m) t (λ x. g (p.top x)) ≡ end_of (inside p m) t (λ x. f (p.top x)))
          × (map p.top (met (inside p m) t (λ x. g (p.top x))) ≡ map p.top (met (inside p m) t (λ x. f (p.top x))))
      alike_modules m f g same =
          let r = alike_needs (inside p m) t (λ x. f (p.top x)) (λ x. g (p.top x)) (every_of_map (λ y. g y ≡ f y) p.top (met (inside p m) t (λ x. f (p.top x))) same) in
          (r.0, ap (map p.top) r.1)

  value_cond : (b : Bool) (n : Asks (Option B)) → value (cond b n (Done None)) t ≡ cond b (value n t) None
  value_cond true n = refl
  value_cond false n = refl

  pub value-import_of : (k : ℕ) (chain : List ℕ) (x : ℕ) → value (import_of p k chain x) t ≡ chained modules k chain (p.top x)
  unfolding import_of
  value-import_of zero chain x = refl
  value-import_of (suc k) chain x =
      value_cond (is_free p.tops chain (p.top x)) (Begin (p.top x) (answered (λ y. import_of p k (p.top x ∷ chain) y) (inside p (p.top x))))
      ∙ ap (λ v. cond (is_free p.tops chain (p.top x)) v None)
      (value-answered (λ y. import_of p k (p.top x ∷ chain) y) (inside p (p.top x)) t
      ∙ ap (end_of (inside p (p.top x)) t) (fun_ext (λ y. value-import_of k (p.top x ∷ chain) y)))

  pub value-mod_of : (chain : List ℕ) (m : ℕ) → value (mod_of p chain m) t ≡ behind modules chain m
  unfolding mod_of import_in
  value-mod_of chain m =
      value-answered (import_in p (m ∷ chain)) (inside p m) t
      ∙ ap (end_of (inside p m) t) (fun_ext (λ y. value-import_of (left p.tops (m ∷ chain)) (m ∷ chain) y))

  pub brought_is : (x : ℕ) → brought p t x ≡ free modules (p.top x)
  unfolding brought import_in
  brought_is x = value-import_of (left p.tops []) [] x

  pub brought_all : brought p t ≡ (λ x. free modules (p.top x))
  brought_all = fun_ext brought_is

  -- a module is its fold where each import brings what it does with nothing in progress
  pub outcome_is_fold : (m : ℕ) → value (mod_of p [] m) t ≡ end_of (inside p m) t (brought p t)
  outcome_is_fold m = value-mod_of [] m ∙ alone_is_body modules m ∙ ap (end_of (inside p m) t) (sym brought_all)

  -- chains that come about do so as things do
  imports_meets : (m y : ℕ) → is_in y (imports p t m) ≡ true → is_in y (map p.top (met (inside p m) t (λ x. free modules (p.top x)))) ≡ true
  unfolding imports
  imports_meets m y e =
      ap (λ (f : ℕ → Option B). is_in y (map p.top (met (inside p m) t f))) (sym brought_all)
      ∙ (in_filter (λ z. is_in z p.tops) y (map p.top (met (inside p m) t (brought p t))) e).0

  pub comes : (chain : List ℕ) (m : ℕ) → Leads p t chain m → Comes modules chain m
  comes [] m h = tt
  comes (c ∷ chain) m h = (imports_meets c m h.0, comes chain c h.1)

  -- One outcome: behind a chain that comes to it a module comes to what it does with nothing in progress.
  pub one_outcome_of : (chain : List ℕ) (m : ℕ) → Leads p t chain m → value (mod_of p chain m) t ≡ value (mod_of p [] m) t
  one_outcome_of chain m h = value-mod_of chain m ∙ one_outcome modules chain m (comes chain m h) ∙ sym (value-mod_of [] m)

  -- A module that comes back to itself is Cyclic.
  pub comes_back_of : (chain : List ℕ) (m : ℕ) → Leads p t chain m → is_in m chain ≡ true → value (mod_of p [] m) t ≡ None
  comes_back_of chain m h here = value-mod_of [] m ∙ comes_back modules chain m (comes chain m h) here

  -- what is not Cyclic behind some chain is so with nothing in progress
  pub alone_too : (chain : List ℕ) (m : ℕ) (b : B) → value (mod_of p chain m) t ≡ Some b → value (mod_of p [] m) t ≡ Some b
  alone_too chain m b e =
      value-mod_of [] m ∙ alone_from modules (left p.tops (m ∷ chain)) m b (behind_deep modules chain m b (sym (value-mod_of chain m) ∙ e))

  -- ---- units, and imports that bring nothing

  pub unit_is_fold : {A : Type 0} (fold : Needs B A) → value (unit_of p fold) t ≡ end_of fold t (brought p t)
  unfolding unit_of brought
  unit_is_fold fold = value-answered (import_in p []) fold t

  pub brought_rule : (x : ℕ) → brought p t x ≡ cond (is_in (p.top x) p.tops) (value (mod_of p [] (p.top x)) t) None
  unfolding brought
  brought_rule x =
      ap (λ n. value n t) (chain_rule p [] x) ∙ value_cond (is_free p.tops [] (p.top x)) (mod_of p [] (p.top x))
      ∙ ap (λ c. cond c (value (mod_of p [] (p.top x)) t) None) (and_true (is_in (p.top x) p.tops))
    where
      and_true : (c : Bool) → (c && true) ≡ c
      and_true true = refl
      and_true false = refl

  -- an import of what is in progress is Cyclic
  pub busy_none : (chain : List ℕ) (x : ℕ) → is_in (p.top x) chain ≡ true → import_in p chain x ≡ Done None
  busy_none chain x here = chain_rule p chain x ∙ cond_false (is_free p.tops chain (p.top x)) (mod_of p chain (p.top x)) (Done None) (not_free p.tops chain (p.top x) here)

  -- a module that meets a Cyclic import is Cyclic
  inside_none : (m : ℕ) (f : ℕ → Option B) (x : ℕ) → is_in x (met (inside p m) t f) ≡ true → f x ≡ None → end_of (inside p m) t f ≡ None
  inside_none m f x e is =
      none_unless (end_of (inside p m) t f)
      (λ b h. let s = every_at (λ y. IsBrought (f y)) (met (inside p m) t f) (strict_met (inside p m) (strict-inside p m) t f (b, h)) x e in some≢none (sym s.1 ∙ is))

  pub passes_on : (m x : ℕ) → is_in x (met (inside p m) t (brought p t)) ≡ true → brought p t x ≡ None → value (mod_of p [] m) t ≡ None
  passes_on m x e is = outcome_is_fold m ∙ inside_none m (brought p t) x e is

  pub comes_back_at : (chain : List ℕ) (m x : ℕ) → is_in x (met (inside p m) t (λ y. value (import_in p (m ∷ chain) y) t)) ≡ true → is_in (p.top x) (m ∷ chain) ≡ true
      → value (mod_of p chain m) t ≡ None
  unfolding mod_of
  comes_back_at chain m x e here =
      value-answered (import_in p (m ∷ chain)) (inside p m) t
      ∙ inside_none m (λ y. value (import_in p (m ∷ chain) y) t) x e (ap (λ n. value n t) (busy_none (m ∷ chain) x here))
