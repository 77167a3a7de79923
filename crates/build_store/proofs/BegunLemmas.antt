-- What is begun in a module: what it imports and what is begun there; and that it adds nothing to a list which has with each
-- module what that one imports.
use Rattle.std.proofs.Common.{◌≡◌, ◌∙◌, refl, sym, ap, subst, ℕ, zero, suc, ◌≤◌, Bool, true, false, cond, ◌⊎◌, inl, inr, List, [], ◌∷◌, ◌++◌, map, Option, Some, None, arith, true≢false, append_assoc}
use Rattle.cm_outside.specs.declared.question.Question.{Question}
use Rattle.cm_outside.specs.declared.question.Answer.{Answer}
use Rattle.cm_outside.specs.Asks.{Asks, Done, Begin, value, begun}
use Rattle.build_store.specs.Needs.{Needs, Ends, Puts, Imports, answered, met}
use Rattle.build_store.specs.Modules.{Plan, is_in, is_free, left, inside, import_of, import_in, mod_of, unit_of}
use Rattle.build_store.specs.Order.{new_of, with_new}
use Rattle.build_store.specs.Outcomes.{brought, imports, Leads, IsClosed}
use Rattle.build_store.proofs.ListLemmas.{cond_true, cond_false, Every, every_map, every_append, every_in, in_head, in_tail, in_cases, in_append, in_append_left, in_append_right, in_filter, in_filter_of, free_parts, free_from, left_less, not_free, unknown_free}
use Rattle.build_store.proofs.NeedLemmas.{alike_needs, begun-answered, begun_by, IsStrict}
use Rattle.build_store.proofs.Chains.{chained_free}
use Rattle.build_store.proofs.ModuleLemmas.{strict-inside, modules, value-import_of, brought_is, chain_rule, in_full, one_outcome_of, comes_back_of}

-- nothing is new in a list whose members were seen
pub nothing_new : (seen ms : List ℕ) → Every (λ m. is_in m seen ≡ true) ms → new_of seen ms ≡ []
nothing_new seen [] h = refl
nothing_new seen (m ∷ ms) h = cond_true (is_in m seen) (new_of seen ms) (m ∷ new_of (seen ++ (m ∷ [])) ms) h.0 ∙ nothing_new seen ms h.1

every_begun_by : (P : ℕ → Type 0) (begins : ℕ → List ℕ) (xs : List ℕ) → Every (λ x. Every P (begins x)) xs → Every P (begun_by begins xs)
every_begun_by P begins [] h = tt
every_begun_by P begins (x ∷ xs) h = every_append P (begins x) (begun_by begins xs) h.0 (every_begun_by P begins xs h.1)

new_in_at : (seen : List ℕ) (m : ℕ) (ms : List ℕ) (x : ℕ) → (is_in x (new_of seen ms) ≡ true → is_in x ms ≡ true)
    → (is_in x (new_of (seen ++ (m ∷ [])) ms) ≡ true → is_in x ms ≡ true) → (b : Bool) → is_in x (cond b (new_of seen ms) (m ∷ new_of (seen ++ (m ∷ [])) ms)) ≡ true
    → is_in x (m ∷ ms) ≡ true
new_in_at seen m ms x old new true e = in_tail x m ms (old e)
new_in_at seen m ms x old new false e =
    elim (in_cases x m (new_of (seen ++ (m ∷ [])) ms) e) [ inl same ↦ (ap (λ y. is_in y (m ∷ ms)) same ∙ in_head m ms) | inr more ↦ in_tail x m ms (new more) ]

with_new_has_at : (seen : List ℕ) (m : ℕ) (ms : List ℕ) (x : ℕ) → (is_in x ms ≡ true → is_in x (with_new seen ms) ≡ true)
    → (is_in x ms ≡ true → is_in x (with_new (seen ++ (m ∷ [])) ms) ≡ true) → (b : Bool) → is_in m seen ≡ b → (x ≡ m) ⊎ (is_in x ms ≡ true)
    → is_in x (seen ++ cond b (new_of seen ms) (m ∷ new_of (seen ++ (m ∷ [])) ms)) ≡ true
with_new_has_at seen m ms x old new true is (inl same) = in_append_left x seen (new_of seen ms) (ap (λ y. is_in y seen) same ∙ is)
with_new_has_at seen m ms x old new true is (inr more) = old more
with_new_has_at seen m ms x old new false is (inl same) =
    in_append_right x seen (m ∷ new_of (seen ++ (m ∷ [])) ms) (ap (λ y. is_in y (m ∷ new_of (seen ++ (m ∷ [])) ms)) same ∙ in_head m (new_of (seen ++ (m ∷ [])) ms))
with_new_has_at seen m ms x old new false is (inr more) =
    sym (ap (is_in x) (append_assoc seen (m ∷ []) (new_of (seen ++ (m ∷ [])) ms))) ∙ new more

-- the new ones are of the list, and with the seen ones they have all of it
new_in : (seen ms : List ℕ) (x : ℕ) → is_in x (new_of seen ms) ≡ true → is_in x ms ≡ true
new_in seen [] x e = e
new_in seen (m ∷ ms) x e = new_in_at seen m ms x (new_in seen ms x) (new_in (seen ++ (m ∷ [])) ms x) (is_in m seen) e

pub with_new_has : (seen ms : List ℕ) (x : ℕ) → is_in x ms ≡ true → is_in x (with_new seen ms) ≡ true
with_new_has seen [] x e = absurd (true≢false (sym e))
with_new_has seen (m ∷ ms) x e =
    with_new_has_at seen m ms x (with_new_has seen ms x) (with_new_has (seen ++ (m ∷ [])) ms x) (is_in m seen) refl (in_cases x m ms e)

module _ {B : Type 0} where
  -- a strict fold comes to no further than with imports that bring as much or more
  every_met : (P : ℕ → Type 0) (n : Needs B (Option B)) → IsStrict n → (t : Question → Answer) (f g : ℕ → Option B) → ((x : ℕ) (b : B) → f x ≡ Some b → g x ≡ Some b)
      → Every P (met n t g) → Every P (met n t f)
  every_met P (Ends a) s t f g more h = tt
  every_met P (Puts q next) s t f g more h = every_met P (next (t q)) (s (t q)) t f g more h
  every_met P (Imports x next) s t f g more h = (h.0, by (f x) refl (λ b. every_met P (next (Some b)) (s.1 b) t f g more))
    where
      by : (o : Option B) → f x ≡ o → ((b : B) → Every P (met (next (Some b)) t g) → Every P (met (next (Some b)) t f)) → Every P (met (next o) t f)
      by None is rest = let Q : Needs B (Option B) → Type 0 = λ n. Every P (met n t f) in subst Q (sym s.0) tt
      by (Some b) is rest = let Q : Option B → Type 0 = λ o. Every P (met (next o) t g) in rest b (subst Q (more x b is) h.1)

in_map : (f : ℕ → ℕ) (x : ℕ) (xs : List ℕ) → is_in x xs ≡ true → is_in (f x) (map f xs) ≡ true
in_map f x [] e = absurd (true≢false (sym e))
in_map f x (y ∷ ys) e =
    elim (in_cases x y ys e) [
      | inl same ↦ (let P : ℕ → Type 0 = λ z. is_in (f x) (f z ∷ map f ys) ≡ true in subst P same (in_head (f x) (map f ys)))
      | inr more ↦ in_tail (f x) (f y) (map f ys) (in_map f x ys more)
    ]

in_map_from : (f : ℕ → ℕ) (z : ℕ) (xs : List ℕ) → is_in z (map f xs) ≡ true → (x : ℕ) × (is_in x xs ≡ true) × (z ≡ f x)
in_map_from f z [] e = absurd (true≢false (sym e))
in_map_from f z (y ∷ ys) e =
    elim (in_cases z (f y) (map f ys) e) [
      | inl same ↦ (y, in_head y ys, same)
      | inr more ↦ (let r = in_map_from f z ys more in (r.0, in_tail r.0 y ys r.1, r.2))
    ]

in_begun_by : (begins : ℕ → List ℕ) (z x : ℕ) (xs : List ℕ) → is_in x xs ≡ true → is_in z (begins x) ≡ true → is_in z (begun_by begins xs) ≡ true
in_begun_by begins z x [] e h = absurd (true≢false (sym e))
in_begun_by begins z x (y ∷ ys) e h =
    elim (in_cases x y ys e) [
      | inl same ↦ in_append_left z (begins y) (begun_by begins ys) (ap (λ w. is_in z (begins w)) (sym same) ∙ h)
      | inr more ↦ in_append_right z (begins y) (begun_by begins ys) (in_begun_by begins z x ys more h)
    ]

in_begun_by_from : (begins : ℕ → List ℕ) (z : ℕ) (xs : List ℕ) → is_in z (begun_by begins xs) ≡ true → (x : ℕ) × (is_in x xs ≡ true) × (is_in z (begins x) ≡ true)
in_begun_by_from begins z [] e = absurd (true≢false (sym e))
in_begun_by_from begins z (y ∷ ys) e =
    elim (in_append z (begins y) (begun_by begins ys) e) [
      | inl here ↦ (y, in_head y ys, here)
      | inr there ↦ (let r = in_begun_by_from begins z ys there in (r.0, in_tail r.0 y ys r.1, r.2))
    ]

module _ {B : Type 0} (p : Plan B) (t : Question → Answer) where
  pub imports_from : (m x : ℕ) → is_in x (met (inside p m) t (brought p t)) ≡ true → is_in (p.top x) p.tops ≡ true → is_in (p.top x) (imports p t m) ≡ true
  unfolding imports
  imports_from m x e known =
      in_filter_of (λ y. is_in y p.tops) (p.top x) (map p.top (met (inside p m) t (brought p t))) (in_map p.top x (met (inside p m) t (brought p t)) e) known

  pub imports_to : (m z : ℕ) → is_in z (imports p t m) ≡ true → (x : ℕ) × (is_in x (met (inside p m) t (brought p t)) ≡ true) × (z ≡ p.top x) × (is_in z p.tops ≡ true)
  unfolding imports
  imports_to m z e =
      let parts = in_filter (λ y. is_in y p.tops) z (map p.top (met (inside p m) t (brought p t))) e in
      let r = in_map_from p.top z (met (inside p m) t (brought p t)) parts.0 in
      (r.0, r.1, r.2, parts.1)

  brings_more : (k : ℕ) (chain : List ℕ) (x : ℕ) (b : B) → value (import_of p k chain x) t ≡ Some b → brought p t x ≡ Some b
  brings_more k chain x b e = brought_is p t x ∙ chained_free (modules p t) k chain (p.top x) b (sym (value-import_of p t k chain x) ∙ e)

  -- ---- nothing new

  abbrev Seen : List ℕ → ℕ → Type 0
  Seen seen x = is_in (p.top x) p.tops ≡ true → is_in (p.top x) seen ≡ true

  abbrev Within : List ℕ → List ℕ → Type 0
  Within seen ms = Every (λ y. is_in y seen ≡ true) ms

  inside_within : (seen : List ℕ) → IsClosed p t seen → (m : ℕ) → is_in m seen ≡ true → (import : ℕ → Asks (Option B))
      → ((x : ℕ) (b : B) → value (import x) t ≡ Some b → brought p t x ≡ Some b) → ((x : ℕ) → Seen seen x → Within seen (begun (import x) t))
      → Within seen (begun (answered import (inside p m)) t)
  inside_within seen closed m here import more each =
      let P : List ℕ → Type 0 = Within seen in
      let met_here = met (inside p m) t (λ x. value (import x) t) in
      let all_seen : Every (Seen seen) (met (inside p m) t (brought p t)) =
      every_in (Seen seen) (met (inside p m) t (brought p t)) (λ x e known. closed.closed m (p.top x) here (imports_from m x e known)) in
      subst P (sym (begun-answered import (inside p m) t))
      (every_begun_by (λ y. is_in y seen ≡ true) (λ x. begun (import x) t) met_here
      (every_map (Seen seen) (λ x. Within seen (begun (import x) t)) each met_here
      (every_met (Seen seen) (inside p m) (strict-inside p m) t (λ x. value (import x) t) (brought p t) more all_seen)))

  pub import_within : (seen : List ℕ) → IsClosed p t seen → (k : ℕ) (chain : List ℕ) (x : ℕ) → Seen seen x → Within seen (begun (import_of p k chain x) t)
  unfolding import_of
  import_within seen closed zero chain x h = tt
  import_within seen closed (suc k) chain x h =
      by (is_free p.tops chain (p.top x)) refl (λ y s. import_within seen closed k (p.top x ∷ chain) y s)
    where
      by : (b : Bool) → is_free p.tops chain (p.top x) ≡ b → ((y : ℕ) → Seen seen y → Within seen (begun (import_of p k (p.top x ∷ chain) y) t))
          → Within seen (begun (cond b (Begin (p.top x) (answered (λ y. import_of p k (p.top x ∷ chain) y) (inside p (p.top x)))) (Done None)) t)
      by true is rest =
          let here = h (free_parts p.tops chain (p.top x) is).0 in
          (here, inside_within seen closed (p.top x) here (λ y. import_of p k (p.top x ∷ chain) y) (brings_more k (p.top x ∷ chain)) rest)
      by false is rest = tt

  -- One outcome, the other half: a module that was seen begins only what was seen, behind every chain.
  pub mod_within : (seen : List ℕ) → IsClosed p t seen → (chain : List ℕ) (m : ℕ) → is_in m seen ≡ true → Within seen (begun (mod_of p chain m) t)
  unfolding mod_of import_in
  mod_within seen closed chain m here = (
    here,
    inside_within seen closed m here (λ y. import_of p (left p.tops (m ∷ chain)) (m ∷ chain) y) (brings_more (left p.tops (m ∷ chain)) (m ∷ chain))
        (import_within seen closed (left p.tops (m ∷ chain)) (m ∷ chain)),
  )

  pub mod_nothing_new : (seen : List ℕ) → IsClosed p t seen → (chain : List ℕ) (m : ℕ) → is_in m seen ≡ true → new_of seen (begun (mod_of p chain m) t) ≡ []
  mod_nothing_new seen closed chain m here = nothing_new seen (begun (mod_of p chain m) t) (mod_within seen closed chain m here)

  -- ---- behind its importers

  value_when : (c : Bool) (n : Asks (Option B)) → c ≡ true → value (cond c n (Done None)) t ≡ value n t
  value_when true n e = refl
  value_when false n e = absurd (true≢false (sym e))

  value_unless : (c : Bool) (n : Asks (Option B)) → c ≡ false → value (cond c n (Done None)) t ≡ None
  value_unless true n e = absurd (true≢false e)
  value_unless false n e = refl

  -- behind its importers an import brings what it brings with nothing in progress
  pub through : (chain : List ℕ) (m : ℕ) → Leads p t chain m → (x : ℕ) → is_in x (met (inside p m) t (brought p t)) ≡ true
      → value (import_in p (m ∷ chain) x) t ≡ brought p t x
  unfolding brought
  through chain m leads x e = by (is_in (p.top x) p.tops) refl
    where
      busy : List ℕ
      busy = m ∷ chain

      behind_is : value (import_in p busy x) t ≡ value (cond (is_free p.tops busy (p.top x)) (mod_of p busy (p.top x)) (Done None)) t
      behind_is = ap (λ n. value n t) (chain_rule p busy x)

      alone_is : value (import_in p [] x) t ≡ value (cond (is_free p.tops [] (p.top x)) (mod_of p [] (p.top x)) (Done None)) t
      alone_is = ap (λ n. value n t) (chain_rule p [] x)

      at : is_in (p.top x) p.tops ≡ true → (c : Bool) → is_in (p.top x) busy ≡ c → value (import_in p busy x) t ≡ value (import_in p [] x) t
      at known true here =
          behind_is ∙ value_unless (is_free p.tops busy (p.top x)) (mod_of p busy (p.top x)) (not_free p.tops busy (p.top x) here)
          ∙ sym (comes_back_of p t busy (p.top x) (imports_from m x e known, leads) here)
          ∙ sym (value_when (is_free p.tops [] (p.top x)) (mod_of p [] (p.top x)) (free_from p.tops [] (p.top x) known refl)) ∙ sym alone_is
      at known false away =
          behind_is ∙ value_when (is_free p.tops busy (p.top x)) (mod_of p busy (p.top x)) (free_from p.tops busy (p.top x) known away)
          ∙ one_outcome_of p t busy (p.top x) (imports_from m x e known, leads)
          ∙ sym (value_when (is_free p.tops [] (p.top x)) (mod_of p [] (p.top x)) (free_from p.tops [] (p.top x) known refl)) ∙ sym alone_is

      by : (c : Bool) → is_in (p.top x) p.tops ≡ c → value (import_in p busy x) t ≡ value (import_in p [] x) t
      by true known = at known (is_in (p.top x) busy) refl
      by false unknown =
          behind_is ∙ value_unless (is_free p.tops busy (p.top x)) (mod_of p busy (p.top x)) (unknown_free p.tops busy (p.top x) unknown)
          ∙ sym (value_unless (is_free p.tops [] (p.top x)) (mod_of p [] (p.top x)) (unknown_free p.tops [] (p.top x) unknown)) ∙ sym alone_is

  -- ---- what is begun has what it imports

  abbrev Has : List ℕ → List ℕ → Type 0
  Has ms chain = (y z : ℕ) → is_in y ms ≡ true → is_in z (imports p t y) ≡ true → (is_in z ms ≡ true) ⊎ (is_in z chain ≡ true)

  -- what an import of `x` is to be for `inside_has`
  record IsImport (busy : List ℕ) (x : ℕ) (n : Asks (Option B)) : Type 0 where
    has : Leads p t busy (p.top x) → Has (begun n t) busy
    starts : is_free p.tops busy (p.top x) ≡ true → is_in (p.top x) (begun n t) ≡ true
    quiet : is_in (p.top x) p.tops ≡ false → begun n t ≡ []

  inside_has : (chain : List ℕ) (m : ℕ) → Leads p t chain m → (import : ℕ → Asks (Option B)) → ((x : ℕ) → value (import x) t ≡ value (import_in p (m ∷ chain) x) t)
      → ((x : ℕ) → IsImport (m ∷ chain) x (import x)) → Has (m ∷ begun (answered import (inside p m)) t) chain
  inside_has chain m leads import same each y z here e =
      elim (in_cases y m bs here) [ inl is ↦ own (ap (λ w. is_in z (imports p t w)) (sym is) ∙ e) | inr old ↦ further old ]
    where
      f : ℕ → Option B
      f = λ x. value (import x) t

      bs : List ℕ
      bs = begun (answered import (inside p m)) t

      alone : List ℕ
      alone = met (inside p m) t (brought p t)

      met_is : met (inside p m) t f ≡ alone
      met_is = (alike_needs (inside p m) t (brought p t) f (every_in (λ x. f x ≡ brought p t x) alone (λ x h. same x ∙ through chain m leads x h))).1

      bs_is : bs ≡ begun_by (λ x. begun (import x) t) alone
      bs_is = begun-answered import (inside p m) t ∙ ap (begun_by (λ x. begun (import x) t)) met_is

      inner : (x : ℕ) → is_in x alone ≡ true → is_in z (begun (import x) t) ≡ true → is_in z bs ≡ true
      inner x h r = ap (is_in z) bs_is ∙ in_begun_by (λ w. begun (import w) t) z x alone h r

      busy_or : is_in z (m ∷ chain) ≡ true → (is_in z (m ∷ bs) ≡ true) ⊎ (is_in z chain ≡ true)
      busy_or h = elim (in_cases z m chain h) [ inl is ↦ inl (ap (λ w. is_in w (m ∷ bs)) is ∙ in_head m bs) | inr old ↦ inr old ]

      own_at : (x : ℕ) → is_in x alone ≡ true → z ≡ p.top x → is_in z p.tops ≡ true → (c : Bool) → is_in z (m ∷ chain) ≡ c → (is_in z (m ∷ bs) ≡ true) ⊎ (is_in z chain ≡ true)
      own_at x h is known true busy = busy_or busy
      own_at x h is known false away =
          let P : ℕ → Type 0 = λ w. is_free p.tops (m ∷ chain) w ≡ true in
          inl (in_tail z m bs (inner x h (ap (λ w. is_in w (begun (import x) t)) is ∙ (each x).starts (subst P is (free_from p.tops (m ∷ chain) z known away)))))

      own : is_in z (imports p t m) ≡ true → (is_in z (m ∷ bs) ≡ true) ⊎ (is_in z chain ≡ true)
      own h = let r = imports_to m z h in own_at r.0 r.1 r.2 r.3 (is_in z (m ∷ chain)) refl

      further_at : (x : ℕ) → is_in x alone ≡ true → is_in y (begun (import x) t) ≡ true → (c : Bool) → is_in (p.top x) p.tops ≡ c → (is_in z (m ∷ bs) ≡ true) ⊎ (is_in z chain ≡ true)
      further_at x h r true known =
          elim ((each x).has (imports_from m x h known, leads) y z r e) [ inl more ↦ inl (in_tail z m bs (inner x h more)) | inr busy ↦ busy_or busy ]
      further_at x h r false unknown = absurd (true≢false (sym r ∙ ap (is_in y) ((each x).quiet unknown)))

      further : is_in y bs ≡ true → (is_in z (m ∷ bs) ≡ true) ⊎ (is_in z chain ≡ true)
      further h =
          let r = in_begun_by_from (λ w. begun (import w) t) y alone (sym (ap (is_in y) bs_is) ∙ h) in
          further_at r.0 r.1 r.2 (is_in (p.top r.0) p.tops) refl

  starts_in : (chain : List ℕ) (x : ℕ) → is_free p.tops chain (p.top x) ≡ true → is_in (p.top x) (begun (import_in p chain x) t) ≡ true
  unfolding mod_of
  starts_in chain x e =
      ap (λ n. is_in (p.top x) (begun n t)) (chain_rule p chain x ∙ cond_true (is_free p.tops chain (p.top x)) (mod_of p chain (p.top x)) (Done None) e)
      ∙ in_head (p.top x) (begun (answered (import_in p (p.top x ∷ chain)) (inside p (p.top x))) t)

  quiet_in : (chain : List ℕ) (x : ℕ) → is_in (p.top x) p.tops ≡ false → begun (import_in p chain x) t ≡ []
  quiet_in chain x e =
      ap (λ n. begun n t) (chain_rule p chain x ∙ cond_false (is_free p.tops chain (p.top x)) (mod_of p chain (p.top x)) (Done None) (unknown_free p.tops chain (p.top x) e))

  import_has : (k : ℕ) (chain : List ℕ) (x : ℕ) → left p.tops chain ≤ k → Leads p t chain (p.top x) → Has (begun (import_of p k chain x) t) chain
  unfolding import_of
  import_has zero chain x room leads y z here e = absurd (true≢false (sym here))
  import_has (suc k) chain x room leads y z here e =
      by (is_free p.tops chain (p.top x)) refl (λ w r h. import_has k (p.top x ∷ chain) w r h) here
    where
      m : ℕ
      m = p.top x

      by : (b : Bool) → is_free p.tops chain m ≡ b → ((w : ℕ) → left p.tops (m ∷ chain) ≤ k → Leads p t (m ∷ chain) (p.top w) → Has (begun (import_of p k (m ∷ chain) w) t) (m ∷ chain))
          → is_in y (begun (cond b (Begin m (answered (λ w. import_of p k (m ∷ chain) w) (inside p m))) (Done None)) t) ≡ true
          → (is_in z (begun (cond b (Begin m (answered (λ w. import_of p k (m ∷ chain) w) (inside p m))) (Done None)) t) ≡ true) ⊎ (is_in z chain ≡ true)
      by false is rest h = absurd (true≢false (sym h))
      by true is rest h =
          let parts = free_parts p.tops chain m is in
          let less = left_less p.tops chain m parts.0 parts.1 in
          let room_in : left p.tops (m ∷ chain) ≤ k = omega arith in
          let same : (w : ℕ) → import_of p k (m ∷ chain) w ≡ import_in p (m ∷ chain) w = λ w. in_full p k (m ∷ chain) w room_in in
          inside_has chain m leads (λ w. import_of p k (m ∷ chain) w) (λ w. ap (λ n. value n t) (same w))
          (λ w. record {
            has = rest w room_in;
            starts = λ f. ap (λ n. is_in (p.top w) (begun n t)) (same w) ∙ starts_in (m ∷ chain) w f;
            quiet = λ u. ap (λ n. begun n t) (same w) ∙ quiet_in (m ∷ chain) w u;
          })
          y z h e

  pub mod_has : (chain : List ℕ) (m : ℕ) → Leads p t chain m → Has (begun (mod_of p chain m) t) chain
  unfolding mod_of import_in
  mod_has chain m leads =
      inside_has chain m leads (import_in p (m ∷ chain)) (λ x. refl)
      (λ x. record { has = import_has (left p.tops (m ∷ chain)) (m ∷ chain) x (omega arith); starts = starts_in (m ∷ chain) x; quiet = quiet_in (m ∷ chain) x })

  -- What is begun in a module has with each module what that one imports.
  pub begun_closed : (m : ℕ) → IsClosed p t (begun (mod_of p [] m) t)
  begun_closed m = record { closed = λ y z here e. elim (mod_has [] m tt y z here e) [ inl more ↦ more | inr nothing ↦ absurd (true≢false (sym nothing)) ] }

  -- ---- units, and lists of lists

  -- each of the first has its imports in the second
  abbrev HasIn : List ℕ → List ℕ → Type 0
  HasIn ms all = (y z : ℕ) → is_in y ms ≡ true → is_in z (imports p t y) ≡ true → is_in z all ≡ true

  import_closed : (x : ℕ) → IsClosed p t (begun (import_in p [] x) t)
  import_closed x = by (is_free p.tops [] (p.top x)) (chain_rule p [] x)
    where
      by : (c : Bool) → import_in p [] x ≡ cond c (mod_of p [] (p.top x)) (Done None) → IsClosed p t (begun (import_in p [] x) t)
      by true is = let P : Asks (Option B) → Type 0 = λ n. IsClosed p t (begun n t) in subst P (sym is) (begun_closed (p.top x))
      by false is =
          let P : Asks (Option B) → Type 0 = λ n. IsClosed p t (begun n t) in
          let none : IsClosed p t [] = record { closed = λ y z here e. absurd (true≢false (sym here)) } in
          subst P (sym is) none

  -- What is begun in a unit has with each module what that one imports.
  pub unit_closed : {A : Type 0} (fold : Needs B A) → IsClosed p t (begun (unit_of p fold) t)
  unfolding unit_of
  unit_closed fold = record { closed = closed_at }
    where
      begins : ℕ → List ℕ
      begins = λ x. begun (import_in p [] x) t

      xs : List ℕ
      xs = met fold t (λ x. value (import_in p [] x) t)

      is : begun (answered (import_in p []) fold) t ≡ begun_by begins xs
      is = begun-answered (import_in p []) fold t

      closed_at : HasIn (begun (answered (import_in p []) fold) t) (begun (answered (import_in p []) fold) t)
      closed_at y z here e =
          let r = in_begun_by_from begins y xs (sym (ap (is_in y) is) ∙ here) in
          ap (is_in z) is ∙ in_begun_by begins z r.0 xs r.1 ((import_closed r.0).closed y z r.2 e)

  in_with_new : (seen ms : List ℕ) (x : ℕ) → is_in x (with_new seen ms) ≡ true → (is_in x seen ≡ true) ⊎ (is_in x ms ≡ true)
  in_with_new seen ms x e = elim (in_append x seen (new_of seen ms) e) [ inl old ↦ inl old | inr new ↦ inr (new_in seen ms x new) ]

  -- and so has what was seen with that behind it
  pub with_new_closed : (seen ms : List ℕ) → IsClosed p t seen → IsClosed p t ms → IsClosed p t (with_new seen ms)
  with_new_closed seen ms h g = record { closed = λ y z here e. elim (in_with_new seen ms y here) [ inl old ↦ in_append_left z seen (new_of seen ms) (h.closed y z old e) | inr new ↦ with_new_has seen ms z (g.closed y z new e) ] }
