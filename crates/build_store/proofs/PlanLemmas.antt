-- The plan of a job's modules: every import names one of its modules, and so does all that begins; what a module comes to where
-- none of its imports is Cyclic.
use Rattle.std.proofs.Common.{◌≡◌, ◌∙◌, refl, sym, ap, subst, ℕ, zero, suc, ◌+◌, ◌<◌, ◌≤◌, Bool, true, false, cond, List, [], ◌∷◌, ◌++◌, length, drop, Option, Some, None, inl, inr, arith, true≢false}
use Rattle.std.specs.List.{range_with_len}
use Rattle.std.specs.Option.{is_some}
use Rattle.std.proofs.lemmas.Bool.{cases_eq}
use Rattle.cm_outside.specs.declared.question.Question.{Question}
use Rattle.cm_outside.specs.declared.question.Answer.{Answer}
use Rattle.cm_outside.specs.Asks.{Asks, Done, Begin, value, begun, begun-then_ask}
use Rattle.build_store.specs.Needs.{Needs, Ends, Puts, Imports, or_cyclic, strictly, answered, end_of, met}
use Rattle.build_store.specs.Memo.{IsNamed}
use Rattle.build_store.specs.Modules.{Plan, is_in, is_free, left, inside, import_of, import_in, mod_of}
use Rattle.build_store.specs.Order.{new_of, needs_of}
use Rattle.build_store.specs.Owners.{Setting, plan_of, module_needs}
use Rattle.build_store.specs.Parts.{Fragment}
use Rattle.build_store.proofs.ListLemmas.{Every, every_at, every_append, in_head, in_tail, in_cases, free_parts}
use Rattle.build_store.proofs.OwnerLemmas.{EachImport, IsOther_of, every_met_import, module_imports, inside_is}

-- ---- the numbers of a plan

in_range_from : (a n x : ℕ) → a ≤ x → x < a + n → is_in x (range_with_len a n) ≡ true
in_range_from a zero x low high = absurd (omega arith)
in_range_from a (suc n) x low high =
    elim (cases_eq x a) [
      | inl same ↦ (let P : ℕ → Type 0 = λ y. is_in y (a ∷ range_with_len (a + 1) n) ≡ true in subst P (sym same) (in_head a (range_with_len (a + 1) n)))
      | inr apart ↦ (let above : a + 1 ≤ x = omega arith in in_tail x a (range_with_len (a + 1) n) (in_range_from (a + 1) n x above (omega arith)))
    ]

pub in_range : (n x : ℕ) → x < n → is_in x (range_with_len 0 n) ≡ true
in_range n x high = in_range_from 0 n x (omega arith) (omega arith)

of_range_from : (a n x : ℕ) → is_in x (range_with_len a n) ≡ true → x < a + n
of_range_from a zero x e = absurd (true≢false (sym e))
of_range_from a (suc n) x e =
    elim (in_cases x a (range_with_len (a + 1) n) e) [
      | inl same ↦ omega arith
      | inr more ↦ (let h : x < (a + 1) + n = of_range_from (a + 1) n x more in omega arith)
    ]

pub of_range : (n x : ℕ) → is_in x (range_with_len 0 n) ≡ true → x < n
of_range n x e = let h : x < 0 + n = of_range_from 0 n x e in omega arith

-- ---- what holds of each new one

every_new : (P : ℕ → Type 0) (seen ms : List ℕ) → Every P ms → Every P (new_of seen ms)
every_new P seen [] h = tt
every_new P seen (m ∷ ms) h = by (is_in m seen) (every_new P seen ms h.1) (every_new P (seen ++ (m ∷ [])) ms h.1)
  where
    by : (b : Bool) → Every P (new_of seen ms) → Every P (new_of (seen ++ (m ∷ [])) ms) → Every P (cond b (new_of seen ms) (m ∷ new_of (seen ++ (m ∷ [])) ms))
    by true old new = old
    by false old new = (h.0, new)

every_rest : (P : ℕ → Type 0) (ms : List ℕ) → Every P ms → Every P (drop 1 ms)
every_rest P [] h = tt
every_rest P (m ∷ ms) h = h.1

-- ---- what begins is of the plan

begun_answered : {B A : Type 0} (P : ℕ → Type 0) (t : Question → Answer) (import : ℕ → Asks (Option B)) → ((x : ℕ) → Every P (begun (import x) t)) → (n : Needs B A)
    → Every P (begun (answered import n) t)
begun_answered P t import each (Ends a) = tt
begun_answered P t import each (Puts q next) = begun_answered P t import each (next (t q))
begun_answered P t import each (Imports x next) =
    let rest = begun_answered P t import each (next (value (import x) t)) in
    let Q : List ℕ → Type 0 = λ ms. Every P ms in
    subst Q (sym (begun-then_ask (import x) (λ b. answered import (next b)) t)) (every_append P (begun (import x) t) _ (each x) rest)

module _ {B : Type 0} (p : Plan B) (t : Question → Answer) where
  abbrev pub IsTop : ℕ → Type 0
  IsTop m = is_in m p.tops ≡ true

  begun_import : (k : ℕ) (chain : List ℕ) (x : ℕ) → Every IsTop (begun (import_of p k chain x) t)
  unfolding import_of
  begun_import zero chain x = tt
  begun_import (suc k) chain x =
      by (is_free p.tops chain (p.top x)) (λ e. (free_parts p.tops chain (p.top x) e).0)
      (begun_answered IsTop t (λ y. import_of p k (p.top x ∷ chain) y) (λ y. begun_import k (p.top x ∷ chain) y) (inside p (p.top x)))
    where
      by : (b : Bool) → (b ≡ true → is_in (p.top x) p.tops ≡ true) → Every IsTop (begun (answered (λ y. import_of p k (p.top x ∷ chain) y) (inside p (p.top x))) t)
          → Every IsTop (begun (cond b (Begin (p.top x) (answered (λ y. import_of p k (p.top x ∷ chain) y) (inside p (p.top x)))) (Done None)) t)
      by true top rest = (top refl, rest)
      by false top rest = tt

  -- what begins in a module of the plan is of the plan
  pub begun_tops : (chain : List ℕ) (m : ℕ) → is_in m p.tops ≡ true → Every IsTop (begun (mod_of p chain m) t)
  unfolding mod_of import_in
  begun_tops chain m top = (top, begun_answered IsTop t (import_in p (m ∷ chain)) (λ x. begun_import (left p.tops (m ∷ chain)) (m ∷ chain) x) (inside p m))

  pub needs_tops : (m : ℕ) → is_in m p.tops ≡ true → Every IsTop (drop 1 (needs_of p t m))
  unfolding needs_of
  needs_tops m top = every_rest IsTop (new_of [] (begun (mod_of p [] m) t)) (every_new IsTop [] (begun (mod_of p [] m) t) (begun_tops [] m top))

-- ---- a fold that ends at its first Cyclic import

abbrev pub left_open : {B : Type 0} → ℕ → Needs B (Option B)
left_open y = Imports y (λ b. Ends b)

each_strictly : {B A : Type 0} (P : ℕ → Type 0) (n : Needs B A) → EachImport P n → EachImport P (strictly left_open n)
each_strictly P (Ends a) e = tt
each_strictly P (Puts q next) e = λ a. each_strictly P (next a) (e a)
each_strictly {B} P (Imports x next) e = (e.0, λ o. by o (λ b. each_strictly P (next (Some b)) (e.1 (Some b))))
  where
    by : (o : Option B) → ((b : B) → EachImport P (strictly left_open (next (Some b)))) → EachImport P (or_cyclic (λ b. strictly left_open (next (Some b))) o)
    by None rest = tt
    by (Some b) rest = rest b

-- where it is not Cyclic, each import brought something, and the fold itself comes to the same
pub record EndsWith {B A : Type 0} (n : Needs B A) (t : Question → Answer) (brings : ℕ → Option B) (a : A) : Type 0 where
  pub brought : Every (λ x. is_some (brings x) ≡ true) (met n t brings)
  pub same : end_of n t brings ≡ a
  pub met_same : met (strictly left_open n) t brings ≡ met n t brings

pub strict_end : {B A : Type 0} (t : Question → Answer) (brings : ℕ → Option B) (a : A) (n : Needs B A) → end_of (strictly left_open n) t brings ≡ Some a → EndsWith n t brings a
strict_end t brings a (Ends x) e = record { brought = tt; same = cc; met_same = refl }
strict_end t brings a (Puts q next) e = let rest = strict_end t brings a (next (t q)) e in record { brought = rest.brought; same = rest.same; met_same = rest.met_same }
strict_end {B} {A} t brings a (Imports x next) e =
    let so = by (brings x) e (λ b h. strict_end t brings a (next (Some b)) h) in
    record { brought = (so.0, so.1); same = so.2; met_same = ap (λ ms. x ∷ ms) so.3 }
  where
    by : (o : Option B) → end_of (or_cyclic (λ b. strictly left_open (next (Some b))) o) t brings ≡ Some a
        → ((b : B) → end_of (strictly left_open (next (Some b))) t brings ≡ Some a → EndsWith (next (Some b)) t brings a)
        → (is_some o ≡ true) × Every (λ y. is_some (brings y) ≡ true) (met (next o) t brings) × (end_of (next o) t brings ≡ a)
        × (met (or_cyclic (λ b. strictly left_open (next (Some b))) o) t brings ≡ met (next o) t brings)
    by None h rest = absurd (cc)
    by (Some b) h rest = let r = rest b h in (refl, r.brought, r.same, r.met_same)

-- ---- the modules of a job

module _ (s : Setting) where
  pub top_of : (x : ℕ) → x < length s.table.targets → is_in x (plan_of s).tops ≡ true
  unfolding plan_of
  top_of x within = in_range (length s.table.targets) x within

  pub of_top : (x : ℕ) → is_in x (plan_of s).tops ≡ true → x < length s.table.targets
  unfolding plan_of
  of_top x e = of_range (length s.table.targets) x e

  -- every import in a module of the plan names one
  pub plan_named : (m : ℕ) → IsNamed (plan_of s) (inside (plan_of s) m)
  unfolding plan_of
  plan_named m = record { named = λ t brings x e. named_at t brings x e }
    where
      named_at : (t : Question → Answer) (brings : ℕ → Option Fragment) (x : ℕ) → is_in x (met (inside (plan_of s) m) t brings) ≡ true → is_in ((plan_of s).top x) (plan_of s).tops ≡ true
      named_at t brings x e =
          let P : ℕ → Type 0 = λ y. IsOther_of s (Some m) y in
          let n : Needs Fragment (Option Fragment) = strictly left_open (module_needs s m) in
          let each : EachImport P n = each_strictly P (module_needs s m) (module_imports s m) in
          let all : Every P (met n t brings) = every_met_import P n t brings each in
          let here : is_in x (met n t brings) ≡ true = ap (λ f. is_in x (met f t brings)) (sym (inside_is s m)) ∙ e in
          in_range (length s.table.targets) x (every_at P (met n t brings) all x here).0
