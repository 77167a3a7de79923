-- Turns of modules in progress, over the states of what interprets them.
use Rattle.std.proofs.Common.{◌≡◌, ◌∙◌, refl, sym, ap, subst, ℕ, zero, suc, ◌+◌, ◌<◌, Bool, true, false, cond, ◌==◌, ◌⊎◌, inl, inr, List, [], ◌∷◌, ◌++◌, length, reverse, Option, Some, None, true≢false, eq-eqb, eqb-true, arith, is_some}
use Rattle.std.proofs.Math.Path.{fun_ext}
use Rattle.std.proofs.lemmas.List.{reverse-append, get_or-set_same, get_or-set_other}
use Rattle.std.proofs.lemmas.Bool.{false_from_ne_true}
use Rattle.cm_outside.specs.declared.question.Question.{Question}
use Rattle.cm_outside.specs.declared.question.Answer.{Answer}
use Rattle.cm_outside.specs.Asks.{value, asked, begun, Agrees}
use Rattle.cm_outside.specs.Firsts.{firsts}
use Rattle.build_store.specs.Modules.{Plan, is_in, mod_of}
use Rattle.build_store.specs.Order.{with_new}
use Rattle.build_store.specs.Memo.{Known, Unknown, with_known, Sound, NeedsNext, NeedsNone, EndsCyclic, IsEnd, Stack}
use Rattle.build_store.specs.Parts.{Fragment}
use Rattle.build_store.specs.Turning.{known_as, slot_at, known_of, with_slot, State, Trusts, IsTrusted, Moved, AreKnown, AreDecided, Rests, Runs, IsNew, AreInProgress, one_if_unknown, unknowns}
use Rattle.build_store.specs.declared.slot.Slot.{Slot}
use Rattle.build_store.specs.declared.slot.Slot.TheVariants.{Unknown as IsUnknown, Busy as IsBusy, Cyclic as IsCyclic, Good as IsGood}
use Rattle.build_store.proofs.ListLemmas.{in_tail, in_cases}
use Rattle.build_store.proofs.MemoSteps.{stack_begins, stack_starts, stack_ends, stack_done}

-- ---- slots

slot_same : (slots : List Slot) (m : ℕ) (k : Slot) → m < length slots → slot_at (with_slot slots m k) m ≡ k
slot_same slots m k lt = get_or-set_same slots m k IsUnknown lt

slot_other : (slots : List Slot) (m y : ℕ) (k : Slot) → (y == m) ≡ false → slot_at (with_slot slots m k) y ≡ slot_at slots y
slot_other slots m y k is = get_or-set_other slots m y k IsUnknown (λ same. true≢false (sym (eq-eqb y m same) ∙ is))

pub known_with : {B : Type 0} (p : Plan B) (t : Question → Answer) (slots : List Slot) (m : ℕ) (k : Slot) → m < length slots
    → known_of p t (with_slot slots m k) ≡ with_known (known_of p t slots) m (known_as k (value (mod_of p [] m) t) (firsts (asked (mod_of p [] m) t)))
unfolding known_of
known_with {B} p t slots m k lt = fun_ext (λ y. at y (y == m) refl)
  where
    this : Known B
    this = known_as k (value (mod_of p [] m) t) (firsts (asked (mod_of p [] m) t))

    at : (y : ℕ) (d : Bool) → (y == m) ≡ d
        → known_as (slot_at (with_slot slots m k) y) (value (mod_of p [] y) t) (firsts (asked (mod_of p [] y) t))
        ≡ cond d this (known_as (slot_at slots y) (value (mod_of p [] y) t) (firsts (asked (mod_of p [] y) t)))
    at y true is =
        let P : ℕ → Type 0 = λ n. known_as (slot_at (with_slot slots m k) n) (value (mod_of p [] n) t) (firsts (asked (mod_of p [] n) t)) ≡ this in
        subst P (sym (eqb-true y m is)) (ap (λ s. known_as s (value (mod_of p [] m) t) (firsts (asked (mod_of p [] m) t))) (slot_same slots m k lt))
    at y false is = ap (λ s. known_as s (value (mod_of p [] y) t) (firsts (asked (mod_of p [] y) t))) (slot_other slots m y k is)

pub known_unknown : {B : Type 0} (p : Plan B) (t : Question → Answer) (slots : List Slot) (m : ℕ) → slot_at slots m ≡ IsUnknown → known_of p t slots m ≡ Unknown
unfolding known_of
known_unknown p t slots m e = ap (λ s. known_as s (value (mod_of p [] m) t) (firsts (asked (mod_of p [] m) t))) e

pub unknowns_falls : (slots : List Slot) (m : ℕ) → slot_at slots m ≡ IsUnknown → m < length slots → unknowns (with_slot slots m IsBusy) + 1 ≡ unknowns slots
unknowns_falls [] m e lt = absurd (omega arith)
unknowns_falls (s ∷ slots) zero e lt = let one : one_if_unknown s ≡ 1 = ap one_if_unknown e in omega arith
unknowns_falls (s ∷ slots) (suc m) e lt = let rest = unknowns_falls slots m e (omega arith) in omega arith

pub unknowns_same : (slots : List Slot) (m : ℕ) (k : Slot) → one_if_unknown (slot_at slots m) ≡ 0 → one_if_unknown k ≡ 0 → unknowns (with_slot slots m k) ≡ unknowns slots
unknowns_same [] m k e f = refl
unknowns_same (s ∷ slots) zero k e f = omega arith
unknowns_same (s ∷ slots) (suc m) k e f = ap (λ n. one_if_unknown s + n) (unknowns_same slots m k e f)

-- ---- states

pub moved_after : (a b c : State) → Moved a b → Moved b c → Moved a c
moved_after a b c h g = record {
  plan = g.plan ∙ h.plan;
  unit_fold = g.unit_fold ∙ h.unit_fold;
  back = λ t agrees. h.back t (g.back t agrees);
  decided = λ t m agrees d. g.decided t m agrees (h.decided t m (g.back t agrees) d);
  holds = λ t m agrees d. g.holds t m agrees (h.holds t m (g.back t agrees) d);
  told = g.told ∙ h.told;
  trusted = λ e honest. h.trusted e (g.trusted (h.told ∙ e) honest);
  later = let one = h.later in let two = g.later in omega arith;
}

pub moved_start : (a : State) → Moved a a
moved_start a = record {
  plan = refl;
  unit_fold = refl;
  back = λ t agrees. agrees;
  decided = λ t m agrees d. d;
  holds = λ t m agrees d. d;
  told = refl;
  trusted = λ e honest. honest;
  later = omega arith;
}

-- what is trusted over two calls is so over the first, and over the second where the first keeps honesty
pub trusted_first : (a b c : State) → Moved a b → Moved b c → IsTrusted a c → IsTrusted a b
trusted_first a b c h g = by a.told refl
  where
    by : (d : Bool) → a.told ≡ d → Trusts d a.honest c.honest → Trusts d a.honest b.honest
    by true e honest = honest
    by false e honest = g.trusted (h.told ∙ e) honest

pub trusted_second : (a b c : State) → Moved a b → (a.told ≡ true → a.honest → b.honest) → IsTrusted a c → IsTrusted b c
trusted_second a b c h stays trust = by a.told b.told refl h.told trust
  where
    by : (d e : Bool) → a.told ≡ d → e ≡ d → Trusts d a.honest c.honest → Trusts e b.honest c.honest
    by true true is same honest = stays is honest
    by true false is same honest = absurd (true≢false (sym same))
    by false true is same honest = absurd (true≢false same)
    by false false is same honest = honest

-- ---- what is in progress

pub progress_begins : (a b : State) (c : List ℕ) (x : ℕ) → AreInProgress a c → IsNew a x → x < length a.slots → Moved a b → b.slots ≡ with_slot a.slots x IsBusy → AreInProgress b (x ∷ c)
progress_begins a b c x h new lt moved slots = record { tops = tops; busy = busy; apart = (false_from_ne_true (is_in x c) apart, h.apart) }
  where
    apart : is_in x c ≡ true → ⊥
    apart here = let busy = h.busy x here in let unknown = new.unknown in absurd (cc)

    tops : (m : ℕ) → is_in m (x ∷ c) ≡ true → is_in m b.plan.tops ≡ true
    tops m here =
        ap (λ (q : Plan Fragment). is_in m q.tops) moved.plan
        ∙ elim (in_cases m x c here) [ inl same ↦ ap (λ n. is_in n a.plan.tops) same ∙ new.top | inr old ↦ h.tops m old ]

    busy : (m : ℕ) → is_in m (x ∷ c) ≡ true → slot_at b.slots m ≡ IsBusy
    busy m here = ap (λ s. slot_at s m) slots ∙ by (m == x) refl (in_cases m x c here)
      where
        by : (d : Bool) → (m == x) ≡ d → (m ≡ x) ⊎ (is_in m c ≡ true) → slot_at (with_slot a.slots x IsBusy) m ≡ IsBusy
        by true is here = ap (slot_at (with_slot a.slots x IsBusy)) (eqb-true m x is) ∙ slot_same a.slots x IsBusy lt
        by false is (inl same) = absurd (true≢false (sym (eq-eqb m x same) ∙ is))
        by false is (inr old) = slot_other a.slots x m IsBusy is ∙ h.busy m old

pub progress_ends : (a b : State) (c : List ℕ) (m : ℕ) (k : Slot) → AreInProgress a (m ∷ c) → Moved a b → b.slots ≡ with_slot a.slots m k → AreInProgress b c
progress_ends a b c m k h moved slots = record { tops = tops; busy = busy; apart = h.apart.1 }
  where
    tops : (y : ℕ) → is_in y c ≡ true → is_in y b.plan.tops ≡ true
    tops y here = ap (λ (q : Plan Fragment). is_in y q.tops) moved.plan ∙ h.tops y (in_tail y m c here)

    busy : (y : ℕ) → is_in y c ≡ true → slot_at b.slots y ≡ IsBusy
    busy y here = ap (λ s. slot_at s y) slots ∙ by (y == m) refl
      where
        by : (d : Bool) → (y == m) ≡ d → slot_at (with_slot a.slots m k) y ≡ IsBusy
        by true is = absurd (true≢false (sym (ap (λ n. is_in n c) (sym (eqb-true y m is)) ∙ here) ∙ h.apart.0))
        by false is = slot_other a.slots m y k is ∙ h.busy y (in_tail y m c here)

pub progress_same : (a b : State) (c : List ℕ) → AreInProgress a c → Moved a b → b.slots ≡ a.slots → AreInProgress b c
progress_same a b c h moved slots = record {
  tops = λ y here. ap (λ (q : Plan Fragment). is_in y q.tops) moved.plan ∙ h.tops y here;
  busy = λ y here. ap (λ s. slot_at s y) slots ∙ h.busy y here;
  apart = h.apart;
}

pub progress_none : (a : State) → AreInProgress a []
progress_none a = record { tops = λ y e. absurd (true≢false (sym e)); busy = λ y e. absurd (true≢false (sym e)); apart = tt }

-- ---- what is known

module _ (a b : State) (t : Question → Answer) (moved : Moved a b) (agrees : Agrees t b.records) where
  known_set : (x : ℕ) (k : Slot) → x < length a.slots → b.slots ≡ with_slot a.slots x k → AreKnown a t
      → (k ≡ IsGood → (is_some (value (mod_of a.plan [] x) t) ≡ true) × b.holds t x) → AreKnown b t
  known_set x k lt slots known this = record { good = λ m e. good m (old m e); holds = λ m e. (kept m (old m e)) }
    where
      old : (m : ℕ) → slot_at b.slots m ≡ IsGood → ((m ≡ x) × (k ≡ IsGood)) ⊎ (slot_at a.slots m ≡ IsGood)
      old m e = by (m == x) refl
        where
          here : slot_at (with_slot a.slots x k) m ≡ IsGood
          here = ap (λ s. slot_at s m) (sym slots) ∙ e

          by : (d : Bool) → (m == x) ≡ d → ((m ≡ x) × (k ≡ IsGood)) ⊎ (slot_at a.slots m ≡ IsGood)
          by true is =
              let same = eqb-true m x is in
              inl (same, sym (slot_same a.slots x k lt) ∙ ap (slot_at (with_slot a.slots x k)) (sym same) ∙ here)
          by false is = inr (sym (slot_other a.slots x m k is) ∙ here)

      good : (m : ℕ) → ((m ≡ x) × (k ≡ IsGood)) ⊎ (slot_at a.slots m ≡ IsGood) → is_some (value (mod_of b.plan [] m) t) ≡ true
      good m (inl e) = ap (λ q. is_some (value (mod_of q [] m) t)) moved.plan ∙ ap (λ n. is_some (value (mod_of a.plan [] n) t)) e.0 ∙ (this e.1).0
      good m (inr e) = ap (λ q. is_some (value (mod_of q [] m) t)) moved.plan ∙ known.good m e

      kept : (m : ℕ) → ((m ≡ x) × (k ≡ IsGood)) ⊎ (slot_at a.slots m ≡ IsGood) → b.holds t m
      kept m (inl e) = let P : ℕ → Type 0 = λ n. b.holds t n in subst P (sym e.0) (this e.1).1
      kept m (inr e) = moved.holds t m agrees (known.holds m e)

  known_same : b.slots ≡ a.slots → AreKnown a t → AreKnown b t
  known_same slots known = record {
    good = λ m e. ap (λ q. is_some (value (mod_of q [] m) t)) moved.plan ∙ known.good m (ap (λ s. slot_at s m) (sym slots) ∙ e);
    holds = λ m e. moved.holds t m agrees (known.holds m (ap (λ s. slot_at s m) (sym slots) ∙ e));
  }

  decided_still : (c : List ℕ) → AreDecided a t c → AreDecided b t c
  decided_still c h m here = moved.decided t m agrees (h m here)

  decided_more : (c : List ℕ) (x : ℕ) → AreDecided a t c → b.decided t x → AreDecided b t (x ∷ c)
  decided_more c x h this m here =
      elim (in_cases m x c here) [
        | inl same ↦ (let P : ℕ → Type 0 = λ n. b.decided t n in subst P (sym same) this)
        | inr old ↦ moved.decided t m agrees (h m old)
      ]

-- a stack over what the state has
stack_of : (b : State) (t : Question → Answer) (p : Plan Fragment) (slots : List Slot) (noted c end : List ℕ) → b.plan ≡ p → b.slots ≡ slots → b.noted ≡ noted
    → Stack p t (known_of p t slots) noted c end → Stack b.plan t (known_of b.plan t b.slots) b.noted c end
stack_of b t p slots noted c end plan same_slots same_noted h =
    let P : Plan Fragment → Type 0 = λ q. Stack q t (known_of q t b.slots) b.noted c end in
    let Q : List Slot → Type 0 = λ s. Stack p t (known_of p t s) b.noted c end in
    let R : List ℕ → Type 0 = λ n. Stack p t (known_of p t slots) n c end in
    subst P (sym plan) (subst Q (sym same_slots) (subst R (sym same_noted) h))

sound_of : (b : State) (t : Question → Answer) (p : Plan Fragment) (slots : List Slot) (noted c : List ℕ) → b.plan ≡ p → b.slots ≡ slots → b.noted ≡ noted
    → Sound p t (known_of p t slots) noted c → Sound b.plan t (known_of b.plan t b.slots) b.noted c
sound_of b t p slots noted c plan same_slots same_noted h =
    let P : Plan Fragment → Type 0 = λ q. Sound q t (known_of q t b.slots) b.noted c in
    let Q : List Slot → Type 0 = λ s. Sound p t (known_of p t s) b.noted c in
    let R : List ℕ → Type 0 = λ n. Sound p t (known_of p t slots) n c in
    subst P (sym plan) (subst Q (sym same_slots) (subst R (sym same_noted) h))

-- ---- steps

module _ (a b : State) (t : Question → Answer) (moved : Moved a b) (agrees : Agrees t b.records) where
  -- a first module is begun
  pub runs_begin : (x : ℕ) → Rests a t → IsNew a x → x < length a.slots → b.slots ≡ with_slot a.slots x IsBusy → b.noted ≡ a.noted ++ (x ∷ []) → b.decided t x
      → Runs b t (x ∷ []) (with_new a.noted (begun (mod_of a.plan [] x) t))
  runs_begin x rests new lt slots noted decided =
      let end = with_new a.noted (begun (mod_of a.plan [] x) t) in
      let first = stack_begins a.plan t (known_of a.plan t a.slots) a.noted x rests.sound (known_unknown a.plan t a.slots x new.unknown) in
      let P : (ℕ → Known Fragment) → Type 0 = λ known. Stack a.plan t known (a.noted ++ (x ∷ [])) (x ∷ []) end in
      record {
        stack = stack_of b t a.plan (with_slot a.slots x IsBusy) (a.noted ++ (x ∷ [])) (x ∷ []) end moved.plan slots noted (subst P (sym (known_with a.plan t a.slots x IsBusy lt)) first);
        known = known_set a b t moved agrees x IsBusy lt slots rests.known (λ e. absurd (cc));
        decided = decided_more a b t moved agrees [] x (λ m e. absurd (true≢false (sym e))) decided;
      }

  -- the module on top needs another one, which is begun
  pub runs_start : (c end : List ℕ) (m x : ℕ) → Runs a t (m ∷ c) end → NeedsNext a.plan t (known_of a.plan t a.slots) a.noted c m x → x < length a.slots
      → b.slots ≡ with_slot a.slots x IsBusy → b.noted ≡ a.noted ++ (x ∷ []) → b.decided t x → Runs b t (x ∷ m ∷ c) end
  runs_start c end m x runs next lt slots noted decided =
      let more = stack_starts a.plan t (known_of a.plan t a.slots) a.noted c end m x runs.stack next in
      let P : (ℕ → Known Fragment) → Type 0 = λ known. Stack a.plan t known (a.noted ++ (x ∷ [])) (x ∷ m ∷ c) end in
      record {
        stack = stack_of b t a.plan (with_slot a.slots x IsBusy) (a.noted ++ (x ∷ [])) (x ∷ m ∷ c) end moved.plan slots noted (subst P (sym (known_with a.plan t a.slots x IsBusy lt)) more);
        known = known_set a b t moved agrees x IsBusy lt slots runs.known (λ e. absurd (cc));
        decided = decided_more a b t moved agrees (m ∷ c) x runs.decided decided;
      }

  -- nothing was begun, and nothing has ended
  pub runs_still : (c end : List ℕ) → Runs a t c end → b.slots ≡ a.slots → b.noted ≡ a.noted → Runs b t c end
  runs_still c end runs slots noted = record {
    stack = stack_of b t a.plan a.slots a.noted c end moved.plan slots noted runs.stack;
    known = known_same a b t moved agrees slots runs.known;
    decided = decided_still a b t moved agrees c runs.decided;
  }

  pub rests_still : Rests a t → b.slots ≡ a.slots → b.noted ≡ a.noted → Rests b t
  rests_still rests slots noted = record {
    sound = sound_of b t a.plan a.slots a.noted [] moved.plan slots noted rests.sound;
    known = known_same a b t moved agrees slots rests.known;
  }

  ends : (c end : List ℕ) (m : ℕ) (k : Slot) → Runs a t (m ∷ c) end → IsEnd a.plan t a.noted c m (known_as k (value (mod_of a.plan [] m) t) (firsts (asked (mod_of a.plan [] m) t)))
      → m < length a.slots → b.slots ≡ with_slot a.slots m k → b.noted ≡ a.noted → (k ≡ IsGood → (is_some (value (mod_of a.plan [] m) t) ≡ true) × b.holds t m) → Runs b t c end
  ends c end m k runs is lt slots noted this =
      let known = known_as k (value (mod_of a.plan [] m) t) (firsts (asked (mod_of a.plan [] m) t)) in
      let less = stack_ends a.plan t (known_of a.plan t a.slots) a.noted c end m known runs.stack is in
      let P : (ℕ → Known Fragment) → Type 0 = λ w. Stack a.plan t w a.noted c end in
      record {
        stack = stack_of b t a.plan (with_slot a.slots m k) a.noted c end moved.plan slots noted (subst P (sym (known_with a.plan t a.slots m k lt)) less);
        known = known_set a b t moved agrees m k lt slots runs.known this;
        decided = decided_still a b t moved agrees c (λ y here. runs.decided y (in_tail y m c here));
      }

  -- the module on top ends as Cyclic
  pub runs_cyclic : (c end : List ℕ) (m : ℕ) → Runs a t (m ∷ c) end → EndsCyclic a.plan t a.noted c m → m < length a.slots → b.slots ≡ with_slot a.slots m IsCyclic → b.noted ≡ a.noted → Runs b t c end
  runs_cyclic c end m runs is lt slots noted = ends c end m IsCyclic runs is lt slots noted (λ e. absurd (cc))

  -- the module on top ends, and something is kept of it
  pub runs_good : (c end : List ℕ) (m : ℕ) → Runs a t (m ∷ c) end → NeedsNone a.plan t a.noted c m → is_some (value (mod_of a.plan [] m) t) ≡ true → b.holds t m → m < length a.slots
      → b.slots ≡ with_slot a.slots m IsGood → b.noted ≡ a.noted → Runs b t c end
  runs_good c end m runs none some holds lt slots noted = ends c end m IsGood runs (is_end (value (mod_of a.plan [] m) t) refl some) lt slots noted (λ e. (some, holds))
    where
      is_end : (o : Option Fragment) → value (mod_of a.plan [] m) t ≡ o → is_some o ≡ true → IsEnd a.plan t a.noted c m (known_as IsGood o (firsts (asked (mod_of a.plan [] m) t)))
      is_end None e f = absurd (true≢false (sym f))
      is_end (Some fragment) e f = record { none = none; outcome = e; records = refl }

-- all have ended
pub runs_done : (a : State) (t : Question → Answer) (end : List ℕ) → Runs a t [] end → Rests a t × (a.noted ≡ end)
runs_done a t end runs =
    let stack = runs.stack in
    (record { sound = stack.sound; known = runs.known }, stack_done a.plan t (known_of a.plan t a.slots) a.noted end stack)

-- ---- lists from the last

pub reverse_one : {A : Type 0} (xs : List A) (x : A) → reverse (xs ++ (x ∷ [])) ≡ x ∷ reverse xs
reverse_one xs x = reverse-append xs (x ∷ [])

pub reverse_first : {A : Type 0} (xs ys : List A) (x : A) → xs ≡ [] → ys ≡ xs ++ (x ∷ []) → x ∷ [] ≡ reverse ys
reverse_first xs ys x e f = let one : ys ≡ x ∷ [] = f ∙ ap (λ ms. ms ++ (x ∷ [])) e in sym (ap reverse one)

pub reverse_two : {A : Type 0} (xs ys zs : List A) (x y : A) → ys ≡ xs ++ (x ∷ []) → zs ≡ ys ++ (y ∷ []) → reverse zs ≡ y ∷ x ∷ reverse xs
reverse_two xs ys zs x y e f = ap reverse f ∙ reverse_one ys y ∙ ap (λ w. y ∷ reverse w) e ∙ ap (λ w. y ∷ w) (reverse_one xs x)

-- ---- a turn and what follows it

pub next_of : (a b : State) (t : Question → Answer) (c : List ℕ) (m x : ℕ) → Moved a b → b.slots ≡ a.slots → b.noted ≡ a.noted
    → NeedsNext a.plan t (known_of a.plan t a.slots) a.noted c m x → NeedsNext b.plan t (known_of b.plan t b.slots) b.noted c m x
next_of a b t c m x moved slots noted h =
    let P : Plan Fragment → Type 0 = λ q. NeedsNext q t (known_of q t b.slots) b.noted c m x in
    let Q : List Slot → Type 0 = λ s. NeedsNext a.plan t (known_of a.plan t s) b.noted c m x in
    let R : List ℕ → Type 0 = λ n. NeedsNext a.plan t (known_of a.plan t a.slots) n c m x in
    subst P (sym moved.plan) (subst Q (sym slots) (subst R (sym noted) h))

pub new_still : (a b : State) (x : ℕ) → Moved a b → b.slots ≡ a.slots → IsNew a x → IsNew b x
new_still a b x moved slots new = record {
  top = ap (λ (q : Plan Fragment). is_in x q.tops) moved.plan ∙ new.top;
  unknown = ap (λ s. slot_at s x) slots ∙ new.unknown;
}
