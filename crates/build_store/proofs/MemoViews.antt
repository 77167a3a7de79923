-- What a module comes to by its slot, and the order of what a unit needs.
use Rattle.std.proofs.Common.{◌≡◌, ◌∙◌, refl, sym, ap, subst, ℕ, Bool, true, false, List, [], ◌∷◌, ◌++◌, Option, Some, None, append_assoc, append-nil, true≢false}
use Rattle.cm_outside.specs.declared.question.Question.{Question}
use Rattle.cm_outside.specs.declared.question.Answer.{Answer}
use Rattle.cm_outside.specs.declared.question.Record.{Record}
use Rattle.cm_outside.specs.Asks.{value, asked, begun}
use Rattle.cm_outside.specs.Firsts.{firsts}
use Rattle.unit_fold.specs.declared.item.Item.{Item}
use Rattle.build_store.specs.Needs.{Needs, answered}
use Rattle.build_store.specs.Modules.{Plan, is_in, inside, import_in, mod_of, unit_of}
use Rattle.build_store.specs.Order.{new_of, with_new}
use Rattle.build_store.specs.Outcomes.{IsClosed}
use Rattle.build_store.specs.Memo.{Busy, Cyclic, Good, Grows, Known, Unknown, UnitNeeds, UnitEnds, is_unknown}
use Rattle.build_store.specs.Parts.{Fragment}
use Rattle.build_store.specs.Turning.{known_as, slot_at, known_of, State, Moved, Rests, RestsAgain, IsView, view_as}
use Rattle.build_store.specs.declared.slot.Slot.{Slot}
use Rattle.build_store.specs.declared.slot.Slot.TheVariants.{Unknown as IsUnknown, Busy as IsBusy, Cyclic as IsCyclic, Good as IsGood}
use Rattle.build_store.proofs.ListLemmas.{in_append_left, in_head, some≢none}
use Rattle.build_store.proofs.BegunLemmas.{mod_nothing_new, with_new_has}
use Rattle.build_store.proofs.MemoOrder.{new_both, new_later}

-- ---- the order

-- What was to come still comes behind a part of it.
pub with_new_on : (seen ms part more : List ℕ) → new_of seen ms ≡ new_of seen (part ++ more) → with_new (with_new seen part) ms ≡ with_new seen ms
with_new_on seen ms part more e =
    let news = new_of seen part in
    let last = new_of (with_new seen part) more in
    let whole : new_of seen ms ≡ news ++ last = e ∙ new_both seen part more in
    ap (λ w. (seen ++ news) ++ w) (new_later ms seen news last whole) ∙ append_assoc seen news last ∙ ap (λ w. seen ++ w) (sym whole)

with_none : (seen ms : List ℕ) → new_of seen ms ≡ [] → with_new seen ms ≡ seen
with_none seen ms e = ap (λ w. seen ++ w) e ∙ append-nil seen

-- ---- the slot of a module that was begun, at rest

known_by : (s : State) (t : Question → Answer) (m : ℕ) (k : Slot) → slot_at s.slots m ≡ k → known_of s.plan t s.slots m ≡ known_as k (value (mod_of s.plan [] m) t) (firsts (asked (mod_of s.plan [] m) t))
unfolding known_of
known_by s t m k e = ap (λ w. known_as w (value (mod_of s.plan [] m) t) (firsts (asked (mod_of s.plan [] m) t))) e

pub seen_view : (s : State) (t : Question → Answer) (m : ℕ) → Rests s t → is_in m s.noted ≡ true → IsView (value (mod_of s.plan [] m) t) (view_as (slot_at s.slots m))
seen_view s t m rests here = by (slot_at s.slots m) refl
  where
    by : (k : Slot) → slot_at s.slots m ≡ k → IsView (value (mod_of s.plan [] m) t) (view_as k)
    by IsUnknown e = let sound = rests.sound in absurd (true≢false (sym here ∙ sound.unneeded m (known_by s t m IsUnknown e)))
    by IsBusy e = let sound = rests.sound in absurd (true≢false (sym (sound.waits m (known_by s t m IsBusy e))))
    by IsCyclic e = let sound = rests.sound in sound.cyclic m (known_by s t m IsCyclic e)
    by IsGood e = let known = rests.known in known.good m e

pub begins_with : (p : Plan Fragment) (t : Question → Answer) (m : ℕ) → is_in m (begun (mod_of p [] m) t) ≡ true
unfolding mod_of
begins_with p t m = in_head m (begun (answered (import_in p (m ∷ [])) (inside p m)) t)

-- a module that was interpreted
pub first_view : (a b : State) (t : Question → Answer) (m : ℕ) → Moved a b → RestsAgain a b t (begun (mod_of a.plan [] m) t) → IsView (value (mod_of a.plan [] m) t) (view_as (slot_at b.slots m))
first_view a b t m moved again =
    let here : is_in m b.noted ≡ true = ap (is_in m) again.noted ∙ with_new_has a.noted (begun (mod_of a.plan [] m) t) m (begins_with a.plan t m) in
    let P : Plan Fragment → Type 0 = λ q. IsView (value (mod_of q [] m) t) (view_as (slot_at b.slots m)) in
    subst P moved.plan (seen_view b t m again.rests here)

-- a module that was begun before
seen_by : (s : State) (t : Question → Answer) (m : ℕ) → Rests s t → (slot_at s.slots m ≡ IsUnknown → ⊥) → is_in m s.noted ≡ true
unfolding known_of
seen_by s t m rests old = by (is_in m s.noted) refl
  where
    known : (k : Slot) → slot_at s.slots m ≡ k → known_as k (value (mod_of s.plan [] m) t) (firsts (asked (mod_of s.plan [] m) t)) ≡ Unknown → ⊥
    known IsUnknown e u = old e
    known IsBusy e u = cc
    known IsCyclic e u = cc
    known IsGood e u = good (value (mod_of s.plan [] m) t) u
      where
        good : (o : Option Fragment) → known_as IsGood o (firsts (asked (mod_of s.plan [] m) t)) ≡ Unknown → ⊥
        good None u = cc
        good (Some b) u = cc

    by : (b : Bool) → is_in m s.noted ≡ b → is_in m s.noted ≡ true
    by true e = e
    by false e = let sound = rests.sound in absurd (known (slot_at s.slots m) refl (sound.needed m e))

pub old_view : (s : State) (t : Question → Answer) (m : ℕ) → (slot_at s.slots m ≡ IsUnknown → ⊥) → Rests s t → IsView (value (mod_of s.plan [] m) t) (view_as (slot_at s.slots m))
old_view s t m old rests = seen_view s t m rests (seen_by s t m rests old)

pub old_rests : (s : State) (t : Question → Answer) (m : ℕ) → (slot_at s.slots m ≡ IsUnknown → ⊥) → Rests s t → RestsAgain s s t (begun (mod_of s.plan [] m) t)
old_rests s t m old rests =
    let sound = rests.sound in
    let closed : IsClosed s.plan t s.noted = record { closed = λ y z here imported. sound.closed y z here refl imported } in
    record { rests = rests; noted = sym (with_none s.noted (begun (mod_of s.plan [] m) t) (mod_nothing_new s.plan t s.noted closed [] m (seen_by s t m rests old))) }

-- ---- a unit

pub record UnitRests (old now : State) (t : Question → Answer) (begins : List ℕ) : Type 0 where
  pub rests : Rests now t
  pub order : with_new now.noted begins ≡ with_new old.noted begins

-- a unit goes on behind a module that was interpreted
pub unit_goes_on : (old now next : State) (t : Question → Answer) (fold : List ℕ → Needs Fragment (List Item)) (path : List ℕ) (x : ℕ) → now.plan ≡ old.plan → now.unit_fold ≡ old.unit_fold
    → UnitRests old now t (begun (unit_of old.plan (old.unit_fold path)) t) → UnitNeeds now.plan t (known_of now.plan t now.slots) now.noted (now.unit_fold path) x
    → RestsAgain now next t (begun (mod_of now.plan [] x) t) → UnitRests old next t (begun (unit_of old.plan (old.unit_fold path)) t)
unit_goes_on old now next t fold path x plan units h needs again =
    let begins = begun (unit_of old.plan (old.unit_fold path)) t in
    let same : begun (unit_of now.plan (now.unit_fold path)) t ≡ begins = λ i. begun (unit_of (plan i) (units i path)) t in
    let part = begun (mod_of now.plan [] x) t in
    let order : new_of now.noted begins ≡ new_of now.noted (part ++ needs.behind) = ap (new_of now.noted) (sym same) ∙ needs.order in
    record { rests = again.rests; order = ap (λ s. with_new s begins) again.noted ∙ with_new_on now.noted begins part needs.behind order ∙ h.order }

-- a unit ends
pub unit_outcome : (old now : State) (t : Question → Answer) (path : List ℕ) (items : List Item) → now.plan ≡ old.plan → now.unit_fold ≡ old.unit_fold
    → UnitEnds now.plan t now.noted (now.unit_fold path) items → items ≡ value (unit_of old.plan (old.unit_fold path)) t
unit_outcome old now t path items plan units ends = sym ends.outcome ∙ (λ i. value (unit_of (plan i) (units i path)) t)

pub unit_again : (old now next : State) (t : Question → Answer) (path : List ℕ) (items : List Item) → now.plan ≡ old.plan → now.unit_fold ≡ old.unit_fold
    → UnitRests old now t (begun (unit_of old.plan (old.unit_fold path)) t) → UnitEnds now.plan t now.noted (now.unit_fold path) items → Rests next t → next.noted ≡ now.noted
    → RestsAgain old next t (begun (unit_of old.plan (old.unit_fold path)) t)
unit_again old now next t path items plan units h ends rests noted =
    let begins = begun (unit_of old.plan (old.unit_fold path)) t in
    let same : begun (unit_of now.plan (now.unit_fold path)) t ≡ begins = λ i. begun (unit_of (plan i) (units i path)) t in
    record { rests = rests; noted = noted ∙ sym (with_none now.noted begins (ap (new_of now.noted) (sym same) ∙ ends.order)) ∙ h.order }

-- ---- what is known, between two rests

-- a module that has ended, of this outcome, which asks this
abbrev IsFinal : Option Fragment → List Record → Known Fragment → Type 0
IsFinal outcome asks Unknown = ⊥
IsFinal outcome asks Busy = ⊥
IsFinal outcome asks Cyclic = outcome ≡ None
IsFinal outcome asks (Good b rs) = (outcome ≡ Some b) × (rs ≡ asks)

final_of : (s : State) (t : Question → Answer) → Rests s t → (x : ℕ) → is_in x s.noted ≡ true
    → IsFinal (value (mod_of s.plan [] x) t) (firsts (asked (mod_of s.plan [] x) t)) (known_of s.plan t s.slots x)
final_of s t rests x here = by (known_of s.plan t s.slots x) refl
  where
    by : (k : Known Fragment) → known_of s.plan t s.slots x ≡ k → IsFinal (value (mod_of s.plan [] x) t) (firsts (asked (mod_of s.plan [] x) t)) k
    by Unknown e = let sound = rests.sound in absurd (true≢false (sym here ∙ sound.unneeded x e))
    by Busy e = let sound = rests.sound in absurd (true≢false (sym (sound.waits x e)))
    by Cyclic e = let sound = rests.sound in sound.cyclic x e
    by (Good b rs) e = let sound = rests.sound in sound.good x b rs e

one_final : (outcome : Option Fragment) (asks : List Record) (k more : Known Fragment) → IsFinal outcome asks k → IsFinal outcome asks more → more ≡ k
one_final outcome asks Unknown more h g = absurd h
one_final outcome asks Busy more h g = absurd h
one_final outcome asks Cyclic Unknown h g = absurd g
one_final outcome asks Cyclic Busy h g = absurd g
one_final outcome asks Cyclic Cyclic h g = refl
one_final outcome asks Cyclic (Good b rs) h g = absurd (some≢none (sym g.0 ∙ h))
one_final outcome asks (Good b rs) Unknown h g = absurd g
one_final outcome asks (Good b rs) Busy h g = absurd g
one_final outcome asks (Good b rs) Cyclic h g = absurd (some≢none (sym h.0 ∙ g))
one_final outcome asks (Good b rs) (Good c ss) h g =
    let both : Some c ≡ Some b = sym g.0 ∙ h.0 in
    let same : c ≡ b = cc in
    λ i. Good (same i) ((g.1 ∙ sym h.1) i)

-- what is known at rest stays so
pub grown_by : (old new : State) (t : Question → Answer) (begins : List ℕ) → new.plan ≡ old.plan → Rests old t → Rests new t → new.noted ≡ with_new old.noted begins
    → Grows (known_of old.plan t old.slots) (known_of new.plan t new.slots)
grown_by old new t begins plan rests again noted x known =
    one_final (value (mod_of old.plan [] x) t) (firsts (asked (mod_of old.plan [] x) t)) (known_of old.plan t old.slots x) (known_of new.plan t new.slots x)
    (final_of old t rests x here)
    (let P : Plan Fragment → Type 0 = λ p. IsFinal (value (mod_of p [] x) t) (firsts (asked (mod_of p [] x) t)) (known_of new.plan t new.slots x) in
    subst P plan (final_of new t again x (ap (is_in x) noted ∙ in_append_left x old.noted (new_of old.noted begins) here)))
  where
    here : is_in x old.noted ≡ true
    here = by (is_in x old.noted) refl
      where
        by : (b : Bool) → is_in x old.noted ≡ b → is_in x old.noted ≡ true
        by true e = e
        by false e = let sound = rests.sound in absurd (true≢false (sym (ap is_unknown (sound.needed x e)) ∙ known))
