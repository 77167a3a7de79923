-- From a fold that was tried, and from a kept module, to the turns that the memo takes.
use Rattle.std.proofs.Common.{◌≡◌, ◌∙◌, refl, sym, ap, ℕ, true, cond, List, [], ◌∷◌, drop, Option, Some, None, is_some}
use Rattle.cm_outside.specs.declared.question.Question.{Question}
use Rattle.cm_outside.specs.declared.question.Answer.{Answer}
use Rattle.cm_outside.specs.declared.question.Record.{Record}
use Rattle.cm_outside.specs.Asks.{value, asked}
use Rattle.cm_outside.specs.Firsts.{firsts}
use Rattle.unit_fold.specs.declared.item.Item.{Item}
use Rattle.build_store.specs.Needs.{Needs}
use Rattle.build_store.specs.Modules.{Plan, inside, mod_of}
use Rattle.build_store.specs.Order.{needs_of}
use Rattle.build_store.specs.Memo.{Known, Ended, Stands, tried, is_unknown, first_unknown, IsNamed}
use Rattle.build_store.specs.Parts.{Fragment}
use Rattle.build_store.specs.Turning.{known_as, slot_at, known_of, State, Rests, Runs, IsTurn, IsUnitTurn, is_new_slot, first_new_slot}
use Rattle.build_store.specs.declared.slot.Slot.{Slot}
use Rattle.build_store.specs.declared.slot.Slot.TheVariants.{Unknown as IsUnknown, Busy as IsBusy, Cyclic as IsCyclic, Good as IsGood}
use Rattle.build_store.specs.declared.slot.Turn.TheVariants.{Needs as NeedsFirst, Cyclic as ComesBack, Good as HasEnded}
use Rattle.build_store.specs.declared.slot.UnitTurn.TheVariants.{Needs as UnitNeedsFirst, Done}
use Rattle.build_store.proofs.MemoTurns.{turn_stands, turn_cyclic, turn_good, kept_needs, kept_ends, unit_stands, unit_ended}

-- what a fold of the state's plan finds of an import
abbrev pub known_in : State → (Question → Answer) → ℕ → Known Fragment
known_in s t x = known_of s.plan t s.slots (s.plan.top x)

-- ---- slots tell what is known

unknown_as : {B : Type 0} (k : Slot) (o : Option B) (rs : List Record) → is_unknown (known_as k o rs) ≡ is_new_slot k
unknown_as IsUnknown o rs = refl
unknown_as IsBusy o rs = refl
unknown_as IsCyclic o rs = refl
unknown_as IsGood None rs = refl
unknown_as IsGood (Some b) rs = refl

pub first_by_slots : {B : Type 0} (p : Plan B) (t : Question → Answer) (slots : List Slot) (xs : List ℕ) → first_unknown (known_of p t slots) xs ≡ first_new_slot slots xs
unfolding known_of
first_by_slots p t slots [] = refl
first_by_slots p t slots (x ∷ xs) =
    ap (λ b. cond b (Some x) (first_unknown (known_of p t slots) xs)) (unknown_as (slot_at slots x) (value (mod_of p [] x) t) (firsts (asked (mod_of p [] x) t)))
    ∙ ap (λ rest. cond (is_new_slot (slot_at slots x)) (Some x) rest) (first_by_slots p t slots xs)

some_is : {B : Type 0} (o : Option B) (b : B) → o ≡ Some b → is_some o ≡ true
some_is o b e = ap is_some e

-- ---- a module in progress

module _ (s : State) (t : Question → Answer) (c end : List ℕ) (m : ℕ) (runs : Runs s t (m ∷ c) end) (named : IsNamed s.plan (inside s.plan m)) (holds : Type 0) where
  pub seam_needs : (x : ℕ) → tried (known_in s t) (inside s.plan m) t ≡ Stands x → IsTurn s t c m holds (NeedsFirst (s.plan.top x))
  seam_needs x e = let stack = runs.stack in turn_stands s.plan t (known_of s.plan t s.slots) s.noted c m stack.sound named x e

  pub seam_cyclic : (rs : List Record) → tried (known_in s t) (inside s.plan m) t ≡ Ended None rs → IsTurn s t c m holds ComesBack
  seam_cyclic rs e = let stack = runs.stack in turn_cyclic s.plan t (known_of s.plan t s.slots) s.noted c m stack.sound named rs e

  -- what a module that ends comes to, and what it asks
  pub seam_outcome : (b : Fragment) (rs : List Record) → tried (known_in s t) (inside s.plan m) t ≡ Ended (Some b) rs
      → (value (mod_of s.plan [] m) t ≡ Some b) × (firsts rs ≡ firsts (asked (mod_of s.plan [] m) t))
  seam_outcome b rs e =
      let stack = runs.stack in
      let ends = turn_good s.plan t (known_of s.plan t s.slots) s.noted c m stack.sound named b rs e in (ends.outcome, ends.records)

  pub seam_good : (b : Fragment) (rs : List Record) → tried (known_in s t) (inside s.plan m) t ≡ Ended (Some b) rs → holds → IsTurn s t c m holds HasEnded
  seam_good b rs e h =
      let stack = runs.stack in
      let ends = turn_good s.plan t (known_of s.plan t s.slots) s.noted c m stack.sound named b rs e in
      (ends.none, some_is (value (mod_of s.plan [] m) t) b ends.outcome, h)

  -- A kept module, which is so over these answers, needs the first of its modules of which nothing is known, and where there is
  -- none it has ended.
  pub seam_kept_needs : (b : Fragment) (ns : List ℕ) (x : ℕ) → value (mod_of s.plan [] m) t ≡ Some b → ns ≡ drop 1 (needs_of s.plan t m) → first_new_slot s.slots ns ≡ Some x
      → IsTurn s t c m holds (NeedsFirst x)
  seam_kept_needs b ns x outcome needs e =
      let stack = runs.stack in
      kept_needs s.plan t (known_of s.plan t s.slots) s.noted c m stack.sound named b x outcome
      (first_by_slots s.plan t s.slots (drop 1 (needs_of s.plan t m)) ∙ ap (first_new_slot s.slots) (sym needs) ∙ e)

  pub seam_kept_good : (b : Fragment) (ns : List ℕ) → value (mod_of s.plan [] m) t ≡ Some b → ns ≡ drop 1 (needs_of s.plan t m) → first_new_slot s.slots ns ≡ None → holds
      → IsTurn s t c m holds HasEnded
  seam_kept_good b ns outcome needs e h =
      let stack = runs.stack in
      let ends = kept_ends s.plan t (known_of s.plan t s.slots) s.noted c m stack.sound named b (firsts (asked (mod_of s.plan [] m) t)) outcome refl
      (first_by_slots s.plan t s.slots (drop 1 (needs_of s.plan t m)) ∙ ap (first_new_slot s.slots) (sym needs) ∙ e) in
      (ends.none, some_is (value (mod_of s.plan [] m) t) b outcome, h)

-- ---- a unit

module _ (s : State) (t : Question → Answer) (fold : Needs Fragment (List Item)) (rests : Rests s t) (named : IsNamed s.plan fold) where
  pub seam_unit_needs : (x : ℕ) → tried (known_in s t) fold t ≡ Stands x → IsUnitTurn s t fold (UnitNeedsFirst (s.plan.top x))
  seam_unit_needs x e = unit_stands s.plan t (known_of s.plan t s.slots) s.noted rests.sound fold named x e

  pub seam_unit_done : (items : List Item) (rs : List Record) → tried (known_in s t) fold t ≡ Ended items rs → IsUnitTurn s t fold (Done items)
  seam_unit_done items rs e = unit_ended s.plan t (known_of s.plan t s.slots) s.noted rests.sound fold named items rs e
