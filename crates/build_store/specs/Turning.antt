-- What a memo of modules knows over some answers, and what turns over it come to. own
use Rattle.std.specs.Prelude.{◌≡◌, ℕ, ◌≤◌, ◌+◌, Bool, true, false, List, [], ◌∷◌, Option, Some, None, is_some, slice_set, if◌then◌else◌}
use Rattle.std.specs.List.{slice_index_or}
use Rattle.cm_outside.specs.Asks.{value, asked, Agrees}
use Rattle.cm_outside.specs.Firsts.{firsts}
use Rattle.cm_outside.specs.declared.question.Question.{Question}
use Rattle.cm_outside.specs.declared.question.Answer.{Answer}
use Rattle.cm_outside.specs.declared.question.Record.{Record}
use Rattle.unit_fold.specs.declared.item.Item.{Item}
use Rattle.build_store.specs.Memo.{Known, Unknown, Busy, Cyclic, Good, NeedsNext, NeedsNone, EndsCyclic, UnitNeeds, UnitEnds, Sound, Stack, AreApart}
use Rattle.build_store.specs.Modules.{Plan, mod_of, is_in}
use Rattle.build_store.specs.Needs.{Needs}
use Rattle.build_store.specs.Order.{with_new}
use Rattle.build_store.specs.Parts.{Fragment}
use Rattle.build_store.specs.declared.slot.Slot.{Slot}
use Rattle.build_store.specs.declared.slot.Slot.TheVariants.{Unknown as IsUnknown, Busy as IsBusy, Cyclic as IsCyclic, Good as IsGood}
use Rattle.build_store.specs.declared.slot.Turn.{Turn}
use Rattle.build_store.specs.declared.slot.Turn.TheVariants.{Needs as NeedsFirst, Cyclic as ComesBack, Good as HasEnded}
use Rattle.build_store.specs.declared.slot.UnitTurn.{UnitTurn}
use Rattle.build_store.specs.declared.slot.UnitTurn.TheVariants.{Needs as UnitNeedsFirst, Done}
use Rattle.build_store.specs.declared.slot.ModuleView.{ModuleView}
use Rattle.build_store.specs.declared.slot.ModuleView.TheVariants.{Ready, Cyclic as IsNoModule}

-- ---- what is known

-- what is known of a module, whose outcome over the answers is this, and which asks this
abbrev pub known_as : {B : Type 0} → Slot → Option B → List Record → Known B
known_as IsUnknown outcome records = Unknown
known_as IsBusy outcome records = Busy
known_as IsCyclic outcome records = Cyclic
known_as IsGood None records = Cyclic
known_as IsGood (Some b) records = Good b records

abbrev pub slot_at : List Slot → ℕ → Slot
slot_at slots m = slice_index_or slots m IsUnknown

abbrev pub is_new_slot : Slot → Bool
is_new_slot IsUnknown = true
is_new_slot IsBusy = false
is_new_slot IsCyclic = false
is_new_slot IsGood = false

-- the first of these modules of which nothing is known
abbrev pub first_new_slot : List Slot → List ℕ → Option ℕ
first_new_slot slots [] = None
first_new_slot slots (x ∷ xs) = if is_new_slot (slot_at slots x) then Some x else first_new_slot slots xs

-- what slots say of the modules of a plan, over these answers
unfoldable pub known_of : {B : Type 0} → Plan B → (Question → Answer) → List Slot → ℕ → Known B
known_of p t slots m = known_as (slot_at slots m) (value (mod_of p [] m) t) (firsts (asked (mod_of p [] m) t))

-- what is known of a module after this
abbrev pub with_slot : List Slot → ℕ → Slot → List Slot
with_slot slots m slot = slice_set slots m slot

-- ---- what interprets modules and units, as clauses see it

pub record State : Type 1 where
  -- the modules, and the fold of a unit by its path
  pub plan : Plan Fragment
  pub unit_fold : List ℕ → Needs Fragment (List Item)
  -- what is known of the modules, by number; the answers that the tree gave; and the modules that were begun, in order
  pub slots : List Slot
  pub records : List Record
  pub noted : List ℕ
  -- what was decided when a module was begun, and what is kept of one that has ended, is true over these answers
  pub decided : (Question → Answer) → ℕ → Type 0
  pub holds : (Question → Answer) → ℕ → Type 0
  -- whether the cache tells its files, whether it is honest, and the faults of the tree
  pub told : Bool
  pub honest : Type 0
  pub faults : ℕ

-- a cache that tells its files was honest before, and any other is honest after
abbrev pub Trusts : Bool → Type 0 → Type 0 → Type 0
Trusts true before after = before
Trusts false before after = after

abbrev pub IsTrusted : State → State → Type 0
IsTrusted old new = Trusts old.told old.honest new.honest

-- What each call keeps of what was found, and that answers after it are answers before it.
pub record Moved (old new : State) : Type 0 where
  pub plan : new.plan ≡ old.plan
  pub unit_fold : new.unit_fold ≡ old.unit_fold
  pub back : (t : Question → Answer) → Agrees t new.records → Agrees t old.records
  pub decided : (t : Question → Answer) (m : ℕ) → Agrees t new.records → old.decided t m → new.decided t m
  pub holds : (t : Question → Answer) (m : ℕ) → Agrees t new.records → old.holds t m → new.holds t m
  pub told : new.told ≡ old.told
  pub trusted : old.told ≡ false → new.honest → old.honest
  pub later : old.faults ≤ new.faults

-- a module whose slot is Good is not Cyclic, and what is kept of it is true
pub record AreKnown (s : State) (t : Question → Answer) : Type 0 where
  pub good : (m : ℕ) → slot_at s.slots m ≡ IsGood → is_some (value (mod_of s.plan [] m) t) ≡ true
  pub holds : (m : ℕ) → slot_at s.slots m ≡ IsGood → s.holds t m

-- what was decided of each module in progress is true
abbrev pub AreDecided : State → (Question → Answer) → List ℕ → Type 0
AreDecided s t chain = (m : ℕ) → is_in m chain ≡ true → s.decided t m

-- nothing is in progress, and what is known is true over these answers
pub record Rests (s : State) (t : Question → Answer) : Type 0 where
  pub sound : Sound s.plan t (known_of s.plan t s.slots) s.noted []
  pub known : AreKnown s t

-- The modules of the chain are in progress, the last begun first, and when they all have ended those of `end` will have been
-- begun.
pub record Runs (s : State) (t : Question → Answer) (chain end : List ℕ) : Type 0 where
  pub stack : Stack s.plan t (known_of s.plan t s.slots) s.noted chain end
  pub known : AreKnown s t
  pub decided : AreDecided s t chain

-- ---- turns

-- a turn of module m, in progress over those of the chain, of which this would be kept
abbrev pub IsTurn : State → (Question → Answer) → List ℕ → ℕ → Type 0 → Turn → Type 0
IsTurn s t chain m holds (NeedsFirst x) = NeedsNext s.plan t (known_of s.plan t s.slots) s.noted chain m x
IsTurn s t chain m holds ComesBack = EndsCyclic s.plan t s.noted chain m
IsTurn s t chain m holds HasEnded = NeedsNone s.plan t s.noted chain m × (is_some (value (mod_of s.plan [] m) t) ≡ true) × holds

-- what is known after a turn
abbrev pub slots_after : Turn → ℕ → List Slot → List Slot
slots_after (NeedsFirst x) m slots = slots
slots_after ComesBack m slots = with_slot slots m IsCyclic
slots_after HasEnded m slots = with_slot slots m IsGood

-- a turn of a unit
abbrev pub IsUnitTurn : State → (Question → Answer) → Needs Fragment (List Item) → UnitTurn → Type 0
IsUnitTurn s t fold (UnitNeedsFirst x) = UnitNeeds s.plan t (known_of s.plan t s.slots) s.noted fold x
IsUnitTurn s t fold (Done items) = UnitEnds s.plan t s.noted fold items

-- a module of the plan of which nothing is known
pub record IsNew (s : State) (x : ℕ) : Type 0 where
  pub top : is_in x s.plan.tops ≡ true
  pub unknown : slot_at s.slots x ≡ IsUnknown

-- what a module or a unit needs first is new
abbrev pub NeedsNew : State → Turn → Type 0
NeedsNew s (NeedsFirst x) = IsNew s x
NeedsNew s ComesBack = Unit {0}
NeedsNew s HasEnded = Unit {0}

abbrev pub UnitNeedsNew : State → UnitTurn → Type 0
UnitNeedsNew s (UnitNeedsFirst x) = IsNew s x
UnitNeedsNew s (Done items) = Unit {0}

-- ---- runs

-- the modules in progress are those of the plan, and their slots say so
pub record AreInProgress (s : State) (chain : List ℕ) : Type 0 where
  pub tops : (m : ℕ) → is_in m chain ≡ true → is_in m s.plan.tops ≡ true
  pub busy : (m : ℕ) → is_in m chain ≡ true → slot_at s.slots m ≡ IsBusy
  pub apart : AreApart chain

abbrev pub one_if_unknown : Slot → ℕ
one_if_unknown IsUnknown = 1
one_if_unknown IsBusy = 0
one_if_unknown IsCyclic = 0
one_if_unknown IsGood = 0

-- of how many modules nothing is known
abbrev pub unknowns : List Slot → ℕ
unknowns [] = 0
unknowns (s ∷ slots) = one_if_unknown s + unknowns slots

-- what is found of a module: it is Cyclic exactly where it has no outcome
abbrev pub IsView : Option Fragment → ModuleView → Type 0
IsView outcome Ready = is_some outcome ≡ true
IsView outcome IsNoModule = outcome ≡ None

abbrev pub view_as : Slot → ModuleView
view_as IsUnknown = IsNoModule
view_as IsBusy = IsNoModule
view_as IsCyclic = IsNoModule
view_as IsGood = Ready

-- What a whole run of what begins these keeps: over answers that agree with those after it, what was at rest is at rest, and
-- these were begun at their first.
pub record RestsAgain (old new : State) (t : Question → Answer) (begins : List ℕ) : Type 0 where
  pub rests : Rests new t
  pub noted : new.noted ≡ with_new old.noted begins

abbrev pub RestsAfter : State → State → ((Question → Answer) → List ℕ) → Type 0
RestsAfter old new begins = (t : Question → Answer) → Agrees t new.records → IsTrusted old new → Rests old t → RestsAgain old new t (begins t)
