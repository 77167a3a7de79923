-- What a build holds of the modules of its job, and when that is true of some answers. own
use Rattle.std.specs.Prelude.{◌≡◌, ◌≢◌, ℕ, false, List, [], ◌∷◌, ◌++◌, map, drop, length, slice_get, slice_set, Option, Some, None}
use Rattle.std.specs.List.{slice_index_or}
use Rattle.cm_outside.specs.Asks.{value, asked, Agrees}
use Rattle.cm_outside.specs.Firsts.{firsts}
use Rattle.cm_outside.specs.declared.question.Question.{Question}
use Rattle.cm_outside.specs.declared.question.Answer.{Answer}
use Rattle.cm_outside.specs.declared.question.Record.{Record}
use Rattle.module_file.specs.declared.index.Key.{Key}
use Rattle.build_store.specs.Decisions.{IsNumberedChoice, IsTrueChoice, IsOfKey}
use Rattle.build_store.specs.Images.{interpreted, key_of}
use Rattle.build_store.specs.Libraries.{IsOf, IsBroughtBy, parts_at, with_part}
use Rattle.build_store.specs.Modules.{Plan, mod_of}
use Rattle.build_store.specs.NameIndexes.{IsIndexOf}
use Rattle.build_store.specs.Order.{needs_of}
use Rattle.build_store.specs.Owners.{Setting, plan_of, unit_needs}
use Rattle.build_store.specs.Parts.{Fragment}
use Rattle.build_store.specs.Tables.{table_of}
use Rattle.build_store.specs.Targets.{name_of}
use Rattle.build_store.specs.Turning.{State, Rests, Runs, IsTurn, slot_at, with_slot}
use Rattle.build_store.specs.declared.decide.Choice.{Choice}
use Rattle.build_store.specs.declared.decide.Choice.TheVariants.{Sources}
use Rattle.build_store.specs.declared.decide.Decision.{Decision}
use Rattle.build_store.specs.declared.held.Found.{Found}
use Rattle.build_store.specs.declared.held.Held.{Held}
use Rattle.build_store.specs.declared.held.Noted.{Noted}
use Rattle.build_store.specs.declared.part.Part.{Part}
use Rattle.build_store.specs.declared.slot.Turn.{Turn}
use Rattle.build_store.specs.declared.slot.Slot.TheVariants.{Busy, Cyclic, Good}

-- ---- what is held

abbrev pub setting_of_held : Held → Setting
setting_of_held h = record { table = h.table; includes = h.job.includes }

-- the modules of the job
abbrev pub plan_held : Held → Plan Fragment
plan_held h = plan_of (setting_of_held h)

-- the key of module m
abbrev pub key_held : Held → ℕ → Key
key_held h m = key_of h.job (name_of h.table m)

abbrev pub choice_at : Held → ℕ → Choice
choice_at h m = slice_index_or h.choices m Sources

abbrev pub found_at : Held → ℕ → Option Found
found_at h m = slice_index_or h.found m None

-- the modules that were begun, in order of first need
abbrev pub numbers_noted : Held → List ℕ
numbers_noted h = map (λ (n : Noted). n.number) h.noted

-- these are the numbers of the answers that are recorded so
abbrev pub AreNumbersOf : List Record → List ℕ → List Record → Type 0
AreNumbersOf kept numbers records = map (slice_get kept) numbers ≡ map Some records

-- ---- what is true of it

-- there is a place for each module of the table, each is found by its name, and nothing is kept of a module that has not ended
pub record HasPlaces (h : Held) : Type 0 where
  pub names : IsIndexOf h.table h.names
  pub library : IsOf h.table h.library
  pub slots : length h.slots ≡ length h.table.targets
  pub found : length h.found ≡ length h.table.targets
  pub choices : length h.choices ≡ length h.table.targets
  pub unended : (m : ℕ) → slot_at h.slots m ≢ Good → parts_at h.library m ≡ None

-- the table is that of the job's maps, over all answers that agree with those given
pub record IsTableOf (kept : List Record) (h : Held) : Type 0 where
  pub table : (t : Question → Answer) → Agrees t kept → value (table_of h.job.maps) t ≡ h.table
  pub maps : (t : Question → Answer) → Agrees t kept → AreNumbersOf kept h.maps (asked (table_of h.job.maps) t)

-- What was decided of module m is true over these answers: the file that is taken says what interpreting the module says.
pub record IsDecided (kept : List Record) (h : Held) (t : Question → Answer) (m : ℕ) : Type 0 where
  pub numbered : IsNumberedChoice kept (choice_at h m)
  pub of_key : IsOfKey h.table (key_held h m) (choice_at h m)
  pub is_true : IsTrueChoice t (choice_at h m)

-- What is kept of module m is true over these answers: it brings its part with those of all that it imports, and these are
-- the ones in the library; the questions are those that interpreting it asks, and the needs those that it begins.
pub record Holds (kept : List Record) (h : Held) (t : Question → Answer) (m : ℕ) : Type 0 where
  pub parts : Fragment
  pub found : Found
  pub outcome : value (mod_of (plan_held h) [] m) t ≡ Some parts
  pub brought : IsBroughtBy h.table (parts_at h.library) m parts
  pub is_found : found_at h m ≡ Some found
  pub questions : AreNumbersOf kept found.asked (firsts (asked (interpreted (key_held h m)) t))
  pub needs : found.needs ≡ drop 1 (needs_of (plan_held h) t m)

-- ---- what calls keep

-- The job stays, and with more answers given what was decided and what is kept stays true.
pub record HeldOn (before after : List Record) (old new : Held) : Type 0 where
  pub job : new.job ≡ old.job
  pub table : new.table ≡ old.table
  pub maps : new.maps ≡ old.maps
  pub decided : (t : Question → Answer) (m : ℕ) → Agrees t after → IsDecided before old t m → IsDecided after new t m
  pub holds : (t : Question → Answer) (m : ℕ) → Agrees t after → Holds before old t m → Holds after new t m

-- a module was begun, and what was decided of it stands by its number
abbrev pub noted_as : Held → ℕ → Decision → Held
noted_as h number d = record h {
  slots = with_slot h.slots number Busy;
  choices = slice_set h.choices number d.choice;
  noted = h.noted ++ (record { number = number; origin = d.origin } ∷ []);
}

-- a module is Cyclic
abbrev pub ended_as_cyclic : Held → ℕ → Held
ended_as_cyclic h number = record h { slots = with_slot h.slots number Cyclic }

-- what was decided of a module is taken
abbrev pub without_choice : Held → ℕ → Held
without_choice h number = record h { choices = slice_set h.choices number Sources }

-- what has ended: this part and what else was found are kept of the module of this number, and all else stays
pub record IsEnded (old new : Held) (number : ℕ) (part : Part) (found : Found) : Type 0 where
  pub job : new.job ≡ old.job
  pub table : new.table ≡ old.table
  pub names : new.names ≡ old.names
  pub maps : new.maps ≡ old.maps
  pub choices : new.choices ≡ old.choices
  pub noted : new.noted ≡ old.noted
  pub slots : new.slots ≡ with_slot old.slots number Good
  pub found_of : new.found ≡ slice_set old.found number (Some found)
  pub library : IsOf new.table new.library
  pub parts : (y : ℕ) → parts_at new.library y ≡ with_part (parts_at old.library) number part y

-- ---- what is held, as turns see it

-- What is held, where the answers given are recorded so. Whether the cache is honest is no matter of what is held.
unfoldable pub state_held : List Record → Held → State
state_held kept h = record {
  plan = plan_held h;
  unit_fold = unit_needs (setting_of_held h);
  slots = h.slots;
  records = kept;
  noted = numbers_noted h;
  decided = IsDecided kept h;
  holds = Holds kept h;
  told = false;
  honest = Unit {0};
  faults = 0;
}

-- what is in progress over these answers
abbrev pub HeldRuns : List Record → Held → (Question → Answer) → List ℕ → List ℕ → Type 0
HeldRuns kept h t chain end = Runs (state_held kept h) t chain end

-- nothing is in progress
abbrev pub HeldRests : List Record → Held → (Question → Answer) → Type 0
HeldRests kept h t = Rests (state_held kept h) t

-- a turn of module m, behind which this is held
abbrev pub IsHeldTurn : List Record → Held → Held → (Question → Answer) → List ℕ → ℕ → Turn → Type 0
IsHeldTurn kept old new t chain m turn = IsTurn (state_held kept old) t chain m (Holds kept new t m) turn
