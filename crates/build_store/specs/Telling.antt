-- What calls over the outside report of the modules that they begin. own
use Rattle.std.specs.Prelude.{◌≡◌, ◌≢◌, ℕ, ◌+◌, ◌-◌, ◌^◌, ◌<◌, ◌≤◌, min, Bool, true, false, ◌&&◌, ◌||◌, ◌==◌, List, [], ◌∷◌, ◌++◌, map, drop, length, Option, Some, None}
use Rattle.cm_outside.specs.Asks.{Agrees}
use Rattle.cm_outside.specs.Faults.{Rose}
use Rattle.cm_outside.specs.Trees.{Files, Path, file_at}
use Rattle.cm_outside.specs.declared.question.Question.{Question}
use Rattle.cm_outside.specs.declared.question.Answer.{Answer}
use Rattle.cm_outside.specs.declared.question.Record.{Record}
use Rattle.module_file.specs.ModuleFile.{file_name_of}
use Rattle.build_store.specs.Decisions.{IsChoice, IsNumberedChoice}
use Rattle.build_store.specs.Held.{Holds, IsDecided, choice_at, key_held, noted_as, numbers_noted, plan_held, setting_of_held}
use Rattle.build_store.specs.Images.{key_of}
use Rattle.build_store.specs.Memo.{AreApart}
use Rattle.build_store.specs.Modules.{is_in}
use Rattle.build_store.specs.Owners.{unit_needs}
use Rattle.build_store.specs.Report.{AreFaults, ComeFrom, ComesFrom, HasOwnFiles, counted, one_if_built, report_lines}
use Rattle.build_store.specs.Targets.{HasOwnNames, name_of}
use Rattle.build_store.specs.Turning.{State, slot_at}
use Rattle.build_store.specs.declared.decide.Choice.{Choice}
use Rattle.build_store.specs.declared.decide.Choice.TheVariants.{Sources, File}
use Rattle.build_store.specs.declared.decide.Decision.{Decision}
use Rattle.build_store.specs.declared.held.Held.{Held}
use Rattle.build_store.specs.declared.held.Noted.{Noted}
use Rattle.build_store.specs.declared.job.Job.{Job}
use Rattle.build_store.specs.declared.table.Table.{Table}
use Rattle.build_store.specs.declared.origin.Origin.{Origin}
use Rattle.build_store.specs.declared.origin.Origin.TheVariants.{Loaded, Built}
use Rattle.build_store.specs.declared.slot.Slot.TheVariants.{Unknown as IsUnknown, Busy as IsBusy}

abbrev pub numbers_of_noted : List Noted → List ℕ
numbers_of_noted noted = map (λ (n : Noted). n.number) noted

abbrev pub origins_of_noted : List Noted → List Origin
origins_of_noted noted = map (λ (n : Noted). n.origin) noted

-- a name is that of the file of one of these modules of a table
abbrev pub IsFileOf : Job → Table → List ℕ → Path → Type 0
IsFileOf job table xs name = (x : ℕ) × (is_in x xs ≡ true) × (x < length table.targets) × (name ≡ file_name_of (key_of job (name_of table x)))

-- The modules noted since, each at its first; over a cache that told these files, each comes from where its own file says, the
-- count of interpretations rose by those built, and the faults of the cache by those unreadable at least. No file has changed
-- but those of modules that were begun.
pub record TellsOf (files files_after : Files) (job : Job) (table : Table) (before after : List Noted) (t : Question → Answer) (compiles_before compiles_after faults_before faults_after : ℕ) : Type 0 where
  pub more : List Noted
  pub noted : after ≡ before ++ more
  pub numbers : (x : ℕ) → is_in x (numbers_of_noted more) ≡ true → x < length table.targets
  pub fresh : (x : ℕ) → is_in x (numbers_of_noted more) ≡ true → is_in x (numbers_of_noted before) ≡ false
  pub come_from : ComeFrom (Rose faults_before faults_after) files job table t (numbers_of_noted more) (origins_of_noted more)
  pub compiles : compiles_before < 2 ^ 64 → compiles_after ≡ counted compiles_before (origins_of_noted more)
  pub faults : AreFaults faults_before faults_after (origins_of_noted more)
  pub later : faults_before ≤ faults_after
  pub others : (name : Path) → (IsFileOf job table (numbers_of_noted after) name → ⊥) → file_at name files_after ≡ file_at name files

-- where the keys of the job's modules have different file names, and no two modules have one name
abbrev pub Tells : Option Files → Option Files → Held → Held → (Question → Answer) → ℕ → ℕ → ℕ → ℕ → Type 0
Tells None after old new t compiles_before compiles_after faults_before faults_after = Unit {0}
Tells (Some files) None old new t compiles_before compiles_after faults_before faults_after = ⊥
Tells (Some files) (Some after) old new t compiles_before compiles_after faults_before faults_after =
    HasOwnFiles old.job old.table → HasOwnNames old.table
    → (new.job ≡ old.job) × (new.table ≡ old.table)
    × TellsOf files after old.job old.table old.noted new.noted t compiles_before compiles_after faults_before faults_after

-- the modules that were noted since
abbrev pub noted_since : Held → Held → List Noted
noted_since old new = drop (length old.noted) new.noted

-- their report lines
abbrev pub report_since : Held → Held → List ℕ
report_since old new = report_lines new.table (numbers_of_noted (noted_since old new)) (origins_of_noted (noted_since old new))

-- ---- what is begun

abbrev pub is_built : Origin → Bool
is_built Loaded = false
is_built (Built reason) = true

abbrev pub is_sources : Choice → Bool
is_sources Sources = true
is_sources (File i numbers) = false

-- module m is among those that were noted as built
abbrev pub built_in : List Noted → ℕ → Bool
built_in [] m = false
built_in (n ∷ ns) m = ((m == n.number) && is_built n.origin) || built_in ns m

-- The modules that were begun are those of which something is known, each once, and those in progress are interpreted from
-- their sources that were noted as built.
pub record AreBegun (h : Held) : Type 0 where
  pub known : (m : ℕ) → is_in m (numbers_noted h) ≡ true → slot_at h.slots m ≢ IsUnknown
  pub noted : (m : ℕ) → slot_at h.slots m ≢ IsUnknown → is_in m (numbers_noted h) ≡ true
  pub apart : AreApart (numbers_noted h)
  pub chosen : (m : ℕ) → slot_at h.slots m ≡ IsBusy → is_sources (choice_at h m) ≡ built_in h.noted m

-- Module `number` was begun, as it was decided over a cache that told these files; `honest` says that it is so now, and
-- `failed` that it failed. These answers are given now.
pub record HasBegun (kept : List Record) (old new : Held) (number : ℕ) (files : Option Files) (honest failed : Type 0) (compiles_before compiles_after : ℕ) : Type 0 where
  pub decision : Decision
  pub held : new ≡ noted_as old number decision
  pub choice : (t : Question → Answer) → Agrees t kept → IsChoice old.table (key_held old number) honest t decision.choice
  pub numbered : IsNumberedChoice kept decision.choice
  pub chosen : is_sources decision.choice ≡ is_built decision.origin
  pub origin : (told : Files) → files ≡ Some told → (t : Question → Answer) → Agrees t kept → ComesFrom failed told old.job old.table t number decision.origin
  pub compiles : compiles_before < 2 ^ 64 → compiles_after ≡ min (compiles_before + one_if_built decision.origin) (2 ^ 64 - 1)

-- What is held, with the cache and the tree, as turns see it. What was decided is said of modules that were begun.
abbrev pub state_of : List Record → Held → Bool → Type 0 → ℕ → State
state_of kept h told honest faults = record {
  plan = plan_held h;
  unit_fold = λ unit. unit_needs (setting_of_held h) unit;
  slots = h.slots;
  records = kept;
  noted = numbers_noted h;
  decided = λ t m. (is_in m (numbers_noted h) ≡ true) × IsDecided kept h t m;
  holds = λ t m. Holds kept h t m;
  told = told;
  honest = honest;
  faults = faults;
}
