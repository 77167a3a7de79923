-- How far the fold of a header or a unit comes by what is held. own
use Rattle.std.specs.Prelude.{◌≡◌, ℕ, ◌+◌, ◌-◌, ◌<◌, Bool, true, false, if◌then◌else◌, List, [], ◌∷◌, ◌++◌, length, slice_get, Option, Some, None, is_some}
use Rattle.cm_outside.specs.Asks.{asked, value}
use Rattle.cm_outside.specs.Firsts.{firsts}
use Rattle.cm_outside.specs.declared.question.Question.{Question}
use Rattle.cm_outside.specs.declared.question.Answer.{Answer}
use Rattle.cm_outside.specs.declared.question.Record.{Record}
use Rattle.unit_fold.specs.Owners.{Reading, SoFar}
use Rattle.unit_fold.specs.Steps.{Fits, FoldState, IsHead, StandsAt, WaitsFor, after}
use Rattle.unit_fold.specs.declared.fold.Event.{Event}
use Rattle.unit_fold.specs.declared.fold.Event.TheVariants.{NeedText, NeedInclude, Done as HasRead}
use Rattle.unit_fold.specs.declared.fold.Stage.{Stage}
use Rattle.unit_fold.specs.declared.fold.Stage.TheVariants.{Begins, WaitsForText, WaitsAtInclude, IsDone, IsSpent}
use Rattle.unit_fold.specs.declared.given.Given.{Given}
use Rattle.unit_fold.specs.declared.given.Given.TheVariants.{Imported as Import_of, Refused, Skip, NotBuilt as NotBuiltYet}
use Rattle.unit_fold.specs.declared.item.FaultKind.TheVariants.{CyclicModule}
use Rattle.unit_fold.specs.declared.item.Item.{Item}
use Rattle.unit_fold.specs.declared.item.Item.TheVariants.{Object, Pointer, Import, Fault}
use Rattle.build_store.specs.Held.{AreNumbersOf, found_at, plan_held, setting_of_held, state_held}
use Rattle.build_store.specs.Libraries.{parts_at}
use Rattle.build_store.specs.Memo.{Grows, Known, Tried, Ended, Stands, tried, with_records}
use Rattle.build_store.specs.Needs.{Needs, Ends, Imports, strictly, then_needs}
use Rattle.build_store.specs.Owners.{is_own, module_needs, needs_of, owner_needs, owner_with, unit_needs}
use Rattle.build_store.specs.Parts.{Fragment, brought}
use Rattle.build_store.specs.Tables.{table_of}
use Rattle.build_store.specs.Turning.{AreKnown, known_of, slot_at}
use Rattle.build_store.specs.declared.finding.Find.{Find}
use Rattle.build_store.specs.declared.finding.Find.TheVariants.{Nothing, Plain, Header}
use Rattle.build_store.specs.declared.held.Found.{Found}
use Rattle.build_store.specs.declared.held.Held.{Held}
use Rattle.build_store.specs.declared.part.Part.{Part}
use Rattle.build_store.specs.declared.table.Target.{Target}
use Rattle.build_store.specs.declared.slot.Slot.{Slot}
use Rattle.build_store.specs.declared.slot.Slot.TheVariants.{Unknown as IsUnknown, Busy as IsBusy, Cyclic as IsCyclic, Good as IsGood}
use Rattle.build_store.specs.declared.slot.UnitTurn.{UnitTurn}
use Rattle.build_store.specs.declared.slot.UnitTurn.TheVariants.{Needs as UnitNeedsFirst, Done as UnitDone}
use Rattle.build_store.specs.declared.walk.Paused.{Paused}
use Rattle.build_store.specs.declared.walk.Step.{Step}
use Rattle.build_store.specs.declared.walk.Step.TheVariants.{Goes, Needs as StepNeeds, Cyclic as StepCyclic, Ends as StepEnds}
use Rattle.build_store.specs.declared.walk.Walk.{Walk}
use Rattle.build_store.specs.declared.walk.Walk.TheVariants.{Needs as NeedsFirst, Cyclic as ComesBack, Done}
use Rattle.build_store.specs.declared.walk.Way.{Way}
use Rattle.build_store.specs.declared.walk.Way.TheVariants.{Needs as WayNeeds, Cyclic as WayCyclic, Done as WayDone}

-- what the held modules are over these answers
abbrev pub known_held : Held → (Question → Answer) → ℕ → Known Fragment
known_held h t = known_of (plan_held h) t h.slots

-- what is kept of the modules that are Good is true over these answers
abbrev pub AreTrue : List Record → Held → (Question → Answer) → Type 0
AreTrue kept h t = AreKnown (state_held kept h) t

-- ---- walks

-- the fold of the header of module m, which ends as Cyclic at its first Cyclic import
abbrev pub header_fold : Held → ℕ → Needs Fragment (Option Fragment)
header_fold h m = strictly (λ x. Imports x (λ b. Ends b)) (module_needs (setting_of_held h) m)

-- The questions of these numbers, behind those of the maps, are at their first those of the maps and of these records. The
-- numbers of an imported module stand for all that interpreting it asks, the maps among them.
pub record AsksSame (kept : List Record) (h : Held) (t : Question → Answer) (numbers : List ℕ) (records : List Record) : Type 0 where
  pub numbered : List Record
  pub are : AreNumbersOf kept numbers numbered
  pub same : firsts (asked (table_of h.job.maps) t ++ numbered) ≡ firsts (asked (table_of h.job.maps) t ++ records)

-- A walk over the header of module m. Where it came to the end, the numbers of what it asks were put behind others.
abbrev pub IsWalkTo : List Record → Held → (Question → Answer) → ℕ → List ℕ → List ℕ → Walk → Tried (Option Fragment) → Type 0
IsWalkTo kept h t m before now (NeedsFirst x) (Stands y) = x ≡ y
IsWalkTo kept h t m before now ComesBack (Ended None records) = Unit {0}
IsWalkTo kept h t m before now (Done part) (Ended (Some parts) records) =
    ((more : Fragment) × (parts ≡ (m, part) ∷ more)) × ((added : List ℕ) × (now ≡ before ++ added) × AsksSame kept h t added records)
IsWalkTo kept h t m before now walk far = ⊥

abbrev pub IsWalk : List Record → Held → (Question → Answer) → ℕ → List ℕ → List ℕ → Walk → Type 0
IsWalk kept h t m before now walk = IsWalkTo kept h t m before now walk (tried (known_held h t) (header_fold h m) t)

abbrev pub IsUnitWalkTo : UnitTurn → Tried (List Item) → Type 0
IsUnitWalkTo (UnitNeedsFirst x) (Stands y) = x ≡ y
IsUnitWalkTo (UnitDone items) (Ended found records) = items ≡ found
IsUnitWalkTo turn far = ⊥

-- a walk over a unit
abbrev pub IsUnitWalk : Held → (Question → Answer) → List ℕ → UnitTurn → Type 0
IsUnitWalk h t unit turn = IsUnitWalkTo turn (tried (known_held h t) (unit_needs (setting_of_held h) unit) t)

-- nothing is known of this module
abbrev pub IsOpen : Held → ℕ → Type 0
IsOpen h x = (slot_at h.slots x ≡ IsUnknown) × (x < length h.table.targets)

-- what a walk stands at is a module of which nothing is known
abbrev pub OpensUnknown : Held → Walk → Type 0
OpensUnknown h (NeedsFirst x) = IsOpen h x
OpensUnknown h ComesBack = Unit {0}
OpensUnknown h (Done part) = Unit {0}

abbrev pub UnitOpensUnknown : Held → UnitTurn → Type 0
UnitOpensUnknown h (UnitNeedsFirst x) = IsOpen h x
UnitOpensUnknown h (UnitDone items) = Unit {0}

-- ---- for the contracts of private functions: what an include comes to

abbrev pub asked_or : Option Found → List ℕ
asked_or None = []
asked_or (Some found) = found.asked

-- an import of the module of this name that comes back
abbrev pub cyclic_step : Bool → List ℕ → Step
cyclic_step true name = StepCyclic
cyclic_step false name = Goes (Refused (CyclicModule name))

-- an import of module x of this name, of which this is known. A header's walk is strict.
abbrev pub slot_step : Held → Bool → ℕ → List ℕ → Slot → Step
slot_step h strict x name IsUnknown = StepNeeds x
slot_step h strict x name IsBusy = cyclic_step strict name
slot_step h strict x name IsCyclic = cyclic_step strict name
slot_step h strict x name IsGood = Goes (Import_of (record { sub = record { index = x }; name = name }) (brought h.table (parts_at h.library) x))

abbrev pub target_step : Held → Bool → ℕ → Option Target → Step
target_step h strict x None = Goes NotBuiltYet
target_step h strict x (Some m) = slot_step h strict x m.name (slot_at h.slots x)

-- the numbers of what the import asks
abbrev pub slot_numbers : Held → ℕ → Slot → List ℕ
slot_numbers h x IsUnknown = []
slot_numbers h x IsBusy = []
slot_numbers h x IsCyclic = []
slot_numbers h x IsGood = asked_or (found_at h x)

abbrev pub target_numbers : Held → ℕ → Option Target → List ℕ
target_numbers h x None = []
target_numbers h x (Some m) = slot_numbers h x (slot_at h.slots x)

-- an include that found this
abbrev pub find_step : Held → Option ℕ → Find → Step
find_step h own Nothing = Goes NotBuiltYet
find_step h own Plain = Goes NotBuiltYet
find_step h own (Header x) = if is_own own x then Goes Skip else target_step h (is_some own) x (slice_get h.table.targets x)

abbrev pub find_numbers : Held → Option ℕ → Find → List ℕ
find_numbers h own Nothing = []
find_numbers h own Plain = []
find_numbers h own (Header x) = if is_own own x then [] else target_numbers h x (slice_get h.table.targets x)

-- a part with what one item more comes to
abbrev pub with_item : Part → Item → Part
with_item part (Object n) = record part { objects = part.objects ++ n ∷ [] }
with_item part (Pointer n) = part
with_item part (Import m at) = record part { imports = part.imports ++ m.name ∷ [] }
with_item part (Fault d) = record part { faults = part.faults ++ d ∷ [] }

-- ---- for the contracts of private functions: the walk over an owner

-- a fold that ends as Cyclic at its first Cyclic import, or that is told of each and goes on
abbrev pub walked : {A : Type 0} → Bool → Needs Fragment A → Needs Fragment (Option A)
walked true fold = strictly (λ x. Imports x (λ b. Ends b)) fold
walked false fold = then_needs fold (λ a. Ends (Some a))

-- How far the fold of an owner comes, by what is known of modules.
abbrev pub Far : Type 0
Far = (ℕ → Known Fragment) → Tried (Option (SoFar × Fragment))

-- how far an owner comes
abbrev pub owner_far : Held → (Question → Answer) → Option ℕ → List ℕ → Far
owner_far h t own path = λ known. tried known (walked (is_some own) (owner_needs (setting_of_held h) own path)) t

-- how far what is left of an owner's text comes
abbrev pub far_of : Held → (Question → Answer) → Option ℕ → List ℕ → Fragment → Reading → Far
far_of h t own file parts reading = λ known. tried known (walked (is_some own) (needs_of (setting_of_held h) own file parts reading)) t

-- By answers whose numbers were put behind others a walk came from a whole to a rest. Over a job's own table, these are the
-- answers that it asked for.
pub record WalksOn {A : Type 0} (kept : List Record) (h : Held) (t : Question → Answer) (before now : List ℕ) (whole rest : Tried A) : Type 0 where
  pub records : List Record
  pub comes : whole ≡ with_records records rest
  pub added : List ℕ
  pub pushed : now ≡ before ++ added
  pub same : value (table_of h.job.maps) t ≡ h.table → AsksSame kept h t added records

-- a walk came so from a whole to a rest, and would where more is known than what is held
abbrev pub WalksAll : List Record → Held → (Question → Answer) → List ℕ → List ℕ → Far → Far → Type 0
WalksAll kept h t before now whole rest = (known : ℕ → Known Fragment) → Grows (known_held h t) known → WalksOn kept h t before now (whole known) (rest known)

-- what the step of an event makes of a walk that came this far
abbrev pub IsStep : List Record → Held → (Question → Answer) → Option ℕ → List ℕ → FoldState → List ℕ → List ℕ → Far → Step → Type 0
IsStep kept h t own file fold before now whole (Goes given) = (more : Fragment) × WalksAll kept h t before now whole (far_of h t own file more (after fold given))
IsStep kept h t own file fold before now whole (StepNeeds x) = whole (known_held h t) ≡ Stands x
IsStep kept h t own file fold before now whole StepCyclic = (records : List Record) × (whole (known_held h t) ≡ Ended None records)
IsStep kept h t own file fold before now whole StepEnds = (more : Fragment) × WalksOn kept h t before now (whole (known_held h t)) (Ended (Some (fold.progress, more)) [])

-- what an include makes of a walk, where this follows each answer
abbrev pub IsIncludeStep : List Record → Held → (Question → Answer) → Option ℕ → List ℕ → (Given → Reading) → List ℕ → List ℕ → Far → Step → Type 0
IsIncludeStep kept h t own file next before now whole (Goes given) = (more : Fragment) × WalksAll kept h t before now whole (far_of h t own file more (next given))
IsIncludeStep kept h t own file next before now whole (StepNeeds x) = whole (known_held h t) ≡ Stands x
IsIncludeStep kept h t own file next before now whole StepCyclic = (records : List Record) × (whole (known_held h t) ≡ Ended None records)
IsIncludeStep kept h t own file next before now whole StepEnds = ⊥

-- A fold waits where a walk comes to from this whole, however much more is known than what is held.
pub record WaitsBehind (h : Held) (t : Question → Answer) (own : Option ℕ) (file : List ℕ) (whole : Far) (paused : Paused) : Type 0 where
  pub reading : Reading
  pub head : IsHead reading paused.event paused.fold
  pub parts : Fragment
  pub comes : (known : ℕ → Known Fragment) → Grows (known_held h t) known → (records : List Record) × (whole known ≡ with_records records (far_of h t own file parts reading known))

-- where a walk over an owner ends
abbrev pub IsWay : List Record → Held → (Question → Answer) → Option ℕ → List ℕ → List ℕ → List ℕ → Far → Way → Type 0
IsWay kept h t own file before now whole (WayNeeds x paused) = (whole (known_held h t) ≡ Stands x) × WaitsBehind h t own file whole paused
IsWay kept h t own file before now whole WayCyclic = (records : List Record) × (whole (known_held h t) ≡ Ended None records)
IsWay kept h t own file before now whole (WayDone items) = (p : SoFar) × (more : Fragment) × (p.items ≡ items) × WalksOn kept h t before now (whole (known_held h t)) (Ended (Some (p, more)) [])

-- where a walk over a unit ends, whose questions are of no matter
abbrev pub IsUnitWay : Held → (Question → Answer) → List ℕ → Far → Way → Type 0
IsUnitWay h t unit whole (WayNeeds x paused) = (whole (known_held h t) ≡ Stands x) × WaitsBehind h t None unit whole paused
IsUnitWay h t unit whole WayCyclic = Unit {0}
IsUnitWay h t unit whole (WayDone items) = (p : SoFar) × (more : Fragment) × (p.items ≡ items) × (records : List Record) × (whole (known_held h t) ≡ Ended (Some (p, more)) records)

-- where the fold of a unit waits, if it does
abbrev pub IsPaused : Held → (Question → Answer) → List ℕ → Option Paused → Type 0
IsPaused h t unit None = Unit {0}
IsPaused h t unit (Some paused) = WaitsBehind h t None unit (owner_far h t None unit) paused

-- the fold of this owner waits at the event
pub record PausedFor (own : Option ℕ) (paused : Paused) : Type 0 where
  pub waits : WaitsFor paused.event paused.fold.stage
  pub stands : StandsAt paused.event paused.fold.stage
  pub owner : paused.fold.owner ≡ owner_with own

abbrev pub IsReady : Option Paused → Type 0
IsReady None = Unit {0}
IsReady (Some paused) = PausedFor None paused

abbrev pub WayIsReady : Option ℕ → Way → Type 0
WayIsReady own (WayNeeds x paused) = PausedFor own paused
WayIsReady own WayCyclic = Unit {0}
WayIsReady own (WayDone items) = Unit {0}

-- what is given after a step fits what the fold waits for
abbrev pub StepFits : Stage → Step → Type 0
StepFits stage (Goes given) = Fits stage given
StepFits stage (StepNeeds x) = Unit {0}
StepFits stage StepCyclic = Unit {0}
StepFits stage StepEnds = Unit {0}

abbrev pub EndsWith : Event → Step → Type 0
EndsWith NeedText step = step ≡ Goes Skip
EndsWith (NeedInclude text at) (Goes given) = Unit {0}
EndsWith (NeedInclude text at) (StepNeeds x) = Unit {0}
EndsWith (NeedInclude text at) StepCyclic = Unit {0}
EndsWith (NeedInclude text at) StepEnds = ⊥
EndsWith HasRead step = step ≡ StepEnds

abbrev pub StepOpens : Held → Step → Type 0
StepOpens h (Goes given) = Unit {0}
StepOpens h (StepNeeds x) = IsOpen h x
StepOpens h StepCyclic = Unit {0}
StepOpens h StepEnds = Unit {0}

abbrev pub WayOpens : Held → Way → Type 0
WayOpens h (WayNeeds x paused) = IsOpen h x
WayOpens h WayCyclic = Unit {0}
WayOpens h (WayDone items) = Unit {0}

-- only a header's walk ends as Cyclic
abbrev pub StepIsFor : Option ℕ → Step → Type 0
StepIsFor own (Goes given) = Unit {0}
StepIsFor own (StepNeeds x) = Unit {0}
StepIsFor own StepCyclic = is_some own ≡ true
StepIsFor own StepEnds = Unit {0}

abbrev pub WayIsFor : Option ℕ → Way → Type 0
WayIsFor own (WayNeeds x paused) = Unit {0}
WayIsFor own WayCyclic = is_some own ≡ true
WayIsFor own (WayDone items) = Unit {0}

-- how much a fold at this stage may still ask for: the bytes of the text that are left, its next file, and nothing
abbrev pub stage_left : Stage → ℕ
stage_left Begins = 0
stage_left WaitsForText = 1
stage_left (WaitsAtInclude i) = length i.text.bytes - i.next + 2
stage_left IsDone = 0
stage_left IsSpent = 0

-- with this a fold at this stage comes nearer to its end
abbrev pub GoesDown : Stage → Given → Type 0
GoesDown Begins given = ⊥
GoesDown WaitsForText given = given ≡ Skip
GoesDown (WaitsAtInclude i) given = Unit {0}
GoesDown IsDone given = ⊥
GoesDown IsSpent given = ⊥
