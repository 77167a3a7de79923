-- What a module comes to by its kept file, and what it needs first. own
use Rattle.std.specs.Prelude.{ℕ, Bool, true, false, if◌then◌else◌, List, [], ◌∷◌, map, slice_get, Option, Some, None}
use Rattle.std.specs.List.{flat_map}
use Rattle.unit_fold.specs.declared.item.FaultAt.{FaultAt}
use Rattle.unit_fold.specs.declared.item.FaultKind.{FaultKind}
use Rattle.unit_fold.specs.declared.item.Named.{Named}
use Rattle.module_file.specs.declared.index.Declaration.{Declaration}
use Rattle.module_file.specs.declared.index.Index.{Index}
use Rattle.module_file.specs.declared.index.KeptDiag.{KeptDiag}
use Rattle.build_store.specs.KeptFaults.{fault_of_kept}
use Rattle.build_store.specs.Targets.{number_of}
use Rattle.build_store.specs.Held.{IsEnded, without_choice}
use Rattle.build_store.specs.declared.decide.Choice.{Choice}
use Rattle.build_store.specs.declared.decide.Choice.TheVariants.{Sources, File}
use Rattle.build_store.specs.declared.held.Held.{Held}
use Rattle.build_store.specs.declared.part.Part.{Part}
use Rattle.build_store.specs.declared.table.Table.{Table}
use Rattle.build_store.specs.declared.slot.Slot.{Slot}
use Rattle.build_store.specs.declared.slot.Slot.TheVariants.{Unknown, Busy, Cyclic, Good}
use Rattle.build_store.specs.declared.slot.Turn.{Turn}
use Rattle.build_store.specs.declared.slot.Turn.TheVariants.{Needs, Good as HasEnded}

abbrev pub objects_by : List Declaration → List Named
objects_by declarations = map (λ (d : Declaration). record { name = d.name; at = record { line = d.line; column = d.column } }) declarations

-- a fault at the place of a kept diagnostic
abbrev pub fault_as : KeptDiag → Option FaultKind → List FaultAt
fault_as d None = []
fault_as d (Some kind) = record { at = record { line = d.line; column = d.column }; kind = kind } ∷ []

-- the faults that were kept so; a file with a diagnostic of another kind is not loaded
abbrev pub faults_by : List KeptDiag → List FaultAt
faults_by diags = flat_map (λ (d : KeptDiag). fault_as d (fault_of_kept d)) diags

-- the part that a file says
abbrev pub part_by : Index → Part
part_by i = record { objects = objects_by i.declarations; imports = i.imports; faults = faults_by i.diags }

abbrev pub or_nothing : Option ℕ → List ℕ
or_nothing None = []
or_nothing (Some x) = x ∷ []

-- the numbers of the modules of these names, of those that the table has
abbrev pub needs_by : Table → List (List ℕ) → List ℕ
needs_by table names = flat_map (λ name. or_nothing (number_of table name)) names

-- there is such a slot, and it is of a module of which nothing is known
abbrev pub is_new : Option Slot → Bool
is_new None = false
is_new (Some Unknown) = true
is_new (Some Busy) = false
is_new (Some Cyclic) = false
is_new (Some Good) = false

-- The first of these modules of which nothing is known. A file that is true names none that is in progress or Cyclic.
abbrev pub first_new : List Slot → List ℕ → Option ℕ
first_new slots [] = None
first_new slots (x ∷ xs) = if is_new (slice_get slots x) then Some x else first_new slots xs

-- what a module that needs this one first comes to; where there is none it has ended
abbrev pub turn_by : Option ℕ → Turn
turn_by None = HasEnded
turn_by (Some x) = Needs x

abbrev pub needs_of_choice : Table → Choice → List ℕ
needs_of_choice table Sources = []
needs_of_choice table (File i numbers) = needs_by table i.needs

-- the module is loaded from its file
abbrev pub IsFile : Choice → Type 0
IsFile Sources = ⊥
IsFile (File i numbers) = Unit {0}

-- the module of this number is loaded from its file, with these needs
abbrev pub IsLoaded : Held → Held → ℕ → List ℕ → Choice → Type 0
IsLoaded old new number needs Sources = ⊥
IsLoaded old new number needs (File i numbers) = IsEnded (without_choice old number) new number (part_by i) (record { asked = numbers; needs = needs })
