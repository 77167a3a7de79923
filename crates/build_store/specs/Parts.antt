-- What a module comes to, and what an import of it makes visible. Which submodules an import makes visible is the closure of
-- exports (Clang's documentation, Modules, "Export declaration"); the rest is own.
use Rattle.std.specs.Prelude.{ℕ, suc, Bool, true, false, ◌==◌, List, [], ◌∷◌, map, length, Option, Some, None}
use Rattle.std.specs.List.{range_with_len, flat_map}
use Rattle.cm_core.specs.declared.numbers.SubNo.{SubNo}
use Rattle.unit_fold.specs.declared.item.Item.{Item}
use Rattle.unit_fold.specs.declared.item.Item.TheVariants.{Object, Pointer, Import, Fault}
use Rattle.unit_fold.specs.declared.item.Named.{Named}
use Rattle.unit_fold.specs.declared.item.FaultAt.{FaultAt}
use Rattle.export_closure.specs.Closure.{closure}
use Rattle.export_closure.specs.Flags.{has}
use Rattle.export_closure.specs.declared.rows.ExportRow.{ExportRow}
use Rattle.export_closure.specs.declared.rows.Pattern.{Pattern}
use Rattle.export_closure.specs.declared.rows.Pattern.TheVariants.{All as Every, Under}
use Rattle.build_store.specs.Targets.{number_of}
use Rattle.build_store.specs.declared.part.Part.{Part}
use Rattle.build_store.specs.declared.table.Table.{Table}
use Rattle.build_store.specs.declared.table.Target.{Target}
use Rattle.build_store.specs.declared.table.Export.{Export}
use Rattle.build_store.specs.declared.table.Export.TheVariants.{Nothing, All, Module}

-- ---- the part of a module

-- the object that an item declares
abbrev pub object_in : Item → List Named
object_in (Object n) = n ∷ []
object_in (Pointer n) = []
object_in (Import m at) = []
object_in (Fault d) = []

-- the name of the module that it imports
abbrev pub import_in : Item → List (List ℕ)
import_in (Object n) = []
import_in (Pointer n) = []
import_in (Import m at) = m.name ∷ []
import_in (Fault d) = []

-- its diagnostic
abbrev pub fault_in : Item → List FaultAt
fault_in (Object n) = []
fault_in (Pointer n) = []
fault_in (Import m at) = []
fault_in (Fault d) = d ∷ []

-- the objects that an owner declares
abbrev pub objects_of : List Item → List Named
objects_of items = flat_map object_in items

-- the names of the modules that it imports, in order
abbrev pub imports_of : List Item → List (List ℕ)
imports_of items = flat_map import_in items

-- its diagnostics, in order
abbrev pub faults_of : List Item → List FaultAt
faults_of items = flat_map fault_in items

-- what a module comes to whose header came to this
abbrev pub part_of : List Item → Part
part_of items = record { objects = objects_of items; imports = imports_of items; faults = faults_of items }

-- a module of which nothing is known
abbrev pub no_part : Part
no_part = record { objects = []; imports = []; faults = [] }

-- The parts of some modules, by number: that of a module that was interpreted, and those of all modules that it needed.
abbrev pub Fragment : Type 0
Fragment = List (ℕ × Part)

abbrev pub part_or : Bool → Part → Option Part → Option Part
part_or true part later = Some part
part_or false part later = later

-- the part of a module, where it is among these
abbrev pub part_in : Fragment → ℕ → Option Part
part_in [] x = None
part_in (p ∷ more) x = part_or (p.0 == x) p.1 (part_in more x)

-- ---- what is visible

-- the number of a name, for the closure
abbrev pub sub_numbers : Option ℕ → List SubNo
sub_numbers None = []
sub_numbers (Some x) = record { index = x } ∷ []

-- the numbers of these names, of those that a map declares
abbrev pub numbers_of : Table → List (List ℕ) → List SubNo
numbers_of table names = flat_map (λ name. sub_numbers (number_of table name)) names

abbrev pub under : Option ℕ → List Pattern
under None = []
under (Some x) = Under (record { index = x }) ∷ []

-- the patterns of `export *` and `export NAME`
abbrev pub patterns_of : Table → Export → List Pattern
patterns_of table Nothing = []
patterns_of table All = Every ∷ []
patterns_of table (Module name) = under (number_of table name)

-- the row of a module that has this part: it is no part of another one
abbrev pub row_of : Table → Export → Part → ExportRow
row_of table export part = record { parent = None; explicit = false; exports = patterns_of table export; imports = numbers_of table part.imports }

abbrev pub part_or_none : Option Part → Part
part_or_none None = no_part
part_or_none (Some part) = part

-- the rows of a table's modules from number x on
abbrev pub rows_from : Table → (ℕ → Option Part) → ℕ → List Target → List ExportRow
rows_from table parts x [] = []
rows_from table parts x (m ∷ more) = row_of table m.export (part_or_none (parts x)) ∷ rows_from table parts (suc x) more

abbrev pub rows_of : Table → (ℕ → Option Part) → List ExportRow
rows_of table parts = rows_from table parts 0 table.targets

abbrev pub names_in : Part → List (List ℕ)
names_in part = map (λ (n : Named). n.name) part.objects

abbrev pub names_if : Bool → Option Part → List (List ℕ)
names_if false part = []
names_if true None = []
names_if true (Some part) = names_in part

-- what the modules of a set declare, in the order of their numbers
abbrev pub declared_in : (ℕ → Option Part) → List Bool → List ℕ → List (List ℕ)
declared_in parts set xs = flat_map (λ x. names_if (has set x) (parts x)) xs

-- the names of the objects that an import of module x makes visible
unfoldable pub brought : Table → (ℕ → Option Part) → ℕ → List (List ℕ)
brought table parts x = declared_in parts (closure (rows_of table parts) x) (range_with_len 0 (length table.targets))
