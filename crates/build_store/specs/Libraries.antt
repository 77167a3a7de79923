-- What is known of the modules of a table, by their numbers. own
use Rattle.std.specs.Prelude.{◌≡◌, ℕ, Bool, true, ◌==◌, if◌then◌else◌, List, length, Option, Some, None}
use Rattle.std.specs.List.{slice_index_or, list_any}
use Rattle.std.specs.Option.{is_some}
use Rattle.cm_core.specs.declared.numbers.SubNo.{SubNo}
use Rattle.export_closure.specs.Closure.{AreRows}
use Rattle.build_store.specs.Parts.{Fragment, part_in, numbers_of, rows_of}
use Rattle.build_store.specs.declared.part.Part.{Part}
use Rattle.build_store.specs.declared.table.Table.{Table}
use Rattle.build_store.specs.declared.library.Library.{Library}

-- the part of module x, where it is known
abbrev pub part_at : List (Option Part) → ℕ → Option Part
part_at parts x = slice_index_or parts x None

abbrev pub parts_at : Library → ℕ → Option Part
parts_at library = part_at library.parts

-- these parts, and this one of module x
abbrev pub with_part : (ℕ → Option Part) → ℕ → Part → ℕ → Option Part
with_part parts x part y = if y == x then Some part else parts y

-- each module of the library has a place and a row
pub record IsWhole (library : Library) : Type 0 where
  pub rows : AreRows library.rows
  pub places : length library.rows ≡ length library.parts

-- the modules of the library are those of the table, and its rows are those by what is known of them
pub record IsOf (table : Table) (library : Library) : Type 0 where
  pub places : length library.parts ≡ length table.targets
  pub rows : library.rows ≡ rows_of table (parts_at library)
  pub whole : IsWhole library

-- module y is among those that a module of this part imports
abbrev pub is_imported : Table → Part → ℕ → Bool
is_imported table part y = list_any (λ (s : SubNo). s.index == y) (numbers_of table part.imports)

-- The parts b are what module x brings: with its own part there are those of all that it imports, and so on, and they are
-- the ones that are known.
pub record IsBroughtBy (table : Table) (parts : ℕ → Option Part) (x : ℕ) (b : Fragment) : Type 0 where
  pub own : is_some (part_in b x) ≡ true
  pub known : (z : ℕ) (part : Part) → part_in b z ≡ Some part → parts z ≡ Some part
  pub closed : (z y : ℕ) (part : Part) → part_in b z ≡ Some part → is_imported table part y ≡ true → is_some (part_in b y) ≡ true
