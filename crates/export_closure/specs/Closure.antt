-- What an import makes visible: Clang's documentation, Modules, "Submodule declaration" (explicit submodules) and
-- "Export declaration". That an import shows no submodule of an explicit submodule which is itself not visible, and that a
-- pattern matches what is imported by its place among the parents, is own.
use Rattle.std.specs.Prelude.{ℕ, zero, suc, ◌<◌, Bool, true, false, not, ◌||◌, ◌&&◌, ◌==◌, List, length, slice_get, All, Option, option_and_then, IfSome}
use Rattle.std.specs.List.{list_any, range_with_len}
use Rattle.std.specs.Option.{option_map_or}
use Rattle.cm_core.specs.declared.numbers.SubNo.{SubNo}
use Rattle.export_closure.specs.declared.rows.ExportRow.{ExportRow}
use Rattle.export_closure.specs.declared.rows.Pattern.{Pattern}
use Rattle.export_closure.specs.declared.rows.Pattern.TheVariants.{All as Every, Under}
use Rattle.export_closure.specs.Flags.{has, flags, only, rounds}

-- ---- rows of submodules, each by its number

abbrev pub IsPattern : ℕ → Pattern → Type 0
IsPattern n Every = Unit {0}
IsPattern n (Under outer) = outer.index < n

-- the row at `at`, one of `n`: its numbers are those of rows, and its parent stands before it
pub record IsRow (n at : ℕ) (row : ExportRow) : Type 0 where
  pub parent : IfSome row.parent (λ p. p.index < at)
  pub exports : All (IsPattern n) row.exports
  pub imports : All (λ (s : SubNo). s.index < n) row.imports

pub record AreRows (rows : List ExportRow) : Type 0 where
  pub rows_at : (at : ℕ) → IfSome (slice_get rows at) (IsRow (length rows) at)

-- ---- what is exported

abbrev pub parent_of : List ExportRow → ℕ → Option SubNo
parent_of rows at = option_and_then (λ (row : ExportRow). row.parent) (slice_get rows at)

-- a submodule is `outer`, or lies inside it: its parent, that one's parent and so on, at most so many
abbrev pub lies_in : List ExportRow → ℕ → ℕ → ℕ → Bool
lies_in rows outer zero at = at == outer
lies_in rows outer (suc parents) at =
    at == outer || option_map_or (λ (parent : SubNo). lies_in rows outer parents parent.index) (parent_of rows at) false

-- `export *`, and `export X` or `export X.*`
abbrev pub matches : List ExportRow → ℕ → Pattern → Bool
matches rows at Every = true
matches rows at (Under outer) = lies_in rows outer.index (length rows) at

abbrev pub is_exported : List ExportRow → ExportRow → ℕ → Bool
is_exported rows row at = list_any (matches rows at) row.exports

-- a row exports those of its imports that one of its patterns matches
abbrev pub exports : List ExportRow → ExportRow → ℕ → Bool
exports rows row at = list_any (λ (s : SubNo). s.index == at) row.imports && is_exported rows row at

-- ---- what is visible

abbrev pub is_number : ℕ → Option SubNo → Bool
is_number at sub = option_map_or (λ (s : SubNo). s.index == at) sub false

-- the row is that of a submodule of `parent` that is not explicit
abbrev pub is_child : ℕ → ExportRow → Bool
is_child parent row = not row.explicit && is_number parent row.parent

abbrev pub is_open_child : List ExportRow → ℕ → ℕ → Bool
is_open_child rows parent at = option_map_or (is_child parent) (slice_get rows at) false

-- where `at` is visible so is `other`: a submodule of it that is not explicit, or an import that it exports
abbrev pub shows : List ExportRow → ℕ → ℕ → Bool
shows rows at other =
    is_open_child rows at other || option_map_or (λ (row : ExportRow). exports rows row other) (slice_get rows at) false

-- what the members of a set show
unfoldable pub shown : List ExportRow → List Bool → List Bool
shown rows set =
    flags (length rows) (λ other. list_any (λ at. has set at && shows rows at other) (range_with_len 0 (length rows)))

-- what an import of `from` makes visible: `from`, and in as many rounds as there are submodules what is shown
unfoldable pub closure : List ExportRow → ℕ → List Bool
closure rows from = rounds (shown rows) (length rows) (only (length rows) from)
