-- The modules of a table by their numbers and names. own
use Rattle.std.specs.Prelude.{◌≡◌, ℕ, List, [], slice_get, Option, Some}
use Rattle.std.specs.List.{position}
use Rattle.std.specs.Option.{option_map_or}
use Rattle.std.specs.Str.{bytes_eq}
use Rattle.build_store.specs.declared.table.Table.{Table}
use Rattle.build_store.specs.declared.table.Target.{Target}

abbrev pub name_of : Table → ℕ → List ℕ
name_of table x = option_map_or (λ (m : Target). m.name) (slice_get table.targets x) []

abbrev pub header_of : Table → ℕ → List ℕ
header_of table x = option_map_or (λ (m : Target). m.header) (slice_get table.targets x) []

-- the number of the module of this name
abbrev pub number_of : Table → List ℕ → Option ℕ
number_of table name = position (λ (m : Target). bytes_eq m.name name) table.targets

-- no two modules have one name
pub record HasOwnNames (table : Table) : Type 0 where
  pub numbered : (x : ℕ) (m : Target) → slice_get table.targets x ≡ Some m → number_of table m.name ≡ Some x
