-- An index of the names of a table's modules: each name once, with the number of the first module of this name. own
use Rattle.std.specs.Prelude.{◌≡◌, ℕ, Bool, if◌then◌else◌, List, [], ◌∷◌, Option, is_some}
use Rattle.std.specs.Map.{lookup}
use Rattle.std.specs.Str.{bytes_eq}
use Rattle.build_store.specs.Targets.{number_of}
use Rattle.build_store.specs.declared.table.Table.{Table}

-- names, each with a number
abbrev pub NameNumbers : Type 0
NameNumbers = List (List ℕ × ℕ)

-- the number of a name, where it has one
abbrev pub number_in : NameNumbers → List ℕ → Option ℕ
number_in names name = lookup (bytes_eq name) names

abbrev pub is_named : NameNumbers → List ℕ → Bool
is_named names name = is_some (number_in names name)

-- one more name with its number; a name that is there keeps the number that it has
abbrev pub with_name : NameNumbers → List ℕ → ℕ → NameNumbers
with_name [] name number = (name, number) ∷ []
with_name (n ∷ ns) name number = if bytes_eq name n.0 then n ∷ ns else n ∷ with_name ns name number

-- each name has the number of the first module of this name
abbrev pub IsIndexOf : Table → NameNumbers → Type 0
IsIndexOf table names = (name : List ℕ) → number_in names name ≡ number_of table name
