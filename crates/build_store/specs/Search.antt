-- Header search: what an `#include "TEXT"` finds, by the folders and the table of a job (Clang's documentation, Modules,
-- "Includes as imports"; C11 6.10.2 leaves the places that are searched open). own
use Rattle.std.specs.Prelude.{ℕ, ◌<◌, Bool, true, false, if◌then◌else◌, List, [], ◌∷◌, length, Option, Some, None}
use Rattle.std.specs.List.{position}
use Rattle.std.specs.Result.{result_ok}
use Rattle.std.specs.Str.{bytes_eq}
use Rattle.cm_core.specs.Paths.{join_of, folder_of}
use Rattle.cm_outside.specs.declared.question.Question.TheVariants.{Read}
use Rattle.cm_outside.specs.declared.question.Answer.{Answer}
use Rattle.cm_outside.specs.declared.question.Answer.TheVariants.{Absent, Bytes, TooLarge, Paths}
use Rattle.cm_outside.specs.Asks.{Asks, Done, Ask, then_ask}
use Rattle.build_store.specs.declared.table.Table.{Table}
use Rattle.build_store.specs.declared.finding.Find.{Find}
use Rattle.build_store.specs.declared.finding.Find.TheVariants.{Nothing, Plain, Header}

abbrev pub with_candidate : Option (List ℕ) → List (List ℕ) → List (List ℕ)
with_candidate None more = more
with_candidate (Some path) more = path ∷ more

-- the text in each of the folders; what is no path below the root is passed over
abbrev pub in_folders : List (List ℕ) → List ℕ → List (List ℕ)
in_folders [] text = []
in_folders (folder ∷ folders) text = with_candidate (result_ok (join_of folder text)) (in_folders folders text)

-- the folder of the including file comes first, then the include folders in order
abbrev pub candidates : List ℕ → List (List ℕ) → List ℕ → List (List ℕ)
candidates file folders text = in_folders (folder_of file ∷ folders) text

abbrev pub is_absent : Answer → Bool
is_absent Absent = true
is_absent (Bytes bytes) = false
is_absent (TooLarge size) = false
is_absent (Paths paths) = false

-- the first candidate that is there
abbrev pub found : List (List ℕ) → Asks (Option (List ℕ))
found [] = Done None
found (path ∷ more) = Ask (Read path) (λ a. if is_absent a then found more else Done (Some path))

-- the number of the module whose header the path is
abbrev pub owner_of : Table → List ℕ → Option ℕ
owner_of table path = position (λ t. bytes_eq t.header path) table.targets

abbrev pub header_or_plain : Option ℕ → Find
header_or_plain None = Plain
header_or_plain (Some m) = Header m

-- the number that is told stands in the table
abbrev pub IsIn : Table → Find → Type 0
IsIn table Nothing = Unit {0}
IsIn table Plain = Unit {0}
IsIn table (Header m) = m < length table.targets

abbrev pub find_in : Table → Option (List ℕ) → Find
find_in table None = Nothing
find_in table (Some path) = header_or_plain (owner_of table path)

-- what an include of a text in a file finds
unfoldable pub find_of : List (List ℕ) → Table → List ℕ → List ℕ → Asks Find
find_of folders table file text = then_ask (found (candidates file folders text)) (λ path. Done (find_in table path))
