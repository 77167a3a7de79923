-- The table of the modules that the maps of a job declare (Clang's documentation, Modules, "Module map language": module and
-- header declarations and `export`). The forms of line, and that each map file counts once, are own.
use Rattle.std.specs.Prelude.{ℕ, Bool, true, ◌&&◌, ◌||◌, if◌then◌else◌, List, [], ◌∷◌, ◌++◌, take, drop, Option, Some, None, option_and_then, Result, Ok, Err, codes}
use Rattle.std.specs.List.{list_any}
use Rattle.std.specs.Option.{option_map, option_or, is_none}
use Rattle.std.specs.Str.{bytes_eq}
use Rattle.cm_outside.specs.declared.question.Question.TheVariants.{Read}
use Rattle.cm_outside.specs.declared.question.Answer.{Answer}
use Rattle.cm_outside.specs.declared.question.Answer.TheVariants.{Absent, Bytes, TooLarge, Paths}
use Rattle.cm_outside.specs.Asks.{Asks, Done, Ask, then_ask}
use Rattle.unit_fold.specs.Names.{is_name}
use Rattle.unit_fold.specs.Lines.{lines, after_front, between, when, first_word_len}
use Rattle.build_store.specs.Names.{next_line, beside, before_quote, from_quote}
use Rattle.build_store.specs.Jobs.{job_of}
use Rattle.build_store.specs.declared.job.Job.{Job}
use Rattle.build_store.specs.declared.table.Export.{Export}
use Rattle.build_store.specs.declared.table.Export.TheVariants.{Nothing, All, Module}
use Rattle.build_store.specs.declared.table.Target.{Target}
use Rattle.build_store.specs.declared.table.Table.{Table}
use Rattle.build_store.specs.declared.map_read.MapRead.{MapRead}
use Rattle.build_store.specs.declared.loading.Loaded.{Loaded}
use Rattle.build_store.specs.declared.loading.Loaded.TheVariants.{Bad, Ready}

-- ---- lines

-- `" export NAME }` exports the imports of that module
abbrev pub exported_module : List ℕ → Option Export
exported_module text =
    option_and_then (λ name. when (is_name name) (Module name)) (between (codes "\" export ") (codes " }") text)

-- what stands behind the path: `" }`, `" export * }` or `" export NAME }`
abbrev pub export_of : List ℕ → Option Export
export_of text =
    if bytes_eq text (codes "\" }") then Some Nothing
    else if bytes_eq text (codes "\" export * }") then Some All
    else exported_module text

-- a module of this name, with the path and what follows it
abbrev pub target_with : List ℕ → List ℕ → List ℕ → Option Target
target_with map name text =
    option_and_then (λ header. option_map (λ export. record { name = name; header = header; export = export }) (export_of (from_quote text)))
    (beside map (before_quote text))

-- the first word of a text, and what follows it
abbrev pub first_word : List ℕ → List ℕ
first_word text = take (first_word_len text) text

abbrev pub after_first_word : List ℕ → List ℕ
after_first_word text = drop (first_word_len text) text

-- `NAME { header "PATH` and what follows it
abbrev pub target_after : List ℕ → List ℕ → Option Target
target_after map text =
    option_and_then (λ name. option_and_then (target_with map name) (after_front (codes " { header \"") (after_first_word text)))
    (when (is_name (first_word text)) (first_word text))

-- `module NAME { header "PATH" }`, maybe with `export * ` or `export NAME ` before the `}`: the path starts at the folder of the map
abbrev pub map_line : List ℕ → List ℕ → Option Target
map_line map line = option_and_then (target_after map) (after_front (codes "module ") line)

-- ---- the first step: each map by itself

-- the module has the name or the header of this one
abbrev pub clashes : Target → Target → Bool
clashes t other = bytes_eq other.name t.name || bytes_eq other.header t.header

-- every line of the map was read
abbrev pub is_whole : MapRead → Bool
is_whole m = is_none m.fault

-- a map without a fault declares such a module
abbrev pub declares : (Target → Bool) → List MapRead → Bool
declares test maps = list_any (λ m. is_whole m && list_any test m.targets) maps

abbrev pub at_fault : MapRead → ℕ → MapRead
at_fault m n = record m { fault = Some n }

abbrev pub with_target : MapRead → Target → MapRead
with_target m t = record m { targets = m.targets ++ t ∷ [] }

-- the module of a line that says nothing that an earlier map or line says
abbrev pub unless_clashing : List MapRead → MapRead → Target → Option Target
unless_clashing earlier m t = if declares (clashes t) earlier || list_any (clashes t) m.targets then None else Some t

abbrev pub new_target : List MapRead → MapRead → List ℕ → Option Target
new_target earlier m line = option_and_then (unless_clashing earlier m) (map_line m.map line)

abbrev pub then_target : MapRead → ℕ → Option Target → (MapRead → MapRead) → MapRead
then_target m n None more = at_fault m n
then_target m n (Some t) more = more (with_target m t)

-- the map of which this much was read, with its lines from line n on, up to the first at fault
abbrev pub map_lines : List MapRead → MapRead → ℕ → List (List ℕ) → MapRead
map_lines earlier m n [] = m
map_lines earlier m n (line ∷ rest) = then_target m n (new_target earlier m line) (λ more. map_lines earlier more (next_line n) rest)

abbrev pub nothing_read : List ℕ → MapRead
nothing_read map = record { map = map; targets = []; fault = None }

-- a map that is absent or too large is at fault at its first line
abbrev pub map_of : List MapRead → List ℕ → Answer → MapRead
map_of earlier map (Bytes bytes) = map_lines earlier (nothing_read map) 1 (lines bytes)
map_of earlier map Absent = at_fault (nothing_read map) 1
map_of earlier map (TooLarge size) = at_fault (nothing_read map) 1
map_of earlier map (Paths paths) = at_fault (nothing_read map) 1

abbrev pub is_read : List ℕ → List MapRead → Bool
is_read map maps = list_any (λ m. bytes_eq m.map map) maps

-- the maps that were read with those that are left, each file once
abbrev pub read_maps : List MapRead → List (List ℕ) → Asks (List MapRead)
read_maps earlier [] = Done earlier
read_maps earlier (map ∷ maps) =
    if is_read map earlier then read_maps earlier maps
    else Ask (Read map) (λ a. read_maps (earlier ++ map_of earlier map a ∷ []) maps)

-- ---- the second step: what the maps export

-- the name that a line exports, where it does, is that of a module
abbrev pub is_known : List MapRead → Export → Bool
is_known maps Nothing = true
is_known maps All = true
is_known maps (Module name) = declares (λ t. bytes_eq t.name name) maps

-- the first line, from line n on, that exports a name without a module
abbrev pub unknown_export : List MapRead → ℕ → List Target → Option ℕ
unknown_export maps n [] = None
unknown_export maps n (t ∷ targets) = if is_known maps t.export then unknown_export maps (next_line n) targets else Some n

-- the first fault of a map, over all that were read
abbrev pub first_fault : List MapRead → MapRead → Option ℕ
first_fault maps m = option_or (unknown_export maps 1 m.targets) m.fault

-- the table with what one map more declares, or its fault
abbrev pub with_map : Table → MapRead → Option ℕ → Table
with_map table m None = record table { targets = table.targets ++ m.targets }
with_map table m (Some n) = record table { faults = table.faults ++ record { map = m.map; line = n } ∷ [] }

abbrev pub with_maps : List MapRead → Table → List MapRead → Table
with_maps maps table [] = table
with_maps maps table (m ∷ more) = with_maps maps (with_map table m (first_fault maps m)) more

abbrev pub empty_table : Table
empty_table = record { targets = []; faults = [] }

abbrev pub settled : List MapRead → Table
settled maps = with_maps maps empty_table maps

-- ---- tables and jobs

-- the table of these maps
unfoldable pub table_of : List (List ℕ) → Asks Table
table_of maps = then_ask (read_maps [] maps) (λ all. Done (settled all))

abbrev pub load_job : Result Job ℕ → Asks Loaded
load_job (Err n) = Done (Bad n)
load_job (Ok job) = then_ask (table_of job.maps) (λ table. Done (Ready job table))

-- what was asked for the table
abbrev pub asked_for : Loaded → Asks Table
asked_for (Bad n) = Done empty_table
asked_for (Ready job table) = table_of job.maps

-- the job of this path with its table, or its first line at fault
unfoldable pub load_of : List ℕ → Asks Loaded
load_of path = Ask (Read path) (λ a. load_job (job_of a))
