-- A job file: UTF-8 lines. A carriage return before a line feed is no part of its line, nor are the blanks at the ends of a
-- line. Empty lines and lines that begin with `#` are passed over. own
use Rattle.std.specs.Prelude.{ℕ, ◌+◌, ◌==◌, Bool, true, false, ◌||◌, nat_lt, if◌then◌else◌, List, [], ◌∷◌, ◌++◌, length, flat_map, map, Option, Some, None, Result, Ok, Err, codes}
use Rattle.std.specs.List.{list_any}
use Rattle.std.specs.Result.{result_map_both}
use Rattle.std.specs.Str.{bytes_eq}
use Rattle.std.specs.Str.Lines.{lines}
use Rattle.cm_core.specs.declared.macros.Define.{Define}
use Rattle.job_text.specs.declared.fault.JobKind.{JobKind}
use Rattle.job_text.specs.declared.fault.JobKind.TheVariants.{Form, Macro, Units}
use Rattle.job_text.specs.declared.job.Job.{Job}
use Rattle.job_text.specs.declared.job_line.JobLine.{JobLine}
use Rattle.job_text.specs.declared.job_line.JobLine.TheVariants.{Map, Include, Definition, CheckUse, Unit as UnitLine}
use Rattle.job_text.specs.Answers.{and_then}
use Rattle.job_text.specs.Fields.{trimmed, is_passed_over, keyword_of, field_of, path_field}
use Rattle.job_text.specs.Bodies.{definition_of}

abbrev pub path_line : (List ℕ → JobLine) → List ℕ → Result JobLine JobKind
path_line form field = and_then (path_field field) (λ path. Ok (form path))

abbrev pub definition_line : List ℕ → Result JobLine JobKind
definition_line field = and_then (definition_of field) (λ d. Ok (Definition d))

-- a keyword with a field behind it
abbrev pub fielded_line : List ℕ → List ℕ → Result JobLine JobKind
fielded_line keyword field =
    if bytes_eq keyword (codes "map") then path_line Map field
    else if bytes_eq keyword (codes "include") then path_line Include field
    else if bytes_eq keyword (codes "define") then definition_line field
    else if bytes_eq keyword (codes "unit") then path_line UnitLine field
    else Err Form

-- a keyword alone
abbrev pub bare_line : List ℕ → Result JobLine JobKind
bare_line keyword = if bytes_eq keyword (codes "check-use") then Ok CheckUse else Err Form

-- a line on its own, without the blanks at its ends, that isn't passed over
abbrev pub job_line : List ℕ → Result JobLine JobKind
job_line line = if length (field_of line) == 0 then bare_line (keyword_of line) else fielded_line (keyword_of line) (field_of line)

-- what a line gives to each part of a job
abbrev pub map_paths : JobLine → List (List ℕ)
map_paths (Map path) = path ∷ []
map_paths (Include path) = []
map_paths (Definition d) = []
map_paths CheckUse = []
map_paths (UnitLine path) = []

abbrev pub include_paths : JobLine → List (List ℕ)
include_paths (Map path) = []
include_paths (Include path) = path ∷ []
include_paths (Definition d) = []
include_paths CheckUse = []
include_paths (UnitLine path) = []

abbrev pub definitions : JobLine → List Define
definitions (Map path) = []
definitions (Include path) = []
definitions (Definition d) = d ∷ []
definitions CheckUse = []
definitions (UnitLine path) = []

abbrev pub is_use_check : JobLine → Bool
is_use_check (Map path) = false
is_use_check (Include path) = false
is_use_check (Definition d) = false
is_use_check CheckUse = true
is_use_check (UnitLine path) = false

abbrev pub unit_paths : JobLine → List (List ℕ)
unit_paths (Map path) = []
unit_paths (Include path) = []
unit_paths (Definition d) = []
unit_paths CheckUse = []
unit_paths (UnitLine path) = path ∷ []

-- the job of lines, each part in the order of the lines
abbrev pub job_with : List JobLine → Job
job_with ls = record {
  maps = flat_map map_paths ls;
  includes = flat_map include_paths ls;
  defines = flat_map definitions ls;
  use_check = list_any is_use_check ls;
  units = flat_map unit_paths ls;
}

-- the most units of a job
unfoldable pub unit_limit : ℕ
unit_limit = 1024

-- why a line can't stand behind the lines of a job: it defines a macro a second time, or is a unit too many
abbrev pub refused_after : Job → JobLine → Option JobKind
refused_after job (Map path) = None
refused_after job (Include path) = None
refused_after job (Definition d) = if list_any (bytes_eq d.name) (map (λ x. x.name) job.defines) then Some Macro else None
refused_after job CheckUse = None
refused_after job (UnitLine path) = if nat_lt (length job.units) unit_limit then None else Some Units

abbrev pub unless_refused : Option JobKind → JobLine → Result JobLine JobKind
unless_refused None line = Ok line
unless_refused (Some kind) line = Err kind

-- what a line adds to the lines before it: nothing where it is passed over
abbrev pub added_after : List JobLine → List ℕ → Result (List JobLine) JobKind
added_after before line =
    if is_passed_over line then Ok []
    else and_then (job_line line) (λ l. and_then (unless_refused (refused_after (job_with before) l) l) (λ x. Ok (x ∷ [])))

-- the lines before line n, and then those from it on; or the first bad line and its kind
abbrev pub job_lines : List JobLine → ℕ → List (List ℕ) → Result (List JobLine) (ℕ × JobKind)
job_lines before n [] = Ok before
job_lines before n (line ∷ more) =
    elim (added_after before (trimmed line)) [
      | Err kind ↦ Err (n, kind)
      | Ok added ↦ job_lines (before ++ added) (n + 1) more
    ]

-- the job of a text, or its first bad line, by number from 1, and its kind
unfoldable pub job_of : List ℕ → Result Job (ℕ × JobKind)
job_of text = result_map_both job_with (λ fault. fault) (job_lines [] 1 (lines text))
