-- What a replay writes: a script, which keeps files of its own in memory, and builds over the files then present. What its lines
-- do to kept module files shows nowhere in it. own
use Rattle.std.specs.Prelude.{ℕ, ◌+◌, ◌-◌, ◌^◌, min, ◌==◌, Bool, false, if◌then◌else◌, List, [], ◌∷◌, ◌++◌, Result, Ok, Err}
use Rattle.std.specs.Fmt.{decimal}
use Rattle.std.specs.List.{list_any, slice_split}
use Rattle.std.specs.Str.{is_utf8}
use Rattle.std.specs.Str.Lossy.{utf8_valid_len}
use Rattle.cm_outside.specs.declared.question.Question.TheVariants.{Read}
use Rattle.cm_outside.specs.declared.question.Answer.{Answer}
use Rattle.cm_outside.specs.declared.question.Answer.TheVariants.{Absent, Bytes, TooLarge, Paths}
use Rattle.cm_outside.specs.Asks.{Asks, Done, Ask}
use Rattle.cm_outside.specs.Trees.{Contents, Files, answer, without_path}
use Rattle.cm_outside.specs.Caches.{with_file}
use Rattle.diag_texts.specs.Lines.{line_of}
use Rattle.job_text.specs.declared.fault.JobKind.{JobKind}
use Rattle.job_text.specs.declared.script_line.ScriptLine.{ScriptLine}
use Rattle.job_text.specs.declared.script_line.ScriptLine.TheVariants.{Write, Remove, Tear, Drop, Build}
use Rattle.job_text.specs.Scripts.{script_of}
use Rattle.build_store.specs.CleanBuild.{clean_build}

-- ---- the lines of a script

-- A line that asks for uses. It is in the language of scripts, but uses are not built yet: so far it is a bad line.
abbrev pub asks_for_uses : ScriptLine → Bool
asks_for_uses (Build job uses) = uses
asks_for_uses (Write path bytes) = false
asks_for_uses (Remove path) = false
asks_for_uses (Tear file length) = false
asks_for_uses (Drop file) = false

-- the number, from 1, of a line that this many are before; it stands still at 2^32 - 1
unfoldable pub line_after : ℕ → ℕ
line_after before = min (before + 1) (2 ^ 32 - 1)

-- a line that so many are before is read as a script of its own: it gives no line where it is passed over, or its number
-- where it is a bad line
abbrev pub checked : ℕ → Result (List ScriptLine) (ℕ × JobKind) → Result (List ScriptLine) ℕ
checked before (Err fault) = Err (line_after before)
checked before (Ok lines) = if list_any asks_for_uses lines then Err (line_after before) else Ok lines

-- the lines so far with those that follow
abbrev pub with_lines : List ScriptLine → ℕ → List (List ℕ) → Result (List ScriptLine) ℕ
with_lines so_far before [] = Ok so_far
with_lines so_far before (line ∷ more) =
    elim (checked before (script_of line)) [
      | Err n ↦ Err n
      | Ok lines ↦ with_lines (so_far ++ lines) (before + 1) more
    ]

-- the lines of a script that are not passed over, or the number of its first bad line
abbrev pub lines_of_script : List ℕ → Result (List ScriptLine) ℕ
lines_of_script text = with_lines [] 0 (slice_split (λ b. b == 10) text)

-- ---- what they write

-- the files after a line
abbrev pub files_after : Files → ScriptLine → Files
files_after files (Write path bytes) = with_file path bytes files
files_after files (Remove path) = without_path path files
files_after files (Tear file length) = files
files_after files (Drop file) = files
files_after files (Build job uses) = files

-- a tree of these files
abbrev pub tree_of : Files → Contents
tree_of files = record { files = files; kept = [] }

-- what a line writes: the whole output of the clean build over the present files
abbrev pub output_of : Files → ScriptLine → List ℕ
output_of files (Build job uses) = clean_build job (answer (tree_of files))
output_of files (Write path bytes) = []
output_of files (Remove path) = []
output_of files (Tear file length) = []
output_of files (Drop file) = []

-- What lines write one after another, where these files are present when they begin.
abbrev pub output_of_lines : Files → List ScriptLine → List ℕ
output_of_lines files [] = []
output_of_lines files (line ∷ more) = output_of files line ++ output_of_lines (files_after files line) more

-- ---- the whole script

-- the diagnostic of a script at a line
abbrev pub script_fault : List ℕ → ℕ → ℕ → List (List ℕ) → List ℕ
script_fault path number line args =
    line_of (record { number = number; place = record { file = record { index = 0 }; line = line; col = 1 }; args = args }) (path ∷ [])

-- a bad line, or all that the lines write; no file is present at first
abbrev pub replay_of_lines : List ℕ → Result (List ScriptLine) ℕ → List ℕ
replay_of_lines path (Err n) = script_fault path 4 n []
replay_of_lines path (Ok lines) = output_of_lines [] lines

abbrev pub replay_of_text : List ℕ → List ℕ → List ℕ
replay_of_text path text =
    if is_utf8 text then replay_of_lines path (lines_of_script text)
    else script_fault path 3 1 (path ∷ decimal (utf8_valid_len text) ∷ [])

abbrev pub replay_of : List ℕ → Answer → List ℕ
replay_of path (Bytes text) = replay_of_text path text
replay_of path Absent = script_fault path 1 1 (path ∷ [])
replay_of path (TooLarge size) = script_fault path 2 1 (path ∷ decimal size ∷ [])
replay_of path (Paths paths) = script_fault path 1 1 (path ∷ [])

-- The whole output of `replay SCRIPT`.
unfoldable pub clean_replay : List ℕ → Asks (List ℕ)
clean_replay path = Ask (Read path) (λ a. Done (replay_of path a))
