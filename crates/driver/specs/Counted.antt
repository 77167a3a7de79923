-- How often a replay interprets modules: what its builds count, each over the kept files as what came before left them. own
use Rattle.std.specs.Prelude.{◌≡◌, ℕ, if◌then◌else◌, List, [], ◌∷◌, Result, Ok, Err, Some}
use Rattle.std.specs.Str.{is_utf8}
use Rattle.cm_outside.specs.declared.question.Answer.{Answer}
use Rattle.cm_outside.specs.declared.question.Answer.TheVariants.{Absent, Bytes, TooLarge, Paths}
use Rattle.cm_outside.specs.Trees.{Files, Path, answer}
use Rattle.job_text.specs.declared.script_line.ScriptLine.{ScriptLine}
use Rattle.job_text.specs.declared.script_line.ScriptLine.TheVariants.{Write, Remove, Tear, Drop, Build}
use Rattle.build_store.specs.Left.{IsLeftAt}
use Rattle.build_store.specs.LeftBehind.{IsBuild}
use Rattle.build_store.specs.Report.{HaveOwnFiles}
use Rattle.driver.specs.KeptFronts.{dropped, torn}
use Rattle.driver.specs.Replay.{files_after, lines_of_script, tree_of}

-- A build over present and kept files leads from one count to another, as its report says, and leaves these kept files. Where the
-- keys of its modules have different file names, these are exactly known: the cache of a replay does not fail, and its count of
-- faults stands at 0, so no module is told as unreadable and no file is broken. Else they are known as far as `leaves` says.
pub record IsCountedBuild (present kept : Files) (job : List ℕ) (before after : ℕ) (left : Files) : Type 0 where
  pub report : HaveOwnFiles job (answer (tree_of present)) → (text : List ℕ) × IsBuild kept (Some left) job (answer (tree_of present)) before after 0 0 text
  pub leaves : (name : Path) → IsLeftAt name kept left

-- a line does, and leaves these kept files
abbrev pub IsCountedLine : Files → Files → ScriptLine → ℕ → ℕ → Files → Type 0
IsCountedLine present kept (Build job uses) before after left = IsCountedBuild present kept job before after left
IsCountedLine present kept (Write path bytes) before after left = (after ≡ before) × (left ≡ kept)
IsCountedLine present kept (Remove path) before after left = (after ≡ before) × (left ≡ kept)
IsCountedLine present kept (Tear n len) before after left = (after ≡ before) × (left ≡ torn n len kept)
IsCountedLine present kept (Drop n) before after left = (after ≡ before) × (left ≡ dropped n kept)

-- lines do, one after another
abbrev pub IsCounted : Files → Files → List ScriptLine → ℕ → ℕ → Type 0
IsCounted present kept [] before after = after ≡ before
IsCounted present kept (line ∷ more) before after =
    (mid : ℕ) × (left : Files) × IsCountedLine present kept line before mid left × IsCounted (files_after present line) left more mid after

-- ---- the whole script

abbrev pub lines_or_none : Result (List ScriptLine) ℕ → List ScriptLine
lines_or_none (Ok lines) = lines
lines_or_none (Err n) = []

-- the lines that are played: none of a script that is at fault
abbrev pub played : Answer → List ScriptLine
played (Bytes text) = if is_utf8 text then lines_or_none (lines_of_script text) else []
played Absent = []
played (TooLarge size) = []
played (Paths paths) = []
