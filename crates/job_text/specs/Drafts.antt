-- A job, the body of a macro and a script on their way. own
use Rattle.std.specs.Prelude.{◌≡◌, ℕ, ◌+◌, Bool, true, false, not, ◌&&◌, if◌then◌else◌, List, [], ◌∷◌, ◌++◌, map, Option, Some, Result, Ok, Err}
use Rattle.cm_core.specs.declared.macros.BodyToken.{BodyToken}
use Rattle.job_text.specs.declared.fault.JobKind.{JobKind}
use Rattle.job_text.specs.declared.draft.Draft.{Draft}
use Rattle.job_text.specs.declared.job.Job.{Job}
use Rattle.job_text.specs.declared.job_line.JobLine.{JobLine}
use Rattle.job_text.specs.declared.job_line.JobLine.TheVariants.{Map, Include, Definition, CheckUse, Unit as UnitLine}
use Rattle.job_text.specs.Answers.{and_then}
use Rattle.job_text.specs.Fields.{trimmed, is_passed_over}
use Rattle.job_text.specs.declared.script_line.ScriptLine.{ScriptLine}
use Rattle.job_text.specs.Scripts.{script_line}
use Rattle.job_text.specs.Jobs.{job_line, refused_after, unless_refused}

-- the names are those that the job defines
abbrev pub HasNames : Draft → Type 0
HasNames draft = draft.names ≡ map (λ d. d.name) draft.job.defines

-- the job with one more line
abbrev pub with_line : Job → JobLine → Job
with_line job (Map path) = record job { maps = job.maps ++ path ∷ [] }
with_line job (Include path) = record job { includes = job.includes ++ path ∷ [] }
with_line job (Definition d) = record job { defines = job.defines ++ d ∷ [] }
with_line job CheckUse = record job { use_check = true }
with_line job (UnitLine path) = record job { units = job.units ++ path ∷ [] }

abbrev pub added : Job → JobLine → Result Job JobKind
added job line = and_then (unless_refused (refused_after job line) line) (λ l. Ok (with_line job l))

abbrev pub after_line : Job → List ℕ → Result Job JobKind
after_line job line = if is_passed_over line then Ok job else and_then (job_line line) (added job)

-- the job after the lines from number n on, or the first bad line and its kind
abbrev pub after_lines : Job → ℕ → List (List ℕ) → Result Job (ℕ × JobKind)
after_lines job n [] = Ok job
after_lines job n (line ∷ more) =
    elim (after_line job (trimmed line)) [
      | Err kind ↦ Err (n, kind)
      | Ok next ↦ after_lines next (n + 1) more
    ]

abbrev pub empty_job : Job
empty_job = record { maps = []; includes = []; defines = []; use_check = false; units = [] }

-- no token came before
abbrev pub is_nil : List BodyToken → Bool
is_nil [] = true
is_nil (t ∷ ts) = false

-- the tokens of a body, and then one of this text, spaced unless it is the first
abbrev pub IsBehind : List BodyToken → Option (List ℕ) → Bool → List BodyToken → Type 0
IsBehind tokens text spaced after = (t : List ℕ) × (text ≡ Some t) × (after ≡ tokens ++ record { text = t; spaced = spaced && not (is_nil tokens) } ∷ [])

-- the script with one more line, unless that is passed over
abbrev pub script_with : List ScriptLine → List ℕ → Result (List ScriptLine) JobKind
script_with script line = if is_passed_over line then Ok script else and_then (script_line line) (λ x. Ok (script ++ x ∷ []))

-- the script after the lines from number n on, or the first bad line and its kind
abbrev pub after_script : List ScriptLine → ℕ → List (List ℕ) → Result (List ScriptLine) (ℕ × JobKind)
after_script script n [] = Ok script
after_script script n (line ∷ more) =
    elim (script_with script line) [
      | Err kind ↦ Err (n, kind)
      | Ok next ↦ after_script next (n + 1) more
    ]
