-- What a job file says. own
use Rattle.std.specs.Prelude.{ℕ, List, [], ◌∷◌, ◌++◌, Option, Some, None, Result, Ok, Err, codes}
use Rattle.std.specs.Option.{option_map, option_or}
use Rattle.cm_outside.specs.declared.question.Answer.{Answer}
use Rattle.cm_outside.specs.declared.question.Answer.TheVariants.{Absent, Bytes, TooLarge, Paths}
use Rattle.unit_fold.specs.Lines.{lines, path_after}
use Rattle.build_store.specs.Names.{next_line}
use Rattle.build_store.specs.declared.job.Job.{Job}
use Rattle.build_store.specs.declared.job.JobLine.{JobLine}
use Rattle.build_store.specs.declared.job.JobLine.TheVariants.{Map, Include, Unit as OfUnit}

-- `map PATH`, `include DIR` or `unit PATH`
abbrev pub job_line : List ℕ → Option JobLine
job_line line =
    option_or (option_map Map (path_after (codes "map ") line))
    (option_or (option_map Include (path_after (codes "include ") line)) (option_map OfUnit (path_after (codes "unit ") line)))

-- the job with what one line more says
abbrev pub with_line : Job → JobLine → Job
with_line job (Map path) = record job { maps = job.maps ++ path ∷ [] }
with_line job (Include path) = record job { includes = job.includes ++ path ∷ [] }
with_line job (OfUnit path) = record job { units = job.units ++ path ∷ [] }

-- a job of no lines
abbrev pub empty_job : Job
empty_job = record { maps = []; includes = []; units = [] }

abbrev pub then_line : Job → ℕ → Option JobLine → (Job → Result Job ℕ) → Result Job ℕ
then_line job n None more = Err n
then_line job n (Some line) more = more (with_line job line)

-- The job of which this much was read, with its lines from line n on: any number of lines of the three forms in any
-- order, or the first line of another form.
abbrev pub job_lines : Job → ℕ → List (List ℕ) → Result Job ℕ
job_lines job n [] = Ok job
job_lines job n (line ∷ rest) = then_line job n (job_line line) (λ more. job_lines more (next_line n) rest)

-- A job file that is absent or too large is at fault at its first line.
abbrev pub job_of : Answer → Result Job ℕ
job_of (Bytes bytes) = job_lines empty_job 1 (lines bytes)
job_of Absent = Err 1
job_of (TooLarge size) = Err 1
job_of (Paths paths) = Err 1
