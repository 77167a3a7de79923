use Rattle.std.proofs.Common.{◌≡◌, length}
use Rattle.unit_fold.specs.Lines.{lines}
use Rattle.build_store.specs.Jobs.{empty_job, job_lines}
use Rattle.build_store.proofs.job.read_lines.Given as goal

abbrev pub invariant-loop-line : goal.invariant-loop-line
invariant-loop-line l = job_lines empty_job 1 (lines l.text) ≡ job_lines l.job l.number (lines l.rest)

abbrev pub decreases-loop-line : goal.decreases-loop-line
decreases-loop-line l = length l.rest
