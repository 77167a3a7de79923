-- The lines that follow lead from the job so far to the whole job.
use Rattle.std.proofs.Common.{◌≡◌, ◌+◌, map, drop}
use Rattle.job_text.specs.Drafts.{HasNames, after_lines, empty_job}
use Rattle.job_text.proofs.job.read_lines.Given as goal

abbrev pub invariant-loop-index : goal.invariant-loop-index
invariant-loop-index l = record {
  names : HasNames l.draft;
  lines : after_lines l.draft.job (l.index + 1) (map (λ line. line.now) (drop l.index l.lines)) ≡ after_lines empty_job 1 (map (λ line. line.now) l.lines);
}
