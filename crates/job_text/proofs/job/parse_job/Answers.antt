use Rattle.std.proofs.Common.{◌≡◌, ℕ, List, map, Ok, ap, sym, ◌∙◌}
use Rattle.std.specs.Str.{IsUtf8}
use Rattle.std.specs.Str.Lines.{lines}
use Rattle.job_text.specs.Drafts.{after_lines, empty_job}
use Rattle.job_text.specs.Jobs.{job_of}
use Rattle.job_text.proofs.AnswerLemmas.{if_ok, if_refused}
use Rattle.job_text.proofs.JobLemmas.{job_of_lines}
use Rattle.job_text.proofs.job.parse_job.Goals as goal

pub returns-clause-job : goal.returns-clause-job
returns-clause-job c =
    let ls : List (List ℕ) = map (λ line. line.now) c.deref.result.now in
    let whole : after_lines empty_job 1 ls ≡ job_of c.args.bytes.now =
    job_of_lines c.args.bytes.now ls (ap (map (λ line. line.now)) c.deref.ensures.value ∙ c.in_ok-lines.ensures ∙ ap lines c.in_ok-text.ensures.text.0) in
    if_ok c.read_lines.result (λ job. after_lines empty_job 1 ls ≡ Ok job) (λ job. IsUtf8 c.args.bytes.now × (job_of c.args.bytes.now ≡ Ok job))
    (λ job h. (c.in_ok-text.ensures.text.1, sym whole ∙ h)) c.read_lines.ensures.job

pub returns-clause-refused : goal.returns-clause-refused
returns-clause-refused c =
    let ls : List (List ℕ) = map (λ line. line.now) c.deref.result.now in
    let whole : after_lines empty_job 1 ls ≡ job_of c.args.bytes.now =
    job_of_lines c.args.bytes.now ls (ap (map (λ line. line.now)) c.deref.ensures.value ∙ c.in_ok-lines.ensures ∙ ap lines c.in_ok-text.ensures.text.0) in
    if_refused c.read_lines.result c.args.bytes.now (after_lines empty_job 1 ls) (job_of c.args.bytes.now) whole c.in_ok-text.ensures.text.1 c.read_lines.ensures.fault
