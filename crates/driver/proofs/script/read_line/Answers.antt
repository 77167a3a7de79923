-- A part of a text is a text.
use Rattle.std.proofs.Common.{subst}
use Rattle.job_text.specs.declared.fault.JobFault.{JobFault}
use Rattle.job_text.specs.Answers.{IsRefusal}
use Rattle.job_text.specs.Scripts.{script_of}
use Rattle.driver.proofs.ReplayLemmas.{never_cut}
use Rattle.driver.proofs.script.read_line.Goals as goal

pub returns-in-Err-Text : goal.returns-in-Err-Text
returns-in-Err-Text c =
    let text = c.as_bytes.result.now in
    let P : JobFault → Type 0 = λ fault. IsRefusal text (script_of text) fault in
    absurd (never_cut text c.in-Err-Text.field-0-0 c.as_bytes.ensures.utf8 (subst P c.in-Err-Text.field-0-is c.in-Err-Text.ensures.refused))
