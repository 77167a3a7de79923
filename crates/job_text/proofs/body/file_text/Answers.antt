use Rattle.std.proofs.Common.{subst}
use Rattle.cm_source.specs.declared.text.TextFault.{TextFault}
use Rattle.cm_source.specs.Faults.{IsTextFault}
use Rattle.job_text.proofs.BodyLemmas.{never_cut}
use Rattle.job_text.proofs.body.file_text.Goals as goal

pub unreachable-requires : goal.unreachable-requires
unreachable-requires c =
    let P : TextFault → Type 0 = λ f. IsTextFault c.as_bytes.result.now f in
    never_cut c.as_bytes.result.now c.in-Err-NotUtf8.field-0-0 c.as_bytes.ensures.utf8 (subst P c.in-Err-NotUtf8.field-0-is c.in-Err-NotUtf8.ensures)
