use Rattle.std.proofs.Common.{◌∙◌, ap, sym}
use Rattle.build_store.specs.KeptFaults.{is_padded}
use Rattle.build_store.proofs.KeptFaultLemmas.{number_read, padded_none}
use Rattle.build_store.proofs.kept_faults.spelled.Goals as goal

pub returns-then-is_padded : goal.returns-then-is_padded
returns-then-is_padded c = padded_none c.args.text.now (ap is_padded (sym c.as_bytes.ensures.value) ∙ sym c.is_padded.ensures ∙ c.if-is_padded.true)

pub returns : goal.returns
returns c =
    c.ok.ensures.value
    ∙ number_read c.args.text.now c.parse.result (ap is_padded (sym c.as_bytes.ensures.value) ∙ sym c.is_padded.ensures ∙ c.if-is_padded.false) c.parse.ensures.value.0
