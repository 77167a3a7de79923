-- Digits that are read are their value.
use Rattle.std.proofs.Common.{◌∙◌, rules}
use Rattle.job_text.proofs.FieldLemmas.{number_read}
use Rattle.job_text.proofs.fields.number.Goals as goal

pub returns : goal.returns
returns c = c.ok.ensures.value ∙ number_read c.args.text.now c.parse.result c.parse.ensures.value.0 (search rules)
