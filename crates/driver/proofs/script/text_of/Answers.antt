use Rattle.std.proofs.Common.{◌∙◌}
use Rattle.std.specs.Str.{valid_up_to}
use Rattle.std.proofs.lemmas.Str.{is_utf8-from_IsUtf8}
use Rattle.driver.proofs.ReplayLemmas.{cut_is_no_text}
use Rattle.driver.proofs.script.text_of.Goals as goal

pub returns-in-Ok-clause-text : goal.returns-in-Ok-clause-text
returns-in-Ok-clause-text c = (c.in-Ok.ensures.cases.0, is_utf8-from_IsUtf8 c.args.bytes.now c.in-Ok.ensures.cases.1)

pub returns-in-Err-clause-fault : goal.returns-in-Err-clause-fault
returns-in-Err-clause-fault c =
    (c.valid_up_to.ensures ∙ c.in-Err.ensures.valid_len, cut_is_no_text c.args.bytes.now (valid_up_to c.in-Err.error) c.in-Err.ensures.cases.1)
