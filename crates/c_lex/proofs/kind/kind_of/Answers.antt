use Rattle.std.proofs.Common.{◌∙◌}
use Rattle.c_lex.proofs.WholeTexts.{kind_empty, kind_part, kind_whole}
use Rattle.c_lex.proofs.kind.kind_of.Goals as goal

pub returns-in_err-cut : goal.returns-in_err-cut
returns-in_err-cut c =
    rw (c.from_residual.ensures, ← c.as_bytes.ensures.value) (kind_empty _ c.in_err-cut.ensures.cut c.in_err-cut.ensures.none)

pub returns-then-cut-text : goal.returns-then-cut-text
returns-then-cut-text c = kind_part _ _ (rw c.as_bytes.ensures.value at c.in_ok-cut.ensures.longest) c.if-cut-text.true

pub returns : goal.returns
returns c =
    c.token_kind.ensures ∙ kind_whole _ _ (rw c.as_bytes.ensures.value at c.in_ok-cut.ensures.longest) c.if-cut-text.false
