use Rattle.std.proofs.Common.{sym, ◌∙◌}
use Rattle.c_lex.proofs.Scans.{cut_punctuator, cut_other_ascii, cut_other}
use Rattle.c_lex.proofs.scan.symbol.Goals as goal

pub returns-then-is_mark : goal.returns-then-is_mark
returns-then-is_mark c =
    rw c.token.ensures (cut_punctuator _ _ _ c.requires (sym c.is_mark.ensures ∙ c.if-is_mark.true) c.punctuator_length.ensures)

pub returns-then-first-lt128 : goal.returns-then-first-lt128
returns-then-first-lt128 c =
    rw c.token-then-first-lt128.ensures (cut_other_ascii _ _ c.requires (sym c.is_mark.ensures ∙ c.if-is_mark.false) c.if-first-lt128.true)

pub returns : goal.returns
returns c =
    rw (c.token-2.ensures, c.continue_length.ensures.run)
    (cut_other _ _ c.requires (sym c.is_mark.ensures ∙ c.if-is_mark.false) c.if-first-lt128.false (rw c.continue_length.ensures.run at c.continue_length.ensures.within))
