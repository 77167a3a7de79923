use Rattle.std.proofs.Common.{sym, ◌∙◌}
use Rattle.c_lex.proofs.Marks.{one_alone, one_only, two_only, three_only, four_only}
use Rattle.c_lex.proofs.punctuator.punctuator_length.Goals as goal

pub returns-then-not-is_mark : goal.returns-then-not-is_mark
returns-then-not-is_mark c =
    one_alone _ _ c.requires (rw c.byte_at-second.ensures at (sym c.is_mark.ensures ∙ c.if-not-is_mark.true))

pub returns-then-is_quadruple : goal.returns-then-is_quadruple
returns-then-is_quadruple c =
    four_only _ _ (rw (c.byte_at-second.ensures, c.byte_at-third.ensures, c.byte_at.ensures) at (sym c.is_quadruple.ensures ∙ c.if-is_quadruple.true))

pub returns-then-is_triple : goal.returns-then-is_triple
returns-then-is_triple c =
    three_only _ _ (rw (c.byte_at-second.ensures, c.byte_at-third.ensures) at (sym c.is_triple.ensures ∙ c.if-is_triple.true))
    (rw (c.byte_at-second.ensures, c.byte_at-third.ensures, c.byte_at.ensures) at (sym c.is_quadruple.ensures ∙ c.if-is_quadruple.false))

pub returns-then-is_pair : goal.returns-then-is_pair
returns-then-is_pair c =
    two_only _ _ (rw c.byte_at-second.ensures at (sym c.is_pair.ensures ∙ c.if-is_pair.true))
    (rw (c.byte_at-second.ensures, c.byte_at-third.ensures) at (sym c.is_triple.ensures ∙ c.if-is_triple.false))
    (rw (c.byte_at-second.ensures, c.byte_at-third.ensures, c.byte_at.ensures) at (sym c.is_quadruple.ensures ∙ c.if-is_quadruple.false))

pub returns-else-is_pair : goal.returns-else-is_pair
returns-else-is_pair c =
    one_only _ _ c.requires (rw c.byte_at-second.ensures at (sym c.is_pair.ensures ∙ c.if-is_pair.false))
    (rw (c.byte_at-second.ensures, c.byte_at-third.ensures) at (sym c.is_triple.ensures ∙ c.if-is_triple.false))
    (rw (c.byte_at-second.ensures, c.byte_at-third.ensures, c.byte_at.ensures) at (sym c.is_quadruple.ensures ∙ c.if-is_quadruple.false))
