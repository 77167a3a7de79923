use Rattle.std.proofs.Common.{sym, ◌∙◌}
use Rattle.c_lex.proofs.Scans.{cut_word, cut_number, cut_line_end, cut_blank, other_symbol}
use Rattle.c_lex.proofs.scan.cut_after.Goals as goal

pub returns-then-is_nondigit : goal.returns-then-is_nondigit
returns-then-is_nondigit c =
    rw (c.token.ensures, c.word_length.ensures.run)
    (cut_word _ _ (sym c.is_nondigit.ensures ∙ c.if-is_nondigit.true) (rw c.word_length.ensures.run at c.word_length.ensures.within))

pub returns-then-begins_number : goal.returns-then-begins_number
returns-then-begins_number c =
    rw (c.token-then-begins_number.ensures, c.number_length.ensures.run)
    (cut_number _ _ (sym c.is_nondigit.ensures ∙ c.if-is_nondigit.false) (sym c.begins_number.ensures ∙ c.if-begins_number.true) (rw c.number_length.ensures.run at c.number_length.ensures.within))

pub symbol-requires : goal.symbol-requires
symbol-requires c =
    other_symbol _ _ (sym c.is_nondigit.ensures ∙ c.if-is_nondigit.false) (sym c.begins_number.ensures ∙ c.if-begins_number.false)
    c.if-first-eq39.false c.if-first-eq34.false c.if-first-eq47.false c.if-first-eq10.false (sym c.is_blank.ensures ∙ c.if-is_blank.false)

pub returns-then-first-eq10 : goal.returns-then-first-eq10
returns-then-first-eq10 c = rw (c.token-then-first-eq10.ensures, c.if-first-eq10.true) (cut_line_end _)

pub returns-then-is_blank : goal.returns-then-is_blank
returns-then-is_blank c = rw c.blank.ensures (cut_blank _ _ (sym c.is_blank.ensures ∙ c.if-is_blank.true))
