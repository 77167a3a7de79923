use Rattle.std.proofs.Common.{sym, ◌∙◌}
use Rattle.c_lex.proofs.Scans.{slash_symbol, cut_line_rest}
use Rattle.c_lex.proofs.scan.slash.Goals as goal

pub returns-then-begins-2 : goal.returns-then-begins-2
returns-then-begins-2 c =
    rw (c.blank.ensures, c.line_length.ensures.run)
    (cut_line_rest _ (sym c.begins-2.ensures ∙ c.if-begins-2.true) (rw c.line_length.ensures.run at c.line_length.ensures.within))

pub symbol-requires : goal.symbol-requires
symbol-requires c = slash_symbol _ (sym c.begins.ensures ∙ c.if-begins.false) (sym c.begins-2.ensures ∙ c.if-begins-2.false)
