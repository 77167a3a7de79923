use Rattle.std.proofs.Common.{sym, ◌∙◌, eqb-true}
use Rattle.c_lex.proofs.Scans.{cut_named, no_header_empty, no_header_named, no_header_run}
use Rattle.c_lex.proofs.scan.named.Goals as goal

pub returns-then-is_empty : goal.returns-then-is_empty
returns-then-is_empty c = no_header_empty _ _ (eqb-true _ 0 (sym c.is_empty.ensures ∙ c.if-is_empty.true))

pub returns-then-begins : goal.returns-then-begins
returns-then-begins c = no_header_named _ _ _ c.requires (sym c.begins.ensures ∙ c.if-begins.true)

pub returns-in-Some : goal.returns-in-Some
returns-in-Some c =
    rw c.token.ensures (cut_named _ _ _ _ c.requires (sym c.begins.ensures ∙ c.if-begins.false) (sym c.in-Some.ensures.run) c.in-Some.ensures.within)

pub returns-in-None : goal.returns-in-None
returns-in-None c = no_header_run _ _ _ c.requires (sym c.begins.ensures ∙ c.if-begins.false) (sym c.in-None.ensures.run)
