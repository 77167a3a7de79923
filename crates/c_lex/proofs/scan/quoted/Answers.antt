use Rattle.std.proofs.Common.{sym}
use Rattle.c_lex.proofs.Scans.{cut_quoted, cut_open_quote}
use Rattle.c_lex.proofs.scan.quoted.Goals as goal

pub returns-in-Some : goal.returns-in-Some
returns-in-Some c = rw c.token.ensures (cut_quoted _ _ _ _ c.requires (sym c.in-Some.ensures.run) c.in-Some.ensures.within)

pub returns-in-None : goal.returns-in-None
returns-in-None c = rw c.token-in-None.ensures (cut_open_quote _ _ _ c.requires (sym c.in-None.ensures.run))
