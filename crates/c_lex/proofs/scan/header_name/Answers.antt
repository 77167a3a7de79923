use Rattle.std.proofs.Common.{sym}
use Rattle.c_lex.proofs.Scans.{no_header_end}
use Rattle.c_lex.proofs.scan.header_name.Goals as goal

pub returns-in-None : goal.returns-in-None
returns-in-None c = no_header_end _ _ (sym c.in-None.ensures)
