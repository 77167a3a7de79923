use Rattle.c_lex.proofs.Cuts.{cut_of_is, cut_of_none}
use Rattle.c_lex.proofs.scan.first_cut.Goals as goal

pub returns-in_err-first-clause-cut : goal.returns-in_err-first-clause-cut
returns-in_err-first-clause-cut c = rw c.from_residual.ensures (cut_of_none _ c.in_err-first.ensures.cases)

pub returns-clause-cut : goal.returns-clause-cut
returns-clause-cut c = rw c.in_ok-first.ensures.cases.0 (cut_of_is _ _ c.cut_after.ensures)

pub returns-clause-longest : goal.returns-clause-longest
returns-clause-longest c = rw c.in_ok-first.ensures.cases.0 c.cut_after.ensures
