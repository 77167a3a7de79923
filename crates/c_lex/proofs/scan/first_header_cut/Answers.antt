use Rattle.c_lex.proofs.Cuts.{cut_of_is, header_is, header_else, header_none}
use Rattle.c_lex.proofs.scan.first_header_cut.Goals as goal

pub returns-in_err-first-clause-cut : goal.returns-in_err-first-clause-cut
returns-in_err-first-clause-cut c = rw c.from_residual.ensures (header_none _ c.in_err-first.ensures.cases)

pub returns-in-Some-clause-cut : goal.returns-in-Some-clause-cut
returns-in-Some-clause-cut c = rw c.in_ok-first.ensures.cases.0 (header_is _ _ c.in-Some.ensures)

pub returns-in-None-clause-cut : goal.returns-in-None-clause-cut
returns-in-None-clause-cut c =
    rw c.in_ok-first.ensures.cases.0 (header_else _ _ c.in-None.ensures (cut_of_is _ _ c.cut_after.ensures))
