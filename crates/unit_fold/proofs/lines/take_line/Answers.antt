use Rattle.unit_fold.proofs.LineLemmas.{first_line, only_line}
use Rattle.unit_fold.proofs.lines.take_line.Goals as goal

pub returns-in-Some-clause-line : goal.returns-in-Some-clause-line
returns-in-Some-clause-line c = first_line c.args.text.now c.in-Some.end c.in-Some.ensures

pub returns-in-None-clause-line : goal.returns-in-None-clause-line
returns-in-None-clause-line c = only_line c.args.text.now c.if-is_empty.ensures c.in-None.ensures
