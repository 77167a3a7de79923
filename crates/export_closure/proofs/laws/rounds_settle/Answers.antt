use Rattle.export_closure.proofs.FlagLemmas.{rounds_settle}
use Rattle.export_closure.proofs.ClosureLaws.{closure_settled}
use Rattle.export_closure.proofs.laws.rounds_settle.Goals as goal

pub returns-clause-any : goal.returns-clause-any
returns-clause-any c more start = rounds_settle more start

pub returns-clause-closure : goal.returns-clause-closure
returns-clause-closure c rows from = closure_settled rows from
