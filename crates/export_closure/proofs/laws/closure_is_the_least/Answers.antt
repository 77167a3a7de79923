use Rattle.export_closure.proofs.ClosureLaws.{closure_start, closure_closed, closure_least}
use Rattle.export_closure.proofs.laws.closure_is_the_least.Goals as goal

pub returns-clause-start : goal.returns-clause-start
returns-clause-start c rows from within = closure_start rows from within

pub returns-clause-closed : goal.returns-clause-closed
returns-clause-closed c rows from at other has_at showing within = closure_closed rows from at other has_at showing within

pub returns-clause-least : goal.returns-clause-least
returns-clause-least c rows from all has_from closed at e = closure_least rows from all has_from closed at e
