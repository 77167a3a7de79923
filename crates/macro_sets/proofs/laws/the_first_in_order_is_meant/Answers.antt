-- What is left of a list in order is in order.
use Rattle.macro_sets.proofs.OrderLemmas.{meant-first, other-first}
use Rattle.macro_sets.proofs.laws.the_first_in_order_is_meant.Goals as goal

pub returns-clause-first : goal.returns-clause-first
returns-clause-first c = meant-first

pub returns-clause-other : goal.returns-clause-other
returns-clause-other c = other-first
