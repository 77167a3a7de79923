use Rattle.export_closure.proofs.FlagLemmas.{has_union, length_union, has_none}
use Rattle.export_closure.proofs.ClosureLaws.{length_closure}
use Rattle.export_closure.proofs.laws.sets_are_read_back.Goals as goal

pub returns-clause-joined : goal.returns-clause-joined
returns-clause-joined c a b at long = has_union a b at long

pub returns-clause-size : goal.returns-clause-size
returns-clause-size c a b = length_union a b

pub returns-clause-empty : goal.returns-clause-empty
returns-clause-empty c n at = has_none n at

pub returns-clause-rows : goal.returns-clause-rows
returns-clause-rows c rows from = length_closure rows from
