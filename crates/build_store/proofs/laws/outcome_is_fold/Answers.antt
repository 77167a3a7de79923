use Rattle.build_store.proofs.ModuleLemmas.{outcome_is_fold, unit_is_fold, brought_rule}
use Rattle.build_store.proofs.laws.outcome_is_fold.Goals as goal

pub returns-clause-modules : goal.returns-clause-modules
returns-clause-modules g c p t m = outcome_is_fold p t m

pub returns-clause-units : goal.returns-clause-units
returns-clause-units g c p t fold = unit_is_fold p t fold

pub returns-clause-imports : goal.returns-clause-imports
returns-clause-imports g c p t x = brought_rule p t x
