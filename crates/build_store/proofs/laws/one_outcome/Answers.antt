use Rattle.build_store.proofs.ModuleLemmas.{one_outcome_of}
use Rattle.build_store.proofs.BegunLemmas.{through, mod_nothing_new, begun_closed}
use Rattle.build_store.proofs.laws.one_outcome.Goals as goal

pub returns-clause-value : goal.returns-clause-value
returns-clause-value g c p t chain m leads = one_outcome_of p t chain m leads

pub returns-clause-through : goal.returns-clause-through
returns-clause-through g c p t chain m leads x e = through p t chain m leads x e

pub returns-clause-nothing_new : goal.returns-clause-nothing_new
returns-clause-nothing_new g c p t seen chain m closed here = mod_nothing_new p t seen closed chain m here

pub returns-clause-closed : goal.returns-clause-closed
returns-clause-closed g c p t m = begun_closed p t m
