use Rattle.build_store.proofs.SubmoduleLemmas.{one_outcome_within, alone_within, submodule_is_fold, comes_back_within}
use Rattle.build_store.proofs.laws.one_outcome_within.Goals as goal

pub returns-clause-value : goal.returns-clause-value
returns-clause-value g c p m t brings inner x leads = one_outcome_within p m t brings inner x leads

pub returns-clause-alone : goal.returns-clause-alone
returns-clause-alone g c p m t brings inner x b e = alone_within p m t brings inner x b e

pub returns-clause-fold : goal.returns-clause-fold
returns-clause-fold g c p m t brings x = submodule_is_fold p m t brings x

pub returns-clause-comes_back : goal.returns-clause-comes_back
returns-clause-comes_back g c p m t brings inner x leads here = comes_back_within p m t brings inner x leads here
