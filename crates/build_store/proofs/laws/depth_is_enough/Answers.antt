use Rattle.build_store.proofs.ModuleLemmas.{in_full}
use Rattle.build_store.proofs.SubmoduleLemmas.{within_full, inner_rule}
use Rattle.build_store.proofs.laws.depth_is_enough.Goals as goal

pub returns-clause-modules : goal.returns-clause-modules
returns-clause-modules g c p k chain x room = in_full p k chain x room

pub returns-clause-submodules : goal.returns-clause-submodules
returns-clause-submodules g c p m k inner x room = within_full p m k inner x room

pub returns-clause-inner : goal.returns-clause-inner
returns-clause-inner g c p m inner x = inner_rule p m inner x
