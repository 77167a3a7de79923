use Rattle.build_store.proofs.BegunLemmas.{unit_closed, with_new_closed}
use Rattle.build_store.proofs.laws.units_are_closed.Goals as goal

pub returns-clause-begun : goal.returns-clause-begun
returns-clause-begun g c p t fold = unit_closed p t fold

pub returns-clause-added : goal.returns-clause-added
returns-clause-added g c p t seen ms h k = with_new_closed p t seen ms h k
