use Rattle.build_store.proofs.ModuleLemmas.{comes_back_of, passes_on, comes_back_at}
use Rattle.build_store.proofs.laws.comes_back.Goals as goal

pub returns-clause-itself : goal.returns-clause-itself
returns-clause-itself g c p t chain m leads here = comes_back_of p t chain m leads here

pub returns-clause-passed_on : goal.returns-clause-passed_on
returns-clause-passed_on g c p t m x e h = passes_on p t m x e h

pub returns-clause-behind : goal.returns-clause-behind
returns-clause-behind g c p t chain m x e here = comes_back_at p t chain m x e here
