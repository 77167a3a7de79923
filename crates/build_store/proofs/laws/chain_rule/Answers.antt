use Rattle.std.proofs.Common.{refl}
use Rattle.build_store.specs.Modules.{mod_of}
use Rattle.build_store.proofs.ModuleLemmas.{chain_rule}
use Rattle.build_store.proofs.laws.chain_rule.Goals as goal

pub returns-clause-import : goal.returns-clause-import
returns-clause-import g c p chain x = chain_rule p chain x

pub returns-clause-begins : goal.returns-clause-begins
unfolding mod_of
returns-clause-begins g c p chain m = refl
