use Rattle.std.proofs.Common.{sym}
use Rattle.build_store.proofs.ModuleLemmas.{alone_too}
use Rattle.build_store.proofs.QuestionLemmas.{modules_alike}
use Rattle.build_store.proofs.laws.same_questions.Goals as goal

pub returns-clause-value : goal.returns-clause-value
returns-clause-value g c p t chain m b e = alone_too p t chain m b e

pub returns-clause-asked : goal.returns-clause-asked
returns-clause-asked g c p t chain m b e = sym (modules_alike p t chain _ m b b e (alone_too p t chain m b e)).questions

pub returns-clause-begun : goal.returns-clause-begun
returns-clause-begun g c p t chain m b e = sym (modules_alike p t chain _ m b b e (alone_too p t chain m b e)).begins
