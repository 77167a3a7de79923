-- No earlier directive is active.
use Rattle.macro_sets.proofs.LawLemmas.{meaning_of-undef, meaning_of-define}
use Rattle.macro_sets.proofs.laws.a_directive_that_overrides_all_decides.Goals as goal

pub returns-clause-undef : goal.returns-clause-undef
returns-clause-undef c = meaning_of-undef

pub returns-clause-define : goal.returns-clause-define
returns-clause-define c = λ seen nodes last body shown lists free some. meaning_of-define seen nodes last shown lists body free some
