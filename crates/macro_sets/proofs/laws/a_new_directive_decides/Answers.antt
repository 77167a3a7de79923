-- It overrides all visible ones before it, and none overrides it.
use Rattle.macro_sets.proofs.NameLemmas.{meaning_of-next-undef, meaning_of-next-define}
use Rattle.macro_sets.proofs.laws.a_new_directive_decides.Goals as goal

pub returns-clause-undef : goal.returns-clause-undef
returns-clause-undef c = meaning_of-next-undef

pub returns-clause-define : goal.returns-clause-define
returns-clause-define c = λ history name place body before seen shown job numbered told new. meaning_of-next-define history name place before seen shown body job numbered told new
