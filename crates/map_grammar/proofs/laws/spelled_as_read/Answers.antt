use Rattle.map_grammar.proofs.SpellLaws.{spelled_as_read}
use Rattle.map_grammar.proofs.laws.spelled_as_read.Goals as goal

pub returns : goal.returns
returns c = λ words d h. spelled_as_read d words h
