use Rattle.map_grammar.proofs.MapLaws.{one_tree}
use Rattle.map_grammar.proofs.laws.one_tree.Goals as goal

pub returns : goal.returns
returns c = one_tree
