use Rattle.map_grammar.proofs.MapSame.{one_map}
use Rattle.map_grammar.proofs.laws.one_map.Goals as goal

pub returns : goal.returns
returns c = one_map
