use Rattle.map_grammar.proofs.MapSame.{no_map_refused}
use Rattle.map_grammar.proofs.laws.no_map_refused.Goals as goal

pub returns : goal.returns
returns c = no_map_refused
