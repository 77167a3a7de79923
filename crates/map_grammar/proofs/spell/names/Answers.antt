-- A text that is cut at an ASCII character is cut as its bytes are.
use Rattle.std.proofs.Common.{lit<}
use Rattle.std.proofs.lemmas.Iterator.Consumers.{map_from_collect}
use Rattle.std.proofs.lemmas.Iterator.Splits.{YieldsList-from_str_split}
use Rattle.map_grammar.proofs.spell.names.Goals as goal

pub returns : goal.returns
returns c = rw c.in_ok-names.was at (map_from_collect _ c.collect.ensures.ran (YieldsList-from_str_split 46 c.args.id.now (lit< tt) c.split.ensures.text c.split.ensures.has_more c.split.ensures.pattern))
