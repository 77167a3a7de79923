use Rattle.std.proofs.Common.{length}
use Rattle.map_grammar.proofs.Cutting.{Cutting}
use Rattle.map_grammar.proofs.parse.declarations.Given as goal

abbrev pub invariant-loop-rest : goal.invariant-loop-rest
invariant-loop-rest l = Cutting l.words l.found.items l.rest

abbrev pub decreases-loop-rest : goal.decreases-loop-rest
decreases-loop-rest l = length l.rest
