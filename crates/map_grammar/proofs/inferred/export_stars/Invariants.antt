use Rattle.std.proofs.Common.{length}
use Rattle.map_grammar.specs.Readers.{many}
use Rattle.map_grammar.specs.MapReaders.{is_inside, export_star}
use Rattle.map_grammar.proofs.Loops.{Looping}
use Rattle.map_grammar.proofs.inferred.export_stars.Given as goal

abbrev pub invariant-loop-found : goal.invariant-loop-found
invariant-loop-found l = Looping is_inside export_star l.fn.words (many is_inside export_star l.fn.words) l.found l.words

abbrev pub decreases-loop-found : goal.decreases-loop-found
decreases-loop-found l = length l.words
