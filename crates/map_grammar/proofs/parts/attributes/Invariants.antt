use Rattle.std.proofs.Common.{codes, length}
use Rattle.map_grammar.specs.MapReaders.{sees, attribute, attributes}
use Rattle.map_grammar.proofs.Loops.{Looping}
use Rattle.map_grammar.proofs.parts.attributes.Given as goal

abbrev pub invariant-loop-alloc : goal.invariant-loop-alloc
invariant-loop-alloc l = Looping (sees (codes "[")) attribute l.fn.words (attributes l.fn.words) l.found l.words

abbrev pub decreases-loop-alloc : goal.decreases-loop-alloc
decreases-loop-alloc l = length l.words
