use Rattle.std.proofs.Common.{length}
use Rattle.map_grammar.specs.Readers.{many}
use Rattle.map_grammar.specs.MapReaders.{is_dotted, dotted_name}
use Rattle.map_grammar.proofs.Loops.{Looping}
use Rattle.map_grammar.proofs.parts.dotted_names.Given as goal

abbrev pub invariant-loop-alloc : goal.invariant-loop-alloc
invariant-loop-alloc l = Looping (is_dotted) dotted_name l.fn.words (many is_dotted dotted_name l.fn.words) l.names l.words

abbrev pub decreases-loop-alloc : goal.decreases-loop-alloc
decreases-loop-alloc l = length l.words
