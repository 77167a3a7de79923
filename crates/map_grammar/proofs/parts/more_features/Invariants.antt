use Rattle.std.proofs.Common.{◌∷◌, codes, length}
use Rattle.map_grammar.specs.Readers.{made, many}
use Rattle.map_grammar.specs.MapReaders.{sees, next_feature}
use Rattle.map_grammar.proofs.Loops.{Looping}
use Rattle.map_grammar.proofs.parts.more_features.Given as goal

abbrev pub invariant-loop-alloc : goal.invariant-loop-alloc
invariant-loop-alloc l = Looping (sees (codes ",")) next_feature l.fn.words (made (λ more. l.fn.first ∷ more) (many (sees (codes ",")) next_feature) l.fn.words) l.found l.words

abbrev pub decreases-loop-alloc : goal.decreases-loop-alloc
decreases-loop-alloc l = length l.words
