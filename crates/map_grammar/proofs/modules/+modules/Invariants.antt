use Rattle.std.proofs.Common.{◌+◌, ◌*◌, length}
use Rattle.map_grammar.specs.Readers.{many}
use Rattle.map_grammar.specs.MapReaders.{is_inside, member}
use Rattle.map_grammar.proofs.Loops.{Looping}
use Rattle.map_grammar.proofs.modules.+modules.Given as goal

abbrev pub decreases-member : goal.decreases-member
decreases-member l = 8 * l.depth

abbrev pub decreases-members : goal.decreases-members
decreases-members l = 8 * l.depth + 1

abbrev pub decreases-braced_members : goal.decreases-braced_members
decreases-braced_members l = 8 * l.depth + 2

abbrev pub decreases-named_module : goal.decreases-named_module
decreases-named_module l = 8 * l.depth + 3

abbrev pub decreases-any_module : goal.decreases-any_module
decreases-any_module l = 8 * l.depth + 4

abbrev pub decreases-submodule : goal.decreases-submodule
decreases-submodule l = 8 * l.depth + 5

abbrev pub invariant-members-loop-alloc : goal.invariant-members-loop-alloc
invariant-members-loop-alloc l = Looping is_inside (member l.depth) l.fn.words (many is_inside (member l.depth) l.fn.words) l.found l.words

abbrev pub decreases-members-loop-alloc : goal.decreases-members-loop-alloc
decreases-members-loop-alloc l = length l.words
