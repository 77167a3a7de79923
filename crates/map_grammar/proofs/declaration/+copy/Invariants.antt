-- Each member so far has been copied.
use Rattle.std.proofs.Common.{◌≡◌, take}
use Rattle.map_grammar.proofs.declaration.+copy.Given as goal

abbrev pub invariant-copy_all-loop-member : goal.invariant-copy_all-loop-member
invariant-copy_all-loop-member l = l.copied ≡ take l.member-index l.members
