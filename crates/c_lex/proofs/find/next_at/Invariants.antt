use Rattle.std.proofs.Common.{◌-◌, length}
use Rattle.c_lex.proofs.Search.{Searching}
use Rattle.c_lex.proofs.find.next_at.Given as goal

abbrev pub invariant-loop-cut : goal.invariant-loop-cut
invariant-loop-cut l = Searching l.mode l.bytes l.start l.spaced l.at

abbrev pub decreases-loop-cut : goal.decreases-loop-cut
decreases-loop-cut l = length l.bytes - l.at
