use Rattle.std.proofs.Common.{◌≡◌, ◌++◌}
use Rattle.unit_fold.proofs.declare.push_all.Given as goal

abbrev pub invariant-loop-text : goal.invariant-loop-text
invariant-loop-text l = l.texts ≡ l.initial.texts ++ l.yielded
