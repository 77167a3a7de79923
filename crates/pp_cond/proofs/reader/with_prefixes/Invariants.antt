use Rattle.std.proofs.Common.{◌≡◌, ◌≤◌, length, take}
use Rattle.pp_cond.specs.Readers.{with_prefixes, outcomes}
use Rattle.pp_cond.proofs.reader.with_prefixes.Given as goal

abbrev pub invariant-loop-left : goal.invariant-loop-left
invariant-loop-left l = (l.left ≤ length l.operators) × (with_prefixes outcomes l.operators l.fn.operand ≡ with_prefixes outcomes (take l.left l.operators) l.outcome)

abbrev pub decreases-loop-left : goal.decreases-loop-left
decreases-loop-left l = l.left
