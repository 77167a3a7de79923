use Rattle.std.proofs.Common.{◌≡◌, ◌+◌, ◌-◌, ◌≤◌, length, drop}
use Rattle.pp_cond.specs.Numbers.{digit_count}
use Rattle.pp_cond.proofs.numbers.digit_count.Given as goal

abbrev pub invariant-loop-count : goal.invariant-loop-count
invariant-loop-count l = (l.count ≤ length l.text) × (digit_count l.base l.text ≡ l.count + digit_count l.base (drop l.count l.text))

abbrev pub decreases-loop-count : goal.decreases-loop-count
decreases-loop-count l = length l.text - l.count
