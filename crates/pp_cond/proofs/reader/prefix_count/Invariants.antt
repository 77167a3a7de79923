use Rattle.std.proofs.Common.{◌≡◌, ◌+◌, ◌-◌, ◌≤◌, length, drop}
use Rattle.pp_cond.specs.Readers.{prefix_count}
use Rattle.pp_cond.proofs.reader.prefix_count.Given as goal

abbrev pub invariant-loop-count : goal.invariant-loop-count
invariant-loop-count l = (l.count ≤ length l.symbols) × (prefix_count l.symbols ≡ l.count + prefix_count (drop l.count l.symbols))

abbrev pub decreases-loop-count : goal.decreases-loop-count
decreases-loop-count l = length l.symbols - l.count
