use Rattle.std.proofs.Common.{◌≡◌, ◌++◌}
use Rattle.driver.proofs.script.add_lines.Given as goal

abbrev pub invariant-loop-line : goal.invariant-loop-line
invariant-loop-line l = l.script.items ≡ l.initial.script.items ++ l.yielded
