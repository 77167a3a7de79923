-- The lines that follow lead from the script so far to the whole script.
use Rattle.std.proofs.Common.{◌≡◌, [], map, drop}
use Rattle.driver.specs.Replay.{with_lines}
use Rattle.driver.proofs.script.read_lines.Given as goal

abbrev pub invariant-loop-index : goal.invariant-loop-index
invariant-loop-index l =
    with_lines l.script.items l.index (map (λ line. line.now) (drop l.index l.lines)) ≡ with_lines [] 0 (map (λ line. line.now) l.lines)
