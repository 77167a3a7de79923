-- The lines that follow lead from the script so far to the whole script.
use Rattle.std.proofs.Common.{◌≡◌, ◌+◌, [], map, drop}
use Rattle.job_text.specs.Drafts.{after_script}
use Rattle.job_text.proofs.script.read_lines.Given as goal

abbrev pub invariant-loop-index : goal.invariant-loop-index
invariant-loop-index l =
    after_script l.script.items (l.index + 1) (map (λ line. line.now) (drop l.index l.lines)) ≡ after_script [] 1 (map (λ line. line.now) l.lines)
