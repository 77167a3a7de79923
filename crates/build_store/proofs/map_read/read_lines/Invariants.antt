use Rattle.std.proofs.Common.{◌≡◌, length}
use Rattle.unit_fold.specs.Lines.{lines}
use Rattle.build_store.specs.Tables.{map_lines, nothing_read}
use Rattle.build_store.proofs.map_read.read_lines.Given as goal

abbrev pub invariant-loop-line : goal.invariant-loop-line
invariant-loop-line l = map_lines l.earlier (nothing_read l.fn.map) 1 (lines l.text) ≡ map_lines l.earlier l.read l.number (lines l.rest)

abbrev pub decreases-loop-line : goal.decreases-loop-line
decreases-loop-line l = length l.rest
