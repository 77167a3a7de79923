use Rattle.std.proofs.Common.{◌≡◌, ◌+◌, drop}
use Rattle.module_file.specs.Reading.{agree}
use Rattle.module_file.proofs.contents.are_rows_of.Given as goal

abbrev pub invariant-loop-at : goal.invariant-loop-at
invariant-loop-at l = agree (l.at + 1) (drop l.at l.rows) (drop l.at l.declarations) ≡ agree 1 l.rows l.declarations
