-- What is written, and what the lines that follow write, is the whole, and so it is counted; the kept files are fronts of images.
use Rattle.std.proofs.Common.{◌≡◌, ℕ, [], ◌++◌, drop}
use Rattle.driver.specs.Counted.{IsCounted}
use Rattle.driver.specs.KeptFronts.{AreFronts}
use Rattle.driver.specs.Replay.{output_of_lines}
use Rattle.driver.proofs.play.play.Given as goal

abbrev pub invariant-loop-line : goal.invariant-loop-line
invariant-loop-line l = record {
  written : l.out.items ++ output_of_lines l.tree.files (drop l.line-index l.lines) ≡ output_of_lines [] l.lines;
  fronts : AreFronts l.kept.files;
  counted : (after : ℕ) → IsCounted l.tree.files l.kept.files (drop l.line-index l.lines) l.steps.compiles after → IsCounted [] [] l.lines l.fn.steps.compiles after;
}
