use Rattle.std.proofs.Common.{◌≡◌, ◌+◌, ℕ, [], ◌∷◌, drop}
use Rattle.driver.specs.Counted.{IsCounted}
use Rattle.driver.specs.Replay.{output_of_lines}
use Rattle.driver.proofs.ReplayLemmas.{counts_on, goes_on, next_line}
use Rattle.driver.proofs.play.play.Goals as goal

pub loop-line-preserved : goal.loop-line-preserved
loop-line-preserved c =
    let lines = c.args.lines.now in
    let i = c.loop-line.line-index in
    let line = c.line-item.result in
    let next : drop i lines ≡ line ∷ drop (i + 1) lines = next_line lines i line c.loop-line-test.true c.line-item.is in
    let Whole : ℕ → Type 0 = λ after. IsCounted [] [] lines c.args.steps.now.compiles after in
    record {
      written = goes_on c.loop-line.out.items c.play_line.new.out.items c.loop-line.tree.files c.play_line.new.tree.files line (drop (i + 1) lines) (drop i lines) (output_of_lines [] lines)
          (c.in_ok-play_line.ensures.output c.loop-line.invariant.fronts) c.in_ok-play_line.ensures.files next c.loop-line.invariant.written;
      fronts = c.play_line.ensures.fronts c.loop-line.invariant.fronts;
      counted = counts_on c.loop-line.tree.files c.loop-line.kept.files c.play_line.new.tree.files c.play_line.new.kept.files line (drop (i + 1) lines) (drop i lines)
          c.loop-line.steps.compiles c.play_line.new.steps.compiles Whole c.in_ok-play_line.ensures.files next (c.in_ok-play_line.ensures.count c.loop-line.invariant.fronts) c.loop-line.invariant.counted;
    }
