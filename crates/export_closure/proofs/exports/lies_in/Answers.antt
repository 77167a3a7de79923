-- A parent has the answer of its child, unless the child is the one that is looked for.
use Rattle.std.proofs.Common.{◌≡◌, ◌∙◌, sym, length, arith}
use Rattle.std.specs.Prelude.{Some}
use Rattle.export_closure.specs.Closure.{parent_of}
use Rattle.export_closure.proofs.PlaceLemmas.{lies_here, lies_above, lies_nowhere, parent_before, parent_read}
use Rattle.export_closure.proofs.exports.lies_in.Goals as goal

pub loop-at-preserved : goal.loop-at-preserved
loop-at-preserved c =
    let rows = c.args.rows.now in
    let at = c.loop-at.at.index in
    let above : parent_of rows at ≡ Some c.in-Some.parent = parent_read rows at _ c.loop-at.invariant.0 ∙ c.in-Some.is in
    let before = parent_before rows c.requires.rows c.args.outer.index at c.in-Some.parent above in
    let within = c.loop-at.invariant.0 in
    (omega arith, c.loop-at.invariant.1 ∙ lies_above rows c.requires.rows c.args.outer.index (length rows) at c.in-Some.parent within above c.loop-at-test.true)

pub returns-in-None : goal.returns-in-None
returns-in-None c =
    let rows = c.args.rows.now in
    let at = c.loop-at.at.index in
    sym (c.loop-at.invariant.1 ∙ lies_nowhere rows c.requires.rows c.args.outer.index (length rows) at (parent_read rows at _ c.loop-at.invariant.0 ∙ c.in-None.is) c.loop-at-test.true)

pub returns : goal.returns
returns c =
    sym (c.loop-at.invariant.1 ∙ lies_here c.args.rows.now c.requires.rows c.args.outer.index (length c.args.rows.now) c.loop-at.at.index c.loop-at-test.false)
