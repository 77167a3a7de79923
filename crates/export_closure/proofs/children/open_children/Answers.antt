-- Each row is gone over once, and adds to the list of its parent alone.
use Rattle.std.proofs.Common.{◌∙◌, refl, length, arith}
use Rattle.std.proofs.lemmas.Option.{slice_get_read}
use Rattle.export_closure.proofs.FoundLemmas.{children_more, children_all}
use Rattle.export_closure.proofs.children.open_children.Goals as goal

pub loop-at-preserved : goal.loop-at-preserved
loop-at-preserved c =
    let rows = c.args.rows.now in
    let row = c.index-rows-at.result in (
      omega (arith, c.in_ok-add_child.ensures.size, c.loop-at.invariant.0),
      λ parent at.
          children_more rows c.loop-at.at parent at row _ _ (slice_get_read rows (length rows) c.loop-at.at row refl (omega (arith, c.loop-at-test.true)) c.index-rows-at.is)
          (c.loop-at.invariant.1 parent at) (c.in_ok-add_child.ensures.children parent at),
    )

pub returns-clause-children : goal.returns-clause-children
returns-clause-children c =
    λ parent at. c.loop-at.invariant.1 parent at ∙ children_all c.args.rows.now c.loop-at.at parent at (omega (arith, c.loop-at-test.false))
