use Rattle.std.proofs.Common.{◌∙◌, sym, ap, arith}
use Rattle.build_store.specs.Walks.{with_item}
use Rattle.build_store.proofs.WalkParts.{part_past}
use Rattle.build_store.proofs.walk.part_of.Goals as goal

pub loop-item-preserved : goal.loop-item-preserved
loop-item-preserved c =
    let made = c.in_ok-push_item.ensures in
    made ∙ ap (λ part. with_item part c.item-item.result) c.loop-item.invariant
    ∙ sym (part_past c.args.items.now c.loop-item.item-index c.item-item.result (omega arith) c.item-item.is)
