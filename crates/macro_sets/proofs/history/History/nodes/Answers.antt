-- Each place gives the next directive.
use Rattle.std.proofs.Common.{[], ◌∷◌, ◌++◌, ap, ◌∙◌}
use Rattle.macro_sets.proofs.GroupLemmas.{place}
use Rattle.macro_sets.proofs.KeptLemmas.{in_order-more}
use Rattle.macro_sets.proofs.history.History.nodes.Goals as goal

pub loop-place-preserved : goal.loop-place-preserved
loop-place-preserved c =
    c.in_ok-push.ensures.ok
    ∙ ap (λ l. l ++ c.in_ok-copy.field-0 ∷ []) c.loop-place.invariant
    ∙ rw c.in_ok-copy.ensures (in_order-more c.self.inside.groups c.deref-place-items.result.now c.loop-place.place-index (place 0 0) c.node.result.now c.loop-place-test.true c.node.ensures)
