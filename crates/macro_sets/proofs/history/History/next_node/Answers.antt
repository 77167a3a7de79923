-- The parts of the next directive are those of the history that the fields show.
use Rattle.std.proofs.Common.{◌∙◌}
use Rattle.macro_sets.proofs.KeptLemmas.{next_node-kept}
use Rattle.macro_sets.proofs.history.History.next_node.Goals as goal

pub returns : goal.returns
returns g c =
    rw (← c.self.view_is) (next_node-kept c.self.inside.owner c.self.inside.groups c.self.inside.order.items c.args.name.now _ c.args.place c.args.body c.args.before.now _ (g.S.Sees.seen c.args.seen.now) _ _
    c.self.invariant.kept (c.len.ensures ∙ c.self.inside.order.ok.0) c.in_ok-read.ensures c.of.ensures c.in_ok-overrides.ensures)
