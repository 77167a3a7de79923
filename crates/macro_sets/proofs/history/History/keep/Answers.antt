-- A directive that is kept goes last under its number, and the groups stay those of the names.
use Rattle.std.proofs.Common.{[], ◌∷◌, ◌++◌, ap, sym, ◌∙◌}
use Rattle.macro_sets.specs.ActiveMacros.{next_ref}
use Rattle.macro_sets.proofs.KeptLemmas.{IsHistory-pushed, shown-pushed}
use Rattle.macro_sets.proofs.history.History.keep.Goals as goal

pub invariant_of-self-2 : goal.invariant_of-self-2
invariant_of-self-2 c =
    let order = c.in_ok-push.ensures.items ∙ ap (λ l. l ++ c.in_ok-position.position ∷ []) c.in_ok-reserve.ensures.items in
    let number = c.requires.number ∙ ap next_ref (sym c.self.view_is) in
    rw (c.in_ok-position.ensures.pushed, order, c.in_ok-position.ensures.place)
    (IsHistory-pushed c.self.inside.owner c.self.inside.groups c.self.inside.order.items c.args.name.now c.args.node c.requires.name number c.self.invariant)

pub returns-clause-ok : goal.returns-clause-ok
returns-clause-ok c =
    let order = c.in_ok-push.ensures.items ∙ ap (λ l. l ++ c.in_ok-position.position ∷ []) c.in_ok-reserve.ensures.items in
    rw (c.in_ok-position.ensures.pushed, order, c.in_ok-position.ensures.place, ← c.self.view_is)
    (shown-pushed c.self.inside.owner c.self.inside.groups c.self.inside.order.items c.args.name.now c.args.node c.self.invariant.kept)
