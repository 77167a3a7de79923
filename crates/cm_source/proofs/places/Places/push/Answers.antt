use Rattle.std.proofs.Common.{◌≤◌, [], ◌∷◌, ◌++◌, ◌∙◌, ap, arith, length}
use Rattle.cm_source.specs.Runs.{places_of}
use Rattle.cm_source.proofs.Runs.{AreRuns-push, places_of-more, places_of-push, length-places_of, shifted-zero}
use Rattle.cm_source.proofs.places.Places.push.Goals as goal

pub overflow_add-self : goal.overflow_add-self
overflow_add-self c =
    let view = ap length c.self.view_is in
    let count = length-places_of c.self.inside.runs.items c.self.inside.count in
    omega arith

pub overflow_add-self-2 : goal.overflow_add-self-2
overflow_add-self-2 c =
    let view = ap length c.self.view_is in
    let count = length-places_of c.self.inside.runs.items c.self.inside.count in
    omega arith

pub returns-then-goes_on-clause-ok : goal.returns-then-goes_on-clause-ok
returns-then-goes_on-clause-ok c =
    let rs = c.self.inside.runs.items in
    let n = c.self.inside.count in
    let place = rw c.deref.ensures.value at (c.goes_on.ensures.place c.if-goes_on.true) in
    rw (← c.self.view_is) (places_of-more rs n ∙ ap (λ p. places_of rs n ++ p ∷ []) place)

pub invariant_of-self-2 : goal.invariant_of-self-2
invariant_of-self-2 c = rw c.in_ok-push.ensures.items (AreRuns-push _ _ c.args.place c.self.invariant)

pub returns-clause-ok : goal.returns-clause-ok
returns-clause-ok c =
    let rs = c.self.inside.runs.items in
    let n = c.self.inside.count in
    let column : c.args.place.column ≤ 4294967295 = omega arith in
    rw (c.in_ok-push.ensures.items, ← c.self.view_is)
    (places_of-push rs n c.args.place ∙ ap (λ p. places_of rs n ++ p ∷ []) (shifted-zero c.args.place column))
