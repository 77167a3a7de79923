use Rattle.std.proofs.Common.{None, subst}
use Rattle.std.proofs.lemmas.Result.{IfOk-weaker}
use Rattle.build_store.specs.Walks.{IsPaused, WaitsBehind, far_of, owner_far}
use Rattle.build_store.proofs.WalkEvents.{unit_behind, unit_way}
use Rattle.build_store.proofs.walk.unit_way.Goals as goal

pub returns-in-Some-clause-way : goal.returns-in-Some-clause-way
returns-in-Some-clause-way g c =
    let h = c.args.held.now in
    let path = c.args.unit.now in
    let new = g.K.Keeper.records c.walk_on.new.tree.kept in
    IfOk-weaker c.walk_on.result _ _
    (λ way made t agrees are paused.
    let waits : WaitsBehind h t None path (owner_far h t None path) c.in-Some.field-0 = subst (IsPaused h t path) c.in-Some.is paused in
    let far = far_of h t None path waits.parts waits.reading in
    unit_behind h t path (owner_far h t None path) far waits.comes way
    (unit_way h t path new c.new-numbers.result c.walk_on.new.numbers far way (made t waits.parts waits.reading agrees are waits.head)))
    c.walk_on.ensures.way

pub returns-clause-way : goal.returns-clause-way
returns-clause-way g c =
    let h = c.args.held.now in
    let path = c.args.unit.now in
    let new = g.K.Keeper.records c.walk_owner.new.tree.kept in
    IfOk-weaker c.walk_owner.result _ _
    (λ way made t agrees are paused. unit_way h t path new c.new-numbers.result c.walk_owner.new.numbers (owner_far h t None path) way (made t agrees are))
    c.walk_owner.ensures.way
