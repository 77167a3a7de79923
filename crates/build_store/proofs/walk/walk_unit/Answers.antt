use Rattle.std.proofs.Common.{None, subst, sym}
use Rattle.build_store.specs.Walks.{IsPaused, IsUnitWay, owner_far}
use Rattle.build_store.specs.declared.walk.Way.{Way}
use Rattle.build_store.proofs.WalkEvents.{unit_needs_first, unit_done}
use Rattle.build_store.proofs.walk.walk_unit.Goals as goal

pub returns-in-Needs-clause-walk : goal.returns-in-Needs-clause-walk
returns-in-Needs-clause-walk g c t agrees are paused =
    let h = c.args.held.now in
    let path = c.args.unit.now in
    unit_needs_first h t path c.in-Needs.number (subst (λ (way : Way). IsUnitWay h t path (owner_far h t None path) way) c.in-Needs.is (c.in_ok-number.ensures.way t agrees are (subst (IsPaused h t path) (sym c.take.ensures.value) paused))).0

pub returns-in-Needs-clause-paused : goal.returns-in-Needs-clause-paused
returns-in-Needs-clause-paused g c t agrees are paused =
    let h = c.args.held.now in
    let path = c.args.unit.now in
    (subst (λ (way : Way). IsUnitWay h t path (owner_far h t None path) way) c.in-Needs.is (c.in_ok-number.ensures.way t agrees are (subst (IsPaused h t path) (sym c.take.ensures.value) paused))).1

pub returns-in-Done-clause-walk : goal.returns-in-Done-clause-walk
returns-in-Done-clause-walk g c t agrees are paused =
    let h = c.args.held.now in
    let path = c.args.unit.now in
    unit_done h t path c.in-Done.items (subst (λ (way : Way). IsUnitWay h t path (owner_far h t None path) way) c.in-Done.is (c.in_ok-number.ensures.way t agrees are (subst (IsPaused h t path) (sym c.take.ensures.value) paused)))
