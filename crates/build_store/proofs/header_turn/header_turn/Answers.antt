use Rattle.std.proofs.Common.{rules, ◌≡◌, ◌≢◌, ◌∙◌, Some, sym, subst}
use Rattle.cm_outside.specs.declared.tree.TreeFault.TheVariants.{Failed}
use Rattle.build_store.specs.Changes.{Went, fault_of}
use Rattle.build_store.proofs.ChangesWent.{fault_given, went_ended, went_nowhere}
use Rattle.build_store.proofs.HeaderEnds.{has_walked}
use Rattle.build_store.proofs.HeaderKeeps.{grown_on, on_then}
use Rattle.build_store.proofs.header_turn.header_turn.Goals as goal

pub returns-in_err-numbers-clause-went : goal.returns-in_err-numbers-clause-went
returns-in_err-numbers-clause-went g c =
    let other : fault_of c.from_residual.result ≢ Some Failed = search rules in
    went_ended g.T.Tree g.K.Keeper c.args.tree.now c.args.tree.now (fault_of c.from_residual.result) other (went_nowhere g.T.Tree g.K.Keeper c.args.tree.now)

pub returns-in_err-walk-clause-went : goal.returns-in_err-walk-clause-went
returns-in_err-walk-clause-went g c =
    let same : Some c.in_err-walk.field-0.0 ≡ fault_of c.from_residual-in_err-walk.result = sym (fault_given c.from_residual-in_err-walk.result c.in_err-walk.field-0.0 c.from_residual-in_err-walk.ensures.1) in
    subst (Went g.T.Tree g.K.Keeper c.args.tree.now c.walk_header.new.tree) same c.in_err-walk.ensures.went

pub returns-in_err-walk-clause-on : goal.returns-in_err-walk-clause-on
returns-in_err-walk-clause-on g c =
    grown_on (g.K.Keeper.records c.args.tree.now.kept) (g.K.Keeper.records c.walk_header.new.tree.kept) c.in_err-walk.ensures.went.grew c.args.held.now

pub returns-in_err-end_walk-clause-went : goal.returns-in_err-end_walk-clause-went
returns-in_err-end_walk-clause-went g c =
    let other : fault_of c.from_residual-in_err-end_walk.result ≢ Some Failed = search rules in
    went_ended g.T.Tree g.K.Keeper c.args.tree.now c.walk_header.new.tree (fault_of c.from_residual-in_err-end_walk.result) other c.in_ok-walk.ensures.went

pub returns-in_err-end_walk-clause-on : goal.returns-in_err-end_walk-clause-on
returns-in_err-end_walk-clause-on g c =
    let before = g.K.Keeper.records c.args.tree.now.kept in
    let after = g.K.Keeper.records c.walk_header.new.tree.kept in
    on_then before after c.args.held.now c.args.held.now c.end_walk.new.held (grown_on before after c.in_ok-walk.ensures.went.grew c.args.held.now) c.end_walk.ensures.on

pub returns-in_err-end_walk-clause-stays : goal.returns-in_err-end_walk-clause-stays
returns-in_err-end_walk-clause-stays g c told honest t chain end agrees table runs =
    c.end_walk.ensures.stays told honest t chain end
    (has_walked (g.K.Keeper.records c.args.tree.now.kept) (g.K.Keeper.records c.walk_header.new.tree.kept) c.args.held.now t chain end c.args.number c.in_ok-walk.walk
    c.in_ok-numbers.numbers c.walk_header.new.numbers c.items-2.result.now c.in_ok-walk.ensures.went.grew c.in_ok-walk.ensures.went.back
    (c.in_ok-numbers.ensures ∙ c.items.ensures) c.items-2.ensures (c.in_ok-walk.ensures.walk t) agrees table runs)

pub returns-in_err-end_walk-clause-left : goal.returns-in_err-end_walk-clause-left
returns-in_err-end_walk-clause-left g c t chain end agrees table runs =
    c.end_walk.ensures.left t chain end
    (has_walked (g.K.Keeper.records c.args.tree.now.kept) (g.K.Keeper.records c.walk_header.new.tree.kept) c.args.held.now t chain end c.args.number c.in_ok-walk.walk
    c.in_ok-numbers.numbers c.walk_header.new.numbers c.items-2.result.now c.in_ok-walk.ensures.went.grew c.in_ok-walk.ensures.went.back
    (c.in_ok-numbers.ensures ∙ c.items.ensures) c.items-2.ensures (c.in_ok-walk.ensures.walk t) agrees table runs)

pub returns-clause-on : goal.returns-clause-on
returns-clause-on g c =
    let before = g.K.Keeper.records c.args.tree.now.kept in
    let after = g.K.Keeper.records c.walk_header.new.tree.kept in
    on_then before after c.args.held.now c.args.held.now c.end_walk.new.held (grown_on before after c.in_ok-walk.ensures.went.grew c.args.held.now) c.end_walk.ensures.on

pub returns-clause-turn : goal.returns-clause-turn
returns-clause-turn g c t chain end agrees table runs =
    c.in_ok-end_walk.ensures.turn t chain end
    (has_walked (g.K.Keeper.records c.args.tree.now.kept) (g.K.Keeper.records c.walk_header.new.tree.kept) c.args.held.now t chain end c.args.number c.in_ok-walk.walk
    c.in_ok-numbers.numbers c.walk_header.new.numbers c.items-2.result.now c.in_ok-walk.ensures.went.grew c.in_ok-walk.ensures.went.back
    (c.in_ok-numbers.ensures ∙ c.items.ensures) c.items-2.ensures (c.in_ok-walk.ensures.walk t) agrees table runs)

pub returns-clause-stays : goal.returns-clause-stays
returns-clause-stays g c told honest t chain end agrees table runs =
    c.end_walk.ensures.stays told honest t chain end
    (has_walked (g.K.Keeper.records c.args.tree.now.kept) (g.K.Keeper.records c.walk_header.new.tree.kept) c.args.held.now t chain end c.args.number c.in_ok-walk.walk
    c.in_ok-numbers.numbers c.walk_header.new.numbers c.items-2.result.now c.in_ok-walk.ensures.went.grew c.in_ok-walk.ensures.went.back
    (c.in_ok-numbers.ensures ∙ c.items.ensures) c.items-2.ensures (c.in_ok-walk.ensures.walk t) agrees table runs)

pub returns-clause-left : goal.returns-clause-left
returns-clause-left g c t chain end agrees table runs =
    c.end_walk.ensures.left t chain end
    (has_walked (g.K.Keeper.records c.args.tree.now.kept) (g.K.Keeper.records c.walk_header.new.tree.kept) c.args.held.now t chain end c.args.number c.in_ok-walk.walk
    c.in_ok-numbers.numbers c.walk_header.new.numbers c.items-2.result.now c.in_ok-walk.ensures.went.grew c.in_ok-walk.ensures.went.back
    (c.in_ok-numbers.ensures ∙ c.items.ensures) c.items-2.ensures (c.in_ok-walk.ensures.walk t) agrees table runs)

pub returns-clause-behind : goal.returns-clause-behind
returns-clause-behind g c t chain end agrees table runs =
    c.in_ok-end_walk.ensures.behind t chain end
    (has_walked (g.K.Keeper.records c.args.tree.now.kept) (g.K.Keeper.records c.walk_header.new.tree.kept) c.args.held.now t chain end c.args.number c.in_ok-walk.walk
    c.in_ok-numbers.numbers c.walk_header.new.numbers c.items-2.result.now c.in_ok-walk.ensures.went.grew c.in_ok-walk.ensures.went.back
    (c.in_ok-numbers.ensures ∙ c.items.ensures) c.items-2.ensures (c.in_ok-walk.ensures.walk t) agrees table runs)
