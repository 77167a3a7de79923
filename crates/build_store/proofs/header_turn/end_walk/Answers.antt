use Rattle.std.proofs.Common.{subst}
use Rattle.build_store.specs.Headers.{HasWalked}
use Rattle.build_store.specs.Walks.{OpensUnknown}
use Rattle.build_store.specs.declared.walk.Walk.{Walk}
use Rattle.build_store.proofs.HeaderEnds.{open_is_new}
use Rattle.build_store.proofs.HeaderTurns.{needs_turn, cyclic_turn}
use Rattle.cm_outside.specs.Faults.{Rose}
use Rattle.build_store.proofs.BehindTurns.{still_of}
use Rattle.build_store.proofs.header_turn.end_walk.Goals as goal

pub returns-in_err-end_built-in-Done-clause-stays : goal.returns-in_err-end_built-in-Done-clause-stays
returns-in_err-end_built-in-Done-clause-stays g c told honest t chain end walked =
    let P : Walk → Type 0 = λ w. HasWalked (g.K.Keeper.records c.args.tree.now.kept) c.args.held.now t chain end c.args.number w c.args.numbers.now in
    c.end_built.ensures.stays told honest t chain end (subst P c.in-Done.is walked)

pub returns-in_err-end_built-in-Done-clause-left : goal.returns-in_err-end_built-in-Done-clause-left
returns-in_err-end_built-in-Done-clause-left g c t chain end walked =
    let P : Walk → Type 0 = λ w. HasWalked (g.K.Keeper.records c.args.tree.now.kept) c.args.held.now t chain end c.args.number w c.args.numbers.now in
    c.end_built.ensures.left t chain end (subst P c.in-Done.is walked)

pub returns-in-Needs-clause-unknown : goal.returns-in-Needs-clause-unknown
returns-in-Needs-clause-unknown g c kept = open_is_new kept c.args.held.now c.in-Needs.first (subst (λ (w : Walk). OpensUnknown c.args.held.now w) c.in-Needs.is c.requires.unknown)

pub returns-in-Needs-clause-turn : goal.returns-in-Needs-clause-turn
returns-in-Needs-clause-turn g c t chain end walked =
    let P : Walk → Type 0 = λ w. HasWalked (g.K.Keeper.records c.args.tree.now.kept) c.args.held.now t chain end c.args.number w c.args.numbers.now in
    needs_turn (g.K.Keeper.records c.args.tree.now.kept) c.args.held.now c.args.held.now t chain end c.args.number c.args.numbers.now c.in-Needs.first (subst P c.in-Needs.is walked)

pub returns-in-Cyclic-clause-turn : goal.returns-in-Cyclic-clause-turn
returns-in-Cyclic-clause-turn g c t chain end walked =
    let P : Walk → Type 0 = λ w. HasWalked (g.K.Keeper.records c.args.tree.now.kept) c.args.held.now t chain end c.args.number w c.args.numbers.now in
    cyclic_turn (g.K.Keeper.records c.args.tree.now.kept) c.args.held.now c.end_as_cyclic.new.self t chain end c.args.number c.args.numbers.now (subst P c.in-Cyclic.is walked)

pub returns-in_ok-end_built-in-Done-clause-turn : goal.returns-in_ok-end_built-in-Done-clause-turn
returns-in_ok-end_built-in-Done-clause-turn g c t chain end walked =
    let P : Walk → Type 0 = λ w. HasWalked (g.K.Keeper.records c.args.tree.now.kept) c.args.held.now t chain end c.args.number w c.args.numbers.now in
    c.in_ok-end_built-in-Done.ensures.turn t chain end (subst P c.in-Done.is walked)

pub returns-in_ok-end_built-in-Done-clause-stays : goal.returns-in_ok-end_built-in-Done-clause-stays
returns-in_ok-end_built-in-Done-clause-stays g c told honest t chain end walked =
    let P : Walk → Type 0 = λ w. HasWalked (g.K.Keeper.records c.args.tree.now.kept) c.args.held.now t chain end c.args.number w c.args.numbers.now in
    c.end_built.ensures.stays told honest t chain end (subst P c.in-Done.is walked)

pub returns-in_ok-end_built-in-Done-clause-left : goal.returns-in_ok-end_built-in-Done-clause-left
returns-in_ok-end_built-in-Done-clause-left g c t chain end walked =
    let P : Walk → Type 0 = λ w. HasWalked (g.K.Keeper.records c.args.tree.now.kept) c.args.held.now t chain end c.args.number w c.args.numbers.now in
    c.end_built.ensures.left t chain end (subst P c.in-Done.is walked)

pub returns-in-Needs-clause-behind : goal.returns-in-Needs-clause-behind
returns-in-Needs-clause-behind g c t chain end walked = still_of c.args.held.now c.args.number t (g.C.Cache.files c.args.cache.now) (Rose (g.C.Cache.faults c.args.cache.now) (g.C.Cache.faults c.args.cache.now))

pub returns-in-Cyclic-clause-behind : goal.returns-in-Cyclic-clause-behind
returns-in-Cyclic-clause-behind g c t chain end walked = still_of c.args.held.now c.args.number t (g.C.Cache.files c.args.cache.now) (Rose (g.C.Cache.faults c.args.cache.now) (g.C.Cache.faults c.args.cache.now))

pub returns-in_ok-end_built-in-Done-clause-behind : goal.returns-in_ok-end_built-in-Done-clause-behind
returns-in_ok-end_built-in-Done-clause-behind g c t chain end walked =
    let P : Walk → Type 0 = λ w. HasWalked (g.K.Keeper.records c.args.tree.now.kept) c.args.held.now t chain end c.args.number w c.args.numbers.now in
    c.in_ok-end_built-in-Done.ensures.behind t chain end (subst P c.in-Done.is walked)
