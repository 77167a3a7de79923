use Rattle.std.proofs.Common.{ℕ, List, [], sym, subst}
use Rattle.std.proofs.lemmas.Result.{IfOk-weaker}
use Rattle.unit_fold.specs.Owners.{nothing_read}
use Rattle.unit_fold.specs.Steps.{IsHead, after_stage}
use Rattle.unit_fold.specs.declared.fold.Stage.TheVariants.{WaitsForText}
use Rattle.unit_fold.specs.declared.given.Given.{Given}
use Rattle.build_store.specs.Changes.{fault_of}
use Rattle.build_store.specs.Owners.{owner_with, reading_of}
use Rattle.build_store.specs.Walks.{WalksAll, far_of, owner_far}
use Rattle.build_store.proofs.ChangesWent.{went_then}
use Rattle.build_store.proofs.WalkEvents.{owner_begins, true_later, way_behind}
use Rattle.build_store.proofs.walk.walk_owner.Goals as goal

pub returns-clause-went : goal.returns-clause-went
returns-clause-went g c =
    went_then g.T.Tree g.K.Keeper c.args.tree.now c.ask_path.new.tree c.walk_on.new.tree (fault_of c.walk_on.result) c.in_ok-at.ensures.went c.walk_on.ensures.went

pub returns-clause-way : goal.returns-clause-way
returns-clause-way g c =
    let kept = g.K.Keeper.records in
    let start = kept c.args.tree.now.kept in
    let mid = kept c.ask_path.new.tree.kept in
    let new = kept c.walk_on.new.tree.kept in
    let h = c.args.held.now in
    let path = c.args.path.now in
    let answer = c.record.result.now.answer in
    let reading = reading_of (owner_with c.args.own) path answer in
    let head : IsHead reading c.in_ok-fold.event c.in_ok-fold.fold =
    subst (λ (given : Given). IsHead (after_stage (owner_with c.args.own) nothing_read WaitsForText given) c.in_ok-fold.event c.in_ok-fold.fold) c.in_ok-given.ensures.given c.in_ok-fold.ensures.head in
    IfOk-weaker c.walk_on.result _ _
    (λ way made t agrees are.
    let whole = owner_far h t c.args.own path in
    let far = far_of h t c.args.own path [] reading in
    let earlier = c.walk_on.ensures.went.back t agrees in
    let first : WalksAll mid h t c.args.numbers.now c.push.new.self whole far =
    subst (λ (n : List ℕ). WalksAll mid h t c.args.numbers.now n whole far) (sym c.in_ok-push.ensures.ok)
    (owner_begins h t mid c.args.numbers.now c.in_ok-at.at c.args.own path c.record.result.now c.record.ensures.record (c.in_ok-at.ensures.fixed t earlier)) in
    way_behind h t mid new c.args.own path c.args.numbers.now c.push.new.self c.walk_on.new.numbers whole far c.walk_on.ensures.went.grew first way
    (made t [] reading agrees (true_later start mid h t c.in_ok-at.ensures.went.grew are) head))
    c.walk_on.ensures.way
