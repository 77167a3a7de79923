use Rattle.std.proofs.Common.{[], is_some}
use Rattle.cm_outside.specs.Asks.{begun, value}
use Rattle.build_store.specs.Held.{plan_held, setting_of_held}
use Rattle.build_store.specs.Left.{Leaves}
use Rattle.build_store.specs.LeftBehind.{Behind}
use Rattle.build_store.specs.Modules.{mod_of}
use Rattle.build_store.specs.Stores.{HasSlots, IsStore}
use Rattle.build_store.specs.Turning.{IsView}
use Rattle.build_store.proofs.PlanLemmas.{top_of}
use Rattle.build_store.proofs.SourceLaws.{slots_of}
use Rattle.build_store.proofs.SourceTurns.{on_ok}
use Rattle.build_store.proofs.StoreAnswers.{at_some, goes_on, on_over, value_over}
use Rattle.build_store.proofs.store.need_over.Goals as goal

pub need-requires : goal.need-requires
need-requires g c = record {
  well = (c.requires.store, (let store = c.requires.store in slots_of c.args.held.now store.places));
  top = top_of (setting_of_held c.args.held.now) c.args.number c.requires.number;
}

pub returns-clause-store : goal.returns-clause-store
returns-clause-store g c =
    on_ok c.need.result (IsStore (g.K.Keeper.records c.need.new.tree.kept) c.need.new.held × HasSlots c.need.new.held) (IsStore (g.K.Keeper.records c.need.new.tree.kept) c.need.new.held) (λ well. well.0) c.need.ensures.well

pub returns-clause-view : goal.returns-clause-view
returns-clause-view g c =
    value_over (g.K.Keeper.records c.args.tree.now.kept) (g.K.Keeper.records c.need.new.tree.kept) c.args.held.now c.need.new.held (is_some (g.C.Cache.files c.args.cache.now)) (is_some (g.C.Cache.files c.need.new.cache)) (g.C.Cache.honest c.args.cache.now) (g.C.Cache.honest c.need.new.cache) (g.T.Tree.faults c.args.tree.now.tree.now) (g.T.Tree.faults c.need.new.tree.tree.now)
    c.need.result (λ t view. IsView (value (mod_of (plan_held c.args.held.now) [] c.args.number) t) view) c.need.ensures.view

pub returns-clause-rests : goal.returns-clause-rests
returns-clause-rests g c =
    goes_on (g.K.Keeper.records c.args.tree.now.kept) (g.K.Keeper.records c.need.new.tree.kept) c.args.held.now c.need.new.held (is_some (g.C.Cache.files c.args.cache.now)) (is_some (g.C.Cache.files c.need.new.cache)) (g.C.Cache.honest c.args.cache.now) (g.C.Cache.honest c.need.new.cache) (g.T.Tree.faults c.args.tree.now.tree.now) (g.T.Tree.faults c.need.new.tree.tree.now)
    c.need.result (λ t. begun (mod_of (plan_held c.args.held.now) [] c.args.number) t) c.need.ensures.rests

pub returns-clause-job : goal.returns-clause-job
returns-clause-job g c = let same = c.need.ensures.same in (same.0, same.1)

pub returns-clause-later : goal.returns-clause-later
returns-clause-later g c = let same = c.need.ensures.same in same.2

pub returns-clause-back : goal.returns-clause-back
returns-clause-back g c = c.need.ensures.moved.trusted

pub returns-clause-stays : goal.returns-clause-stays
returns-clause-stays g c told honest over =
    at_some (g.K.Keeper.records c.args.tree.now.kept) (g.K.Keeper.records c.need.new.tree.kept) c.args.held.now c.need.new.held (is_some (g.C.Cache.files c.args.cache.now)) (is_some (g.C.Cache.files c.need.new.cache)) (g.C.Cache.honest c.args.cache.now) (g.C.Cache.honest c.need.new.cache) (g.T.Tree.faults c.args.tree.now.tree.now) (g.T.Tree.faults c.need.new.tree.tree.now)
    (g.C.Cache.honest c.need.new.cache) (let store = c.requires.store in c.need.ensures.went.kept store.once) c.need.ensures.went.back over (c.need.ensures.stays told honest)

pub returns-clause-left : goal.returns-clause-left
returns-clause-left g c trust over =
    at_some (g.K.Keeper.records c.args.tree.now.kept) (g.K.Keeper.records c.need.new.tree.kept) c.args.held.now c.need.new.held (is_some (g.C.Cache.files c.args.cache.now)) (is_some (g.C.Cache.files c.need.new.cache)) (g.C.Cache.honest c.args.cache.now) (g.C.Cache.honest c.need.new.cache) (g.T.Tree.faults c.args.tree.now.tree.now) (g.T.Tree.faults c.need.new.tree.tree.now)
    (Leaves (g.C.Cache.files c.args.cache.now) (g.C.Cache.files c.need.new.cache)) (let store = c.requires.store in c.need.ensures.went.kept store.once) c.need.ensures.went.back over (λ t agrees rests. c.need.ensures.left t agrees trust rests)

pub returns-clause-behind : goal.returns-clause-behind
returns-clause-behind g c =
    on_over (g.K.Keeper.records c.args.tree.now.kept) (g.K.Keeper.records c.need.new.tree.kept) c.args.held.now c.need.new.held (is_some (g.C.Cache.files c.args.cache.now)) (is_some (g.C.Cache.files c.need.new.cache)) (g.C.Cache.honest c.args.cache.now) (g.C.Cache.honest c.need.new.cache) (g.T.Tree.faults c.args.tree.now.tree.now) (g.T.Tree.faults c.need.new.tree.tree.now)
    c.need.result (λ t. Behind (g.C.Cache.files c.args.cache.now) (g.C.Cache.files c.need.new.cache) c.args.held.now c.need.new.held t (g.C.Cache.faults c.args.cache.now) (g.C.Cache.faults c.need.new.cache)) c.need.ensures.behind
