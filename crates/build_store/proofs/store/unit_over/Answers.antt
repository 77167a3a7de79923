use Rattle.std.proofs.Common.{◌≡◌, is_some}
use Rattle.cm_outside.specs.Asks.{begun, value}
use Rattle.build_store.specs.CleanBuild.{unit_run}
use Rattle.build_store.specs.Held.{setting_of_held}
use Rattle.build_store.specs.Left.{Leaves}
use Rattle.build_store.specs.LeftBehind.{Behind}
use Rattle.build_store.specs.Stores.{HasSlots, IsStore}
use Rattle.build_store.proofs.SourceLaws.{slots_of}
use Rattle.build_store.proofs.SourceTurns.{on_ok}
use Rattle.build_store.proofs.StoreAnswers.{at_some, goes_on, on_over, value_over}
use Rattle.build_store.proofs.store.unit_over.Goals as goal

pub unit-requires : goal.unit-requires
unit-requires g c = record {
  well = (c.requires.store, (let store = c.requires.store in slots_of c.args.held.now store.places));
}

pub returns-clause-store : goal.returns-clause-store
returns-clause-store g c =
    on_ok c.unit.result (IsStore (g.K.Keeper.records c.unit.new.tree.kept) c.unit.new.held × HasSlots c.unit.new.held) (IsStore (g.K.Keeper.records c.unit.new.tree.kept) c.unit.new.held) (λ well. well.0) c.unit.ensures.well

pub returns-clause-items : goal.returns-clause-items
returns-clause-items g c =
    value_over (g.K.Keeper.records c.args.tree.now.kept) (g.K.Keeper.records c.unit.new.tree.kept) c.args.held.now c.unit.new.held (is_some (g.C.Cache.files c.args.cache.now)) (is_some (g.C.Cache.files c.unit.new.cache)) (g.C.Cache.honest c.args.cache.now) (g.C.Cache.honest c.unit.new.cache) (g.T.Tree.faults c.args.tree.now.tree.now) (g.T.Tree.faults c.unit.new.tree.tree.now)
    c.unit.result (λ t items. items ≡ value (unit_run (setting_of_held c.args.held.now) c.args.path.now) t) c.unit.ensures.items

pub returns-clause-rests : goal.returns-clause-rests
returns-clause-rests g c =
    goes_on (g.K.Keeper.records c.args.tree.now.kept) (g.K.Keeper.records c.unit.new.tree.kept) c.args.held.now c.unit.new.held (is_some (g.C.Cache.files c.args.cache.now)) (is_some (g.C.Cache.files c.unit.new.cache)) (g.C.Cache.honest c.args.cache.now) (g.C.Cache.honest c.unit.new.cache) (g.T.Tree.faults c.args.tree.now.tree.now) (g.T.Tree.faults c.unit.new.tree.tree.now)
    c.unit.result (λ t. begun (unit_run (setting_of_held c.args.held.now) c.args.path.now) t) c.unit.ensures.rests

pub returns-clause-longer : goal.returns-clause-longer
returns-clause-longer g c = let same = c.unit.ensures.same in same.3

pub returns-clause-job : goal.returns-clause-job
returns-clause-job g c = let same = c.unit.ensures.same in (same.0, same.1)

pub returns-clause-later : goal.returns-clause-later
returns-clause-later g c = let same = c.unit.ensures.same in same.2

pub returns-clause-back : goal.returns-clause-back
returns-clause-back g c = c.unit.ensures.moved.trusted

pub returns-clause-stays : goal.returns-clause-stays
returns-clause-stays g c told honest over =
    at_some (g.K.Keeper.records c.args.tree.now.kept) (g.K.Keeper.records c.unit.new.tree.kept) c.args.held.now c.unit.new.held (is_some (g.C.Cache.files c.args.cache.now)) (is_some (g.C.Cache.files c.unit.new.cache)) (g.C.Cache.honest c.args.cache.now) (g.C.Cache.honest c.unit.new.cache) (g.T.Tree.faults c.args.tree.now.tree.now) (g.T.Tree.faults c.unit.new.tree.tree.now)
    (g.C.Cache.honest c.unit.new.cache) (let store = c.requires.store in c.unit.ensures.went.kept store.once) c.unit.ensures.went.back over (c.unit.ensures.stays told honest)

pub returns-clause-left : goal.returns-clause-left
returns-clause-left g c trust over =
    at_some (g.K.Keeper.records c.args.tree.now.kept) (g.K.Keeper.records c.unit.new.tree.kept) c.args.held.now c.unit.new.held (is_some (g.C.Cache.files c.args.cache.now)) (is_some (g.C.Cache.files c.unit.new.cache)) (g.C.Cache.honest c.args.cache.now) (g.C.Cache.honest c.unit.new.cache) (g.T.Tree.faults c.args.tree.now.tree.now) (g.T.Tree.faults c.unit.new.tree.tree.now)
    (Leaves (g.C.Cache.files c.args.cache.now) (g.C.Cache.files c.unit.new.cache)) (let store = c.requires.store in c.unit.ensures.went.kept store.once) c.unit.ensures.went.back over (λ t agrees rests. c.unit.ensures.left t agrees trust rests)

pub returns-clause-behind : goal.returns-clause-behind
returns-clause-behind g c =
    on_over (g.K.Keeper.records c.args.tree.now.kept) (g.K.Keeper.records c.unit.new.tree.kept) c.args.held.now c.unit.new.held (is_some (g.C.Cache.files c.args.cache.now)) (is_some (g.C.Cache.files c.unit.new.cache)) (g.C.Cache.honest c.args.cache.now) (g.C.Cache.honest c.unit.new.cache) (g.T.Tree.faults c.args.tree.now.tree.now) (g.T.Tree.faults c.unit.new.tree.tree.now)
    c.unit.result (λ t. Behind (g.C.Cache.files c.args.cache.now) (g.C.Cache.files c.unit.new.cache) c.args.held.now c.unit.new.held t (g.C.Cache.faults c.args.cache.now) (g.C.Cache.faults c.unit.new.cache)) c.unit.ensures.behind
