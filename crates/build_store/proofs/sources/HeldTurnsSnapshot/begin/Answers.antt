use Rattle.build_store.specs.Held.{setting_of_held}
use Rattle.build_store.specs.LeftLaws.{leaves_as}
use Rattle.std.proofs.Common.{ap, is_some}
use Rattle.build_store.proofs.ChangesWent.{went_cause}
use Rattle.build_store.proofs.PlanLemmas.{of_top}
use Rattle.build_store.proofs.SourceTurns.{behind_ok, decided_ok, moved_begin, noted_begin, same_begin, slots_begin, store_begin, tells_ok}
use Rattle.build_store.proofs.sources.HeldTurnsSnapshot.begin.Goals as goal

pub begin_module-requires : goal.begin_module-requires
begin_module-requires g c = record {
  places = (let store = c.requires.well.0 in store.places);
  number = of_top (setting_of_held c.args.self.now) c.args.number c.requires.new.top;
  unknown = c.requires.new.unknown;
}

pub returns-clause-well : goal.returns-clause-well
returns-clause-well g c =
    store_begin (g.K.Keeper.records c.args.tree.now.kept) (g.K.Keeper.records c.begin_module.new.tree.kept) c.args.self.now c.begin_module.new.held c.args.number c.requires.well.0 c.begin_module.ensures.went.grew c.begin_module.ensures.went.back c.begin_module.ensures.went.kept
    (g.C.Cache.files c.args.cache.now) (g.C.Cache.honest c.begin_module.new.cache) c.args.steps.now.compiles c.begin_module.new.steps.compiles (g.C.Cache.faults c.args.cache.now) (g.C.Cache.faults c.begin_module.new.cache) c.begin_module.result c.begin_module.ensures.begun c.begin_module.ensures.err c.requires.new.unknown
    (of_top (setting_of_held c.args.self.now) c.args.number c.requires.new.top) c.begin_module.ensures.places

pub returns-clause-same : goal.returns-clause-same
returns-clause-same g c =
    let same = same_begin (g.K.Keeper.records c.args.tree.now.kept) (g.K.Keeper.records c.begin_module.new.tree.kept) c.args.self.now c.begin_module.new.held c.args.number c.requires.well.0 c.begin_module.ensures.went.grew c.begin_module.ensures.went.back c.begin_module.ensures.went.kept
    (g.C.Cache.files c.args.cache.now) (g.C.Cache.honest c.begin_module.new.cache) c.args.steps.now.compiles c.begin_module.new.steps.compiles (g.C.Cache.faults c.args.cache.now) (g.C.Cache.faults c.begin_module.new.cache) c.begin_module.result c.begin_module.ensures.begun c.begin_module.ensures.err c.requires.new.unknown in
    (same.0, same.1, c.begin_module.ensures.later, same.2)

pub returns-clause-tells : goal.returns-clause-tells
returns-clause-tells g c =
    tells_ok (g.K.Keeper.records c.args.tree.now.kept) (g.K.Keeper.records c.begin_module.new.tree.kept) c.args.self.now c.begin_module.new.held c.args.number c.requires.well.0 c.begin_module.ensures.went.grew c.begin_module.ensures.went.back c.begin_module.ensures.went.kept
    (g.C.Cache.files c.args.cache.now) (g.C.Cache.honest c.begin_module.new.cache) c.args.steps.now.compiles c.begin_module.new.steps.compiles (g.C.Cache.faults c.args.cache.now) (g.C.Cache.faults c.begin_module.new.cache) c.begin_module.result c.begin_module.ensures.begun c.begin_module.ensures.err c.requires.new.unknown
    (g.C.Cache.files c.begin_module.new.cache) c.begin_module.ensures.files c.begin_module.ensures.later (of_top (setting_of_held c.args.self.now) c.args.number c.requires.new.top)

pub returns-clause-moved : goal.returns-clause-moved
returns-clause-moved g c =
    moved_begin (g.K.Keeper.records c.args.tree.now.kept) (g.K.Keeper.records c.begin_module.new.tree.kept) c.args.self.now c.begin_module.new.held c.args.number c.requires.well.0 c.begin_module.ensures.went.grew c.begin_module.ensures.went.back c.begin_module.ensures.went.kept
    (g.C.Cache.files c.args.cache.now) (g.C.Cache.honest c.begin_module.new.cache) c.args.steps.now.compiles c.begin_module.new.steps.compiles (g.C.Cache.faults c.args.cache.now) (g.C.Cache.faults c.begin_module.new.cache) c.begin_module.result c.begin_module.ensures.begun c.begin_module.ensures.err c.requires.new.unknown
    (is_some (g.C.Cache.files c.args.cache.now)) (is_some (g.C.Cache.files c.begin_module.new.cache)) (g.C.Cache.honest c.args.cache.now) (g.C.Cache.honest c.begin_module.new.cache)
    (g.T.Tree.faults c.args.tree.now.tree.now) (g.T.Tree.faults c.begin_module.new.tree.tree.now) (ap is_some c.begin_module.ensures.files) (λ e. c.begin_module.ensures.back) c.begin_module.ensures.went.later

pub returns-clause-slots : goal.returns-clause-slots
returns-clause-slots g c =
    slots_begin (g.K.Keeper.records c.args.tree.now.kept) (g.K.Keeper.records c.begin_module.new.tree.kept) c.args.self.now c.begin_module.new.held c.args.number c.requires.well.0 c.begin_module.ensures.went.grew c.begin_module.ensures.went.back c.begin_module.ensures.went.kept
    (g.C.Cache.files c.args.cache.now) (g.C.Cache.honest c.begin_module.new.cache) c.args.steps.now.compiles c.begin_module.new.steps.compiles (g.C.Cache.faults c.args.cache.now) (g.C.Cache.faults c.begin_module.new.cache) c.begin_module.result c.begin_module.ensures.begun c.begin_module.ensures.err c.requires.new.unknown

pub returns-clause-noted : goal.returns-clause-noted
returns-clause-noted g c =
    noted_begin (g.K.Keeper.records c.args.tree.now.kept) (g.K.Keeper.records c.begin_module.new.tree.kept) c.args.self.now c.begin_module.new.held c.args.number c.requires.well.0 c.begin_module.ensures.went.grew c.begin_module.ensures.went.back c.begin_module.ensures.went.kept
    (g.C.Cache.files c.args.cache.now) (g.C.Cache.honest c.begin_module.new.cache) c.args.steps.now.compiles c.begin_module.new.steps.compiles (g.C.Cache.faults c.args.cache.now) (g.C.Cache.faults c.begin_module.new.cache) c.begin_module.result c.begin_module.ensures.begun c.begin_module.ensures.err c.requires.new.unknown

pub returns-clause-decided : goal.returns-clause-decided
returns-clause-decided g c =
    decided_ok (g.K.Keeper.records c.args.tree.now.kept) (g.K.Keeper.records c.begin_module.new.tree.kept) c.args.self.now c.begin_module.new.held c.args.number c.requires.well.0 c.begin_module.ensures.went.grew c.begin_module.ensures.went.back c.begin_module.ensures.went.kept
    (g.C.Cache.files c.args.cache.now) (g.C.Cache.honest c.begin_module.new.cache) c.args.steps.now.compiles c.begin_module.new.steps.compiles (g.C.Cache.faults c.args.cache.now) (g.C.Cache.faults c.begin_module.new.cache) c.begin_module.result c.begin_module.ensures.begun c.begin_module.ensures.err c.requires.new.unknown
    (is_some (g.C.Cache.files c.args.cache.now)) (g.C.Cache.honest c.args.cache.now) c.begin_module.ensures.stays (of_top (setting_of_held c.args.self.now) c.args.number c.requires.new.top)

pub returns-clause-left : goal.returns-clause-left
returns-clause-left g c =
    leaves_as (g.C.Cache.files c.args.cache.now) (g.C.Cache.files c.begin_module.new.cache) c.begin_module.ensures.files

pub returns-clause-cause : goal.returns-clause-cause
returns-clause-cause g c =
    went_cause g.T.Tree g.K.Keeper c.args.tree.now c.begin_module.new.tree c.begin_module.result c.begin_module.ensures.went

pub returns-clause-behind : goal.returns-clause-behind
returns-clause-behind g c =
    behind_ok (g.K.Keeper.records c.args.tree.now.kept) (g.K.Keeper.records c.begin_module.new.tree.kept) c.args.self.now c.begin_module.new.held c.args.number c.requires.well.0 c.begin_module.ensures.went.grew c.begin_module.ensures.went.back c.begin_module.ensures.went.kept
    (g.C.Cache.files c.args.cache.now) (g.C.Cache.honest c.begin_module.new.cache) c.args.steps.now.compiles c.begin_module.new.steps.compiles (g.C.Cache.faults c.args.cache.now) (g.C.Cache.faults c.begin_module.new.cache) c.begin_module.result c.begin_module.ensures.begun c.begin_module.ensures.err c.requires.new.unknown
    (g.C.Cache.files c.begin_module.new.cache) c.begin_module.ensures.files c.begin_module.ensures.later (of_top (setting_of_held c.args.self.now) c.args.number c.requires.new.top)
