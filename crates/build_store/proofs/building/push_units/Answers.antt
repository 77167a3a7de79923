use Rattle.std.proofs.Common.{◌≡◌, ◌≢◌, ◌++◌, take, Some, None, subst, string_bytes}
use Rattle.std.specs.Prelude.{is_some}
use Rattle.std.proofs.lemmas.List.{take_all}
use Rattle.cm_outside.specs.declared.tree.TreeFault.TheVariants.{Failed}
use Rattle.build_store.specs.Changes.{Went}
use Rattle.build_store.specs.CleanBuild.{unit_texts}
use Rattle.build_store.specs.Held.{setting_of_held, numbers_noted}
use Rattle.build_store.specs.Stores.{tree_fault}
use Rattle.build_store.specs.declared.units.UnitText.{UnitText}
use Rattle.build_store.proofs.ChangesWent.{went_ended, went_then}
use Rattle.build_store.proofs.BuildGoing.{Moment, Keeps, fault_handed, keeps_then, memory_ended, printed_next, printed_one}
use Rattle.build_store.proofs.building.push_units.Goals as goal

pub returns-in_err-text-clause-went : goal.returns-in_err-text-clause-went
returns-in_err-text-clause-went g c =
    let handed = fault_handed UnitText (Unit {0}) c.from_residual.result c.in_err-text.field-0.0 c.from_residual.ensures.1 in
    subst (Went g.T.Tree g.K.Keeper c.args.tree.now c.unit.new.tree) handed
    (went_then g.T.Tree g.K.Keeper c.args.tree.now c.loop-unit.tree c.unit.new.tree _ c.loop-unit.invariant.went c.in_err-text.ensures.went)

pub returns-in_err-text-clause-stays : goal.returns-in_err-text-clause-stays
returns-in_err-text-clause-stays g c =
    let e = c.in_err-text.ensures in
    let a : Moment = record {
      kept = g.K.Keeper.records c.args.tree.now.kept;
      held = c.args.store.now.held;
      files = g.C.Cache.files c.args.cache.now;
      honest = g.C.Cache.honest c.args.cache.now;
      faults = g.C.Cache.faults c.args.cache.now;
      compiles = c.args.steps.now.compiles;
      text = c.args.built.now.text.items;
      report = string_bytes c.args.built.now.report;
    } in
    let b : Moment = record {
      kept = g.K.Keeper.records c.loop-unit.tree.kept;
      held = c.loop-unit.store.held;
      files = g.C.Cache.files c.loop-unit.cache;
      honest = g.C.Cache.honest c.loop-unit.cache;
      faults = g.C.Cache.faults c.loop-unit.cache;
      compiles = c.loop-unit.steps.compiles;
      text = c.loop-unit.built.text.items;
      report = string_bytes c.loop-unit.built.report;
    } in
    let d : Moment = record {
      kept = g.K.Keeper.records c.unit.new.tree.kept;
      held = c.unit.new.self.held;
      files = g.C.Cache.files c.unit.new.cache;
      honest = g.C.Cache.honest c.unit.new.cache;
      faults = g.C.Cache.faults c.unit.new.cache;
      compiles = c.unit.new.steps.compiles;
      text = c.loop-unit.built.text.items;
      report = string_bytes c.loop-unit.built.report;
    } in
    let keeps : Keeps b d = record { later = e.later; back = e.back; stays = e.stays; left = e.left } in
    (keeps_then a b d (take c.loop-unit.unit-index c.args.units.now) c.loop-unit.invariant.printed keeps).stays

pub returns-in_err-text-clause-left : goal.returns-in_err-text-clause-left
returns-in_err-text-clause-left g c =
    let e = c.in_err-text.ensures in
    let a : Moment = record {
      kept = g.K.Keeper.records c.args.tree.now.kept;
      held = c.args.store.now.held;
      files = g.C.Cache.files c.args.cache.now;
      honest = g.C.Cache.honest c.args.cache.now;
      faults = g.C.Cache.faults c.args.cache.now;
      compiles = c.args.steps.now.compiles;
      text = c.args.built.now.text.items;
      report = string_bytes c.args.built.now.report;
    } in
    let b : Moment = record {
      kept = g.K.Keeper.records c.loop-unit.tree.kept;
      held = c.loop-unit.store.held;
      files = g.C.Cache.files c.loop-unit.cache;
      honest = g.C.Cache.honest c.loop-unit.cache;
      faults = g.C.Cache.faults c.loop-unit.cache;
      compiles = c.loop-unit.steps.compiles;
      text = c.loop-unit.built.text.items;
      report = string_bytes c.loop-unit.built.report;
    } in
    let d : Moment = record {
      kept = g.K.Keeper.records c.unit.new.tree.kept;
      held = c.unit.new.self.held;
      files = g.C.Cache.files c.unit.new.cache;
      honest = g.C.Cache.honest c.unit.new.cache;
      faults = g.C.Cache.faults c.unit.new.cache;
      compiles = c.unit.new.steps.compiles;
      text = c.loop-unit.built.text.items;
      report = string_bytes c.loop-unit.built.report;
    } in
    let keeps : Keeps b d = record { later = e.later; back = e.back; stays = e.stays; left = e.left } in
    (keeps_then a b d (take c.loop-unit.unit-index c.args.units.now) c.loop-unit.invariant.printed keeps).left

pub returns-in_err-add-clause-went : goal.returns-in_err-add-clause-went
returns-in_err-add-clause-went g c =
    let other : tree_fault c.from_residual-in_err-add.result ≢ Some Failed = memory_ended c.from_residual-in_err-add.result c.from_residual-in_err-add.ensures.1 in
    went_ended g.T.Tree g.K.Keeper c.args.tree.now c.unit.new.tree (tree_fault c.from_residual-in_err-add.result) other
    (went_then g.T.Tree g.K.Keeper c.args.tree.now c.loop-unit.tree c.unit.new.tree None c.loop-unit.invariant.went c.in_ok-text.ensures.went)

pub returns-in_err-add-clause-stays : goal.returns-in_err-add-clause-stays
returns-in_err-add-clause-stays g c =
    let e = c.in_ok-text.ensures in
    let a : Moment = record {
      kept = g.K.Keeper.records c.args.tree.now.kept;
      held = c.args.store.now.held;
      files = g.C.Cache.files c.args.cache.now;
      honest = g.C.Cache.honest c.args.cache.now;
      faults = g.C.Cache.faults c.args.cache.now;
      compiles = c.args.steps.now.compiles;
      text = c.args.built.now.text.items;
      report = string_bytes c.args.built.now.report;
    } in
    let b : Moment = record {
      kept = g.K.Keeper.records c.loop-unit.tree.kept;
      held = c.loop-unit.store.held;
      files = g.C.Cache.files c.loop-unit.cache;
      honest = g.C.Cache.honest c.loop-unit.cache;
      faults = g.C.Cache.faults c.loop-unit.cache;
      compiles = c.loop-unit.steps.compiles;
      text = c.loop-unit.built.text.items;
      report = string_bytes c.loop-unit.built.report;
    } in
    let d : Moment = record {
      kept = g.K.Keeper.records c.unit.new.tree.kept;
      held = c.unit.new.self.held;
      files = g.C.Cache.files c.unit.new.cache;
      honest = g.C.Cache.honest c.unit.new.cache;
      faults = g.C.Cache.faults c.unit.new.cache;
      compiles = c.unit.new.steps.compiles;
      text = c.loop-unit.built.text.items;
      report = string_bytes c.loop-unit.built.report;
    } in
    let keeps : Keeps b d = record { later = e.later; back = e.back; stays = e.stays; left = e.left } in
    (keeps_then a b d (take c.loop-unit.unit-index c.args.units.now) c.loop-unit.invariant.printed keeps).stays

pub returns-in_err-add-clause-left : goal.returns-in_err-add-clause-left
returns-in_err-add-clause-left g c =
    let e = c.in_ok-text.ensures in
    let a : Moment = record {
      kept = g.K.Keeper.records c.args.tree.now.kept;
      held = c.args.store.now.held;
      files = g.C.Cache.files c.args.cache.now;
      honest = g.C.Cache.honest c.args.cache.now;
      faults = g.C.Cache.faults c.args.cache.now;
      compiles = c.args.steps.now.compiles;
      text = c.args.built.now.text.items;
      report = string_bytes c.args.built.now.report;
    } in
    let b : Moment = record {
      kept = g.K.Keeper.records c.loop-unit.tree.kept;
      held = c.loop-unit.store.held;
      files = g.C.Cache.files c.loop-unit.cache;
      honest = g.C.Cache.honest c.loop-unit.cache;
      faults = g.C.Cache.faults c.loop-unit.cache;
      compiles = c.loop-unit.steps.compiles;
      text = c.loop-unit.built.text.items;
      report = string_bytes c.loop-unit.built.report;
    } in
    let d : Moment = record {
      kept = g.K.Keeper.records c.unit.new.tree.kept;
      held = c.unit.new.self.held;
      files = g.C.Cache.files c.unit.new.cache;
      honest = g.C.Cache.honest c.unit.new.cache;
      faults = g.C.Cache.faults c.unit.new.cache;
      compiles = c.unit.new.steps.compiles;
      text = c.loop-unit.built.text.items;
      report = string_bytes c.loop-unit.built.report;
    } in
    let keeps : Keeps b d = record { later = e.later; back = e.back; stays = e.stays; left = e.left } in
    (keeps_then a b d (take c.loop-unit.unit-index c.args.units.now) c.loop-unit.invariant.printed keeps).left

pub loop-unit-preserved : goal.loop-unit-preserved
loop-unit-preserved g c =
    let e = c.in_ok-text.ensures in
    let a : Moment = record {
      kept = g.K.Keeper.records c.args.tree.now.kept;
      held = c.args.store.now.held;
      files = g.C.Cache.files c.args.cache.now;
      honest = g.C.Cache.honest c.args.cache.now;
      faults = g.C.Cache.faults c.args.cache.now;
      compiles = c.args.steps.now.compiles;
      text = c.args.built.now.text.items;
      report = string_bytes c.args.built.now.report;
    } in
    let b : Moment = record {
      kept = g.K.Keeper.records c.loop-unit.tree.kept;
      held = c.loop-unit.store.held;
      files = g.C.Cache.files c.loop-unit.cache;
      honest = g.C.Cache.honest c.loop-unit.cache;
      faults = g.C.Cache.faults c.loop-unit.cache;
      compiles = c.loop-unit.steps.compiles;
      text = c.loop-unit.built.text.items;
      report = string_bytes c.loop-unit.built.report;
    } in
    let d : Moment = record {
      kept = g.K.Keeper.records c.unit.new.tree.kept;
      held = c.unit.new.self.held;
      files = g.C.Cache.files c.unit.new.cache;
      honest = g.C.Cache.honest c.unit.new.cache;
      faults = g.C.Cache.faults c.unit.new.cache;
      compiles = c.unit.new.steps.compiles;
      text = c.add.new.self.text.items;
      report = string_bytes c.add.new.self.report;
    } in
    let keeps : Keeps b d = record { later = e.later; back = e.back; stays = e.stays; left = e.left } in
    let told : is_some (g.C.Cache.files c.unit.new.cache) ≡ is_some (g.C.Cache.files c.loop-unit.cache) = e.told in
    record {
      went = went_then g.T.Tree g.K.Keeper c.args.tree.now c.loop-unit.tree c.unit.new.tree None c.loop-unit.invariant.went e.went;
      unspent = e.spends;
      printed = printed_next a b d c.args.units.now c.loop-unit.unit-index c.unit-item.result c.loop-unit-test.true c.unit-item.is c.loop-unit.invariant.printed
          (printed_one b d c.unit-item.result keeps e.store told e.went.back e.job e.rests c.in_ok-text.text.out.items (string_bytes c.in_ok-text.text.report)
          c.in_ok-add.ensures.text c.in_ok-add.ensures.report e.out e.report e.tells e.behind);
    }

pub returns-clause-text : goal.returns-clause-text
returns-clause-text g c = λ t agrees trusts rests.
    subst (λ units. c.loop-unit.built.text.items ≡ c.args.built.now.text.items ++ unit_texts (setting_of_held c.args.store.now.held) t (numbers_noted c.args.store.now.held) units)
    (take_all c.loop-unit.unit-index c.args.units.now c.loop-unit-test.false) (c.loop-unit.invariant.printed.text t agrees trusts rests)
