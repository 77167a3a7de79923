-- The units so far were printed.
use Rattle.std.proofs.Common.{◌≡◌, false, None, take, string_bytes}
use Rattle.build_store.specs.Changes.{Went}
use Rattle.build_store.proofs.BuildGoing.{Printed}
use Rattle.build_store.proofs.building.push_units.Given as goal

abbrev pub invariant-loop-unit : goal.invariant-loop-unit
invariant-loop-unit g l = record {
  went : Went g.T.Tree g.K.Keeper l.initial.tree l.tree None;
  unspent : l.store.is_spent ≡ false;
  printed : Printed
      (record {
        kept = g.K.Keeper.records l.initial.tree.kept;
        held = l.initial.store.held;
        files = g.C.Cache.files l.initial.cache;
        honest = g.C.Cache.honest l.initial.cache;
        faults = g.C.Cache.faults l.initial.cache;
        compiles = l.initial.steps.compiles;
        text = l.initial.built.text.items;
        report = string_bytes l.initial.built.report;
      })
      (record {
        kept = g.K.Keeper.records l.tree.kept;
        held = l.store.held;
        files = g.C.Cache.files l.cache;
        honest = g.C.Cache.honest l.cache;
        faults = g.C.Cache.faults l.cache;
        compiles = l.steps.compiles;
        text = l.built.text.items;
        report = string_bytes l.built.report;
      })
      (take l.unit-index l.units);
}
