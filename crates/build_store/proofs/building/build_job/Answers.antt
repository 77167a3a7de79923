use Rattle.std.proofs.Common.{◌≡◌, ◌≢◌, ◌∙◌, ◌<◌, ◌^◌, ◌++◌, refl, sym, ap, subst, Option, Some, string_bytes, arith, rules}
use Rattle.std.specs.Prelude.{is_some, IsSome}
use Rattle.cm_outside.specs.Trees.{Files}
use Rattle.cm_outside.specs.declared.tree.TreeFault.TheVariants.{Failed, NoMemory}
use Rattle.build_store.specs.Changes.{fault_of}
use Rattle.build_store.specs.CleanBuild.{map_lines}
use Rattle.build_store.specs.Held.{numbers_noted, setting_of_held}
use Rattle.build_store.specs.Report.{HasOwnFiles, needed_by}
use Rattle.build_store.specs.Targets.{HasOwnNames}
use Rattle.build_store.specs.Telling.{report_since}
use Rattle.build_store.specs.Turning.{Trusts}
use Rattle.build_store.specs.declared.job.Job.{Job}
use Rattle.build_store.specs.declared.table.Table.{Table}
use Rattle.build_store.proofs.BehindEnds.{build_of}
use Rattle.build_store.proofs.BuildEnds.{names_of_maps, new_store, report_of, text_of}
use Rattle.build_store.proofs.ChangesWent.{went_ended, went_nowhere}
use Rattle.build_store.proofs.LeftLemmas.{leaves_same}
use Rattle.build_store.proofs.building.build_job.Goals as goal

pub returns-in_err-push_maps-clause-went : goal.returns-in_err-push_maps-clause-went
returns-in_err-push_maps-clause-went g c =
    let other : fault_of c.from_residual.result ≢ Some Failed = search rules in
    went_ended g.T.Tree g.K.Keeper c.args.tree.now c.args.tree.now (fault_of c.from_residual.result) other (went_nowhere g.T.Tree g.K.Keeper c.args.tree.now)

pub returns-in_err-push_maps-clause-left : goal.returns-in_err-push_maps-clause-left
returns-in_err-push_maps-clause-left g c trusts = leaves_same (g.C.Cache.files c.args.cache.now)

pub returns-in_err-units-clause-went : goal.returns-in_err-units-clause-went
returns-in_err-units-clause-went g c =
    let other : fault_of c.from_residual-in_err-units.result ≢ Some Failed = search rules in
    went_ended g.T.Tree g.K.Keeper c.args.tree.now c.args.tree.now (fault_of c.from_residual-in_err-units.result) other (went_nowhere g.T.Tree g.K.Keeper c.args.tree.now)

pub returns-in_err-units-clause-left : goal.returns-in_err-units-clause-left
returns-in_err-units-clause-left g c trusts = leaves_same (g.C.Cache.files c.args.cache.now)

pub returns-in_err-store-clause-went : goal.returns-in_err-store-clause-went
returns-in_err-store-clause-went g c =
    let other : fault_of c.from_residual-in_err-store.result ≢ Some Failed = search rules in
    went_ended g.T.Tree g.K.Keeper c.args.tree.now c.args.tree.now (fault_of c.from_residual-in_err-store.result) other (went_nowhere g.T.Tree g.K.Keeper c.args.tree.now)

pub returns-in_err-store-clause-left : goal.returns-in_err-store-clause-left
returns-in_err-store-clause-left g c trusts = leaves_same (g.C.Cache.files c.args.cache.now)

pub push_units-requires-clause-store : goal.push_units-requires-clause-store
push_units-requires-clause-store g c =
    let made = c.in_ok-store.ensures in
    new_store (g.K.Keeper.records c.args.tree.now.kept) c.in_ok-store.store.held c.args.job c.args.table c.args.maps made.job made.places made.noted made.rests c.requires.table c.requires.once

pub returns-in-Ok-clause-text : goal.returns-in-Ok-clause-text
returns-in-Ok-clause-text g c t agrees trusts path =
    let made = c.in_ok-store.ensures in
    let kept = g.K.Keeper.records c.args.tree.now.kept in
    text_of c.in_ok-store.store.held c.args.job c.args.table t _ _ _ path (made.job.0, made.job.1, refl) made.noted (c.items-2.ensures ∙ c.in_ok-units.ensures)
    (c.in_ok-push_maps.ensures ∙ ap (λ l. l ++ map_lines c.items.result.now) c.nothing-built.ensures.text ∙ ap map_lines c.items.ensures)
    (c.in-Ok.ensures.text t agrees trusts (λ f h. made.rests kept f))

pub returns-in-Ok-clause-report : goal.returns-in-Ok-clause-report
returns-in-Ok-clause-report g c files told honest t agrees own =
    let made = c.in_ok-store.ensures in
    let e = c.in-Ok.ensures in
    let kept = g.K.Keeper.records c.args.tree.now.kept in
    let held = c.in_ok-store.store.held in
    let now = c.push_units.new.store.held in
    let before = g.C.Cache.files c.args.cache.now in
    let after = g.C.Cache.files c.push_units.new.cache in
    let text = string_bytes c.push_units.new.built.report in
    let trusts : Trusts (is_some before) (g.C.Cache.honest c.args.cache.now) (g.C.Cache.honest c.push_units.new.cache) =
    subst (λ (o : Option Files). Trusts (is_some o) (g.C.Cache.honest c.args.cache.now) (g.C.Cache.honest c.push_units.new.cache)) (sym told) honest in
    let some : IsSome before = subst (λ (o : Option Files). IsSome o) (sym told) refl in
    let names : HasOwnNames c.args.table = names_of_maps kept c.args.job c.args.table c.args.maps t c.requires.table (e.went.back t agrees) in
    let names_held : HasOwnNames held.table = subst (λ (v : Table). HasOwnNames v) (sym made.job.1) names in
    let own_held : HasOwnFiles held.job held.table = subst (λ (j : Job × Table). HasOwnFiles j.0 j.1) (λ i. (sym made.job.0 i, sym made.job.1 i)) own in
    let noted : numbers_noted now ≡ numbers_noted held ++ needed_by (setting_of_held held) t (numbers_noted held) c.args.job.units =
    e.noted t agrees trusts (λ f h. made.rests kept f)
    ∙ ap (λ us. numbers_noted held ++ needed_by (setting_of_held held) t (numbers_noted held) us) (c.items-2.ensures ∙ c.in_ok-units.ensures) in
    let report : text ≡ report_since held now =
    e.report t agrees some own_held names_held ∙ ap (λ l. l ++ report_since held now) c.nothing-built.ensures.report in
    let below : c.args.steps.now.compiles < 2 ^ 64 = first_of (omega arith, search rules) in
    report_of files held now c.args.job c.args.table t c.args.steps.now.compiles c.push_units.new.steps.compiles (g.C.Cache.faults c.args.cache.now) (g.C.Cache.faults c.push_units.new.cache)
    text before after told made.job.0 made.job.1 made.noted below own names noted report (e.tells t agrees)

pub returns-in-Ok-clause-stays : goal.returns-in-Ok-clause-stays
returns-in-Ok-clause-stays g c some honest =
    let made = c.in_ok-store.ensures in
    c.push_units.ensures.stays some honest (λ f h. made.rests (g.K.Keeper.records c.args.tree.now.kept) f)

pub returns-in-Ok-clause-left : goal.returns-in-Ok-clause-left
returns-in-Ok-clause-left g c trusts =
    let made = c.in_ok-store.ensures in
    c.push_units.ensures.left trusts (λ f h. made.rests (g.K.Keeper.records c.args.tree.now.kept) f)

pub returns-in-Err-Failed-clause-stays : goal.returns-in-Err-Failed-clause-stays
returns-in-Err-Failed-clause-stays g c some honest =
    let made = c.in_ok-store.ensures in
    c.push_units.ensures.stays some honest (λ f h. made.rests (g.K.Keeper.records c.args.tree.now.kept) f)

pub returns-in-Err-Failed-clause-left : goal.returns-in-Err-Failed-clause-left
returns-in-Err-Failed-clause-left g c trusts =
    let made = c.in_ok-store.ensures in
    c.push_units.ensures.left trusts (λ f h. made.rests (g.K.Keeper.records c.args.tree.now.kept) f)

pub returns-in-Err-Spent-clause-stays : goal.returns-in-Err-Spent-clause-stays
returns-in-Err-Spent-clause-stays g c some honest =
    let made = c.in_ok-store.ensures in
    c.push_units.ensures.stays some honest (λ f h. made.rests (g.K.Keeper.records c.args.tree.now.kept) f)

pub returns-in-Err-Spent-clause-left : goal.returns-in-Err-Spent-clause-left
returns-in-Err-Spent-clause-left g c trusts =
    let made = c.in_ok-store.ensures in
    c.push_units.ensures.left trusts (λ f h. made.rests (g.K.Keeper.records c.args.tree.now.kept) f)

pub returns-clause-stays : goal.returns-clause-stays
returns-clause-stays g c some honest =
    let made = c.in_ok-store.ensures in
    c.push_units.ensures.stays some honest (λ f h. made.rests (g.K.Keeper.records c.args.tree.now.kept) f)

pub returns-clause-left : goal.returns-clause-left
returns-clause-left g c trusts =
    let made = c.in_ok-store.ensures in
    c.push_units.ensures.left trusts (λ f h. made.rests (g.K.Keeper.records c.args.tree.now.kept) f)

-- a store that gives nothing for want of memory has met no fault of the tree
no_fault : Some NoMemory ≢ Some Failed
no_fault is = absurd (cc)

pub returns-in-Err-Spent-clause-went : goal.returns-in-Err-Spent-clause-went
returns-in-Err-Spent-clause-went g c =
    went_ended g.T.Tree g.K.Keeper c.args.tree.now c.push_units.new.tree (Some NoMemory) no_fault (rw c.in-Err-Spent.field-0-is at c.in-Err-Spent.ensures.went)

pub returns-in-Ok-clause-behind : goal.returns-in-Ok-clause-behind
returns-in-Ok-clause-behind g c files told honest t agrees own =
    let made = c.in_ok-store.ensures in
    let e = c.in-Ok.ensures in
    let kept = g.K.Keeper.records c.args.tree.now.kept in
    let held = c.in_ok-store.store.held in
    let now = c.push_units.new.store.held in
    let before = g.C.Cache.files c.args.cache.now in
    let after = g.C.Cache.files c.push_units.new.cache in
    let text = string_bytes c.push_units.new.built.report in
    let trusts : Trusts (is_some before) (g.C.Cache.honest c.args.cache.now) (g.C.Cache.honest c.push_units.new.cache) =
    subst (λ (o : Option Files). Trusts (is_some o) (g.C.Cache.honest c.args.cache.now) (g.C.Cache.honest c.push_units.new.cache)) (sym told) honest in
    let some : IsSome before = subst (λ (o : Option Files). IsSome o) (sym told) refl in
    let names : HasOwnNames c.args.table = names_of_maps kept c.args.job c.args.table c.args.maps t c.requires.table (e.went.back t agrees) in
    let names_held : HasOwnNames held.table = subst (λ (v : Table). HasOwnNames v) (sym made.job.1) names in
    let own_held : HasOwnFiles held.job held.table = subst (λ (j : Job × Table). HasOwnFiles j.0 j.1) (λ i. (sym made.job.0 i, sym made.job.1 i)) own in
    let noted : numbers_noted now ≡ numbers_noted held ++ needed_by (setting_of_held held) t (numbers_noted held) c.args.job.units =
    e.noted t agrees trusts (λ f h. made.rests kept f)
    ∙ ap (λ us. numbers_noted held ++ needed_by (setting_of_held held) t (numbers_noted held) us) (c.items-2.ensures ∙ c.in_ok-units.ensures) in
    let report : text ≡ report_since held now =
    e.report t agrees some own_held names_held ∙ ap (λ l. l ++ report_since held now) c.nothing-built.ensures.report in
    let below : c.args.steps.now.compiles < 2 ^ 64 = first_of (omega arith, search rules) in
    build_of (g.K.Keeper.records c.push_units.new.tree.kept) files held now c.args.job c.args.table t c.args.steps.now.compiles c.push_units.new.steps.compiles (g.C.Cache.faults c.args.cache.now) (g.C.Cache.faults c.push_units.new.cache)
    text before after told made.job.0 made.job.1 made.noted below own names noted report (e.tells t agrees)
    (e.behind t agrees trusts (λ f h. made.rests kept f)) e.store agrees (e.rests trusts (λ f h. made.rests kept f) t agrees)
