use Rattle.std.proofs.Common.{◌≡◌, ◌≢◌, ◌∙◌, refl, sym, subst, Some, string_bytes, rules}
use Rattle.std.proofs.lemmas.Result.{IfOk-weaker}
use Rattle.cm_outside.specs.declared.tree.TreeFault.TheVariants.{Failed}
use Rattle.build_store.specs.Changes.{Went, fault_of}
use Rattle.build_store.specs.Steps.{HasPushed}
use Rattle.build_store.specs.Tables.{asked_for}
use Rattle.build_store.specs.declared.loading.Loaded.{Loaded}
use Rattle.build_store.specs.declared.loading.Loaded.TheVariants.{Bad, Ready}
use Rattle.build_store.proofs.BehindEnds.{build_loaded}
use Rattle.build_store.proofs.BuildEnds.{clean_of, of_load, own_of, report_loaded}
use Rattle.build_store.proofs.ChangesWent.{fault_given, went_ended, went_then}
use Rattle.build_store.proofs.LeftLemmas.{leaves_same}
use Rattle.build_store.proofs.building.build_over.Goals as goal

pub returns-in_err-line-clause-went : goal.returns-in_err-line-clause-went
returns-in_err-line-clause-went g c =
    let same : Some c.in_err-line.field-0.0 ≡ fault_of c.from_residual.result = sym (fault_given c.from_residual.result c.in_err-line.field-0.0 c.from_residual.ensures.1) in
    subst (Went g.T.Tree g.K.Keeper c.args.tree.now c.load.new.tree) same c.in_err-line.ensures.went

pub returns-in_err-line-clause-left : goal.returns-in_err-line-clause-left
returns-in_err-line-clause-left g c trusts = leaves_same (g.C.Cache.files c.args.cache.now)

pub returns-in_err-built_of_fault-in-Bad-clause-went : goal.returns-in_err-built_of_fault-in-Bad-clause-went
returns-in_err-built_of_fault-in-Bad-clause-went g c =
    let ended = c.from_residual-in_err-built_of_fault-in-Bad.result in
    let other : fault_of ended ≢ Some Failed = search rules in
    went_ended g.T.Tree g.K.Keeper c.args.tree.now c.load.new.tree (fault_of ended) other c.in_ok-line.ensures.went

pub returns-in_err-built_of_fault-in-Bad-clause-left : goal.returns-in_err-built_of_fault-in-Bad-clause-left
returns-in_err-built_of_fault-in-Bad-clause-left g c trusts = leaves_same (g.C.Cache.files c.args.cache.now)

pub returns-in_ok-built_of_fault-in-Bad-clause-text : goal.returns-in_ok-built_of_fault-in-Bad-clause-text
returns-in_ok-built_of_fault-in-Bad-clause-text g c t agrees trusts =
    c.in_ok-built_of_fault-in-Bad.ensures.text ∙ clean_of c.args.path.now t (Bad c.in-Bad.line) (sym c.in-Bad.is ∙ c.in_ok-line.ensures.told t agrees)

pub returns-in_ok-built_of_fault-in-Bad-clause-report : goal.returns-in_ok-built_of_fault-in-Bad-clause-report
returns-in_ok-built_of_fault-in-Bad-clause-report g c files told honest t agrees own =
    report_loaded files c.args.path.now t _ _ _ _ _ (Bad c.in-Bad.line) (sym c.in-Bad.is ∙ c.in_ok-line.ensures.told t agrees) (c.in_ok-built_of_fault-in-Bad.ensures.report, refl)

pub returns-in_ok-built_of_fault-in-Bad-clause-left : goal.returns-in_ok-built_of_fault-in-Bad-clause-left
returns-in_ok-built_of_fault-in-Bad-clause-left g c trusts = leaves_same (g.C.Cache.files c.args.cache.now)

pub build_job-requires-clause-table : goal.build_job-requires-clause-table
build_job-requires-clause-table g c =
    let kept = g.K.Keeper.records c.load.new.tree.kept in
    let P : Loaded → Type 0 = λ l. HasPushed kept c.new-maps.result c.load.new.numbers (asked_for l) in
    of_load kept c.args.path.now c.in-Ready.job c.in-Ready.table c.new-maps.result c.load.new.numbers c.new-maps.ensures
    (λ t agrees. sym c.in-Ready.is ∙ c.in_ok-line.ensures.told t agrees) (subst P c.in-Ready.is c.in_ok-line.ensures.pushed)

pub returns-in-Ready-clause-went : goal.returns-in-Ready-clause-went
returns-in-Ready-clause-went g c =
    went_then g.T.Tree g.K.Keeper c.args.tree.now c.load.new.tree c.build_job.new.tree (fault_of c.build_job.result) c.in_ok-line.ensures.went c.build_job.ensures.went

pub returns-in-Ready-clause-text : goal.returns-in-Ready-clause-text
returns-in-Ready-clause-text g c =
    let path = c.args.path.now in
    IfOk-weaker c.build_job.result _ _
    (λ b is t agrees trusts.
    is t agrees trusts path
    ∙ clean_of path t (Ready c.in-Ready.job c.in-Ready.table) (sym c.in-Ready.is ∙ c.in_ok-line.ensures.told t (c.build_job.ensures.went.back t agrees)))
    c.build_job.ensures.text

pub returns-in-Ready-clause-report : goal.returns-in-Ready-clause-report
returns-in-Ready-clause-report g c files told honest =
    IfOk-weaker c.build_job.result _ _
    (λ b is t agrees own.
    let same = sym c.in-Ready.is ∙ c.in_ok-line.ensures.told t (c.build_job.ensures.went.back t agrees) in
    report_loaded files c.args.path.now t _ _ _ _ (string_bytes b.report) (Ready c.in-Ready.job c.in-Ready.table) same
    (is t agrees (own_of c.args.path.now t (Ready c.in-Ready.job c.in-Ready.table) same own)))
    (c.build_job.ensures.report files told honest)

pub returns-in_ok-built_of_fault-in-Bad-clause-behind : goal.returns-in_ok-built_of_fault-in-Bad-clause-behind
returns-in_ok-built_of_fault-in-Bad-clause-behind g c files told honest t agrees own =
    build_loaded files (g.C.Cache.files c.args.cache.now) c.args.path.now t _ _ _ _ _ (Bad c.in-Bad.line) (sym c.in-Bad.is ∙ c.in_ok-line.ensures.told t agrees) (c.in_ok-built_of_fault-in-Bad.ensures.report, refl, told)

pub returns-in-Ready-clause-behind : goal.returns-in-Ready-clause-behind
returns-in-Ready-clause-behind g c files told honest =
    IfOk-weaker c.build_job.result _ _
    (λ b is t agrees own.
    let same = sym c.in-Ready.is ∙ c.in_ok-line.ensures.told t (c.build_job.ensures.went.back t agrees) in
    build_loaded files (g.C.Cache.files c.build_job.new.cache) c.args.path.now t _ _ _ _ (string_bytes b.report) (Ready c.in-Ready.job c.in-Ready.table) same
    (is t agrees (own_of c.args.path.now t (Ready c.in-Ready.job c.in-Ready.table) same own)))
    (c.build_job.ensures.behind files told honest)
