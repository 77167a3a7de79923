use Rattle.std.proofs.Common.{◌≡◌, ℕ, true, List, ap, ◌∙◌, subst, sym, rules}
use Rattle.cm_outside.specs.Sinks.{and_then}
use Rattle.cm_outside.specs.Trees.{answer}
use Rattle.build_store.specs.LeftBehind.{IsBuild}
use Rattle.build_store.specs.Report.{HaveOwnFiles, IsReport}
use Rattle.driver.specs.Ends.{Reports}
use Rattle.driver.specs.declared.words.Request.{Request}
use Rattle.driver.proofs.top.run.Goals as goal

pub returns-in-Ok-Some-Build-clause-report : goal.returns-in-Ok-Some-Build-clause-report
returns-in-Ok-Some-Build-clause-report g c t fs r told tells is honest own reports =
    let same : c.in-Ok-Some-Build.request ≡ r = search rules in
    let Own : Request → Type 0 = λ q. HaveOwnFiles q.job (answer t) in
    let P : Request → Type 0 = λ q. Reports (IsReport fs q.job (answer t) c.args.steps.now.compiles c.build.new.steps.compiles
    (g.C.Cache.faults c.args.cache.now) (g.C.Cache.faults c.build.new.cache)) (g.R.Sink.taken c.args.report.now) (g.R.Sink.taken c.build.new.report) c.build.result in
    subst P same (c.build.ensures.report t fs told tells honest (subst Own (sym same) own) (ap (λ q. q.report) same ∙ reports))

pub returns-in-Ok-Some-Build-clause-count : goal.returns-in-Ok-Some-Build-clause-count
returns-in-Ok-Some-Build-clause-count g c t fs r told tells is honest own whole =
    let same : c.in-Ok-Some-Build.request ≡ r = search rules in
    let Own : Request → Type 0 = λ q. HaveOwnFiles q.job (answer t) in
    let P : Request → Type 0 = λ q. (text : List ℕ) × IsReport fs q.job (answer t) c.args.steps.now.compiles c.build.new.steps.compiles
    (g.C.Cache.faults c.args.cache.now) (g.C.Cache.faults c.build.new.cache) text in
    subst P same (c.build.ensures.count t fs told tells honest (subst Own (sym same) own) whole)

pub returns-in-Ok-Some-Build-clause-behind : goal.returns-in-Ok-Some-Build-clause-behind
returns-in-Ok-Some-Build-clause-behind g c t fs r told tells is honest own whole =
    let same : c.in-Ok-Some-Build.request ≡ r = search rules in
    let Own : Request → Type 0 = λ q. HaveOwnFiles q.job (answer t) in
    let P : Request → Type 0 = λ q. (text : List ℕ) × IsBuild fs (g.C.Cache.files c.build.new.cache) q.job (answer t) c.args.steps.now.compiles c.build.new.steps.compiles
    (g.C.Cache.faults c.args.cache.now) (g.C.Cache.faults c.build.new.cache) text
    × (q.report ≡ true → g.R.Sink.taken c.build.new.report ≡ and_then (g.R.Sink.taken c.args.report.now) text) in
    subst P same (c.build.ensures.behind t fs told tells honest (subst Own (sym same) own) whole)
