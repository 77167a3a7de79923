use Rattle.std.proofs.Common.{subst}
use Rattle.std.proofs.lemmas.Result.{IfOk-weaker}
use Rattle.module_file.specs.ModuleFile.{file_name_of}
use Rattle.cm_outside.specs.Trees.{file_at}
use Rattle.cm_outside.specs.Faults.{Rose}
use Rattle.build_store.specs.Kept.{IsOpened, IsOpenedFrom}
use Rattle.build_store.specs.Images.{IsTrueFile}
use Rattle.build_store.specs.declared.kept.Opened.{Opened}
use Rattle.build_store.proofs.DecisionLemmas.{choice_of, origin_of}
use Rattle.build_store.proofs.decide.decide.Goals as goal

pub returns-in-Sealed-clause-choice : goal.returns-in-Sealed-clause-choice
returns-in-Sealed-clause-choice g c =
    let P : Opened → Type 0 = λ o. IsOpened IsTrueFile c.args.key.now (g.C.Cache.honest c.open.new.cache) o in
    let opened = subst P c.in-Sealed.is (c.in_ok-reason.ensures.opened (λ file sealed. sealed)) in
    IfOk-weaker c.judge.result _ _
    (λ d judged f agrees. choice_of c.args.table.now c.args.key.now (g.C.Cache.honest c.open.new.cache) f c.in-Sealed.index d opened.0 opened.1 opened.2 (judged f agrees))
    c.judge.ensures.choice

pub returns-in-Sealed-clause-origin : goal.returns-in-Sealed-clause-origin
returns-in-Sealed-clause-origin g c fs told =
    let file = file_at (file_name_of c.args.key.now) fs in
    let failed = Rose (g.C.Cache.faults c.args.cache.now) (g.C.Cache.faults c.open.new.cache) in
    let P : Opened → Type 0 = λ o. IsOpenedFrom failed c.args.key.now file o in
    let opened = subst P c.in-Sealed.is (c.in_ok-reason.ensures.told fs told) in
    IfOk-weaker c.judge.result _ _
    (λ d judged f agrees. origin_of c.args.table.now failed c.args.key.now f c.in-Sealed.index file d opened (judged f agrees))
    c.judge.ensures.choice
