use Rattle.std.proofs.Common.{◌∙◌, ℕ, List, subst}
use Rattle.cm_outside.specs.Asks.{value}
use Rattle.build_store.specs.Search.{find_of}
use Rattle.build_store.specs.Steps.{HasPushed}
use Rattle.build_store.proofs.WalkImports.{include_is}
use Rattle.build_store.proofs.walk.include.Goals as goal

pub returns-clause-step : goal.returns-clause-step
returns-clause-step g c t parts at next agrees are =
    let kept = g.K.Keeper.records c.find.new.tree.kept in
    let h = c.args.held.now in
    let before = c.args.numbers.now in
    let now = c.find.new.numbers in
    let by_text : HasPushed kept before now (find_of h.job.includes h.table c.args.file.now c.text.result.now) =
    subst (λ (folders : List (List ℕ)). HasPushed kept before now (find_of folders h.table c.args.file.now c.text.result.now)) c.items.ensures c.in_ok-found.ensures.pushed in
    let pushed : HasPushed kept before now (find_of h.job.includes h.table c.args.file.now c.args.text.now) =
    subst (λ (text : List ℕ). HasPushed kept before now (find_of h.job.includes h.table c.args.file.now text)) c.text.ensures by_text in
    include_is h t kept c.args.own c.args.file.now c.args.text.now parts at next before now c.find_step.new.numbers c.in_ok-found.found c.in_ok-find_step.field-0 pushed
    (c.in_ok-found.ensures.told t agrees ∙ (λ i. value (find_of (c.items.ensures i) h.table c.args.file.now (c.text.ensures i)) t))
    c.in_ok-find_step.ensures.numbers c.in_ok-find_step.ensures.step agrees are
