-- Cut and dropped files leave fronts; a build counts as its line.
use Rattle.std.proofs.Common.{OnOk, sym, subst}
use Rattle.job_text.specs.declared.script_line.ScriptLine.{ScriptLine}
use Rattle.driver.specs.Counted.{IsCountedLine}
use Rattle.driver.specs.KeptFronts.{dropped, torn}
use Rattle.driver.proofs.FrontLemmas.{dropped_fronts, fronts_after, torn_fronts}
use Rattle.driver.proofs.play.play_line.Goals as goal

pub returns-in-Tear-clause-fronts : goal.returns-in-Tear-clause-fronts
returns-in-Tear-clause-fronts c all =
    let kept = c.args.kept.now.files in
    fronts_after c.tear.result kept (torn c.in-Tear.number c.in-Tear.length kept) c.tear.new.cache.files c.tear.ensures.files c.tear.ensures.refused all
    (torn_fronts c.in-Tear.number c.in-Tear.length kept all)

pub returns-in-Drop-clause-fronts : goal.returns-in-Drop-clause-fronts
returns-in-Drop-clause-fronts c all =
    let kept = c.args.kept.now.files in
    fronts_after c.drop_file.result kept (dropped c.in-Drop.number kept) c.drop_file.new.cache.files c.drop_file.ensures.files c.drop_file.ensures.refused all
    (dropped_fronts c.in-Drop.number kept all)

pub returns-in-Build-clause-count : goal.returns-in-Build-clause-count
returns-in-Build-clause-count c all =
    let P : ScriptLine → Type 0 = λ line. OnOk c.build_line.result (IsCountedLine c.args.tree.now.files c.args.kept.now.files line
    c.args.steps.now.compiles c.build_line.new.steps.compiles c.build_line.new.kept.files) in
    subst P (sym c.in-Build.is) (c.build_line.ensures.count all)
