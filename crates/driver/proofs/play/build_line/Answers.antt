-- The cache is honest, since its files are fronts of images; it keeps fronts.
use Rattle.std.proofs.Common.{◌≡◌, refl, string_bytes, arith}
use Rattle.std.proofs.lemmas.Grind.{common_steps}
use Rattle.cm_outside.specs.Trees.{answer}
use Rattle.build_store.specs.CleanBuild.{clean_build}
use Rattle.driver.specs.Replay.{tree_of}
use Rattle.driver.proofs.FrontLemmas.{leaves_fronts, left_told}
use Rattle.driver.proofs.play.build_line.Goals as goal

pub returns-in_err-extend_from_slice-in-Ok-clause-fronts : goal.returns-in_err-extend_from_slice-in-Ok-clause-fronts
returns-in_err-extend_from_slice-in-Ok-clause-fronts c all =
    leaves_fronts c.args.kept.now.files c.build.new.cache.files (c.build.ensures.left all.honest) (c.build.ensures.stays refl all.honest) all

pub returns-in_ok-extend_from_slice-in-Ok-clause-fronts : goal.returns-in_ok-extend_from_slice-in-Ok-clause-fronts
returns-in_ok-extend_from_slice-in-Ok-clause-fronts c all =
    leaves_fronts c.args.kept.now.files c.build.new.cache.files (c.build.ensures.left all.honest) (c.build.ensures.stays refl all.honest) all

pub returns-in-Err-clause-fronts : goal.returns-in-Err-clause-fronts
returns-in-Err-clause-fronts c all =
    leaves_fronts c.args.kept.now.files c.build.new.cache.files (c.build.ensures.left all.honest) (c.build.ensures.stays refl all.honest) all

pub returns-in_ok-extend_from_slice-in-Ok-clause-output : goal.returns-in_ok-extend_from_slice-in-Ok-clause-output
returns-in_ok-extend_from_slice-in-Ok-clause-output c all =
    let said : c.in-Ok.built.text.items ≡ clean_build c.args.job.now (answer (tree_of c.args.tree.now.files)) =
    c.in-Ok.ensures.headline (tree_of c.args.tree.now.files) refl all.honest in
    grind (arith, common_steps)

pub returns-in_ok-extend_from_slice-in-Ok-clause-count : goal.returns-in_ok-extend_from_slice-in-Ok-clause-count
returns-in_ok-extend_from_slice-in-Ok-clause-count c all = record {
  report = λ own. (string_bytes c.in-Ok.built.report, c.in-Ok.ensures.behind (tree_of c.args.tree.now.files) c.args.kept.now.files refl refl all.honest own);
  leaves = left_told c.args.kept.now.files c.build.new.cache.files (c.build.ensures.left all.honest);
}
