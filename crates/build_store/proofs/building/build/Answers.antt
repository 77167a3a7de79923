use Rattle.std.proofs.Common.{◌∙◌, ap, rules}
use Rattle.std.proofs.lemmas.Result.{IfOk-weaker}
use Rattle.cm_outside.specs.Trees.{answer}
use Rattle.build_store.specs.Changes.{fault_of}
use Rattle.build_store.proofs.BuildTop.{agrees_since, puts_since}
use Rattle.build_store.proofs.building.build.Goals as goal

pub returns-clause-report : goal.returns-clause-report
returns-clause-report g c t files told tells honest own =
    IfOk-weaker c.build_over.result _ _
    (λ b is.
    is (answer t)
    (agrees_since g.T.Tree _ c.new-snapshot.result c.build_over.new.tree (fault_of c.build_over.result) c.build_over.ensures.went c.new-snapshot.ensures.empty t
    (ap g.T.Tree.contents c.new-snapshot.ensures.same ∙ told)) own)
    (c.build_over.ensures.report files tells honest)

pub returns-clause-asked : goal.returns-clause-asked
returns-clause-asked g c =
    puts_since g.T.Tree _ c.new-snapshot.result c.build_over.new.tree (fault_of c.build_over.result) c.build_over.ensures.went c.new-snapshot.ensures.empty
    c.args.tree.now _ c.new-snapshot.ensures.same (search rules)

pub returns-clause-behind : goal.returns-clause-behind
returns-clause-behind g c t files told tells honest own =
    IfOk-weaker c.build_over.result _ _
    (λ b is.
    is (answer t)
    (agrees_since g.T.Tree _ c.new-snapshot.result c.build_over.new.tree (fault_of c.build_over.result) c.build_over.ensures.went c.new-snapshot.ensures.empty t
    (ap g.T.Tree.contents c.new-snapshot.ensures.same ∙ told)) own)
    (c.build_over.ensures.behind files tells honest)
