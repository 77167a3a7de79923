use Rattle.std.proofs.Common.{arith, ap, ◌∙◌}
use Rattle.cm_core.specs.Tables.{number_of, numbered}
use Rattle.job_text.proofs.DraftLemmas.{given_twice, given_once, names_more}
use Rattle.job_text.proofs.draft.Draft.add_definition.Goals as goal

pub returns-then-number-defined-clause-job : goal.returns-then-number-defined-clause-job
returns-then-number-defined-clause-job c =
    given_twice c.args.self.now.job c.args.define c.args.self.now.names c.in_ok-number.field-0.index c.requires
    (c.in_ok-number.ensures.number ∙ ap (number_of c.args.self.now.names) c.text.ensures) (omega arith)

pub returns-clause-job : goal.returns-clause-job
returns-clause-job c =
    rw c.in_ok-push.ensures.ok
    (given_once c.args.self.now.job c.args.define c.args.self.now.names c.in_ok-number.field-0.index c.requires
    (c.in_ok-number.ensures.number ∙ ap (number_of c.args.self.now.names) c.text.ensures) (omega arith))

pub returns-clause-names : goal.returns-clause-names
returns-clause-names c =
    rw c.in_ok-push.ensures.ok
    (names_more c.args.self.now.job.defines c.args.define c.args.self.now.names c.number.new.self c.in_ok-number.field-0.index c.requires
    (c.in_ok-number.ensures.number ∙ ap (number_of c.args.self.now.names) c.text.ensures) (omega arith)
    (c.in_ok-number.ensures.names ∙ ap (numbered c.args.self.now.names) c.text.ensures))
