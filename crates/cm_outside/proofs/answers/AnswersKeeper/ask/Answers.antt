use Rattle.std.proofs.Common.{◌≡◌, ◌∙◌, ap, rules, false}
use Rattle.cm_outside.specs.Keeping.{answered, is_kept, keeping}
use Rattle.cm_outside.specs.Trees.{answer}
use Rattle.cm_outside.proofs.Keeping.{Agrees-back, Agrees-after, asked_again, fixed_at}
use Rattle.cm_outside.proofs.answers.AnswersKeeper.ask.Goals as goal

pub returns-in-Some-clause-asked : goal.returns-in-Some-clause-asked
returns-in-Some-clause-asked g c =
    rw c.new-kept.ensures at (asked_again c.new-kept.result.question c.args.self.now _ c.number_of.ensures.kept c.in-Some.ensures.number c.in-Some.ensures.found)

pub returns-in-Some-clause-fixed : goal.returns-in-Some-clause-fixed
returns-in-Some-clause-fixed g c = λ f h. fixed_at f _ _ _ _ (returns-in-Some-clause-asked g c) h

pub returns-clause-asked : goal.returns-clause-asked
returns-clause-asked g c = search rules

pub returns-clause-back : goal.returns-clause-back
returns-clause-back g c = λ f h. Agrees-back f (answered c.args.question (returns-clause-asked g c).answer) _ _ (returns-clause-asked g c).grows h

pub returns-clause-fixed : goal.returns-clause-fixed
returns-clause-fixed g c = λ f h. fixed_at f _ _ _ _ (returns-clause-asked g c) h

pub returns-clause-told : goal.returns-clause-told
returns-clause-told g c = λ t tells h.
    let absent : is_kept c.args.question c.args.self.now ≡ false = search rules in
    let given = c.in_ok-put.ensures.told t tells in
    let is : c.set_answer.new.self ≡ answered c.args.question (answer t c.args.question) = search rules in
    let grows = c.in_ok-add.ensures.grows ∙ ap (λ old. keeping c.set_answer.new.self old) c.reserve.ensures in
    Agrees-after (answer t) c.args.question c.set_answer.new.self c.args.self.now c.add.new.self grows absent is h
