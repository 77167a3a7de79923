use Rattle.std.proofs.Common.{subst}
use Rattle.std.proofs.lemmas.Result.{IfOk-weaker}
use Rattle.unit_fold.specs.Steps.{IsHead}
use Rattle.unit_fold.specs.declared.fold.Event.{Event}
use Rattle.build_store.proofs.WalkEvents.{text_event, done_event, include_event}
use Rattle.build_store.proofs.walk.event_step.Goals as goal

pub returns-in-NeedText-clause-step : goal.returns-in-NeedText-clause-step
returns-in-NeedText-clause-step g c t parts reading fold agrees are owner head =
    text_event c.args.held.now t (g.K.Keeper.records c.args.tree.now.kept) c.args.own c.args.file.now parts c.args.numbers.now reading fold owner
    (subst (λ (e : Event). IsHead reading e fold) c.in-NeedText.is head)

pub returns-in-NeedInclude-clause-step : goal.returns-in-NeedInclude-clause-step
returns-in-NeedInclude-clause-step g c =
    IfOk-weaker c.include.result _ _
    (λ step made t parts reading fold agrees are owner head.
    include_event c.args.held.now t (g.K.Keeper.records c.include.new.tree.kept) c.args.own c.args.file.now parts c.args.numbers.now c.include.new.numbers
    _ _ reading fold step (subst (λ (e : Event). IsHead reading e fold) c.in-NeedInclude.is head) (λ at next. made t parts at next agrees are))
    c.include.ensures.step

pub returns-in-Done-clause-step : goal.returns-in-Done-clause-step
returns-in-Done-clause-step g c t parts reading fold agrees are owner head =
    done_event c.args.held.now t (g.K.Keeper.records c.args.tree.now.kept) c.args.own c.args.file.now parts c.args.numbers.now reading fold
    (subst (λ (e : Event). IsHead reading e fold) c.in-Done.is head)
