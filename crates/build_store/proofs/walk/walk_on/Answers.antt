use Rattle.std.proofs.Common.{◌≡◌, ◌≢◌, ◌∙◌, Some, None, rules, sym, ap, subst}
use Rattle.cm_outside.specs.declared.tree.TreeFault.TheVariants.{Failed}
use Rattle.build_store.specs.Changes.{Went, fault_of}
use Rattle.unit_fold.specs.Steps.{after}
use Rattle.build_store.proofs.ChangesWent.{fault_given, went_ended, went_nowhere, went_then}
use Rattle.build_store.proofs.WalkLoop.{passes_nowhere, passes_on, way_needs_on, way_cyclic_on, way_ends_on}
use Rattle.build_store.proofs.walk.walk_on.Goals as goal

pub loop-event-init : goal.loop-event-init
loop-event-init g c = record {
  went = went_nowhere g.T.Tree g.K.Keeper c.args.tree.now;
  waits = c.requires.waits;
  stands = c.requires.stands;
  owner = c.requires.owner;
  comes = λ reading head. (reading, head, passes_nowhere (g.K.Keeper.records c.args.tree.now.kept) c.args.held.now c.args.own c.args.file.now c.args.numbers.now reading);
}

pub returns-in_err-given-clause-went : goal.returns-in_err-given-clause-went
returns-in_err-given-clause-went g c =
    let whole : Went g.T.Tree g.K.Keeper c.args.tree.now c.event_step.new.tree (Some c.in_err-given.field-0.0) =
    went_then g.T.Tree g.K.Keeper c.args.tree.now c.loop-event.tree c.event_step.new.tree (Some c.in_err-given.field-0.0) c.loop-event.invariant.went c.in_err-given.ensures.went in
    let same : Some c.in_err-given.field-0.0 ≡ fault_of c.from_residual.result = sym (fault_given c.from_residual.result c.in_err-given.field-0.0 c.from_residual.ensures.1) in
    subst (Went g.T.Tree g.K.Keeper c.args.tree.now c.event_step.new.tree) same whole

pub returns-in_err-event-in-Goes-clause-went : goal.returns-in_err-event-in-Goes-clause-went
returns-in_err-event-in-Goes-clause-went g c =
    let whole : Went g.T.Tree g.K.Keeper c.args.tree.now c.event_step.new.tree None =
    went_then g.T.Tree g.K.Keeper c.args.tree.now c.loop-event.tree c.event_step.new.tree None c.loop-event.invariant.went c.in_ok-given.ensures.went in
    let other : fault_of c.from_residual-in_err-event-in-Goes.result ≢ Some Failed = search rules in
    went_ended g.T.Tree g.K.Keeper c.args.tree.now c.event_step.new.tree (fault_of c.from_residual-in_err-event-in-Goes.result) other whole

pub loop-event-preserved : goal.loop-event-preserved
loop-event-preserved g c =
    let went = c.in_ok-given.ensures.went in
    let kept = g.K.Keeper.records in
    record {
      went = went_then g.T.Tree g.K.Keeper c.args.tree.now c.loop-event.tree c.event_step.new.tree None c.loop-event.invariant.went went;
      waits = c.in_ok-event-in-Goes.ensures.waits;
      stands = c.in_ok-event-in-Goes.ensures.stands;
      owner = c.in_ok-event-in-Goes.ensures.owner ∙ c.loop-event.invariant.owner;
      comes = λ reading head.
          let so_far = c.loop-event.invariant.comes reading head in (
            after c.loop-event.fold c.in-Goes.given,
            c.in_ok-event-in-Goes.ensures.head,
            passes_on (kept c.args.tree.now.kept) c.args.held.now c.args.own c.args.file.now (kept c.loop-event.tree.kept) (kept c.event_step.new.tree.kept) c.loop-event.invariant.went.grew went.grew went.back
                c.args.numbers.now c.loop-event.numbers c.event_step.new.numbers c.loop-event.event reading so_far.0 c.loop-event.fold c.loop-event.invariant.owner so_far.1 so_far.2 c.in_ok-given.field-0 c.in_ok-given.ensures.step c.in-Goes.given c.in-Goes.is,
          );
    }

pub returns-in-Needs-clause-went : goal.returns-in-Needs-clause-went
returns-in-Needs-clause-went g c =
    went_then g.T.Tree g.K.Keeper c.args.tree.now c.loop-event.tree c.event_step.new.tree None c.loop-event.invariant.went c.in_ok-given.ensures.went

pub returns-in-Needs-clause-way : goal.returns-in-Needs-clause-way
returns-in-Needs-clause-way g c t parts reading agrees are head =
    let went = c.in_ok-given.ensures.went in
    let kept = g.K.Keeper.records in
    let so_far = c.loop-event.invariant.comes reading head in
    way_needs_on (kept c.args.tree.now.kept) c.args.held.now c.args.own c.args.file.now (kept c.loop-event.tree.kept) (kept c.event_step.new.tree.kept) c.loop-event.invariant.went.grew went.grew went.back
    c.args.numbers.now c.loop-event.numbers c.event_step.new.numbers c.loop-event.event reading so_far.0 c.loop-event.fold c.loop-event.invariant.owner so_far.1 so_far.2 c.in_ok-given.field-0 c.in_ok-given.ensures.step
    c.in-Needs.number c.in-Needs.is t parts agrees are

pub returns-in-Needs-clause-ready : goal.returns-in-Needs-clause-ready
returns-in-Needs-clause-ready g c = record { waits = c.loop-event.invariant.waits; stands = c.loop-event.invariant.stands; owner = c.loop-event.invariant.owner }

pub returns-in-Cyclic-clause-went : goal.returns-in-Cyclic-clause-went
returns-in-Cyclic-clause-went g c =
    went_then g.T.Tree g.K.Keeper c.args.tree.now c.loop-event.tree c.event_step.new.tree None c.loop-event.invariant.went c.in_ok-given.ensures.went

pub returns-in-Cyclic-clause-way : goal.returns-in-Cyclic-clause-way
returns-in-Cyclic-clause-way g c t parts reading agrees are head =
    let went = c.in_ok-given.ensures.went in
    let kept = g.K.Keeper.records in
    let so_far = c.loop-event.invariant.comes reading head in
    way_cyclic_on (kept c.args.tree.now.kept) c.args.held.now c.args.own c.args.file.now (kept c.loop-event.tree.kept) (kept c.event_step.new.tree.kept) c.loop-event.invariant.went.grew went.grew went.back
    c.args.numbers.now c.loop-event.numbers c.event_step.new.numbers c.loop-event.event reading so_far.0 c.loop-event.fold c.loop-event.invariant.owner so_far.1 so_far.2 c.in_ok-given.field-0 c.in_ok-given.ensures.step
    c.in-Cyclic.is t parts agrees are

pub returns-in-Ends-clause-went : goal.returns-in-Ends-clause-went
returns-in-Ends-clause-went g c =
    went_then g.T.Tree g.K.Keeper c.args.tree.now c.loop-event.tree c.event_step.new.tree None c.loop-event.invariant.went c.in_ok-given.ensures.went

pub returns-in-Ends-clause-way : goal.returns-in-Ends-clause-way
returns-in-Ends-clause-way g c t parts reading agrees are head =
    let went = c.in_ok-given.ensures.went in
    let kept = g.K.Keeper.records in
    let so_far = c.loop-event.invariant.comes reading head in
    let same : c.loop-event.fold.progress.items ≡ c.close.result.items = sym (ap (λ o. o.items) c.close.ensures) in
    way_ends_on (kept c.args.tree.now.kept) c.args.held.now c.args.own c.args.file.now (kept c.loop-event.tree.kept) (kept c.event_step.new.tree.kept) c.loop-event.invariant.went.grew went.grew went.back
    c.args.numbers.now c.loop-event.numbers c.event_step.new.numbers c.loop-event.event reading so_far.0 c.loop-event.fold c.loop-event.invariant.owner so_far.1 so_far.2 c.in_ok-given.field-0 c.in_ok-given.ensures.step
    c.in-Ends.is c.close.result.items same t parts agrees are
