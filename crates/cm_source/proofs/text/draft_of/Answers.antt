use Rattle.std.proofs.Common.{sym, ◌∙◌, arith}
use Rattle.cm_source.proofs.Drafts.{front-start, front-step, whole-end}
use Rattle.cm_source.proofs.text.draft_of.Goals as goal

pub loop-rest-init : goal.loop-rest-init
loop-rest-init c = front-start _ c.new-draft.result c.new-draft.ensures c.requires

pub loop-rest-preserved : goal.loop-rest-preserved
loop-rest-preserved c =
    let next = front-step _ _ c.add.new.self _ _ c.first_step-step.result c.loop-rest.invariant c.first_step-step.ensures (c.in_ok-add.ensures c.loop-rest.invariant.marks c.loop-rest.invariant.held) in
    rw (c.place_after-place.ensures, c.split_at.ensures.front, c.split_at.ensures.back) next

pub returns : goal.returns
returns c =
    let whole = whole-end _ _ c.end_last_line.new.self _ _ c.loop-rest.invariant (sym c.is_empty.ensures ∙ c.loop-rest-test.false) (c.in_ok-end_last_line.ensures c.loop-rest.invariant.marks c.loop-rest.invariant.held) in
    (whole.held, whole.at_end, whole.utf8, omega (arith, whole.room))
