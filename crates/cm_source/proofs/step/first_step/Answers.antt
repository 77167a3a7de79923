use Rattle.std.proofs.Common.{sym, ◌∙◌, arith}
use Rattle.cm_source.proofs.Steps.{step_dropped, step_spliced, step_kept}
use Rattle.cm_source.proofs.step.first_step.Goals as goal
use Rattle.cm_source.proofs.step.first_step.Goals.{else-first-eq13-via-then-first-eq13+else-byte_at-eq10, else-first-eq13-via-else-first-eq13, else-first-eq92-via-then-first-eq92+else-line_end-gt0, else-first-eq92-via-else-first-eq92}

pub returns-then-byte_at-eq10 : goal.returns-then-byte_at-eq10
returns-then-byte_at-eq10 c =
    step_dropped _ c.first_byte-first.result c.first_byte-first.ensures c.if-first-eq13.true
    (rw (← c.split_at.ensures.back) (sym c.byte_at.ensures ∙ c.if-byte_at-eq10.true))

pub returns-then-line_end-gt0 : goal.returns-then-line_end-gt0
returns-then-line_end-gt0 c =
    step_spliced _ c.first_byte-first.result _ c.first_byte-first.ensures c.if-first-eq92.true
    (rw c.split_at.ensures.back at c.line_end_length-line_end.ensures) c.if-line_end-gt0.true

pub returns : goal.returns
returns c =
    step_kept _ c.first_byte-first.result c.line_end_length-line_end.result c.first_byte-first.ensures
    (rw c.split_at.ensures.back at c.line_end_length-line_end.ensures)
    (λ is line. elim c.else-first-eq13.branch [
      | else-first-eq13-via-then-first-eq13+else-byte_at-eq10 w ↦ w.if-byte_at-eq10.false (w.byte_at.ensures ∙ (rw c.split_at.ensures.back line))
      | else-first-eq13-via-else-first-eq13 w ↦ w.if-first-eq13.false is
    ])
    (λ is some. elim c.else-first-eq92.branch [
      | else-first-eq92-via-then-first-eq92+else-line_end-gt0 w ↦ absurd (omega arith)
      | else-first-eq92-via-else-first-eq92 w ↦ w.if-first-eq92.false is
    ])
