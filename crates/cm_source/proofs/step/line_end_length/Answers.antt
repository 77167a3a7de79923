use Rattle.std.proofs.Common.{sym, ◌∙◌}
use Rattle.cm_source.proofs.Steps.{line_end_feed, line_end_return, line_end_none}
use Rattle.cm_source.proofs.step.line_end_length.Goals as goal
use Rattle.cm_source.proofs.step.line_end_length.Goals.{else-byte_at-eq13-via-then-byte_at-eq13+else-byte_at-eq10-2, else-byte_at-eq13-via-else-byte_at-eq13}

pub returns-then-byte_at-eq10 : goal.returns-then-byte_at-eq10
returns-then-byte_at-eq10 c = line_end_feed _ (sym c.byte_at.ensures ∙ c.if-byte_at-eq10.true)

pub returns-then-byte_at-eq10-2 : goal.returns-then-byte_at-eq10-2
returns-then-byte_at-eq10-2 c =
    line_end_return _ (sym c.byte_at-2.ensures ∙ c.if-byte_at-eq13.true) (sym c.byte_at-then-byte_at-eq13.ensures ∙ c.if-byte_at-eq10-2.true)

pub returns : goal.returns
returns c =
    line_end_none _ (λ line. c.if-byte_at-eq10.false (c.byte_at.ensures ∙ line))
    (λ first second. elim c.else-byte_at-eq13.branch [
      | else-byte_at-eq13-via-then-byte_at-eq13+else-byte_at-eq10-2 w ↦ w.if-byte_at-eq10-2.false (w.byte_at-then-byte_at-eq13.ensures ∙ second)
      | else-byte_at-eq13-via-else-byte_at-eq13 w ↦ w.if-byte_at-eq13.false (c.byte_at-2.ensures ∙ first)
    ])
