use Rattle.cm_source.proofs.Drafts.{ended-open, ended-closed}
use Rattle.cm_source.proofs.draft.Draft.end_last_line.Goals as goal

pub returns-then-has_open_line : goal.returns-then-has_open_line
returns-then-has_open_line c = λ marks held.
    let is_open = rw (c.deref.ensures.value, held.bytes) at (c.has_open_line.ensures.0 c.if-has_open_line.true) in
    rw (ended-open marks c.args.end is_open) (c.push.ensures marks held)

pub returns-else-has_open_line : goal.returns-else-has_open_line
returns-else-has_open_line c = λ marks held.
    let only_if = rw (c.deref.ensures.value, held.bytes) at c.has_open_line.ensures.1 in
    rw (ended-closed marks c.args.end (λ is_open. let yes = only_if is_open in let no = c.if-has_open_line.false in cc)) held
