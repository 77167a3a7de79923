use Rattle.cm_source.proofs.Drafts.{even, text_is}
use Rattle.cm_source.proofs.text.Text.read.Goals as goal

pub from_draft-requires-clause-even : goal.from_draft-requires-clause-even
from_draft-requires-clause-even c = even _ c.in_ok-draft.draft c.in_ok-draft.ensures.0

pub returns : goal.returns
returns c =
    let draft = c.in_ok-draft.ensures in
    let text = c.in_ok-from_draft.ensures in
    (c.in_ok-check_utf8.ensures, text_is _ _ c.in_ok-draft.draft _ draft.0 draft.1 text.0 text.1)
