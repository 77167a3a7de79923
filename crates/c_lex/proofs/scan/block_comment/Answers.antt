use Rattle.std.proofs.Common.{sym}
use Rattle.c_lex.proofs.Scans.{cut_bare_rest, cut_closed_rest, cut_open_rest}
use Rattle.c_lex.proofs.scan.block_comment.Goals as goal

pub returns-in_default : goal.returns-in_default
returns-in_default c = cut_bare_rest _ _ c.requires c.split_at.ensures.back c.in_default.ensures.cases

pub returns-in-Some-closed_length : goal.returns-in-Some-closed_length
returns-in-Some-closed_length c =
    rw c.blank.ensures (cut_closed_rest _ _ _ _ _ c.requires c.split_at.ensures.back c.in-Some.ensures.cases.0 (sym c.in-Some-closed_length.ensures.run) c.in-Some-closed_length.ensures.within)

pub returns-in-None : goal.returns-in-None
returns-in-None c =
    cut_open_rest _ _ _ _ c.requires c.split_at.ensures.back c.in-Some.ensures.cases.0 (sym c.in-None.ensures.run)
