use Rattle.std.proofs.Common.{sym, ◌∙◌}
use Rattle.pp_cond.proofs.JudgeLaws.{judged_read, judged_unread}
use Rattle.pp_cond.proofs.conditions.judge.Goals as goal

pub returns-in-Some : goal.returns-in-Some
returns-in-Some c = c.truth_at_end.ensures ∙ sym (judged_read c.args.symbols.now c.in-Some.reading.outcome c.in-Some.reading.rest.now (sym (c.in-Some.ensures)))

pub returns-in-None : goal.returns-in-None
returns-in-None c = sym (judged_unread c.args.symbols.now (sym (c.in-None.ensures)))
