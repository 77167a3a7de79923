use Rattle.cm_outside.proofs.Keeping.{asked_first, are_kept_after}
use Rattle.cm_outside.proofs.answers.Answers.add.Goals as goal

pub returns-clause-asked : goal.returns-clause-asked
returns-clause-asked c = rw (← c.self.view_is) (asked_first c.args.kept _ _ _ c.requires c.in_ok-at.ensures.keys c.in_ok-at.ensures.index)

pub returns-clause-kept : goal.returns-clause-kept
returns-clause-kept c = are_kept_after c.args.kept _ _ c.requires c.self.invariant c.in_ok-at.ensures.keys c.insert_full.ensures.unique
