-- Only visible directives override, and only visible ones are active.
use Rattle.macro_sets.proofs.LawLemmas.{is_active-visible, meaning_of-visible}
use Rattle.macro_sets.proofs.laws.unseen_directives_do_not_matter.Goals as goal

pub returns-clause-active : goal.returns-clause-active
returns-clause-active c = is_active-visible

pub returns-clause-meaning : goal.returns-clause-meaning
returns-clause-meaning c = meaning_of-visible
