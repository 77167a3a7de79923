-- A reference to the job's definition is known by its owner.
use Rattle.macro_sets.proofs.LawLemmas.{is_active-renumbered, is_active-asked, meaning_of-renumbered}
use Rattle.macro_sets.proofs.laws.the_number_of_the_job_does_not_matter.Goals as goal

pub returns-clause-listed : goal.returns-clause-listed
returns-clause-listed c = is_active-renumbered

pub returns-clause-asked : goal.returns-clause-asked
returns-clause-asked c = is_active-asked

pub returns-clause-meaning : goal.returns-clause-meaning
returns-clause-meaning c = meaning_of-renumbered
