use Rattle.driver.proofs.ScriptLemmas.{accepted_is_played, refused_is_not}
use Rattle.driver.proofs.laws.scripts_are_their_lines.Goals as goal

pub returns-clause-accepted : goal.returns-clause-accepted
returns-clause-accepted c = accepted_is_played

pub returns-clause-refused : goal.returns-clause-refused
returns-clause-refused c = refused_is_not
