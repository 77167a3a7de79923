use Rattle.cm_outside.proofs.Keeping.{same_number}
use Rattle.cm_outside.proofs.snapshot_tests.ask_twice.Goals as goal

pub returns-clause-once : goal.returns-clause-once
returns-clause-once g c = same_number _ _ _ _ _ _ c.in_ok-first.ensures.asked c.in_ok-second.ensures.asked c.in_ok-second.ensures.grew c.in_ok-second.ensures.kept
