-- What is found is in the closure, and what the submodules before `done` show is found.
use Rattle.std.proofs.Common.{◌-◌, length}
use Rattle.export_closure.proofs.FoundLemmas.{IsUnderWay}
use Rattle.export_closure.proofs.work_list.closure.Given as goal

abbrev pub invariant-loop-done : goal.invariant-loop-done
invariant-loop-done l = IsUnderWay l.rows l.fn.from.index l.members l.done

abbrev pub decreases-loop-done : goal.decreases-loop-done
decreases-loop-done l = length l.rows - l.done
