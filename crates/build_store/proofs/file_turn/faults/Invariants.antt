use Rattle.std.proofs.Common.{◌≡◌, take}
use Rattle.build_store.specs.Loads.{faults_by}
use Rattle.build_store.proofs.file_turn.faults.Given as goal

abbrev pub invariant-loop-diag : goal.invariant-loop-diag
invariant-loop-diag l = l.faults ≡ faults_by (take l.diag-index l.diags)
