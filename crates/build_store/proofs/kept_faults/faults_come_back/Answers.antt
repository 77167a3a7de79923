use Rattle.build_store.proofs.KeptFaultLemmas.{fault_comes_back, fault_is_same}
use Rattle.build_store.proofs.kept_faults.faults_come_back.Goals as goal

pub returns-clause-back : goal.returns-clause-back
returns-clause-back c path fault h = fault_comes_back path fault h

pub returns-clause-same : goal.returns-clause-same
returns-clause-same c path fault kind e = fault_is_same path fault kind e
