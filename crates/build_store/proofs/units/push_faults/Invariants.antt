use Rattle.std.proofs.Common.{◌≡◌, ◌++◌, drop}
use Rattle.build_store.specs.CleanBuild.{fault_lines}
use Rattle.build_store.proofs.units.push_faults.Given as goal

abbrev pub invariant-loop-fault : goal.invariant-loop-fault
invariant-loop-fault l = l.initial.out.items ++ fault_lines l.header l.faults ≡ l.out.items ++ fault_lines l.header (drop l.fault-index l.faults)
