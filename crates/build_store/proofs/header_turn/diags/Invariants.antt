use Rattle.std.proofs.Common.{◌≡◌, take}
use Rattle.build_store.specs.Images.{diags_of}
use Rattle.build_store.proofs.header_turn.diags.Given as goal

abbrev pub invariant-loop-fault : goal.invariant-loop-fault
invariant-loop-fault l = l.diags ≡ diags_of l.header (take l.fault-index l.faults)
