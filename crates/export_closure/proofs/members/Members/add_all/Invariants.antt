-- The submodules so far are added.
use Rattle.std.proofs.Common.{take}
use Rattle.export_closure.specs.Found.{is_found, Tracks, Adds}
use Rattle.export_closure.proofs.members.Members.add_all.Given as goal

abbrev pub invariant-loop-sub : goal.invariant-loop-sub
invariant-loop-sub l = Adds l.initial.self l.self (is_found (take l.sub-index l.subs)) × Tracks l.self
