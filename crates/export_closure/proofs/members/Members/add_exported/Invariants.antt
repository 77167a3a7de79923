-- The imports so far that are exported are added.
use Rattle.std.proofs.Common.{◌&&◌, take}
use Rattle.export_closure.specs.Closure.{is_exported}
use Rattle.export_closure.specs.Found.{is_found, Tracks, Adds}
use Rattle.export_closure.proofs.members.Members.add_exported.Given as goal

abbrev pub invariant-loop-import : goal.invariant-loop-import
invariant-loop-import l = Adds l.initial.self l.self (λ at. is_found (take l.import-index l.import-items) at && is_exported l.rows l.row at) × Tracks l.self
