use Rattle.std.proofs.Common.{◌≡◌, take, None}
use Rattle.build_store.specs.Parts.{rows_from}
use Rattle.build_store.proofs.library.empty_rows.Given as goal

abbrev pub invariant-loop-target : goal.invariant-loop-target
invariant-loop-target l = l.rows ≡ rows_from l.table (λ _. None) 0 (take l.target-index l.table.targets)
