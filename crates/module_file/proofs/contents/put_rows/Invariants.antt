use Rattle.std.proofs.Common.{◌≡◌, ◌+◌, ◌++◌, drop}
use Rattle.std.specs.List.{flat_map}
use Rattle.module_file.specs.ModuleFile.{spell_row, rows_from}
use Rattle.module_file.proofs.contents.put_rows.Given as goal

abbrev pub invariant-loop-at : goal.invariant-loop-at
invariant-loop-at l =
    l.out.items ++ flat_map spell_row (rows_from (l.at + 1) (drop l.at l.declarations)) ≡ l.initial.out.items ++ flat_map spell_row (rows_from 1 l.declarations)
