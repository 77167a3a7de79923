use Rattle.std.proofs.Common.{◌≡◌, ◌++◌, drop, string_bytes}
use Rattle.build_store.specs.Report.{report_lines}
use Rattle.build_store.specs.Telling.{numbers_of_noted, origins_of_noted}
use Rattle.build_store.proofs.units.push_lines.Given as goal

abbrev pub invariant-loop-begun : goal.invariant-loop-begun
invariant-loop-begun l =
    string_bytes l.initial.out ++ report_lines l.table (numbers_of_noted l.noted) (origins_of_noted l.noted)
    ≡ string_bytes l.out ++ report_lines l.table (numbers_of_noted (drop l.begun-index l.noted)) (origins_of_noted (drop l.begun-index l.noted))
