use Rattle.std.proofs.Common.{◌≡◌, ◌++◌, drop}
use Rattle.std.specs.List.{flat_map}
use Rattle.build_store.specs.CleanBuild.{module_block}
use Rattle.build_store.specs.Libraries.{parts_at}
use Rattle.build_store.specs.Telling.{numbers_of_noted}
use Rattle.build_store.proofs.units.push_modules.Given as goal

abbrev pub invariant-loop-begun : goal.invariant-loop-begun
invariant-loop-begun l =
    l.initial.out.items ++ flat_map (λ x. module_block l.held.table x (parts_at l.held.library x)) (numbers_of_noted l.noted)
    ≡ l.out.items ++ flat_map (λ x. module_block l.held.table x (parts_at l.held.library x)) (numbers_of_noted (drop l.begun-index l.noted))
