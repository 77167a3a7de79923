use Rattle.std.proofs.Common.{◌<◌, length, take}
use Rattle.std.specs.List.{AllByRecursion}
use Rattle.module_file.specs.ModuleFile.{IsAnswered}
use Rattle.build_store.specs.Held.{AreNumbersOf}
use Rattle.build_store.proofs.header_turn.records_of.Given as goal

abbrev pub invariant-loop-number : goal.invariant-loop-number
invariant-loop-number g l = record {
  numbered : AllByRecursion (λ n. n < length (g.K.Keeper.records l.tree.kept)) l.numbers → AreNumbersOf (g.K.Keeper.records l.tree.kept) (take l.number-index l.numbers) l.records;
  answered : AllByRecursion IsAnswered l.records;
}
