use Rattle.std.proofs.Common.{◌≡◌, take}
use Rattle.build_store.specs.Loads.{objects_by}
use Rattle.build_store.proofs.file_turn.objects.Given as goal

abbrev pub invariant-loop-declaration : goal.invariant-loop-declaration
invariant-loop-declaration l = l.objects ≡ objects_by (take l.declaration-index l.declarations)
