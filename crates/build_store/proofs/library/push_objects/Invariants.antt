use Rattle.std.proofs.Common.{◌≡◌, ◌++◌, map, take}
use Rattle.unit_fold.specs.declared.item.Named.{Named}
use Rattle.build_store.proofs.library.push_objects.Given as goal

abbrev pub invariant-loop-object : goal.invariant-loop-object
invariant-loop-object l = l.names ≡ l.initial.names ++ map (λ (n : Named). n.name) (take l.object-index l.objects)
