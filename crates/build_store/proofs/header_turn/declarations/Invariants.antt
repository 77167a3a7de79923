use Rattle.std.proofs.Common.{◌≡◌, take}
use Rattle.build_store.specs.Images.{declarations_of}
use Rattle.build_store.proofs.header_turn.declarations.Given as goal

abbrev pub invariant-loop-object : goal.invariant-loop-object
invariant-loop-object l = l.declarations ≡ declarations_of l.header (take l.object-index l.objects)
