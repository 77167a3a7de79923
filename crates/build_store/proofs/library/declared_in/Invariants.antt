use Rattle.std.proofs.Common.{◌≡◌}
use Rattle.std.specs.List.{range_with_len}
use Rattle.build_store.specs.Libraries.{part_at}
use Rattle.build_store.specs.Parts.{declared_in}
use Rattle.build_store.proofs.library.declared_in.Given as goal

abbrev pub invariant-loop-x : goal.invariant-loop-x
invariant-loop-x l = l.names ≡ declared_in (part_at l.parts) l.set (range_with_len 0 l.x)
