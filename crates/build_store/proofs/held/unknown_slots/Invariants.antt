use Rattle.std.proofs.Common.{◌≡◌, replicate}
use Rattle.build_store.specs.declared.slot.Slot.TheVariants.{Unknown}
use Rattle.build_store.proofs.held.unknown_slots.Given as goal

abbrev pub invariant-loop : goal.invariant-loop
invariant-loop l = l.slots ≡ replicate l.counter Unknown
