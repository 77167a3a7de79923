use Rattle.std.proofs.Common.{◌≡◌, take}
use Rattle.build_store.specs.Parts.{numbers_of}
use Rattle.build_store.proofs.library.numbers_of.Given as goal

abbrev pub invariant-loop-name : goal.invariant-loop-name
invariant-loop-name l = l.numbers ≡ numbers_of l.table (take l.name-index l.names)
