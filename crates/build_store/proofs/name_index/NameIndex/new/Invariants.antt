-- The names so far have the numbers of the first modules of these names.
use Rattle.std.proofs.Common.{◌≡◌, ℕ, List, position, take}
use Rattle.std.specs.Str.{bytes_eq}
use Rattle.build_store.specs.NameIndexes.{number_in}
use Rattle.build_store.specs.declared.table.Target.{Target}
use Rattle.build_store.proofs.name_index.NameIndex.new.Given as goal

abbrev pub invariant-loop-number : goal.invariant-loop-number
invariant-loop-number l = (name : List ℕ) → number_in l.names name ≡ position (λ (m : Target). bytes_eq m.name name) (take l.number l.targets)
