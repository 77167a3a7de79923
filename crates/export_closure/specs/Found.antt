-- The submodules that a closure has found so far, in the order in which they were found: own.
use Rattle.std.specs.Prelude.{◌≡◌, ℕ, ◌==◌, Bool, ◌||◌, List, length, take}
use Rattle.std.specs.List.{list_any}
use Rattle.cm_core.specs.declared.numbers.SubNo.{SubNo}
use Rattle.export_closure.specs.declared.members.Members.{Members}
use Rattle.export_closure.specs.Flags.{has, count}

abbrev pub is_found : List SubNo → ℕ → Bool
is_found found at = list_any (λ (s : SubNo). s.index == at) found

-- the set has exactly the submodules of the list, each of which is there once
pub record Tracks (members : Members) : Type 0 where
  pub same : (at : ℕ) → has members.set at ≡ is_found members.found.items at
  pub once : length members.found.items ≡ count members.set

-- the submodules that pass the test are added, behind those found before
pub record Adds (old new : Members) (test : ℕ → Bool) : Type 0 where
  pub found : (at : ℕ) → is_found new.found.items at ≡ (is_found old.found.items at || test at)
  pub front : take (length old.found.items) new.found.items ≡ old.found.items
  pub size : length new.set ≡ length old.set
