-- What the caches in memory show: the files that they hold, and how their calls went. own
use Rattle.std.specs.Prelude.{◌≡◌, ℕ, List, Bool, true, false, Result, Ok, Err, if◌then◌else◌}
use Rattle.std.specs.List.{All}
use Rattle.cm_outside.specs.Trees.{Path, Files}
use Rattle.cm_outside.specs.InMemory.{one_more, is_to_fail}
use Rattle.cm_outside.specs.declared.cache.CacheFault.{CacheFault}
use Rattle.cm_outside.specs.declared.cache.CacheFault.TheVariants.{Failed, NoMemory}

-- a cache whose calls fail where their numbers, from 1, stand in `fails`
pub record FailingCache : Type 0 where
  pub files : Files
  pub fails : List ℕ
  pub calls : ℕ
  pub faults : ℕ
  pub taken : ℕ

-- a cache that does not fail
pub record PlainCache : Type 0 where
  pub files : Files
  pub taken : ℕ

-- the next call is to fail
abbrev pub fails_next : FailingCache → Bool
fails_next cache = is_to_fail cache.fails (one_more cache.calls)

-- the cache after a call that only counted
abbrev pub called : FailingCache → FailingCache
called cache = record cache {
  calls = one_more cache.calls;
  faults = if fails_next cache then one_more cache.faults else cache.faults;
}

-- A call fails exactly where it is to; for want of memory it is refused only elsewhere.
abbrev pub FailsExactly : {A : Type 0} → Bool → Result A CacheFault → Type 0
FailsExactly to_fail (Ok _) = to_fail ≡ false
FailsExactly to_fail (Err Failed) = to_fail ≡ true
FailsExactly to_fail (Err NoMemory) = to_fail ≡ false

-- each of the files is true
abbrev pub AllTrue : (List ℕ → Type 0) → Files → Type 0
AllTrue is_true files = All (λ (file : Path × List ℕ). is_true file.1) files
