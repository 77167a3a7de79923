-- When a call on an object of the outside may report a fault. own
use Rattle.std.specs.Prelude.{ℕ, ◌+◌, ◌-◌, ◌^◌, ◌≤◌, min, Result, IsErrOf}

-- A count of faults rose between two moments: it is greater, or it stands at its last value.
abbrev pub Rose : ℕ → ℕ → Type 0
Rose before now = min (before + 1) (2 ^ 64 - 1) ≤ now

-- The count never falls, and this fault is reported only where the count rose.
pub record HasCause {A E : Type 0} (before now : ℕ) (result : Result A E) (failed : E) : Type 0 where
  pub later : before ≤ now
  pub cause : IsErrOf result failed → Rose before now
