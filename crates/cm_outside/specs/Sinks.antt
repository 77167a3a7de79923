-- What a sink has taken. own
use Rattle.std.specs.Prelude.{◌≡◌, ℕ, ◌≤◌, List, ◌++◌, length, take, Option, Some, None}

-- what a sink that tells its bytes has taken after these
abbrev pub and_then : Option (List ℕ) → List ℕ → Option (List ℕ)
and_then None bytes = None
and_then (Some taken) bytes = Some (taken ++ bytes)

-- the sink took a front of these bytes, and maybe all
abbrev pub TakesFront : List ℕ → Option (List ℕ) → Option (List ℕ) → Type 0
TakesFront bytes before now = (n : ℕ) × (n ≤ length bytes) × (now ≡ and_then before (take n bytes))
