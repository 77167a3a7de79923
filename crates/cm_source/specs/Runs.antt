-- The table of places of a text (own): what list of places its runs stand for.
use Rattle.std.specs.Prelude.{◌≡◌, ℕ, zero, suc, ◌-◌, ◌<◌, nat_le, List, [], ◌∷◌, ◌++◌, length, if◌then◌else◌, slice_index_or}
use Rattle.std.specs.List.Sorted.{IsNonDecreasingBy}
use Rattle.cm_source.specs.declared.position.Position.{Position}
use Rattle.cm_source.specs.declared.places.Run.{Run}
use Rattle.cm_source.specs.Places.{start, shifted}

-- the place number `at`: that of the last run that begins at or before it, else p
abbrev pub located : Position → List Run → ℕ → Position
located p [] at = p
located p (r ∷ rs) at = located (if nat_le r.from at then shifted r.first (at - r.from) else p) rs at

-- f at each number below n, in order
abbrev pub tabulated : (ℕ → Position) → ℕ → List Position
tabulated f zero = []
tabulated f (suc n) = tabulated f n ++ f n ∷ []

-- the first n places
unfoldable pub places_of : List Run → ℕ → List Position
places_of rs n = tabulated (located start rs) n

-- each run begins below n
abbrev pub AllFromBelow : List Run → ℕ → Type 0
AllFromBelow rs n = (i : ℕ) (d : Run) → i < length rs → (slice_index_or rs i d).from < n

-- what keeps the search in a table of n places right
pub record AreRuns (rs : List Run) (n : ℕ) : Type 0 where
  pub ascending : IsNonDecreasingBy (λ r. r.from) rs
  pub first : (d : Run) → 0 < n → (0 < length rs) × ((slice_index_or rs 0 d).from ≡ 0)
  pub below : AllFromBelow rs n
