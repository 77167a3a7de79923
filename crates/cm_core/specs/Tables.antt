-- Tables that number texts from 0 in the order in which they came: own.
use Rattle.std.specs.Prelude.{◌≡◌, ℕ, ◌<◌, ◌≤◌, if◌then◌else◌, List, [], ◌∷◌, ◌++◌, length, slice_get, refl}
use Rattle.std.proofs.Common.{◌∙◌, arith}
use Rattle.std.specs.List.{list_any, position_or_len}
use Rattle.std.specs.Str.{bytes_eq}

-- the texts after one is numbered: a new text goes last
abbrev pub numbered : List (List ℕ) → List ℕ → List (List ℕ)
numbered texts text = if list_any (bytes_eq text) texts then texts else texts ++ text ∷ []

-- the number of a text: its place, or the next where it is new
abbrev pub number_of : List (List ℕ) → List ℕ → ℕ
number_of texts text = position_or_len (bytes_eq text) texts

-- a table may have given further numbers, and keeps what it gave
pub record Extends (old new : List (List ℕ)) : Type 0 where
  pub longer : length old ≤ length new
  pub kept : (no : ℕ) → no < length old → slice_get new no ≡ slice_get old no

pub Extends-same : (texts : List (List ℕ)) → Extends texts texts
Extends-same texts = record { longer = omega arith; kept = λ no h. refl }

pub Extends-after : (old mid new : List (List ℕ)) → Extends old mid → Extends mid new → Extends old new
Extends-after old mid new a b = record { longer = omega arith; kept = λ no h. b.kept no (omega arith) ∙ a.kept no h }
