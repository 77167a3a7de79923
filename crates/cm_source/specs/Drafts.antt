-- A text on its way (own): the marks that it holds so far.
use Rattle.std.specs.Prelude.{◌≡◌, ℕ, ◌+◌, ◌-◌, ◌<◌, ◌≤◌, ◌≢◌, List, ◌++◌, map, length, slice_index}
use Rattle.std.specs.Str.{IsUtf8}
use Rattle.cm_source.specs.declared.position.Position.{Position}
use Rattle.cm_source.specs.declared.draft.Draft.{Draft}
use Rattle.cm_source.specs.Places.{start, after}
use Rattle.cm_source.specs.LogicalText.{Mark}
use Rattle.cm_source.specs.Steps.{phases}

-- the draft holds the bytes and the places of the marks
pub record IsDraftOf (marks : List Mark) (draft : Draft) : Type 0 where
  pub bytes : draft.bytes.items ≡ map (λ m. m.byte) marks
  pub places : draft.places ≡ map (λ m. m.place) marks

-- the last line of the bytes has no line feed
abbrev pub IsOpen : List ℕ → Type 0
IsOpen bytes = (0 < length bytes) × (slice_index bytes (length bytes - 1) ≢ 10)

-- the draft is that of the file up to `rest`, which begins at p
pub record IsFront (file : List ℕ) (draft : Draft) (p : Position) (rest : List ℕ) : Type 0 where
  pub marks : List Mark
  pub held : IsDraftOf marks draft
  pub whole : marks ++ phases p rest ≡ phases start file
  pub end : after p rest ≡ after start file
  pub utf8 : IsUtf8 (draft.bytes.items ++ rest)
  pub room : length marks + length rest ≤ length file
