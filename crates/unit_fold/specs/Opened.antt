-- The tokens of an open piece, as they are held: by the numbers of their spellings. No public clause speaks of them. own
use Rattle.std.specs.Prelude.{ℕ, ◌<◌, ◌≤◌, List, [], length, map, All, slice_get, unwrap_or}
use Rattle.cm_core.specs.declared.token.Token.{Token}
use Rattle.c_parse.specs.declared.cut.Cut.{Cut}
use Rattle.c_parse.specs.Cuts.{IsAfter}
use Rattle.unit_fold.specs.Tokens.{TokenAt, place_at}

-- the names of an owner's tokens so far, the tokens of the piece that is open, and how many there were in all
pub record Opened : Type 0 where
  pub names : List (List ℕ)
  pub tokens : List Token
  pub taken : ℕ

-- the token has a name
abbrev pub IsNumbered : List (List ℕ) → Token → Type 0
IsNumbered names t = t.name.index < length names

abbrev pub AreNumbered : List (List ℕ) → List Token → Type 0
AreNumbered names tokens = All (IsNumbered names) tokens

-- each token has a name, the cut took them since the last end of a piece, and they are among those that were counted
pub record IsSound (names : List (List ℕ)) (tokens : List Token) (cut : Cut) (taken : ℕ) : Type 0 where
  pub numbered : AreNumbered names tokens
  pub after : IsAfter names tokens cut
  pub counted : length tokens ≤ taken

abbrev pub token_in : List (List ℕ) → Token → TokenAt
token_in names t = record { kind = t.kind; text = unwrap_or (slice_get names t.name.index) []; at = place_at t.place }

abbrev pub tokens_in : List (List ℕ) → List Token → List TokenAt
tokens_in names tokens = map (token_in names) tokens
