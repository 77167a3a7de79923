-- Where a text is cut (C11 6.4p4): after its longest front that is a piece.
use Rattle.std.specs.Prelude.{◌≡◌, ℕ, zero, suc, ◌-◌, ◌<◌, ◌≤◌, List, ◌∷◌, length, take, Option, Some, None, slice_index, ◌⊎◌}
use Rattle.c_lex.specs.declared.piece.Piece.{Piece}
use Rattle.c_lex.specs.declared.piece.Cut.{Cut}
use Rattle.c_lex.specs.Pieces.{piece_of, symbol_of, header_of}
use Rattle.cm_core.specs.declared.token.TokenKind.{TokenKind}
use Rattle.cm_core.specs.declared.token.TokenKind.TheVariants.{CharConst, Str}

-- the longest piece among the fronts of at most n bytes
abbrev pub longest : (List ℕ → Option Piece) → List ℕ → ℕ → Option Cut
longest piece bytes zero = None
longest piece bytes (suc n) =
    elim (piece (take (suc n) bytes)) [
      | None ↦ longest piece bytes n
      | Some p ↦ Some (record { piece = p; length = suc n })
    ]

-- the first piece of a text
unfoldable pub cut_of : List ℕ → Option Cut
cut_of bytes = longest piece_of bytes (length bytes)

-- the same, where a header name comes first
unfoldable pub header_cut_of : List ℕ → Option Cut
header_cut_of bytes =
    elim (longest header_of bytes (length bytes)) [
      | None ↦ cut_of bytes
      | Some c ↦ Some c
    ]

-- the cut is after the longest piece
pub record IsCut (piece : List ℕ → Option Piece) (bytes : List ℕ) (c : Cut) : Type 0 where
  pub some : 0 < c.length
  pub within : c.length ≤ length bytes
  pub here : piece (take c.length bytes) ≡ Some c.piece
  pub beyond : (m : ℕ) → c.length < m → m ≤ length bytes → piece (take m bytes) ≡ None
  pub ends : (slice_index bytes (c.length - 1) < 128) ⊎ (c.length < length bytes → 128 ≤ slice_index bytes c.length → 192 ≤ slice_index bytes c.length)

-- the byte a begins no more than a punctuator or an Other, in each front of the text
abbrev pub IsSymbol : ℕ → List ℕ → Type 0
IsSymbol a rest = (m : ℕ) → piece_of (a ∷ take m rest) ≡ symbol_of a (take m rest)

-- the byte q is a quote, of constants or of literals
abbrev pub IsQuote : ℕ → TokenKind → Type 0
IsQuote q kind = ((q ≡ 39) × (kind ≡ CharConst)) ⊎ ((q ≡ 34) × (kind ≡ Str))

-- the cut lies within the text, and not inside a character
pub record IsInside (bytes : List ℕ) (c : Cut) : Type 0 where
  pub some : 0 < c.length
  pub within : c.length ≤ length bytes
  pub ends : (slice_index bytes (c.length - 1) < 128) ⊎ (c.length < length bytes → 128 ≤ slice_index bytes c.length → 192 ≤ slice_index bytes c.length)

-- no front of the text is a header name
abbrev pub IsNoHeader : List ℕ → Type 0
IsNoHeader bytes = (m : ℕ) → m ≤ length bytes → header_of (take m bytes) ≡ None
