-- The tokens of a text (C11 5.1.1.2 phase 3, 6.4): its longest pieces, one after another. Own: what ends
-- them, which is a block comment that isn't closed, a zero byte, or an identifier of more than 4096
-- bytes.
use Rattle.std.specs.Prelude.{ℕ, zero, suc, ◌+◌, ◌-◌, ◌≤◌, Bool, true, false, ◌&&◌, nat_lt, ◌==◌, List, length, take, drop, Option, Some, None, position, slice_index, if◌then◌else◌}
use Rattle.std.specs.Option.{option_map}
use Rattle.std.specs.Str.{IsCharBoundary}
use Rattle.cm_core.specs.declared.token.TokenKind.{TokenKind}
use Rattle.cm_core.specs.declared.token.TokenKind.TheVariants.{Ident, Number, CharConst, Str, Punct, HeaderName, Other, LineEnd}
use Rattle.c_lex.specs.declared.piece.Piece.{Piece}
use Rattle.c_lex.specs.declared.piece.Piece.TheVariants.{Blank, OpenComment, Token}
use Rattle.c_lex.specs.declared.piece.Cut.{Cut}
use Rattle.c_lex.specs.declared.refusal.Cause.TheVariants.{Unclosed, BadByte, LongName}
use Rattle.c_lex.specs.declared.refusal.Refusal.{Refusal}
use Rattle.c_lex.specs.declared.find.Mode.{Mode}
use Rattle.c_lex.specs.declared.find.Mode.TheVariants.{Plain, Header}
use Rattle.c_lex.specs.declared.find.Found.{Found}
use Rattle.c_lex.specs.declared.find.Found.TheVariants.{End, Refused, Named}
use Rattle.c_lex.specs.Pieces.{piece_of}
use Rattle.c_lex.specs.Cuts.{cut_of, header_cut_of}

abbrev pub is_ident : TokenKind → Bool
is_ident Ident = true
is_ident Number = false
is_ident CharConst = false
is_ident Str = false
is_ident Punct = false
is_ident HeaderName = false
is_ident Other = false
is_ident LineEnd = false

abbrev pub is_long_name : TokenKind → ℕ → Bool
is_long_name kind n = is_ident kind && nat_lt 4096 n

-- the first zero byte of a piece that begins at `at`
abbrev pub zero_in : ℕ → List ℕ → Option Refusal
zero_in at spelling = option_map (λ k. record { cause = BadByte; at = at + k }) (position (λ b. b == 0) spelling)

abbrev pub long_name : ℕ → TokenKind → ℕ → Option Refusal
long_name at kind n = if is_long_name kind n then Some (record { cause = LongName; at = at }) else None

abbrev pub else_long : ℕ → TokenKind → ℕ → Option Refusal → Option Refusal
else_long at kind n None = long_name at kind n
else_long at kind n (Some refusal) = Some refusal

-- what is wrong with the piece that begins at `at`
abbrev pub refusal_in : ℕ → Piece → List ℕ → Option Refusal
refusal_in at OpenComment spelling = Some (record { cause = Unclosed; at = at })
refusal_in at Blank spelling = zero_in at spelling
refusal_in at (Token kind) spelling = else_long at kind (length spelling) (zero_in at spelling)

abbrev pub cut_in : Mode → List ℕ → Option Cut
cut_in Plain rest = cut_of rest
cut_in Header rest = header_cut_of rest

-- a piece that is a token is found, and any other leads to what follows it
abbrev pub named_or : Piece → ℕ → ℕ → Bool → Found → Found
named_or (Token kind) from to spaced more = Named (record { kind = kind; from = from; to = to; spaced = spaced })
named_or Blank from to spaced more = more
named_or OpenComment from to spaced more = more

abbrev pub found_or : Option Refusal → Found → Found
found_or None found = found
found_or (Some refusal) found = Refused refusal

-- the first token among at most `fuel` pieces of the rest, which begins at `at`
abbrev pub next_in : Mode → ℕ → Bool → ℕ → List ℕ → Found
next_in mode zero spaced at rest = End
next_in mode (suc fuel) spaced at rest =
    elim (cut_in mode rest) [
      | None ↦ End
      | Some c ↦
          found_or (refusal_in at c.piece (take c.length rest))
          (named_or c.piece at (at + c.length) spaced (next_in mode fuel true (at + c.length) (drop c.length rest)))
    ]

-- a line end stands directly before byte number `at`
unfoldable pub follows_line_end : List ℕ → ℕ → Bool
follows_line_end bytes at = nat_lt 0 at && slice_index bytes (at - 1) == 10

-- the next token from byte number `at` on; a piece has a byte at least
unfoldable pub next_at : Mode → List ℕ → ℕ → Found
next_at mode bytes at = next_in mode (length bytes) (follows_line_end bytes at) at (drop at bytes)

-- the kind of the one token that the text is
abbrev pub short_kind : TokenKind → ℕ → Option TokenKind
short_kind kind n = if is_long_name kind n then None else Some kind

abbrev pub token_kind : Option Piece → ℕ → Option TokenKind
token_kind None n = None
token_kind (Some Blank) n = None
token_kind (Some OpenComment) n = None
token_kind (Some (Token kind)) n = short_kind kind n

unfoldable pub kind_of : List ℕ → Option TokenKind
kind_of text = token_kind (piece_of text) (length text)

-- a token begins and ends between characters
abbrev pub HasBounds : List ℕ → Found → Type 0
HasBounds bytes End = Unit {0}
HasBounds bytes (Refused refusal) = Unit {0}
HasBounds bytes (Named t) = (t.from ≤ t.to) × IsCharBoundary bytes t.from × IsCharBoundary bytes t.to
