-- Where the pieces of an owner's tokens end, each of which is then read as one external declaration (C11 6.9): own.
use Rattle.std.specs.Prelude.{◌≡◌, ℕ, ◌+◌, ◌-◌, ◌<◌, ◌==◌, Bool, true, false, not, ◌&&◌, ◌||◌, if◌then◌else◌, List, [], ◌∷◌, ◌++◌, length, take, map, reverse, All, codes, slice_get, unwrap_or}
use Rattle.std.specs.List.{list_any, flat_map}
use Rattle.std.specs.Str.{bytes_eq}
use Rattle.cm_core.specs.declared.token.Token.{Token}
use Rattle.cm_core.specs.declared.token.TokenKind.{TokenKind}
use Rattle.cm_core.specs.declared.token.TokenKind.TheVariants.{Punct}
use Rattle.c_parse.specs.declared.role.Role.{Role}
use Rattle.c_parse.specs.declared.role.Role.TheVariants.{Open, OpenBrace, CloseParen, CloseBrace, Close, Semicolon, Equals, Other}

-- ---- what a token is to the cutting

-- the punctuators that matter (C11 6.4.6); `<:`, `:>`, `<%` and `%>` spell brackets (6.4.6p3)
abbrev pub spellings : List (List ℕ × Role)
spellings =
    (codes "(", Open) ∷ (codes "[", Open) ∷ (codes "<:", Open) ∷ (codes "{", OpenBrace) ∷ (codes "<%", OpenBrace)
    ∷ (codes ")", CloseParen) ∷ (codes "}", CloseBrace) ∷ (codes "%>", CloseBrace) ∷ (codes "]", Close) ∷ (codes ":>", Close)
    ∷ (codes ";", Semicolon) ∷ (codes "=", Equals) ∷ []

abbrev pub role_in : List (List ℕ × Role) → List ℕ → Role
role_in [] text = Other
role_in (row ∷ rows) text = if bytes_eq text row.0 then row.1 else role_in rows text

-- no other token is a punctuator, whatever its spelling
abbrev pub role_of : TokenKind → List ℕ → Role
role_of Punct text = role_in spellings text
role_of kind text = Other

abbrev pub token_role : List (List ℕ) → Token → Role
token_role names t = role_of t.kind (unwrap_or (slice_get names t.name.index) [])

-- the roles of tokens, that of the last token first: so are the lists of roles below
abbrev pub roles : List (List ℕ) → List Token → List Role
roles names tokens = map (token_role names) (reverse tokens)

-- ---- brackets

-- a closing bracket closes the innermost open one, whatever its kind, and one too many closes nothing
abbrev pub depth_after : Role → ℕ → ℕ
depth_after Open n = n + 1
depth_after OpenBrace n = n + 1
depth_after CloseParen n = n - 1
depth_after CloseBrace n = n - 1
depth_after Close n = n - 1
depth_after Semicolon n = n
depth_after Equals n = n
depth_after Other n = n

-- how many brackets are open behind the tokens
abbrev pub depth : List Role → ℕ
depth [] = 0
depth (r ∷ before) = depth_after r (depth before)

-- what stands outside all brackets, and the two brackets around what stands inside
abbrev pub outside : List Role → List Role
outside [] = []
outside (r ∷ before) = if depth before == 0 || depth (r ∷ before) == 0 then r ∷ outside before else outside before

-- ---- the end of a piece

abbrev pub is_equals : Role → Bool
is_equals Equals = true
is_equals r = false

abbrev pub has_equals : List Role → Bool
has_equals rs = list_any is_equals rs

-- a piece ends at a `;`, or at the `}` of a `{` directly behind a `)`, where no `=` came before: all of them outside brackets
abbrev pub ends : List Role → Bool
ends (Semicolon ∷ before) = true
ends (CloseBrace ∷ OpenBrace ∷ CloseParen ∷ before) = not (has_equals before)
ends rs = false

-- the last of the tokens ends a piece that begins at the first
abbrev pub is_whole : List Role → Bool
is_whole rs = depth rs == 0 && ends (outside rs)

abbrev pub ends_piece : List (List ℕ) → List Token → Bool
ends_piece names tokens = is_whole (roles names tokens)

-- ---- the pieces of an owner

-- tokens that are left are a piece as well
abbrev pub left_over : List Token → List (List Token)
left_over [] = []
left_over (t ∷ tokens) = (t ∷ tokens) ∷ []

-- the pieces of tokens, of which the first begins with those before them
abbrev pub pieces_after : List (List ℕ) → List Token → List Token → List (List Token)
pieces_after names before [] = left_over before
pieces_after names before (t ∷ tokens) =
    if ends_piece names (before ++ t ∷ []) then (before ++ t ∷ []) ∷ pieces_after names [] tokens
    else pieces_after names (before ++ t ∷ []) tokens

unfoldable pub pieces : List (List ℕ) → List Token → List (List Token)
pieces names tokens = pieces_after names [] tokens

-- ---- the end of a piece, in the words of the rule

-- the last token is a `;` at depth 0
pub record EndsStatement (rs : List Role) : Type 0 where
  pub before : List Role
  pub parts : rs ≡ Semicolon ∷ before
  pub outside : depth before ≡ 0

-- the last token is a `}` that closes a `{` at depth 0: all fronts between have an open bracket. The `{` is directly behind a
-- `)`, and before these each `=` stands inside brackets
pub record EndsBody (rs : List Role) : Type 0 where
  pub before : List Role
  pub inside : List Role
  pub parts : rs ≡ CloseBrace ∷ (inside ++ OpenBrace ∷ CloseParen ∷ before)
  pub outside : depth (CloseParen ∷ before) ≡ 0
  pub unclosed : (late early : List Role) → inside ≡ late ++ early → 0 < depth (early ++ OpenBrace ∷ CloseParen ∷ before)
  pub closed : depth rs ≡ 0
  pub no_equals : (late early : List Role) → before ≡ late ++ Equals ∷ early → 0 < depth early

-- ---- what the pieces are, in the words of the rule

-- a piece is not empty, and ends nowhere before its last token
pub record IsPiece (names : List (List ℕ)) (piece : List Token) : Type 0 where
  pub filled : 0 < length piece
  pub first : (n : ℕ) → n < length piece → ends_piece names (take n piece) ≡ false

-- all tokens are in them in their order, and each but the last ends as a piece does
pub record ArePieces (names : List (List ℕ)) (tokens : List Token) (parts : List (List Token)) : Type 0 where
  pub all : flat_map (λ part. part) parts ≡ tokens
  pub each : All (IsPiece names) parts
  pub ended : All (λ part. ends_piece names part ≡ true) (take (length parts - 1) parts)
