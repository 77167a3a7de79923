-- What a whole text is as one piece of a translation unit: a preprocessing token (C11 6.4), white space
-- or a comment (6.4.9). Own: two quotes in a line are a constant or a literal whatever stands between
-- them, a quote without its partner in the line is an Other, a letter beyond ASCII is an Other, and
-- line ends are tokens.
use Rattle.std.specs.Prelude.{ℕ, Bool, true, false, ◌&&◌, ◌||◌, ◌==◌, nat_lt, nat_le, List, [], ◌∷◌, Option, Some, None, if◌then◌else◌, codes, drop, slice_index}
use Rattle.std.specs.List.{list_any}
use Prim.Native.String.{String}
use Rattle.std.specs.Char.{is_ascii_alphabetic, is_ascii_digit}
use Rattle.cm_core.specs.declared.token.TokenKind.{TokenKind}
use Rattle.cm_core.specs.declared.token.TokenKind.TheVariants.{Ident, Number, CharConst, Str, Punct, HeaderName, Other, LineEnd}
use Rattle.c_lex.specs.declared.piece.Piece.{Piece}
use Rattle.c_lex.specs.declared.piece.Piece.TheVariants.{Blank, OpenComment, Token}

-- a piece where a test holds
abbrev pub only : Bool → Piece → Option Piece
only holds piece = if holds then Some piece else None

abbrev pub is_nil : List ℕ → Bool
is_nil [] = true
is_nil (b ∷ bs) = false

-- the text begins with the byte b
abbrev pub begins : ℕ → List ℕ → Bool
begins b [] = false
begins b (x ∷ xs) = x == b

-- 6.4.2.1: a nondigit is `_` or a letter, and an identifier goes on with nondigits and digits
abbrev pub is_nondigit : ℕ → Bool
is_nondigit b = b == 95 || is_ascii_alphabetic b

abbrev pub is_word : ℕ → Bool
is_word b = is_nondigit b || is_ascii_digit b

abbrev pub all_words : List ℕ → Bool
all_words [] = true
all_words (b ∷ bs) = is_word b && all_words bs

-- 6.4.8: a preprocessing number goes on after the byte p with digits, nondigits and `.`, and with a
-- sign after `e`, `E`, `p` or `P`
abbrev pub is_exponent : ℕ → Bool
is_exponent p = p == 101 || p == 69 || p == 112 || p == 80

abbrev pub goes_on : ℕ → ℕ → Bool
goes_on p b = is_word b || b == 46 || ((b == 43 || b == 45) && is_exponent p)

abbrev pub is_number_rest : ℕ → List ℕ → Bool
is_number_rest p [] = true
is_number_rest p (b ∷ bs) = goes_on p b && is_number_rest b bs

abbrev pub begins_digit : List ℕ → Bool
begins_digit [] = false
begins_digit (b ∷ bs) = is_ascii_digit b

-- 6.4.4.4, 6.4.5: what follows the quote q, up to the first q of the line that no backslash escapes;
-- `escaped` says whether a backslash stands before the first byte
abbrev pub is_quoted : ℕ → Bool → List ℕ → Bool
is_quoted q escaped [] = false
is_quoted q escaped (b ∷ bs) =
    if b == 10 then false
    else (if escaped then is_quoted q false bs
    else (if b == q then is_nil bs
    else is_quoted q (b == 92) bs))

abbrev pub quoted : ℕ → TokenKind → List ℕ → Option Piece
quoted q kind rest = if is_quoted q false rest then Some (Token kind) else only (is_nil rest) (Token Other)

-- 6.4.9: what follows `/*` and then the byte p, up to the first `*/`; and what has no `*/`
abbrev pub is_closed : ℕ → List ℕ → Bool
is_closed p [] = false
is_closed p (b ∷ bs) = if p == 42 && b == 47 then is_nil bs else is_closed b bs

abbrev pub is_unclosed : ℕ → List ℕ → Bool
is_unclosed p [] = true
is_unclosed p (b ∷ bs) = if p == 42 && b == 47 then false else is_unclosed b bs

abbrev pub comment : List ℕ → Option Piece
comment [] = Some OpenComment
comment (b ∷ bs) = if is_closed b bs then Some Blank else only (is_unclosed b bs) OpenComment

-- the text has no line end
abbrev pub is_in_line : List ℕ → Bool
is_in_line [] = true
is_in_line (b ∷ bs) = if b == 10 then false else is_in_line bs

-- white space but line ends: space, tabs and form feed (6.4)
abbrev pub is_blank : ℕ → Bool
is_blank b = b == 32 || b == 9 || b == 11 || b == 12

-- 6.4.6: the punctuators of one byte, and of two, three and four
unfoldable pub is_mark : ℕ → Bool
is_mark a = list_any (λ b. b == a) (codes "[](){}.&*+-~!/%<>^|?:;=,#")

abbrev pub pair : String → ℕ × ℕ
pair text = (slice_index (codes text) 0, slice_index (codes text) 1)

abbrev pub pairs : List (ℕ × ℕ)
pairs =
    pair "->" ∷ pair "++" ∷ pair "--" ∷ pair "<<" ∷ pair ">>" ∷ pair "<=" ∷ pair ">=" ∷ pair "==" ∷ pair "!="
    ∷ pair "&&" ∷ pair "||" ∷ pair "*=" ∷ pair "/=" ∷ pair "%=" ∷ pair "+=" ∷ pair "-=" ∷ pair "&=" ∷ pair "^="
    ∷ pair "|=" ∷ pair "##" ∷ pair "<:" ∷ pair ":>" ∷ pair "<%" ∷ pair "%>" ∷ pair "%:" ∷ []

unfoldable pub is_pair : ℕ → ℕ → Bool
is_pair a b = list_any (λ p. p.0 == a && p.1 == b) pairs

-- `...`, `<<=` and `>>=`
unfoldable pub is_triple : ℕ → ℕ → ℕ → Bool
is_triple a b c = (a == 46 && b == 46 && c == 46) || (a == 60 && b == 60 && c == 61) || (a == 62 && b == 62 && c == 61)

-- `%:%:`
unfoldable pub is_quadruple : ℕ → ℕ → ℕ → ℕ → Bool
is_quadruple a b c d = a == 37 && b == 58 && c == 37 && d == 58

abbrev pub is_punctuator : List ℕ → Bool
is_punctuator [] = false
is_punctuator (a ∷ []) = is_mark a
is_punctuator (a ∷ b ∷ []) = is_pair a b
is_punctuator (a ∷ b ∷ c ∷ []) = is_triple a b c
is_punctuator (a ∷ b ∷ c ∷ d ∷ rest) = is_nil rest && is_quadruple a b c d

-- the rest of a character in UTF-8: bytes from 128 to 191, after a first byte that isn't ASCII
abbrev pub all_continue : List ℕ → Bool
all_continue [] = true
all_continue (b ∷ bs) = (nat_le 128 b && nat_lt b 192) && all_continue bs

abbrev pub is_character : ℕ → List ℕ → Bool
is_character a rest = if nat_lt a 128 then is_nil rest else all_continue rest

-- a punctuator, or a character that begins no other token
abbrev pub symbol_of : ℕ → List ℕ → Option Piece
symbol_of a rest =
    if is_mark a then only (is_punctuator (a ∷ rest)) (Token Punct)
    else only (is_character a rest) (Token Other)

-- what the text is as one piece, by its first byte
unfoldable pub piece_of : List ℕ → Option Piece
piece_of [] = None
piece_of (a ∷ rest) =
    if is_nondigit a then only (all_words rest) (Token Ident)
    else (if is_ascii_digit a || (a == 46 && begins_digit rest) then only (is_number_rest a rest) (Token Number)
    else (if a == 39 then quoted a CharConst rest
    else (if a == 34 then quoted a Str rest
    else (if a == 47 && begins 42 rest then comment (drop 1 rest)
    else (if a == 47 && begins 47 rest then only (is_in_line rest) Blank
    else (if a == 10 then only (is_nil rest) (Token LineEnd)
    else (if is_blank a then only (is_nil rest) Blank
    else symbol_of a rest)))))))

-- 6.4.7: what follows the `<` or `"` of a header name, up to the first q of the line
abbrev pub is_named : ℕ → List ℕ → Bool
is_named q [] = false
is_named q (b ∷ bs) =
    if b == 10 then false
    else (if b == q then is_nil bs
    else is_named q bs)

-- what ends a header name that begins with the byte: `>` after `<`, and `"` after `"`
abbrev pub header_end : ℕ → Option ℕ
header_end a = if a == 60 then Some 62 else (if a == 34 then Some 34 else None)

-- a header name has one byte at least between its ends
abbrev pub named_by : Option ℕ → List ℕ → Option Piece
named_by None rest = None
named_by (Some q) rest = if is_nil rest || begins q rest then None else only (is_named q rest) (Token HeaderName)

unfoldable pub header_of : List ℕ → Option Piece
header_of [] = None
header_of (a ∷ rest) = named_by (header_end a) rest
