-- Character constants of one ASCII character or one escape sequence: C11 6.4.4.4. The value is that of a
-- char, which is signed (own), as an int (6.4.4.4p10).
use Rattle.std.specs.Prelude.{ℕ, Bool, false, not, ◌&&◌, ◌||◌, ◌==◌, nat_lt, nat_le, min, List, [], ◌∷◌, take, drop, Option, Some, None, pos, if◌then◌else◌}
use Rattle.std.specs.Option.{option_map, option_and_then}
use Rattle.cm_core.specs.declared.integers.IntKind.TheVariants.{Char}
use Rattle.int_types.specs.Values.{converted}
use Rattle.pp_cond.specs.declared.outcome.Outcome.{Outcome}
use Rattle.pp_cond.specs.Outcomes.{seen_as}
use Rattle.pp_cond.specs.Numbers.{digit_count, digits_onto, small}

-- the bytes are the closing quote alone
abbrev pub closes : List ℕ → Bool
closes (b ∷ []) = b == 39
closes bs = false

abbrev pub is_plain : ℕ → Bool
is_plain c = nat_lt c 128 && not (c == 39 || c == 92 || c == 10)

abbrev pub simple_escapes : List (ℕ × ℕ)
simple_escapes = (39, 39) ∷ (34, 34) ∷ (63, 63) ∷ (92, 92) ∷ (97, 7) ∷ (98, 8) ∷ (102, 12) ∷ (110, 10) ∷ (114, 13) ∷ (116, 9) ∷ (118, 11) ∷ []

abbrev pub found : ℕ → List (ℕ × ℕ) → Option ℕ
found b [] = None
found b (r ∷ rs) = if b == r.0 then Some r.1 else found b rs

abbrev pub simple_escape : ℕ → Option ℕ
simple_escape b = found b simple_escapes

abbrev pub byte_of : ℕ → Option ℕ
byte_of n = if nat_lt n 256 then Some n else None

-- so many digits, worth at most 255, and the quote
unfoldable pub numeric_escape : ℕ → ℕ → List ℕ → Option ℕ
numeric_escape base n bs =
    if n == 0 || not (closes (drop n bs)) then None else
    option_and_then byte_of (small (digits_onto base 0 (take n bs)))

abbrev pub is_octal : ℕ → Bool
is_octal b = nat_le 48 b && nat_lt b 56

-- after the backslash: x and hexadecimal digits, one other character, or up to three octal digits
unfoldable pub escape : List ℕ → Option ℕ
escape [] = None
escape (e ∷ bs) =
    if e == 120 then numeric_escape 16 (digit_count 16 bs) bs else
    if closes bs && not (is_octal e) then simple_escape e else
    numeric_escape 8 (min (digit_count 8 (e ∷ bs)) 3) (e ∷ bs)

unfoldable pub character : List ℕ → Option ℕ
character [] = None
character (c ∷ bs) =
    if c == 92 then escape bs else
    if closes bs && is_plain c then Some c else None

unfoldable pub char_outcome : ℕ → Outcome
char_outcome code = seen_as false (Some (record { kind = Char; number = converted Char (pos code) }))

unfoldable pub character_of : List ℕ → Option Outcome
character_of [] = None
character_of (q ∷ bs) = if q == 39 then option_map char_outcome (character bs) else None
