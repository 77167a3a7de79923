-- The bytes that the text of a `write` line stands for. own
use Rattle.std.specs.Prelude.{ℕ, zero, suc, ◌+◌, ◌-◌, ◌*◌, Bool, ◌&&◌, ◌==◌, nat_le, if◌then◌else◌, List, [], ◌∷◌, slice_index, Option, Some, None, option_and_then}
use Rattle.std.specs.Option.{option_map}
use Rattle.job_text.specs.declared.escapes.Escape.{Escape}

-- the value of a hexadecimal digit
abbrev pub hex_digit : ℕ → Option ℕ
hex_digit c =
    if nat_le 48 c && nat_le c 57 then Some (c - 48)
    else if nat_le 97 c && nat_le c 102 then Some (c - 87)
    else if nat_le 65 c && nat_le c 70 then Some (c - 55)
    else None

abbrev pub hex_byte : ℕ → ℕ → Option ℕ
hex_byte high low = option_and_then (λ h. option_map (λ l. h * 16 + l) (hex_digit low)) (hex_digit high)

-- what follows a backslash, by its first byte: `n`, `t`, a backslash, or `x` and two hexadecimal digits
abbrev pub escape_of : List ℕ → Option Escape
escape_of text =
    if slice_index text 0 == 110 then Some (record { byte = 10; length = 1 })
    else if slice_index text 0 == 116 then Some (record { byte = 9; length = 1 })
    else if slice_index text 0 == 92 then Some (record { byte = 92; length = 1 })
    else if slice_index text 0 == 120 then option_map (λ b. record { byte = b; length = 3 }) (hex_byte (slice_index text 1) (slice_index text 2))
    else None

-- The bytes of a text whose first `skip` bytes belong to the escape before it: an escape stands for its byte, and any other
-- byte for itself.
abbrev pub unescaped_after : ℕ → List ℕ → Option (List ℕ)
unescaped_after skip [] = Some []
unescaped_after (suc skip) (c ∷ cs) = unescaped_after skip cs
unescaped_after zero (c ∷ cs) =
    if c == 92 then option_and_then (λ e. option_map (λ more. e.byte ∷ more) (unescaped_after e.length cs)) (escape_of cs)
    else option_map (λ more. c ∷ more) (unescaped_after zero cs)

abbrev pub unescaped : List ℕ → Option (List ℕ)
unescaped text = unescaped_after 0 text
