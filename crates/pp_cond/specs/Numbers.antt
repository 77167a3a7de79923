-- Integer constants, C11 6.4.4.1, as a condition reads them (6.10.1p4): every signed type is as long as
-- long, so that an l in the suffix changes nothing.
use Rattle.std.specs.Prelude.{ℕ, suc, ◌+◌, ◌-◌, ◌*◌, ◌^◌, Bool, true, false, not, ◌&&◌, ◌||◌, ◌==◌, nat_lt, List, [], ◌∷◌, take, drop, Option, Some, None, pos, if◌then◌else◌}
use Rattle.std.specs.Option.{option_map, option_and_then}
use Rattle.std.specs.Int.{is_in_range}
use Rattle.int_types.specs.Kinds.{is_signed}
use Rattle.int_types.specs.Constants.{constant_kind}
use Rattle.pp_cond.specs.declared.outcome.Outcome.{Outcome}
use Rattle.pp_cond.specs.Outcomes.{seen_as}

-- what a digit is worth, of at most hexadecimal ones: 0 to 9, a to f, A to F
abbrev pub digit : ℕ → ℕ
digit b = if is_in_range 48 57 b then b - 48 else if is_in_range 97 102 b then b - 87 else if is_in_range 65 70 b then b - 55 else 16

abbrev pub is_digit : ℕ → ℕ → Bool
is_digit base b = nat_lt (digit b) base

-- how many digits stand at the front
abbrev pub digit_count : ℕ → List ℕ → ℕ
digit_count base [] = 0
digit_count base (b ∷ bs) = if is_digit base b then suc (digit_count base bs) else 0

abbrev pub digits_onto : ℕ → ℕ → List ℕ → ℕ
digits_onto base n [] = n
digits_onto base n (b ∷ bs) = digits_onto base (n * base + digit b) bs

-- a number of at most 64 bits
abbrev pub small : ℕ → Option ℕ
small n = if nat_lt n (2 ^ 64) then Some n else None

abbrev pub is_u : ℕ → Bool
is_u b = b == 117 || b == 85

abbrev pub is_l : ℕ → Bool
is_l b = b == 108 || b == 76

abbrev pub is_ll : ℕ → ℕ → Bool
is_ll a b = is_l a && a == b

-- whether the suffix has a u, if it is one
unfoldable pub suffix_of : List ℕ → Option Bool
suffix_of [] = Some false
suffix_of (a ∷ []) = if is_u a then Some true else if is_l a then Some false else None
suffix_of (a ∷ b ∷ []) = if is_u a && is_l b || is_l a && is_u b then Some true else if is_ll a b then Some false else None
suffix_of (a ∷ b ∷ c ∷ []) = if is_u a && is_ll b c || is_ll a b && is_u c then Some true else None
suffix_of bs = None

unfoldable pub typed_constant : ℕ → Bool → ℕ → Option Outcome
typed_constant base unsigned n =
    option_map (λ k. seen_as (not (is_signed k)) (Some (record { kind = k; number = pos n }))) (constant_kind (base == 10) unsigned 1 n)

-- digits of the base, and a suffix
unfoldable pub based_constant : ℕ → List ℕ → Option Outcome
based_constant base bs =
    let n = digit_count base bs in
    if n == 0 then None else
    option_and_then (λ unsigned. option_and_then (typed_constant base unsigned) (small (digits_onto base 0 (take n bs)))) (suffix_of (drop n bs))

abbrev pub is_x : ℕ → Bool
is_x b = b == 120 || b == 88

unfoldable pub integer_of : List ℕ → Option Outcome
integer_of [] = None
integer_of (a ∷ []) = if a == 48 then based_constant 8 (a ∷ []) else based_constant 10 (a ∷ [])
integer_of (a ∷ b ∷ bs) =
    if a == 48 && is_x b then based_constant 16 bs else
    if a == 48 then based_constant 8 (a ∷ b ∷ bs) else based_constant 10 (a ∷ b ∷ bs)
