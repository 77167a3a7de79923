-- The value of an operator on integers: C11 6.5.3.3 and 6.5.5 to 6.5.12. An operation whose result the
-- type does not hold has no value where the type is signed (6.5p5), and wraps where it is unsigned
-- (6.2.5p9). Two's complement, and the sign that a right shift keeps, are own.
use Rattle.std.specs.Prelude.{ℕ, ◌^◌, Bool, not, ◌&&◌, ℤ, pos, ◌+ℤ◌, ◌-ℤ◌, ◌*ℤ◌, neg_ℤ, Option, Some, None, bit_and, bit_or, bit_xor, unsigned_abs, if◌then◌else◌}
use Rattle.std.specs.Int.RustNames.{int_lt, int_le, int_div, int_rem}
use Rattle.std.specs.Int.{int_rem_euclid, int_div_euclid}
use Rattle.std.specs.Ordering.{int_eq}
use Rattle.std.specs.Option.{option_map}
use Rattle.cm_core.specs.declared.integers.IntKind.{IntKind}
use Rattle.cm_core.specs.declared.integers.IntKind.TheVariants.{Int}
use Rattle.cm_core.specs.declared.integers.BinOp.{BinOp}
use Rattle.cm_core.specs.declared.integers.BinOp.TheVariants.{Mul, Div, Rem, Add, Sub, Shl, Shr, Lt, Gt, Le, Ge, Eq, Ne, And, Xor, Or}
use Rattle.cm_core.specs.declared.integers.UnOp.{UnOp}
use Rattle.cm_core.specs.declared.integers.UnOp.TheVariants.{Plus, Minus, Flip, Not}
use Rattle.int_types.specs.declared.values.Value.{Value}
use Rattle.int_types.specs.Kinds.{width, is_signed, holds, promoted, usual}
use Rattle.int_types.specs.Values.{wrapped, converted}

-- the exact result of an operation, in the type (6.5p5, 6.2.5p9)
unfoldable pub fitted : IntKind → ℤ → Option ℤ
fitted k z = if is_signed k then (if holds k z then Some z else None) else Some (wrapped k z)

-- the bits of a number, as the number that they are without a sign (6.2.6.2)
unfoldable pub pattern : IntKind → ℤ → ℕ
pattern k z = unsigned_abs (int_rem_euclid z (pos (2 ^ width k)))

abbrev pub truth : Bool → ℤ
truth b = if b then pos 1 else pos 0

-- 6.5.5, rounding toward zero
unfoldable pub quotient : IntKind → ℤ → ℤ → Option ℤ
quotient k x y = if int_eq y (pos 0) then None else fitted k (int_div x y)

unfoldable pub remainder : IntKind → ℤ → ℤ → Option ℤ
remainder k x y = option_map (λ _. int_rem x y) (quotient k x y)

-- 6.5.7: x has type k, and y is a number of bits
unfoldable pub is_count : IntKind → ℤ → Bool
is_count k y = int_le (pos 0) y && int_lt y (pos (width k))

unfoldable pub shifted_left : IntKind → ℤ → ℤ → Option ℤ
shifted_left k x y =
    if is_count k y && int_le (pos 0) x then fitted k (x *ℤ pos (2 ^ unsigned_abs y)) else None

unfoldable pub shifted_right : IntKind → ℤ → ℤ → Option ℤ
shifted_right k x y = if is_count k y then Some (int_div_euclid x (pos (2 ^ unsigned_abs y))) else None

-- 6.5.10 to 6.5.12, on the bits
unfoldable pub bitwise : (ℕ → ℕ → ℕ) → IntKind → ℤ → ℤ → Option ℤ
bitwise on_bits k x y = Some (wrapped k (pos (on_bits (pattern k x) (pattern k y))))

abbrev pub typed : IntKind → Option ℤ → Option Value
typed k result = option_map (λ z. record { kind = k; number = z }) result

-- the operands have their common type (6.3.1.8), and so has the result
abbrev pub in_common : (IntKind → ℤ → ℤ → Option ℤ) → Value → Value → Option Value
in_common operation a b =
    let k = usual a.kind b.kind in typed k (operation k (converted k a.number) (converted k b.number))

-- 6.5.8 and 6.5.9: the operands have their common type, and the result is an int
abbrev pub compared : (ℤ → ℤ → Bool) → Value → Value → Option Value
compared test a b =
    let k = usual a.kind b.kind in
    Some (record { kind = Int; number = truth (test (converted k a.number) (converted k b.number)) })

-- 6.5.7: each operand is promoted, which keeps its number (6.3.1.1p3)
abbrev pub shifted : (IntKind → ℤ → ℤ → Option ℤ) → Value → Value → Option Value
shifted operation a b = let k = promoted a.kind in typed k (operation k a.number b.number)

unfoldable pub applied : BinOp → Value → Value → Option Value
applied Mul a b = in_common (λ k x y. fitted k (x *ℤ y)) a b
applied Div a b = in_common quotient a b
applied Rem a b = in_common remainder a b
applied Add a b = in_common (λ k x y. fitted k (x +ℤ y)) a b
applied Sub a b = in_common (λ k x y. fitted k (x -ℤ y)) a b
applied Shl a b = shifted shifted_left a b
applied Shr a b = shifted shifted_right a b
applied Lt a b = compared int_lt a b
applied Gt a b = compared (λ x y. int_lt y x) a b
applied Le a b = compared int_le a b
applied Ge a b = compared (λ x y. int_le y x) a b
applied Eq a b = compared int_eq a b
applied Ne a b = compared (λ x y. not (int_eq x y)) a b
applied And a b = in_common (bitwise bit_and) a b
applied Xor a b = in_common (bitwise bit_xor) a b
applied Or a b = in_common (bitwise bit_or) a b

-- 6.5.3.3: the operand is promoted, and the result of ! is an int
unfoldable pub applied_unary : UnOp → Value → Option Value
applied_unary Plus a = Some (record { kind = promoted a.kind; number = a.number })
applied_unary Minus a = let k = promoted a.kind in typed k (fitted k (neg_ℤ a.number))
applied_unary Flip a = let k = promoted a.kind in typed k (Some (wrapped k (neg_ℤ a.number -ℤ pos 1)))
applied_unary Not a = Some (record { kind = Int; number = truth (int_eq a.number (pos 0)) })
