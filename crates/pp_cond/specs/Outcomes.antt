-- What an expression of a condition comes to: a signed number is a long and an unsigned one an unsigned
-- long (C11 6.10.1p4, where intmax_t is long: own), and there is no number where an operation that is
-- evaluated has no value. 6.5.3.3 and 6.5.5 to 6.5.17, without the assignments, which 6.6p3 forbids.
use Rattle.std.specs.Prelude.{Bool, true, false, not, ◌||◌, pos, Option, Some, None, if◌then◌else◌, unsigned_abs}
use Rattle.std.specs.Option.{option_map, option_and_then}
use Rattle.std.specs.Ordering.{int_eq}
use Rattle.cm_core.specs.declared.integers.IntKind.TheVariants.{Long, ULong}
use Rattle.cm_core.specs.declared.integers.BinOp.{BinOp}
use Rattle.cm_core.specs.declared.integers.BinOp.TheVariants.{Shl, Shr, Lt, Gt, Le, Ge, Eq, Ne}
use Rattle.cm_core.specs.declared.integers.UnOp.{UnOp}
use Rattle.cm_core.specs.declared.integers.UnOp.TheVariants.{Not}
use Rattle.int_types.specs.declared.values.Value.{Value}
use Rattle.int_types.specs.Values.{converted}
use Rattle.int_types.specs.Operations.{applied, applied_unary, truth}
use Rattle.pp_cond.specs.declared.outcome.Outcome.{Outcome}
use Rattle.pp_cond.specs.declared.outcome.Outcome.TheVariants.{Signed, Unsigned}

abbrev pub is_unsigned : Outcome → Bool
is_unsigned (Signed n) = false
is_unsigned (Unsigned n) = true

unfoldable pub value_of : Outcome → Option Value
value_of (Signed number) = option_map (λ z. record { kind = Long; number = z }) number
value_of (Unsigned number) = option_map (λ n. record { kind = ULong; number = pos n }) number

-- a result as a long or an unsigned long
unfoldable pub seen_as : Bool → Option Value → Outcome
seen_as false result = Signed (option_map (λ v. converted Long v.number) result)
seen_as true result = Unsigned (option_map (λ v. unsigned_abs (converted ULong v.number)) result)

abbrev pub is_nonzero : Value → Bool
is_nonzero v = not (int_eq v.number (pos 0))

-- the result of ! is an int
abbrev pub unary_unsigned : UnOp → Bool → Bool
unary_unsigned Not u = false
unary_unsigned o u = u

unfoldable pub unary_outcome : UnOp → Outcome → Outcome
unary_outcome o a = seen_as (unary_unsigned o (is_unsigned a)) (option_and_then (applied_unary o) (value_of a))

-- a comparison gives an int, and a shift its left operand's type
abbrev pub binary_unsigned : BinOp → Bool → Bool → Bool
binary_unsigned Shl u v = u
binary_unsigned Shr u v = u
binary_unsigned Lt u v = false
binary_unsigned Gt u v = false
binary_unsigned Le u v = false
binary_unsigned Ge u v = false
binary_unsigned Eq u v = false
binary_unsigned Ne u v = false
binary_unsigned o u v = u || v

unfoldable pub binary_outcome : BinOp → Outcome → Outcome → Outcome
binary_outcome o a b =
    seen_as (binary_unsigned o (is_unsigned a) (is_unsigned b))
    (option_and_then (λ x. option_and_then (applied o x) (value_of b)) (value_of a))

-- 6.5.13 and 6.5.14: the second operand is evaluated only where the first does not decide
unfoldable pub and_outcome : Outcome → Outcome → Outcome
and_outcome a b =
    Signed (option_and_then (λ x. if is_nonzero x then option_map (λ y. truth (is_nonzero y)) (value_of b) else Some (pos 0)) (value_of a))

unfoldable pub or_outcome : Outcome → Outcome → Outcome
or_outcome a b =
    Signed (option_and_then (λ x. if is_nonzero x then Some (pos 1) else option_map (λ y. truth (is_nonzero y)) (value_of b)) (value_of a))

-- 6.5.15: one of the last two operands is evaluated, and both give the type
unfoldable pub choice_outcome : Outcome → Outcome → Outcome → Outcome
choice_outcome c a b =
    seen_as (is_unsigned a || is_unsigned b)
    (option_and_then (λ x. if is_nonzero x then value_of a else value_of b) (value_of c))

-- 6.6p3: a comma that is evaluated has no value
unfoldable pub comma_outcome : Outcome → Outcome → Outcome
comma_outcome a b = seen_as (is_unsigned b) None
