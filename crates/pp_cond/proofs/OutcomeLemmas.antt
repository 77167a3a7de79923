-- What long and unsigned long hold, as the ranges of the machine's integers.
use Rattle.std.proofs.Common.{◌≡◌, ℕ, ◌^◌, ◌<◌, refl, arith, ℤ, pos, negsuc, IsTrue, FitsSigned, Fits, T, unsigned_abs}
use Rattle.std.specs.Int.{w64}
use lib.Signed.{non_neg}
use Rattle.std.proofs.lemmas.Int.{ints}
use Rattle.cm_core.specs.declared.integers.IntKind.TheVariants.{Int, Long, ULong}
use Rattle.int_types.specs.Kinds.{least, greatest, holds}
use Rattle.int_types.proofs.RangeLemmas.{within, holds_within, unsigned_is}

pub long_holds : (z : ℤ) → FitsSigned w64 z → IsTrue (holds Long z)
unfolding least greatest
long_holds z f = holds_within Long z (record { low = omega (arith, ints); high = omega (arith, ints) })

pub unsigned_long_holds : (n : ℕ) → n < 2 ^ 64 → IsTrue (holds ULong (pos n))
unfolding least greatest
unsigned_long_holds n h = holds_within ULong (pos n) (record { low = omega (arith, ints); high = omega (arith, ints) })

pub long_fits : (z : ℤ) → IsTrue (holds Long z) → FitsSigned w64 z
unfolding least greatest
long_fits z h = let w = within Long z h in let low = w.low in let high = w.high in omega (arith, ints)

cast : (z : ℤ) → z ≡ pos (unsigned_abs z) → unsigned_abs z < 2 ^ 64 → T (non_neg z) × Fits w64 (unsigned_abs z)
cast (pos n) e h = (tt, omega arith)
cast (negsuc n) e h = absurd (cc)

pub unsigned_long_fits : (z : ℤ) → IsTrue (holds ULong z) → T (non_neg z) × Fits w64 (unsigned_abs z)
unsigned_long_fits z h = let u = unsigned_is ULong z refl h in cast z u.0 u.1

pub byte_held : (n : ℕ) → n < 256 → IsTrue (holds Int (pos n))
unfolding least greatest
byte_held n h = holds_within Int (pos n) (record { low = omega (arith, ints); high = omega (arith, ints) })
