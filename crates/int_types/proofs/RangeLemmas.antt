-- The ranges of the integer types, as inequalities, and that wrapping ends in them.
use Rattle.std.proofs.Common.{sym, T, Fits, ◌∙◌, to_z, of_z, Some, None, if◌then◌else◌, zero-add, add-zero, ◌*ℤ◌, ◌≤◌, ◌⊎◌, inl, inr, unsigned_abs, lit<, lit≤, ◌*◌, ◌≡◌, ℕ, ◌-◌, ◌^◌, ◌<◌, ◌%◌, Bool, true, false, ◌&&◌, refl, arith, ℤ, pos, negsuc, neg_ℤ, ◌+ℤ◌, ◌-ℤ◌, ◌≤ℤ◌, ◌<ℤ◌, IsTrue, FitsSigned, suc, zero}
use Rattle.std.specs.Int.{int_rem_euclid, w128, from_bool}
use Rattle.std.specs.Int.RustNames.{int_le, int_lt, int_div, int_rem}
use lib.Signed.{shr_z, non_neg}
use borrow.Author.Tests.{ltb-true}
use Rattle.std.specs.Ordering.{int_eq}
use Rattle.std.proofs.Math.Nat.{pow-le-pow_right}
use native.Mathlib.Nat.{mod-le, div-le_self}
use Rattle.std.proofs.lemmas.Int.{ints, to_z_pos, fits_signed_mul}
use Rattle.std.proofs.lemmas.Nat.{pow_pos, mod_below, mul-lt}
use Rattle.cm_core.specs.declared.integers.IntKind.{IntKind}
use Rattle.cm_core.specs.declared.integers.IntKind.TheVariants.{Bool as BoolKind, Char, SChar, UChar, Short, UShort, Int, UInt, Long, ULong, LLong, ULLong}
use Rattle.int_types.specs.Kinds.{width, is_signed, least, greatest, holds, promoted, represents_all}
use Rattle.int_types.specs.Values.{wrapped}
use Rattle.int_types.specs.Operations.{truth, fitted, quotient}

pub record Within (k : IntKind) (z : ℤ) : Type 0 where
  pub low : least k ≤ℤ z
  pub high : z ≤ℤ greatest k

both : (a b c : ℤ) → IsTrue (int_le a b && int_le b c) → (a ≤ℤ b) × (b ≤ℤ c)
both a b c h = grind (arith, ints)

both_back : (a b c : ℤ) → a ≤ℤ b → b ≤ℤ c → IsTrue (int_le a b && int_le b c)
both_back a b c h k = grind (arith, ints)

pub within : (k : IntKind) (z : ℤ) → IsTrue (holds k z) → Within k z
unfolding holds
within k z h = let p = both (least k) z (greatest k) h in record { low = p.0; high = p.1 }

pub holds_within : (k : IntKind) (z : ℤ) → Within k z → IsTrue (holds k z)
unfolding holds
holds_within k z w = both_back (least k) z (greatest k) w.low w.high

-- a type of width w holds 2 ^ w numbers
pub span : (k : IntKind) → least k +ℤ pos (2 ^ width k) ≡ greatest k +ℤ pos 1
unfolding least greatest
span BoolKind = refl
span Char = refl
span SChar = refl
span UChar = refl
span Short = refl
span UShort = refl
span Int = refl
span UInt = refl
span Long = refl
span ULong = refl
span LLong = refl
span ULLong = refl

pub rem_within : (z : ℤ) (m : ℕ) → 0 < m → (pos 0 ≤ℤ int_rem_euclid z (pos m)) × (int_rem_euclid z (pos m) <ℤ pos m)
rem_within (pos a) m h = let k = mod_below a m h in (omega (arith, ints), omega (arith, ints))
rem_within (negsuc a) m h = let k = mod_below a m h in (omega (arith, ints), omega (arith, ints))

pub wrapped_within : (k : IntKind) (z : ℤ) → Within k (wrapped k z)
unfolding wrapped
wrapped_within k z =
    let r = rem_within (z -ℤ least k) (2 ^ width k) (pow_pos (width k)) in
    let s = span k in
    record { low = omega (arith, ints); high = omega (arith, ints) }

-- each number of a type is within 2 ^ 64 of zero
pub least_bound : (k : IntKind) → neg_ℤ (pos (2 ^ 63)) ≤ℤ least k
unfolding least
least_bound BoolKind = record { le = tt }
least_bound Char = record { le = tt }
least_bound SChar = record { le = tt }
least_bound UChar = record { le = tt }
least_bound Short = record { le = tt }
least_bound UShort = record { le = tt }
least_bound Int = record { le = tt }
least_bound UInt = record { le = tt }
least_bound Long = record { le = tt }
least_bound ULong = record { le = tt }
least_bound LLong = record { le = tt }
least_bound ULLong = record { le = tt }

pub greatest_bound : (k : IntKind) → greatest k <ℤ pos (2 ^ 64)
unfolding greatest
greatest_bound BoolKind = record { lt = tt }
greatest_bound Char = record { lt = tt }
greatest_bound SChar = record { lt = tt }
greatest_bound UChar = record { lt = tt }
greatest_bound Short = record { lt = tt }
greatest_bound UShort = record { lt = tt }
greatest_bound Int = record { lt = tt }
greatest_bound UInt = record { lt = tt }
greatest_bound Long = record { lt = tt }
greatest_bound ULong = record { lt = tt }
greatest_bound LLong = record { lt = tt }
greatest_bound ULLong = record { lt = tt }

pub record IsSmall (z : ℤ) : Type 0 where
  pub low : neg_ℤ (pos (2 ^ 63)) ≤ℤ z
  pub high : z <ℤ pos (2 ^ 64)

pub small : (k : IntKind) (z : ℤ) → Within k z → IsSmall z
small k z w =
    let l = least_bound k in
    let g = greatest_bound k in
    record { low = omega (arith, ints); high = omega (arith, ints) }

pub small_fits : (z : ℤ) → IsSmall z → FitsSigned w128 z
small_fits z s = fits z s.low s.high
  where
    fits : (z : ℤ) → neg_ℤ (pos (2 ^ 63)) ≤ℤ z → z <ℤ pos (2 ^ 64) → FitsSigned w128 z
    fits z l h = omega (arith, ints)

pub small_holds : (k : IntKind) (z : ℤ) → IsTrue (holds k z) → (neg_ℤ (pos (2 ^ 63)) ≤ℤ z) × (z <ℤ pos (2 ^ 64))
small_holds k z h = let s = small k z (within k z h) in (s.low, s.high)

pub least_unsigned : (k : IntKind) → is_signed k ≡ false → least k ≡ pos 0
unfolding least
least_unsigned k h = rw h refl

greatest_signed : (k : IntKind) → is_signed k ≡ true → greatest k <ℤ pos (2 ^ 63)
unfolding greatest
greatest_signed BoolKind h = cc
greatest_signed Char h = record { lt = tt }
greatest_signed SChar h = record { lt = tt }
greatest_signed UChar h = cc
greatest_signed Short h = record { lt = tt }
greatest_signed UShort h = cc
greatest_signed Int h = record { lt = tt }
greatest_signed UInt h = cc
greatest_signed Long h = record { lt = tt }
greatest_signed ULong h = cc
greatest_signed LLong h = record { lt = tt }
greatest_signed ULLong h = cc

abs_bound : (z : ℤ) → neg_ℤ (pos (2 ^ 63)) ≤ℤ z → z <ℤ pos (2 ^ 63) → unsigned_abs z ≤ 2 ^ 63
abs_bound (pos n) l h = omega (arith, ints)
abs_bound (negsuc n) l h = omega (arith, ints)

pub signed_bound : (k : IntKind) (z : ℤ) → is_signed k ≡ true → IsTrue (holds k z) → unsigned_abs z ≤ 2 ^ 63
signed_bound k z s h =
    let w = within k z h in
    let g = greatest_signed k s in
    let l = (small_holds k z h).0 in
    abs_bound z l (omega (arith, ints))

pub signed_product_fits : (k : IntKind) (x y : ℤ) → is_signed k ≡ true → IsTrue (holds k x) → IsTrue (holds k y) → FitsSigned w128 (x *ℤ y)
signed_product_fits k x y s h j =
    fits_signed_mul w128 x y (2 ^ 63) (2 ^ 63) (signed_bound k x s h) (signed_bound k y s j) (lit< tt)

-- what an unsigned type holds is a natural number
pub unsigned_is : (k : IntKind) (z : ℤ) → is_signed k ≡ false → IsTrue (holds k z) → (z ≡ pos (unsigned_abs z)) × (unsigned_abs z < 2 ^ 64)
unsigned_is k z s h = cases z (small_holds k z h).1 nonneg
  where
    nonneg : pos 0 ≤ℤ z
    nonneg = let e = least_unsigned k s in let w = within k z h in omega (arith, ints)

    cases : (z : ℤ) → z <ℤ pos (2 ^ 64) → pos 0 ≤ℤ z → (z ≡ pos (unsigned_abs z)) × (unsigned_abs z < 2 ^ 64)
    cases (pos n) l p = (refl, omega (arith, ints))
    cases (negsuc n) l p = absurd (omega (arith, ints))

pub wrapped_unsigned : (k : IntKind) (n : ℕ) → is_signed k ≡ false → wrapped k (pos n) ≡ pos (n % 2 ^ width k)
unfolding wrapped
wrapped_unsigned k n s = rw (least_unsigned k s) (simp (zero-add, add-zero))

pub zero_within : (k : IntKind) → (least k ≤ℤ pos 0) × (pos 0 ≤ℤ greatest k)
unfolding least greatest
zero_within BoolKind = (record { le = tt }, record { le = tt })
zero_within Char = (record { le = tt }, record { le = tt })
zero_within SChar = (record { le = tt }, record { le = tt })
zero_within UChar = (record { le = tt }, record { le = tt })
zero_within Short = (record { le = tt }, record { le = tt })
zero_within UShort = (record { le = tt }, record { le = tt })
zero_within Int = (record { le = tt }, record { le = tt })
zero_within UInt = (record { le = tt }, record { le = tt })
zero_within Long = (record { le = tt }, record { le = tt })
zero_within ULong = (record { le = tt }, record { le = tt })
zero_within LLong = (record { le = tt }, record { le = tt })
zero_within ULLong = (record { le = tt }, record { le = tt })

-- what is no farther from zero than a number of the type, on the same side
pub nearer_zero : (k : IntKind) (z y : ℤ) → IsTrue (holds k z) → (pos 0 ≤ℤ y × y ≤ℤ z) ⊎ (z ≤ℤ y × y ≤ℤ pos 0) → IsTrue (holds k y)
nearer_zero k z y h (inl p) =
    let w = within k z h in let o = zero_within k in
    holds_within k y (record { low = omega (arith, ints); high = omega (arith, ints) })
nearer_zero k z y h (inr p) =
    let w = within k z h in let o = zero_within k in
    holds_within k y (record { low = omega (arith, ints); high = omega (arith, ints) })

shr_nearer : (z : ℤ) (m : ℕ) → (pos 0 ≤ℤ shr_z z m × shr_z z m ≤ℤ z) ⊎ (z ≤ℤ shr_z z m × shr_z z m ≤ℤ pos 0)
shr_nearer (pos a) m = let l = div-le_self a m in inl (omega (arith, ints), omega (arith, ints))
shr_nearer (negsuc a) m = let l = div-le_self a m in inr (omega (arith, ints), omega (arith, ints))

pub shr_holds : (k : IntKind) (z : ℤ) (m : ℕ) → IsTrue (holds k z) → IsTrue (holds k (shr_z z m))
shr_holds k z m h = nearer_zero k z (shr_z z m) h (shr_nearer z m)

neg_nearer : (r a : ℕ) → r ≤ suc a → (negsuc a ≤ℤ neg_ℤ (pos r)) × (neg_ℤ (pos r) ≤ℤ pos 0)
neg_nearer zero a h = (record { le = tt }, record { le = tt })
neg_nearer (suc r) a h = (omega (arith, ints), omega (arith, ints))

rem_nearer : (z d : ℤ) → (pos 0 ≤ℤ int_rem z d × int_rem z d ≤ℤ z) ⊎ (z ≤ℤ int_rem z d × int_rem z d ≤ℤ pos 0)
rem_nearer (pos a) d = let l = mod-le a (unsigned_abs d) in inl (omega (arith, ints), omega (arith, ints))
rem_nearer (negsuc a) d = inr (neg_nearer (suc a % unsigned_abs d) a (mod-le (suc a) (unsigned_abs d)))

pub rem_holds : (k : IntKind) (z d : ℤ) → IsTrue (holds k z) → IsTrue (holds k (int_rem z d))
rem_holds k z d h = nearer_zero k z (int_rem z d) h (rem_nearer z d)

pub quot_fits_small : (x y : ℤ) → (neg_ℤ (pos (2 ^ 63)) ≤ℤ x) → (x <ℤ pos (2 ^ 64)) → FitsSigned w128 (int_div x y)
quot_fits_small (pos a) (pos b) l h = let d = div-le_self a b in omega (arith, ints)
quot_fits_small (pos a) (negsuc b) l h = let d = div-le_self a (suc b) in omega (arith, ints)
quot_fits_small (negsuc a) (pos b) l h = let d = div-le_self (suc a) b in omega (arith, ints)
quot_fits_small (negsuc a) (negsuc b) l h = let d = div-le_self (suc a) (suc b) in omega (arith, ints)

pub width_bound : (k : IntKind) → 2 ^ width k ≤ 2 ^ 64
width_bound BoolKind = lit≤ tt
width_bound Char = lit≤ tt
width_bound SChar = lit≤ tt
width_bound UChar = lit≤ tt
width_bound Short = lit≤ tt
width_bound UShort = lit≤ tt
width_bound Int = lit≤ tt
width_bound UInt = lit≤ tt
width_bound Long = lit≤ tt
width_bound ULong = lit≤ tt
width_bound LLong = lit≤ tt
width_bound ULLong = lit≤ tt

pub truth_holds : (b : Bool) → IsTrue (holds Int (truth b))
unfolding holds least greatest
truth_holds true = refl
truth_holds false = refl

wider : (k l : IntKind) (z : ℤ) → least l ≤ℤ least k → greatest k ≤ℤ greatest l → IsTrue (holds k z) → IsTrue (holds l z)
wider k l z p q h =
    let w = within k z h in
    holds_within l z (record { low = omega (arith, ints); high = omega (arith, ints) })

-- a promotion keeps the number
pub promoted_holds : (k : IntKind) (z : ℤ) → IsTrue (holds k z) → IsTrue (holds (promoted k) z)
unfolding promoted least greatest represents_all
promoted_holds BoolKind z h = wider BoolKind Int z (record { le = tt }) (record { le = tt }) h
promoted_holds Char z h = wider Char Int z (record { le = tt }) (record { le = tt }) h
promoted_holds SChar z h = wider SChar Int z (record { le = tt }) (record { le = tt }) h
promoted_holds UChar z h = wider UChar Int z (record { le = tt }) (record { le = tt }) h
promoted_holds Short z h = wider Short Int z (record { le = tt }) (record { le = tt }) h
promoted_holds UShort z h = wider UShort Int z (record { le = tt }) (record { le = tt }) h
promoted_holds Int z h = h
promoted_holds UInt z h = h
promoted_holds Long z h = h
promoted_holds ULong z h = h
promoted_holds LLong z h = h
promoted_holds ULLong z h = h

-- the product of two numbers of an unsigned type, computed without signs
pub product_is : (k : IntKind) (x y x' y' m' : ℤ) → is_signed k ≡ false → IsTrue (holds k x) → IsTrue (holds k y) → x' ≡ x → y' ≡ y → m' ≡ pos (2 ^ width k) → pos (unsigned_abs x' * unsigned_abs y' % unsigned_abs m') ≡ wrapped k (x *ℤ y)
product_is k x y x' y' m' s h j ex ey em =
    let a = (unsigned_is k x s h).0 in
    let b = (unsigned_is k y s j).0 in
    let z : x *ℤ y ≡ pos (unsigned_abs x * unsigned_abs y) = (rw (a, b) refl) in
    rw (ex, ey, em, z) (sym (wrapped_unsigned k (unsigned_abs x * unsigned_abs y) s))

pub pos_holds : (k : IntKind) (n : ℕ) → n < 2 ^ 64 → (neg_ℤ (pos (2 ^ 63)) ≤ℤ pos n) × (pos n <ℤ pos (2 ^ 64))
pos_holds k n h = (omega (arith, ints), omega (arith, ints))

cast_fits : (z : ℤ) → z ≡ pos (unsigned_abs z) → unsigned_abs z < 2 ^ 64 → T (non_neg z) × Fits w128 (unsigned_abs z)
cast_fits (pos n) e h = (tt, omega arith)
cast_fits (negsuc n) e h = absurd (cc)

pub unsigned_cast : (k : IntKind) (z z' : ℤ) → is_signed k ≡ false → IsTrue (holds k z) → z' ≡ z → T (non_neg z') × Fits w128 (unsigned_abs z')
unsigned_cast k z z' s h e = let u = unsigned_is k z s h in rw e (cast_fits z u.0 u.1)

pub unsigned_product_fits : (k : IntKind) (x y x' y' : ℤ) → is_signed k ≡ false → IsTrue (holds k x) → IsTrue (holds k y) → x' ≡ x → y' ≡ y → Fits w128 (unsigned_abs x' * unsigned_abs y')
unsigned_product_fits k x y x' y' s h j ex ey =
    let below : unsigned_abs x * unsigned_abs y < 2 ^ 64 * 2 ^ 64 = mul-lt _ _ _ _ (unsigned_is k x s h).1 (unsigned_is k y s j).1 in
    rw (ex, ey) (omega arith)

pub product_computed : (k : IntKind) (x y x' y' m' : ℤ) → is_signed k ≡ false → IsTrue (holds k x) → IsTrue (holds k y) → x' ≡ x → y' ≡ y → m' ≡ pos (2 ^ width k) → to_z w128 (unsigned_abs x' * unsigned_abs y' % unsigned_abs m') ≡ wrapped k (x *ℤ y)
product_computed k x y x' y' m' s h j ex ey em =
    let rest : unsigned_abs x' * unsigned_abs y' % unsigned_abs m' < 2 ^ 127 =
    rw em (let r = mod_below (unsigned_abs x' * unsigned_abs y') (2 ^ width k) (pow_pos (width k)) in let b = width_bound k in omega arith) in
    to_z_pos w128 _ rest ∙ product_is k x y x' y' m' s h j ex ey em

pub nonzero_test : (y : ℤ) → FitsSigned w128 y → (of_z w128 y ≡ 0 → ⊥) → int_eq y (pos 0) ≡ false
nonzero_test (pos zero) f h = absurd (h refl)
nonzero_test (pos (suc n)) f h = grind arith
nonzero_test (negsuc n) f h = refl

pub nonzero_bits : (y : ℤ) → FitsSigned w128 y → int_eq y (pos 0) ≡ false → 0 < of_z w128 y
nonzero_bits (pos zero) f h = absurd (cc)
nonzero_bits (pos (suc n)) f h = omega (arith, ints)
nonzero_bits (negsuc n) f h = omega (arith, ints)

pub quotient_some : (k : IntKind) (x y z : ℤ) → quotient k x y ≡ Some z → int_eq y (pos 0) ≡ false
unfolding quotient
quotient_some k x y z h = elim (int_eq y (pos 0)) as (λ b. (if b then None else fitted k (int_div x y)) ≡ Some z → b ≡ false) [ true ↦ λ e. cc | false ↦ λ e. refl ] h

width_le : (k : IntKind) → width k ≤ 64
width_le BoolKind = lit≤ tt
width_le Char = lit≤ tt
width_le SChar = lit≤ tt
width_le UChar = lit≤ tt
width_le Short = lit≤ tt
width_le UShort = lit≤ tt
width_le Int = lit≤ tt
width_le UInt = lit≤ tt
width_le Long = lit≤ tt
width_le ULong = lit≤ tt
width_le LLong = lit≤ tt
width_le ULLong = lit≤ tt

power_le : (n : ℕ) → n < 64 → 2 ^ n ≤ 2 ^ 63
power_le n h = pow-le-pow_right (lit< tt) {i = n} {j = 63} (omega arith)

shl_natural : (w a n : ℕ) → w ≤ 64 → n < w → a < 2 ^ 64 → FitsSigned w128 (pos a *ℤ pos (2 ^ n))
shl_natural w a n l h b =
    fits_signed_mul w128 (pos a) (pos (2 ^ n)) (2 ^ 64 - 1) (2 ^ 63) (omega arith) (power_le n (omega arith)) (lit< tt)

pub shl_fits : (k : IntKind) (x y : ℤ) → IsTrue (holds k x) → int_le (pos 0) y ≡ true → int_lt y (pos (width k)) ≡ true → int_le (pos 0) x ≡ true → FitsSigned w128 (x *ℤ pos (2 ^ unsigned_abs y))
shl_fits k x y h low high natural = cases x y (small_holds k x h).1 natural low high
  where
    cases : (x y : ℤ) → x <ℤ pos (2 ^ 64) → int_le (pos 0) x ≡ true → int_le (pos 0) y ≡ true → int_lt y (pos (width k)) ≡ true → FitsSigned w128 (x *ℤ pos (2 ^ unsigned_abs y))
    cases (pos a) (pos n) l p q r = shl_natural (width k) a n (width_le k) (ltb-true n (width k) r) (omega (arith, ints))
    cases (pos a) (negsuc n) l p q r = absurd (cc)
    cases (negsuc a) y l p q r = absurd (cc)

pub fits_holds : (k : IntKind) (z : ℤ) → IsTrue (holds k z) → FitsSigned w128 z
fits_holds k z h = small_fits z (small k z (within k z h))

pub truth_bits : (b : Bool) → pos (from_bool b) ≡ truth b
truth_bits true = refl
truth_bits false = refl
