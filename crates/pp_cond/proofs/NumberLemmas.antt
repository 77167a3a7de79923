-- Integer constants: a number past 64 bits stays past them, and a constant's type holds it.
use Rattle.std.proofs.Common.{◌≡◌, ℕ, suc, ◌+◌, ◌*◌, ◌^◌, ◌<◌, ◌≤◌, Bool, true, false, refl, ap, subst, List, [], ◌∷◌, length, drop, get_or, drop-cons, arith, Some, None, nat_lt, cond, pos, IsTrue}
use Rattle.std.specs.List.{find}
use Rattle.std.specs.Int.RustNames.{int_le}
use Rattle.std.proofs.lemmas.Int.{ints}
use Rattle.std.proofs.lemmas.Bool.Decides.{nat_tests}
use Rattle.std.proofs.Math.Nat.{mul-le-mul_left}
use Rattle.cm_core.specs.declared.integers.IntKind.{IntKind}
use Rattle.int_types.specs.Kinds.{greatest, holds}
use Rattle.int_types.specs.Constants.{candidates, represents, constant_kind}
use Rattle.int_types.proofs.RangeLemmas.{holds_within, zero_within}
use Rattle.pp_cond.specs.Numbers.{digit, digits_onto, small}

digits_grow : (base n : ℕ) (bs : List ℕ) → 0 < base → n ≤ digits_onto base n bs
digits_grow base n [] h = omega arith
digits_grow base n (b ∷ bs) h =
    let step : n * 1 ≤ n * base = mul-le-mul_left n h in
    let more = digits_grow base (n * base + digit b) bs h in
    omega arith

small_none : (n : ℕ) → 2 ^ 64 ≤ n → small n ≡ None
small_none n h = let past : nat_lt n (2 ^ 64) ≡ false = grind (arith, nat_tests) in rw past refl

pub too_big : (base i n : ℕ) (bs : List ℕ) → 0 < base → i < length bs → digits_onto base n (drop i bs) ≡ digits_onto base 0 bs → 2 ^ 64 ≤ n * base + digit (get_or bs i 0) → small (digits_onto base 0 bs) ≡ None
too_big base i n bs h l e g =
    let step : digits_onto base n (drop i bs) ≡ digits_onto base (n * base + digit (get_or bs i 0)) (drop (suc i) bs) = ap (digits_onto base n) (drop-cons bs i 0 l) in
    let more = digits_grow base (n * base + digit (get_or bs i 0)) (drop (suc i) bs) h in
    small_none (digits_onto base 0 bs) (omega arith)

find_passes : {X : Type 0} (p : X → Bool) (xs : List X) (x : X) → find p xs ≡ Some x → p x ≡ true
find_passes p [] x h = absurd (cc)
find_passes {X} p (y ∷ ys) x h = elim (p y) as (λ b. p y ≡ b → cond b (Some y) (find p ys) ≡ Some x → p x ≡ true) [
  | true ↦ λ e g. let P : X → Type 0 = λ z. p z ≡ true in let same : y ≡ x = cc in subst P same e
  | false ↦ λ e g. find_passes p ys x g
] refl h

below : (n : ℕ) (k : IntKind) → int_le (pos n) (greatest k) ≡ true → IsTrue (holds k (pos n))
below n k h = holds_within k (pos n) (record { low = (let z = zero_within k in omega (arith, ints)); high = grind (arith, ints) })

pub constant_holds : (decimal unsigned : Bool) (longs n : ℕ) (k : IntKind) → constant_kind decimal unsigned longs n ≡ Some k → IsTrue (holds k (pos n))
constant_holds decimal unsigned longs n k h = below n k (find_passes (represents n) (candidates decimal unsigned longs) k h)
