-- What conditional expressions that follow one another come to, from the left and from the right.
use Rattle.std.proofs.Common.{◌≡◌, ℕ, ◌+◌, ◌-◌, ◌*◌, ◌/◌, ◌%◌, ◌^◌, ◌<◌, ◌≤◌, Bool, true, false, ◌||◌, ◌⊎◌, inl, inr, refl, sym, ◌∙◌, ap, arith, Option, Some, None, ℤ, pos, negsuc, ◌+ℤ◌, ◌-ℤ◌, IsTrue, unsigned_abs, cond, lit<}
use Rattle.std.specs.Option.{option_and_then}
use Rattle.std.specs.Int.{int_rem_euclid}
use Rattle.std.proofs.lemmas.Int.{ints, int_rem_euclid_is}
use Rattle.std.proofs.lemmas.Nat.{mod_below}
use Rattle.std.proofs.Math.Nat.{add-mul-mod_self_right, mul-le-mul_left, mod-eq_of_lt}
use Rattle.cm_core.specs.declared.integers.IntKind.{IntKind}
use Rattle.cm_core.specs.declared.integers.IntKind.TheVariants.{Long, ULong}
use Rattle.int_types.specs.declared.values.Value.{Value}
use Rattle.int_types.specs.Kinds.{least, holds}
use Rattle.int_types.specs.Values.{wrapped, converted}
use Rattle.int_types.proofs.RangeLemmas.{holds_within, wrapped_within, unsigned_is}
use Rattle.pp_cond.specs.declared.outcome.Outcome.{Outcome}
use Rattle.pp_cond.specs.declared.outcome.Outcome.TheVariants.{Signed, Unsigned}
use Rattle.pp_cond.specs.declared.choices.Choices.{Choices}
use Rattle.pp_cond.specs.declared.choices.Choices.TheVariants.{Nothing, Open, Decided}
use Rattle.pp_cond.specs.Outcomes.{is_unsigned, value_of, seen_as, is_nonzero, choice_outcome}
use Rattle.pp_cond.specs.Choices.{decided_by, followed_by, ending_in}

-- ---- residues

modulus_split : (a n : ℕ) → 0 < n → (a / n) * n + a % n ≡ a
modulus_split a n h = omega arith

-- z is its residue and a multiple of n, or its residue is z and a multiple of n
rem_split : (n : ℕ) → 0 < n → (z : ℤ) → ((j : ℕ) × (z ≡ int_rem_euclid z (pos n) +ℤ pos (j * n))) ⊎ ((j : ℕ) × (z +ℤ pos (j * n) ≡ int_rem_euclid z (pos n)))
rem_split n h (pos a) = let e = modulus_split a n h in inl (a / n, omega (arith, ints))
rem_split n h (negsuc a) = let e = modulus_split a n h in let l = mod_below a n h in inr (a / n + 1, omega (arith, ints))

-- a multiple of n more leaves the residue
same_rem : (n : ℕ) → 0 < n → (z : ℤ) (j : ℕ) → int_rem_euclid (z +ℤ pos (j * n)) (pos n) ≡ int_rem_euclid z (pos n)
same_rem n h (pos a) j = ap pos (add-mul-mod_self_right a j n)
same_rem n h (negsuc a) j =
    let enough : (a + 1) * 1 ≤ (a + 1) * n = mul-le-mul_left (a + 1) h in
    let m : ℕ = (a + 1) * n - (a + 1) in
    let here : negsuc a +ℤ pos ((a + 1) * n) ≡ pos m = omega (arith, ints) in
    let there : (negsuc a +ℤ pos (j * n)) +ℤ pos ((a + 1) * n) ≡ pos (m + j * n) = omega (arith, ints) in
    int_rem_euclid_is (negsuc a +ℤ pos (j * n)) (pos n) n (a + 1) (m + j * n) h refl there
    ∙ ap pos (add-mul-mod_self_right m j n)
    ∙ sym (int_rem_euclid_is (negsuc a) (pos n) n (a + 1) m h refl here)

-- ---- the two types

abbrev modulus : ℕ
modulus = 2 ^ 64

wrapped_unsigned_long : (z : ℤ) → wrapped ULong z ≡ int_rem_euclid z (pos modulus)
unfolding wrapped least
wrapped_unsigned_long z =
    let there : z -ℤ pos 0 ≡ z = omega (arith, ints) in
    let back : pos 0 +ℤ int_rem_euclid z (pos modulus) ≡ int_rem_euclid z (pos modulus) = omega (arith, ints) in
    ap (λ w. pos 0 +ℤ int_rem_euclid w (pos modulus)) there ∙ back

wrapped_long : (z : ℤ) → int_rem_euclid (wrapped Long z) (pos modulus) ≡ int_rem_euclid z (pos modulus)
unfolding wrapped least
wrapped_long z =
    let least_long : ℤ = negsuc (2 ^ 63 - 1) in
    let y : ℤ = z -ℤ least_long in
    elim (rem_split modulus (lit< tt) y) as (λ w. int_rem_euclid (least_long +ℤ int_rem_euclid y (pos modulus)) (pos modulus) ≡ int_rem_euclid z (pos modulus)) [
      | inl s ↦
          let e : (least_long +ℤ int_rem_euclid y (pos modulus)) +ℤ pos (s.0 * modulus) ≡ z = (let f = s.1 in omega (arith, ints)) in
          sym (same_rem modulus (lit< tt) (least_long +ℤ int_rem_euclid y (pos modulus)) s.0) ∙ ap (λ w. int_rem_euclid w (pos modulus)) e
      | inr s ↦
          let e : least_long +ℤ int_rem_euclid y (pos modulus) ≡ z +ℤ pos (s.0 * modulus) = (let f = s.1 in omega (arith, ints)) in
          ap (λ w. int_rem_euclid w (pos modulus)) e ∙ same_rem modulus (lit< tt) z s.0
    ]

stable : (k : IntKind) (z : ℤ) → (k ≡ Long) ⊎ (k ≡ ULong) → IsTrue (holds k z) → converted k z ≡ z
unfolding converted
stable Long z w h = rw h refl
stable ULong z w h = rw h refl
stable k z (inl e) h = absurd (cc)
stable k z (inr e) h = absurd (cc)

converted_long : (z : ℤ) → (converted Long z ≡ z) ⊎ (converted Long z ≡ wrapped Long z)
unfolding converted
converted_long z = elim (holds Long z) as (λ b. (cond b z (wrapped Long z) ≡ z) ⊎ (cond b z (wrapped Long z) ≡ wrapped Long z)) [ true ↦ inl refl | false ↦ inr refl ]

long_held : (z : ℤ) → IsTrue (holds Long (converted Long z))
unfolding converted
long_held z = elim (holds Long z) as (λ b. holds Long z ≡ b → IsTrue (holds Long (cond b z (wrapped Long z)))) [ true ↦ λ e. e | false ↦ λ e. holds_within Long (wrapped Long z) (wrapped_within Long z) ] refl

unsigned_long_held : (z : ℤ) → IsTrue (holds ULong (converted ULong z))
unfolding converted
unsigned_long_held z = elim (holds ULong z) as (λ b. holds ULong z ≡ b → IsTrue (holds ULong (cond b z (wrapped ULong z)))) [ true ↦ λ e. e | false ↦ λ e. holds_within ULong (wrapped ULong z) (wrapped_within ULong z) ] refl

small_rem : (z : ℤ) → z ≡ pos (unsigned_abs z) → unsigned_abs z < modulus → z ≡ int_rem_euclid z (pos modulus)
small_rem (pos n) e h = ap pos (sym (mod-eq_of_lt h))
small_rem (negsuc n) e h = absurd (cc)

unsigned_long_residue : (z : ℤ) → converted ULong z ≡ int_rem_euclid z (pos modulus)
unfolding converted
unsigned_long_residue z = elim (holds ULong z) as (λ b. holds ULong z ≡ b → cond b z (wrapped ULong z) ≡ int_rem_euclid z (pos modulus)) [
  | true ↦ λ e. let u = unsigned_is ULong z refl e in small_rem z u.0 u.1
  | false ↦ λ e. wrapped_unsigned_long z
] refl

long_to_unsigned : (z : ℤ) → converted ULong (converted Long z) ≡ converted ULong z
long_to_unsigned z =
    let same : int_rem_euclid (converted Long z) (pos modulus) ≡ int_rem_euclid z (pos modulus) =
    elim (converted_long z) as (λ w. int_rem_euclid (converted Long z) (pos modulus) ≡ int_rem_euclid z (pos modulus)) [
      | inl e ↦ ap (λ w. int_rem_euclid w (pos modulus)) e
      | inr e ↦ ap (λ w. int_rem_euclid w (pos modulus)) e ∙ wrapped_long z
    ] in
    unsigned_long_residue (converted Long z) ∙ same ∙ sym (unsigned_long_residue z)

long_twice : (z : ℤ) → converted Long (converted Long z) ≡ converted Long z
long_twice z = stable Long (converted Long z) (inl refl) (long_held z)

unsigned_long_twice : (z : ℤ) → converted ULong (pos (unsigned_abs (converted ULong z))) ≡ converted ULong z
unsigned_long_twice z =
    let u = (unsigned_is ULong (converted ULong z) refl (unsigned_long_held z)).0 in
    ap (converted ULong) (sym u) ∙ stable ULong (converted ULong z) (inr refl) (unsigned_long_held z)

-- a result seen in one of the types, and then in the wider one, is seen in the wider one
seen_twice : (u v : Bool) (r : Option Value) → seen_as (u || v) (value_of (seen_as v r)) ≡ seen_as (u || v) r
unfolding seen_as value_of
seen_twice false false None = refl
seen_twice false false (Some x) = ap (λ z. Signed (Some z)) (long_twice x.number)
seen_twice false true None = refl
seen_twice false true (Some x) = ap (λ z. Unsigned (Some (unsigned_abs z))) (unsigned_long_twice x.number)
seen_twice true false None = refl
seen_twice true false (Some x) = ap (λ z. Unsigned (Some (unsigned_abs z))) (long_to_unsigned x.number)
seen_twice true true None = refl
seen_twice true true (Some x) = ap (λ z. Unsigned (Some (unsigned_abs z))) (unsigned_long_twice x.number)

seen_type : (u : Bool) (r : Option Value) → is_unsigned (seen_as u r) ≡ u
unfolding seen_as
seen_type false r = refl
seen_type true r = refl

or_assoc : (a b c : Bool) → (a || b) || c ≡ a || (b || c)
or_assoc true b c = refl
or_assoc false b c = refl

chosen : Option Value → Outcome → Outcome → Option Value
chosen c a b = option_and_then (λ x. cond (is_nonzero x) (value_of a) (value_of b)) c

no_value : (w : Bool) → seen_as w (value_of (seen_as false None)) ≡ seen_as w None
unfolding seen_as value_of
no_value false = refl
no_value true = refl

decided : (u : Bool) (c : Option Value) (a b : Outcome) → ending_in (decided_by u c a) b ≡ seen_as (u || is_unsigned b) (chosen c a b)
unfolding ending_in chosen
decided u None a b = no_value (u || is_unsigned b)
decided u (Some x) a b = elim (is_nonzero x) as (λ t. ending_in (cond t (Decided u a) (Open u)) b ≡ seen_as (u || is_unsigned b) (cond t (value_of a) (value_of b))) [ true ↦ refl | false ↦ refl ]

pub ending_in-followed_by : (p : Choices) (c a b : Outcome) → ending_in (followed_by p c a) b ≡ ending_in p (choice_outcome c a b)
unfolding ending_in followed_by choice_outcome chosen
ending_in-followed_by Nothing c a b = decided (is_unsigned a) (value_of c) a b
ending_in-followed_by (Open u) c a b =
    let w : Bool = is_unsigned a || is_unsigned b in
    let r : Option Value = chosen (value_of c) a b in
    decided (u || is_unsigned a) (value_of c) a b
    ∙ ap (λ t. seen_as t r) (or_assoc u (is_unsigned a) (is_unsigned b))
    ∙ sym (seen_twice u w r)
    ∙ ap (λ t. seen_as (u || t) (value_of (seen_as w r))) (sym (seen_type w r))
ending_in-followed_by (Decided u d) c a b =
    let w : Bool = is_unsigned a || is_unsigned b in
    let r : Option Value = chosen (value_of c) a b in
    ap (λ t. seen_as t (value_of d)) (or_assoc u (is_unsigned a) (is_unsigned b) ∙ ap (λ t. u || t) (sym (seen_type w r)))
