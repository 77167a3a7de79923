-- Sets as words of bits: what a set of no bits, a bit more and the OR of two sets are as flags.
use Rattle.std.proofs.Common.{◌≡◌, ◌∙◌, refl, sym, ap, ℕ, zero, suc, ◌+◌, ◌*◌, ◌/◌, ◌%◌, ◌^◌, ◌<◌, ◌≤◌, inl, inr, Bool, true, false, ◌||◌, List, length, get_or, set, replicate, min, max, eqb, eq-eqb, arith, ext_get_or, length-set, get_or-set_same, get_or-set_other, w64}
use Rattle.std.specs.Prelude.{bit_and, bit_or}
use Rattle.std.specs.Int.{bit_at, div_ceil}
use Rattle.std.proofs.lemmas.Bool.{cases_eq}
use Rattle.std.proofs.lemmas.Grind.{div_ceil_times}
use Rattle.std.proofs.lemmas.List.{length-replicate, get_or_past}
use Rattle.std.proofs.lemmas.Nat.Bits.{shr_and_one, bit_at-zero, bit_at-lt, bit_at_or, bit_at_set_same, bit_at_set_other}
use Rattle.export_closure.specs.Flags.{has, none, union}
use Rattle.export_closure.specs.Bits.{has_bit, flags_of}
use Rattle.export_closure.proofs.FlagLemmas.{has_flags, has_none, has_union, length_flags, length_union}

pub length_flags_of : (words : List ℕ) (size : ℕ) → length (flags_of words size) ≡ size
unfolding flags_of
length_flags_of words size = length_flags size (has_bit words)

pub has_flags_of : (words : List ℕ) (size at : ℕ) → at < size → has (flags_of words size) at ≡ has_bit words at
unfolding flags_of
has_flags_of words size at within = has_flags size (has_bit words) at within

pub has_past : (words : List ℕ) (size at : ℕ) → size ≤ at → has (flags_of words size) at ≡ false
has_past words size at past = get_or_past (flags_of words size) at false (omega (arith, past, length_flags_of words size))

-- a set has a word for each of its submodules
pub word_there : (words : List ℕ) (size at : ℕ) → length words ≡ div_ceil size 64 → at < size → at / 64 < length words
word_there words size at long within =
    let most = div_ceil_times size 64 (omega arith) in
    let many : length words ≡ size / 64 + min 1 (size % 64) = long in
    omega (arith, within, many, most.0)

-- sets for one number of submodules have as many words
pub alike : (first theirs : List ℕ) (size other : ℕ) (a b : List Bool) → flags_of first size ≡ a → flags_of theirs other ≡ b → length b ≡ length a
    → length first ≡ div_ceil size 64 → length theirs ≡ div_ceil other 64 → (other ≡ size) × (length theirs ≡ length first)
alike first theirs size other a b is_first is_theirs same long wide =
    let one : other ≡ size = sym (length_flags_of theirs other) ∙ ap length is_theirs ∙ same ∙ sym (ap length is_first) ∙ length_flags_of first size in
    (one, wide ∙ ap (λ n. div_ceil n 64) one ∙ sym long)

-- the test `word >> at & 1 == 1`
pub has_shifted : (words : List ℕ) (size at word : ℕ) → at < size → word ≡ get_or words (at / 64) 0
    → eqb (bit_and (word / 2 ^ (at % 64)) 1) 1 ≡ has (flags_of words size) at
has_shifted words size at word within read =
    ap (λ x. eqb x 1) (shr_and_one word (at % 64)) ∙ ap (λ x. eqb (bit_at x (at % 64)) 1) read ∙ sym (has_flags_of words size at within)

-- ---- no bits

zero_word : (n k : ℕ) → get_or (replicate {A = ℕ} n 0) k 0 ≡ 0
zero_word zero k = refl
zero_word (suc n) zero = refl
zero_word (suc n) (suc k) = zero_word n k

no_bit : (n at : ℕ) → has_bit (replicate n 0) at ≡ false
no_bit n at = ap (λ word. eqb (bit_at word (at % 64)) 1) (zero_word n (at / 64)) ∙ ap (λ bit. eqb bit 1) (bit_at-zero (at % 64))

pub flags_of_zeros : (n size : ℕ) → flags_of (replicate n 0) size ≡ none size
flags_of_zeros n size =
    ext_get_or false (flags_of (replicate n 0) size) (none size) (length_flags_of (replicate n 0) size ∙ sym (length-replicate size false))
    (λ at within.
    has_flags_of (replicate n 0) size at (omega (arith, within, length_flags_of (replicate n 0) size))
    ∙ no_bit n at ∙ sym (has_none size at))

-- ---- a bit more

put_here : (words : List ℕ) (at word : ℕ) → at / 64 < length words → has_bit (set words (at / 64) (bit_or word (1 * 2 ^ (at % 64) % 2 ^ 64))) at ≡ true
put_here words at word there =
    ap (λ x. eqb (bit_at x (at % 64)) 1) (get_or-set_same words (at / 64) (bit_or word (1 * 2 ^ (at % 64) % 2 ^ 64)) 0 there)
    ∙ eq-eqb _ 1 (bit_at_set_same w64 word (at % 64) (omega arith))

put_there : (words : List ℕ) (at word k : ℕ) → at / 64 < length words → word ≡ get_or words (at / 64) 0 → (k ≡ at → ⊥)
    → has_bit (set words (at / 64) (bit_or word (1 * 2 ^ (at % 64) % 2 ^ 64))) k ≡ has_bit words k
put_there words at word k there read other =
    let joined : ℕ = bit_or word (1 * 2 ^ (at % 64) % 2 ^ 64) in
    elim (cases_eq (k / 64) (at / 64)) as (λ _. has_bit (set words (at / 64) joined) k ≡ has_bit words k) [
      | inl same ↦
          ap (λ x. eqb (bit_at (get_or (set words (at / 64) joined) x 0) (k % 64)) 1) same
          ∙ ap (λ x. eqb (bit_at x (k % 64)) 1) (get_or-set_same words (at / 64) joined 0 there)
          ∙ ap (λ x. eqb x 1) (bit_at_set_other w64 word (at % 64) (omega arith) (k % 64) (omega arith))
          ∙ ap (λ x. eqb (bit_at x (k % 64)) 1) (read ∙ ap (λ x. get_or words x 0) (sym same))
      | inr apart ↦ ap (λ x. eqb (bit_at x (k % 64)) 1) (get_or-set_other words (at / 64) (k / 64) joined 0 apart)
    ]

pub flags_of_put : (words : List ℕ) (size at word : ℕ) → at < size → at / 64 < length words → word ≡ get_or words (at / 64) 0
    → flags_of (set words (at / 64) (bit_or word (1 * 2 ^ (at % 64) % 2 ^ 64))) size ≡ set (flags_of words size) at true
flags_of_put words size at word within there read =
    let joined : List ℕ = set words (at / 64) (bit_or word (1 * 2 ^ (at % 64) % 2 ^ 64)) in
    let flags : List Bool = flags_of words size in
    let long : length flags ≡ size = length_flags_of words size in
    ext_get_or false (flags_of joined size) (set flags at true)
    (length_flags_of joined size ∙ sym (length-set flags at true ∙ long))
    (λ k below.
    let inside : k < size = omega (arith, below, length_flags_of joined size) in
    has_flags_of joined size k inside
    ∙ (elim (cases_eq k at) as (λ _. has_bit joined k ≡ get_or (set flags at true) k false) [
      | inl same ↦
          ap (has_bit joined) same ∙ put_here words at word there
          ∙ sym (ap (λ x. get_or (set flags at true) x false) same ∙ get_or-set_same flags at true false (omega (arith, within, long)))
      | inr other ↦ put_there words at word k there read other ∙ sym (get_or-set_other flags at k true false other ∙ has_flags_of words size k inside)
    ]))

-- ---- the OR of two sets

-- of the words of a set those below `at` are joined with the words of another one
pub record AreJoined (first theirs now : List ℕ) (at : ℕ) : Type 0 where
  pub size : length now ≡ length first
  pub joined : (k : ℕ) → k < at → get_or now k 0 ≡ bit_or (get_or first k 0) (get_or theirs k 0)
  pub rest : (k : ℕ) → at ≤ k → get_or now k 0 ≡ get_or first k 0

pub joined_none : (first theirs : List ℕ) → AreJoined first theirs first 0
joined_none first theirs = record {
  size = refl;
  joined = λ k below. absurd (omega arith);
  rest = λ k above. refl;
}

pub joined_more : (first theirs now : List ℕ) (at mine word : ℕ) → at < length first → mine ≡ get_or now at 0 → word ≡ get_or theirs at 0
    → AreJoined first theirs now at → AreJoined first theirs (set now at (bit_or mine word)) (at + 1)
joined_more first theirs now at mine word within is_mine is_word before =
    let joined : ℕ = bit_or mine word in
    record {
      size = length-set now at joined ∙ before.size;
      joined = λ k below.
          elim (cases_eq k at) as (λ _. get_or (set now at joined) k 0 ≡ bit_or (get_or first k 0) (get_or theirs k 0)) [
            | inl same ↦
                ap (λ x. get_or (set now at joined) x 0) same
                ∙ get_or-set_same now at joined 0 (omega (arith, within, before.size))
                ∙ ap (λ x. bit_or x word) (is_mine ∙ before.rest at (omega arith)) ∙ ap (bit_or (get_or first at 0)) is_word
                ∙ sym (ap (λ x. bit_or (get_or first x 0) (get_or theirs x 0)) same)
            | inr other ↦ get_or-set_other now at k joined 0 other ∙ before.joined k (omega arith)
          ];
      rest = λ k above. get_or-set_other now at k joined 0 (λ same. omega arith) ∙ before.rest k (omega arith);
    }

one_of_two : (a b : ℕ) → a < 2 → b < 2 → eqb (max a b) 1 ≡ (eqb a 1 || eqb b 1)
one_of_two zero zero low high = refl
one_of_two zero (suc zero) low high = refl
one_of_two (suc zero) zero low high = refl
one_of_two (suc zero) (suc zero) low high = refl
one_of_two (suc (suc a)) b low high = absurd (omega arith)
one_of_two a (suc (suc b)) low high = absurd (omega arith)

pub flags_of_joined : (first theirs now : List ℕ) (at size : ℕ) → AreJoined first theirs now at → ((k : ℕ) → k < size → k / 64 < at)
    → flags_of now size ≡ union (flags_of first size) (flags_of theirs size)
flags_of_joined first theirs now at size joined all =
    let mine : List Bool = flags_of first size in
    let others : List Bool = flags_of theirs size in
    let long : length mine ≡ size = length_flags_of first size in
    ext_get_or false (flags_of now size) (union mine others)
    (length_flags_of now size ∙ sym (length_union mine others ∙ long))
    (λ k below.
    let inside : k < size = omega (arith, below, length_flags_of now size) in
    has_flags_of now size k inside
    ∙ ap (λ x. eqb (bit_at x (k % 64)) 1) (joined.joined (k / 64) (all k inside))
    ∙ ap (λ x. eqb x 1) (bit_at_or (get_or first (k / 64) 0) (get_or theirs (k / 64) 0) (k % 64))
    ∙ one_of_two (bit_at (get_or first (k / 64) 0) (k % 64)) (bit_at (get_or theirs (k / 64) 0) (k % 64)) (bit_at-lt (get_or first (k / 64) 0) (k % 64)) (bit_at-lt (get_or theirs (k / 64) 0) (k % 64))
    ∙ sym (has_union mine others k (long ∙ sym (length_flags_of theirs size))
    ∙ ap (λ x. x || has others k) (has_flags_of first size k inside) ∙ ap (λ x. has_bit first k || x) (has_flags_of theirs size k inside)))
