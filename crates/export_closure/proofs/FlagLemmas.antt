-- Sets of flags: their members, unions and counts, and rounds that settle.
use Rattle.std.proofs.Common.{◌≡◌, ◌∙◌, refl, sym, ap, subst, ℕ, zero, suc, ◌+◌, ◌<◌, ◌≤◌, Bool, true, false, ◌||◌, ◌⊎◌, inl, inr, List, [], ◌∷◌, length, set, take, arith, true≢false, ext_get_or, add-one}
use Rattle.std.proofs.lemmas.Bool.{or_cases, or_left}
use Rattle.std.proofs.lemmas.List.FromFn.{get_or-map-range_with_len, length-map-range_with_len}
use Rattle.export_closure.specs.Flags.{has, flags, none, union, rounds, count}

-- ---- members

pub has_within : (xs : List Bool) (at : ℕ) → has xs at ≡ true → at < length xs
has_within [] at e = absurd (true≢false (sym e))
has_within (x ∷ xs) zero e = omega arith
has_within (x ∷ xs) (suc at) e = let rest = has_within xs at e in omega arith

pub has_flags : (n : ℕ) (test : ℕ → Bool) (at : ℕ) → at < n → has (flags n test) at ≡ test at
has_flags n test at within = get_or-map-range_with_len test 0 n at at false within (omega arith)

pub length_flags : (n : ℕ) (test : ℕ → Bool) → length (flags n test) ≡ n
length_flags n test = length-map-range_with_len test 0 n

pub has_none : (n at : ℕ) → has (none n) at ≡ false
has_none zero at = refl
has_none (suc n) zero = refl
has_none (suc n) (suc at) = has_none n at

pub count_none : (n : ℕ) → count (none n) ≡ 0
count_none zero = refl
count_none (suc n) = count_none n

-- sets with the same members are the same
both : (x y : Bool) → (x ≡ true → y ≡ true) → (y ≡ true → x ≡ true) → x ≡ y
both true y to back = sym (to refl)
both false true to back = back refl
both false false to back = refl

pub same_sets : (a b : List Bool) → length a ≡ length b → ((at : ℕ) → has a at ≡ true → has b at ≡ true) → ((at : ℕ) → has b at ≡ true → has a at ≡ true) → a ≡ b
same_sets a b long to back = ext_get_or false a b long (λ at within. both (has a at) (has b at) (to at) (back at))

-- ---- unions

pub length_union : (a b : List Bool) → length (union a b) ≡ length a
length_union [] b = refl
length_union (x ∷ xs) [] = refl
length_union (x ∷ xs) (y ∷ ys) = ap suc (length_union xs ys)

pub has_union : (a b : List Bool) (at : ℕ) → length a ≡ length b → has (union a b) at ≡ (has a at || has b at)
has_union [] [] at long = refl
has_union [] (y ∷ ys) at long = absurd (omega arith)
has_union (x ∷ xs) [] at long = absurd (omega arith)
has_union (x ∷ xs) (y ∷ ys) zero long = refl
has_union (x ∷ xs) (y ∷ ys) (suc at) long = has_union xs ys at (omega arith)

pub union_either : (a b : List Bool) (at : ℕ) → has (union a b) at ≡ true → (has a at ≡ true) ⊎ (has b at ≡ true)
union_either [] b at e = inl e
union_either (x ∷ xs) [] at e = inl e
union_either (x ∷ xs) (y ∷ ys) zero e = or_cases x y e
union_either (x ∷ xs) (y ∷ ys) (suc at) e = union_either xs ys at e

pub union_keeps : (a b : List Bool) (at : ℕ) → has a at ≡ true → has (union a b) at ≡ true
union_keeps [] b at e = e
union_keeps (x ∷ xs) [] at e = e
union_keeps (x ∷ xs) (y ∷ ys) zero e = or_left x y e
union_keeps (x ∷ xs) (y ∷ ys) (suc at) e = union_keeps xs ys at e

-- ---- counts

pub count_within : (xs : List Bool) → count xs ≤ length xs
count_within [] = omega arith
count_within (true ∷ xs) = let rest = count_within xs in omega arith
count_within (false ∷ xs) = let rest = count_within xs in omega arith

pub count_put : (xs : List Bool) (at : ℕ) → at < length xs → has xs at ≡ false → count (set xs at true) ≡ count xs + 1
count_put [] at within e = absurd (omega arith)
count_put (true ∷ xs) zero within e = absurd (true≢false e)
count_put (false ∷ xs) zero within e = refl
count_put (true ∷ xs) (suc at) within e = ap (λ n. n + 1) (count_put xs at (omega arith) e)
count_put (false ∷ xs) (suc at) within e = count_put xs at (omega arith) e

-- a set that another one adds to has one more at least
grows_at : (x y : Bool) (xs us : List Bool) → (us ≡ xs) ⊎ (count xs + 1 ≤ count us) → ((x || y) ∷ us ≡ x ∷ xs) ⊎ (count (x ∷ xs) + 1 ≤ count ((x || y) ∷ us))
grows_at true y xs us (inl e) = inl (ap (λ t. true ∷ t) e)
grows_at true y xs us (inr h) = inr (omega arith)
grows_at false false xs us (inl e) = inl (ap (λ t. false ∷ t) e)
grows_at false false xs us (inr h) = inr h
grows_at false true xs us (inl e) = inr (let same : count us ≡ count xs = ap count e in omega arith)
grows_at false true xs us (inr h) = inr (omega arith)

grows : (a b : List Bool) → (union a b ≡ a) ⊎ (count a + 1 ≤ count (union a b))
grows [] b = inl refl
grows (x ∷ xs) [] = inl refl
grows (x ∷ xs) (y ∷ ys) = grows_at x y xs (union xs ys) (grows xs ys)

-- nothing is added to a set that has all
full : (a b : List Bool) → length a ≤ count a → union a b ≡ a
full [] b h = refl
full (x ∷ xs) [] h = refl
full (true ∷ xs) (y ∷ ys) h = ap (λ t. true ∷ t) (full xs ys (omega arith))
full (false ∷ xs) (y ∷ ys) h = absurd (let most = count_within xs in omega arith)

-- ---- rounds

module _ (more : List Bool → List Bool) where
  Settled : List Bool → Type 0
  Settled now = union now (more now) ≡ now

  stays : (now : List Bool) → union now (more now) ≡ now → let after = union now (more now) in union after (more after) ≡ after
  stays now e = let P : List Bool → Type 0 = λ s. union s (more s) ≡ s in subst P (sym e) e

  next : (n : ℕ) (now : List Bool) → (union now (more now) ≡ now) ⊎ (count now + 1 ≤ count (union now (more now))) → (union now (more now) ≡ now) ⊎ (n ≤ count now)
      → let after = union now (more now) in (union after (more after) ≡ after) ⊎ (suc n ≤ count after)
  next n now (inl same) h = inl (stays now same)
  next n now (inr grown) (inl same) = inl (stays now same)
  next n now (inr grown) (inr h) = inr (omega arith)

  settled_or_many : (n : ℕ) (start : List Bool) → let now = rounds more n start in (union now (more now) ≡ now) ⊎ (n ≤ count now)
  settled_or_many zero start = inr (omega arith)
  settled_or_many (suc n) start = next n (rounds more n start) (grows (rounds more n start) (more (rounds more n start))) (settled_or_many n start)

  pub length_rounds : (n : ℕ) (start : List Bool) → length (rounds more n start) ≡ length start
  length_rounds zero start = refl
  length_rounds (suc n) start = length_union (rounds more n start) (more (rounds more n start)) ∙ length_rounds n start

  settled_from : (now : List Bool) (n : ℕ) → length now ≡ n → (union now (more now) ≡ now) ⊎ (n ≤ count now) → union now (more now) ≡ now
  settled_from now n long (inl same) = same
  settled_from now n long (inr h) = full now (more now) (omega arith)

  pub settled : (n : ℕ) (start : List Bool) → length start ≡ n → let now = rounds more n start in union now (more now) ≡ now
  settled n start long = settled_from (rounds more n start) n (length_rounds n start ∙ long) (settled_or_many n start)

  pub rounds_settle : (start : List Bool) → rounds more (length start + 1) start ≡ rounds more (length start) start
  rounds_settle start = ap (λ n. rounds more n start) (add-one (length start)) ∙ settled (length start) start refl

  pub rounds_keep : (n : ℕ) (start : List Bool) (at : ℕ) → has start at ≡ true → has (rounds more n start) at ≡ true
  rounds_keep zero start at e = e
  rounds_keep (suc n) start at e = union_keeps (rounds more n start) (more (rounds more n start)) at (rounds_keep n start at e)

  -- what is closed under `more` has all that the rounds give
  pub rounds_within : (n : ℕ) (start all : List Bool) → ((at : ℕ) → has start at ≡ true → has all at ≡ true)
      → ((now : List Bool) → ((at : ℕ) → has now at ≡ true → has all at ≡ true) → (at : ℕ) → has (more now) at ≡ true → has all at ≡ true)
      → (at : ℕ) → has (rounds more n start) at ≡ true → has all at ≡ true
  rounds_within zero start all begin step at e = begin at e
  rounds_within (suc n) start all begin step at e =
      let before = rounds_within n start all begin step in
      elim (union_either (rounds more n start) (more (rounds more n start)) at e) [ inl h ↦ before at h | inr h ↦ step (rounds more n start) before at h ]

-- ---- a union by one flag after the other

union_nothing : (xs : List Bool) → union xs [] ≡ xs
union_nothing [] = refl
union_nothing (x ∷ xs) = refl

pub union_take_none : (a b : List Bool) → union a (take 0 b) ≡ a
union_take_none a b = union_nothing a

pub union_more : (a b : List Bool) (at : ℕ) → at < length b → length b ≡ length a
    → union a (take (suc at) b) ≡ set (union a (take at b)) at (has (union a (take at b)) at || has b at)
union_more a [] at within long = absurd (omega arith)
union_more [] (y ∷ ys) at within long = absurd (omega arith)
union_more (x ∷ xs) (y ∷ ys) zero within long = ap (λ t. (x || y) ∷ t) (union_nothing xs)
union_more (x ∷ xs) (y ∷ ys) (suc at) within long = ap (λ t. (x || y) ∷ t) (union_more xs ys at (omega arith) (omega arith))
