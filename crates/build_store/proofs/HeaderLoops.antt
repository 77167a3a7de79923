-- The loops over the numbers of a module: each at its first, and copies of their records.
use Rattle.std.proofs.Common.{◌≡◌, ◌≢◌, ◌∙◌, refl, sym, ap, ℕ, suc, ◌+◌, ◌<◌, Bool, true, false, cond, List, [], ◌∷◌, ◌++◌, length, map, take, get_or, set, zero, replicate, slice_get, append-nil, Some, ◌⊎◌, inl, inr, arith, true≢false, length-set}
use Rattle.std.specs.List.{AllByRecursion}
use Rattle.std.proofs.lemmas.List.{take_more, get_or-set_same, get_or-set_other}
use Rattle.std.proofs.lemmas.Bool.{cases_eq}
use Rattle.cm_outside.specs.declared.question.Record.{Record}
use Rattle.build_store.specs.Headers.{MarksEach}
use Rattle.build_store.specs.Modules.{is_in}
use Rattle.build_store.specs.Order.{new_of, with_new}
use Rattle.build_store.proofs.ListLemmas.{in_head, in_append_left, in_append_right, in_append, in_cases}
use Rattle.build_store.proofs.MemoOrder.{new_both}

-- ---- flags

pub marks_none : (n : ℕ) → MarksEach (replicate n false) []
marks_none n = record { marks = λ x less. none n x }
  where
    none : (k x : ℕ) → get_or (replicate k false) x false ≡ false
    none zero x = refl
    none (suc k) zero = refl
    none (suc k) (suc x) = none k x

pub marks_seen : (flags : List Bool) (numbers : List ℕ) (n : ℕ) → MarksEach flags numbers → n < length flags → get_or flags n false ≡ true → numbers ≡ with_new numbers (n ∷ [])
marks_seen flags numbers n m less is = sym (ap (λ b. numbers ++ cond b [] (n ∷ [])) (sym (m.marks n less) ∙ is) ∙ append-nil numbers)

pub marks_new : (flags : List Bool) (numbers : List ℕ) (n : ℕ) → MarksEach flags numbers → n < length flags → get_or flags n false ≡ false → numbers ++ (n ∷ []) ≡ with_new numbers (n ∷ [])
marks_new flags numbers n m less is = sym (ap (λ b. numbers ++ cond b [] (n ∷ [])) (sym (m.marks n less) ∙ is))

pub marks_set : (flags : List Bool) (numbers : List ℕ) (n : ℕ) → MarksEach flags numbers → n < length flags → MarksEach (set flags n true) (numbers ++ (n ∷ []))
marks_set flags numbers n m less = record { marks = λ x below. at x (omega (arith, below, length-set flags n true)) (cases_eq x n) }
  where
    there : (x : ℕ) → is_in x (x ∷ []) ≡ true
    there x = in_head x []

    apart : (x : ℕ) → x ≢ n → (b : Bool) → is_in x numbers ≡ b → is_in x (numbers ++ (n ∷ [])) ≡ b
    apart x other true is = in_append_left x numbers (n ∷ []) is
    apart x other false is = by (is_in x (numbers ++ (n ∷ []))) refl
      where
        by : (b : Bool) → is_in x (numbers ++ (n ∷ [])) ≡ b → is_in x (numbers ++ (n ∷ [])) ≡ false
        by false here = here
        by true here =
            elim (in_append x numbers (n ∷ []) here) [
              | inl old ↦ absurd (true≢false (sym old ∙ is))
              | inr new ↦ (elim (in_cases x n [] new) [ inl same ↦ absurd (other same) | inr none ↦ absurd (true≢false (sym none)) ])
            ]

    at : (x : ℕ) → x < length flags → (x ≡ n) ⊎ (x ≡ n → ⊥) → get_or (set flags n true) x false ≡ is_in x (numbers ++ (n ∷ []))
    at x below (inl same) =
        ap (λ k. get_or (set flags n true) k false) same ∙ get_or-set_same flags n true false less
        ∙ sym (in_append_right x numbers (n ∷ []) (ap (λ k. is_in x (k ∷ [])) (sym same) ∙ there x))
    at x below (inr other) = get_or-set_other flags n x true false other ∙ m.marks x below ∙ sym (apart x other (is_in x numbers) refl)

-- ---- one number more

pub each_at : {X : Type 0} (P : X → Type 0) (xs : List X) (at : ℕ) (d : X) → AllByRecursion P xs → at < length xs → P (get_or xs at d)
each_at P [] at d all less = absurd (omega arith)
each_at P (x ∷ xs) zero d all less = all.0
each_at P (x ∷ xs) (suc at) d all less = each_at P xs at d all.1 (omega arith)

pub once_more : (size : ℕ) (numbers : List ℕ) (at : ℕ) (before after : List ℕ) → at < length numbers
    → (get_or numbers at 0 < size → after ≡ with_new before (get_or numbers at 0 ∷ []))
    → (AllByRecursion (λ n. n < size) numbers → before ≡ new_of [] (take at numbers))
    → AllByRecursion (λ n. n < size) numbers → after ≡ new_of [] (take (at + 1) numbers)
once_more size numbers at before after less new old all =
    let n = get_or numbers at 0 in
    new (each_at (λ k. k < size) numbers at 0 all less)
    ∙ ap (λ seen. with_new seen (n ∷ [])) (old all)
    ∙ sym (new_both [] (take at numbers) (n ∷ []))
    ∙ ap (new_of []) (sym (take_more numbers at 0 less))

-- ---- one record more

pub record_more : (kept : List Record) (numbers : List ℕ) (at : ℕ) (before after : List Record) → at < length numbers
    → (get_or numbers at 0 < length kept → map (λ (r : Record). Some r) after ≡ map (λ (r : Record). Some r) before ++ slice_get kept (get_or numbers at 0) ∷ [])
    → (AllByRecursion (λ n. n < length kept) numbers → map (slice_get kept) (take at numbers) ≡ map (λ (r : Record). Some r) before)
    → AllByRecursion (λ n. n < length kept) numbers → map (slice_get kept) (take (at + 1) numbers) ≡ map (λ (r : Record). Some r) after
record_more kept numbers at before after less new old all =
    let n = get_or numbers at 0 in
    ap (map (slice_get kept)) (take_more numbers at 0 less)
    ∙ map_both (take at numbers) (n ∷ [])
    ∙ ap (λ rs. rs ++ slice_get kept n ∷ []) (old all)
    ∙ sym (new (each_at (λ k. k < length kept) numbers at 0 all less))
  where
    map_both : (xs ys : List ℕ) → map (slice_get kept) (xs ++ ys) ≡ map (slice_get kept) xs ++ map (slice_get kept) ys
    map_both [] ys = refl
    map_both (x ∷ xs) ys = ap (λ rs. slice_get kept x ∷ rs) (map_both xs ys)

pub all_more : {X : Type 0} (P : X → Type 0) (xs : List X) (x : X) → AllByRecursion P xs → P x → AllByRecursion P (xs ++ (x ∷ []))
all_more P [] x all last = (last, tt)
all_more P (y ∷ xs) x all last = (all.0, all_more P xs x all.1 last)

pub some_more : (rs : List Record) (r : Record) → map (λ (x : Record). Some x) (rs ++ (r ∷ [])) ≡ map (λ (x : Record). Some x) rs ++ (Some r ∷ [])
some_more [] r = refl
some_more (x ∷ rs) r = ap (λ os. Some x ∷ os) (some_more rs r)

pub pushed_record : (kept rs : List Record) (n : ℕ) (r : Record) → slice_get kept n ≡ Some r → map (λ (x : Record). Some x) (rs ++ (r ∷ [])) ≡ map (λ (x : Record). Some x) rs ++ (slice_get kept n ∷ [])
pushed_record kept rs n r there = some_more rs r ∙ ap (λ o. map (λ (x : Record). Some x) rs ++ (o ∷ [])) (sym there)
