use Rattle.std.proofs.Common.{◌≡◌, ℕ, ◌+◌, ◌<◌, List, [], ◌∷◌, length, map, sym, ap, ◌∙◌, subst, arith, get_or, String, Global, Result, Ok, Err, IfOk, string_bytes}
use Rattle.std.specs.Prelude.{IsSorted}
use Rattle.std.specs.Ordering.{nat_cmp, is_lt}
use Rattle.std.specs.Cmp.Lexicographic.{slice_cmp}
use Rattle.std.proofs.lemmas.List.{get_or-map, length-map}
use Rattle.cm_outside.specs.Caches.{InByteOrder}

spelled : (names : List (String Global)) → IsSorted (λ x y. slice_cmp nat_cmp (string_bytes x) (string_bytes y)) names → InByteOrder (map string_bytes names)
spelled [] sorted k d low high = let no : ⊥ = omega arith in absurd no
spelled (name ∷ names) sorted k d low high =
    let all : List (String Global) = name ∷ names in
    let spells : String Global → List ℕ = string_bytes in
    let last : k + 1 < length all = omega (arith, high, length-map all spells) in
    let here : k < length all = omega (arith, last) in
    ap (λ next. is_lt (slice_cmp nat_cmp next (get_or (map string_bytes all) k d))) (get_or-map string_bytes all (k + 1) name d last)
    ∙ ap (λ this. is_lt (slice_cmp nat_cmp (string_bytes (get_or all (k + 1) name)) this)) (get_or-map string_bytes all k name d here)
    ∙ sorted k name low last

-- what holds copies of texts in order, spelled as bytes, has them in byte order
pub bytes_in_order : {A E : Type 0} (items : A → List (List ℕ)) (result : Result A E) (names : List (String Global)) → IfOk result (λ texts. items texts ≡ map string_bytes names)
    → IsSorted (λ x y. slice_cmp nat_cmp (string_bytes x) (string_bytes y)) names → IfOk result (λ texts. InByteOrder (items texts))
bytes_in_order items (Ok texts) names is sorted = let F : List (List ℕ) → Type 0 = InByteOrder in subst F (sym is) (spelled names sorted)
bytes_in_order items (Err _) names is sorted = tt
