use Rattle.std.proofs.Common.{◌≡◌, ◌+◌, ◌<◌, List, [], ◌∷◌, refl, ap, ◌∙◌, arith, get_or}
use Rattle.std.specs.List.{AllByRecursion}
use Rattle.std.specs.List.Sorted.{IsStrictlySortedBy}
use Rattle.std.specs.Ordering.{nat_cmp, is_lt, ordering_reverse}
use Rattle.std.specs.declared.cmp.Ordering.{Ordering}
use Rattle.std.specs.declared.cmp.Ordering.TheVariants.{Less, Equal, Greater}
use Rattle.std.specs.Cmp.Lexicographic.{slice_cmp}
use Rattle.std.proofs.lemmas.Cmp.{nat_list_cmp_total}
use Rattle.std.proofs.lemmas.Map.Keys.{Less-from_sorted}
use Rattle.cm_outside.specs.Trees.{Files, Path, placed, with_path}
use Rattle.cm_outside.specs.Caches.{names_onto, names_in, InByteOrder}

all_map : (P Q : Path → Type 0) → ((p : Path) → P p → Q p) → (ps : List Path) → AllByRecursion P ps → AllByRecursion Q ps
all_map P Q gives [] h = tt
all_map P Q gives (p ∷ ps) h = (gives p h.0, all_map P Q gives ps h.1)

all_placed : (o : Ordering) (P : Path → Type 0) (p q : Path) (qs more : List Path) → P p → AllByRecursion P (q ∷ qs) → AllByRecursion P more → AllByRecursion P (placed o p q qs more)
all_placed Less P p q qs more new h rest = (new, h)
all_placed Equal P p q qs more new h rest = h
all_placed Greater P p q qs more new h rest = (h.0, rest)

all_with : (P : Path → Type 0) (p : Path) (qs : List Path) → P p → AllByRecursion P qs → AllByRecursion P (with_path p qs)
all_with P p [] new h = (new, tt)
all_with P p (q ∷ qs) new h = all_placed (slice_cmp nat_cmp p q) P p q qs (with_path p qs) new h (all_with P p qs new h.1)

sorted_placed : (o : Ordering) (p q : Path) (qs more : List Path) → slice_cmp nat_cmp p q ≡ o → IsStrictlySortedBy (slice_cmp nat_cmp) (q ∷ qs)
    → (slice_cmp nat_cmp q p ≡ Less → AllByRecursion (λ y. slice_cmp nat_cmp q y ≡ Less) more) → IsStrictlySortedBy (slice_cmp nat_cmp) more
    → IsStrictlySortedBy (slice_cmp nat_cmp) (placed o p q qs more)
unfolding IsStrictlySortedBy
sorted_placed Less p q qs more is s above rest =
    ((is, all_map (λ y. slice_cmp nat_cmp q y ≡ Less) (λ y. slice_cmp nat_cmp p y ≡ Less) (λ y below. nat_list_cmp_total.trans p q y is below) qs s.0), s)
sorted_placed Equal p q qs more is s above rest = s
sorted_placed Greater p q qs more is s above rest = (above (nat_list_cmp_total.antisymm q p ∙ ap ordering_reverse is), rest)

sorted_with : (p : Path) (qs : List Path) → IsStrictlySortedBy (slice_cmp nat_cmp) qs → IsStrictlySortedBy (slice_cmp nat_cmp) (with_path p qs)
unfolding IsStrictlySortedBy
sorted_with p [] s = (tt, tt)
sorted_with p (q ∷ qs) s =
    sorted_placed (slice_cmp nat_cmp p q) p q qs (with_path p qs) refl s (λ less. all_with (λ y. slice_cmp nat_cmp q y ≡ Less) p qs less s.0) (sorted_with p qs s.1)

sorted_onto : (names : List Path) (files : Files) → IsStrictlySortedBy (slice_cmp nat_cmp) names → IsStrictlySortedBy (slice_cmp nat_cmp) (names_onto names files)
sorted_onto names [] s = s
sorted_onto names (f ∷ files) s = sorted_onto (with_path f.0 names) files (sorted_with f.0 names s)

none_sorted : IsStrictlySortedBy (slice_cmp nat_cmp) []
unfolding IsStrictlySortedBy
none_sorted = tt

-- the names of files are in byte order
pub names_in_order : (files : Files) → InByteOrder (names_in files)
names_in_order files = λ k d low high.
    let next : k < k + 1 = omega arith in
    ap is_lt (nat_list_cmp_total.antisymm (get_or (names_in files) (k + 1) d) (get_or (names_in files) k d) ∙ ap ordering_reverse (Less-from_sorted (slice_cmp nat_cmp) (names_in files) k (k + 1) d (sorted_onto [] files none_sorted) next high))
