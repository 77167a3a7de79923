-- What a table of places says of one place, and of a list with one place more.
use Rattle.std.proofs.Common.{◌≡◌, ℕ, zero, suc, ◌+◌, ◌-◌, ◌<◌, ◌≤◌, List, [], ◌∷◌, ◌++◌, length, get_or, refl, sym, ap, ◌∙◌, subst, arith, length-append, leb, leb-true, true, false, cond, add-one, min, eqb, ◌&&◌, ◌⊎◌, inl, inr}
use Rattle.std.proofs.lemmas.Bool.Decides.{nat_tests}
use Rattle.std.proofs.lemmas.Bool.{leb-false}
use Rattle.std.proofs.lemmas.List.{get_or_append_left}
use Rattle.std.proofs.Math.Seq.{get_or-append_seam}
use Rattle.std.specs.List.Sorted.{IsPartitionPoint}
use Rattle.cm_source.specs.declared.position.Position.{Position}
use Rattle.cm_source.specs.declared.places.Run.{Run}
use Rattle.cm_source.specs.Places.{start, shifted}
use Rattle.cm_source.specs.Runs.{located, tabulated, places_of, AreRuns}

pub length-tabulated : (f : ℕ → Position) (n : ℕ) → length (tabulated f n) ≡ n
length-tabulated f zero = refl
length-tabulated f (suc n) = length-append (tabulated f n) (f n ∷ []) ∙ ap (λ k. k + 1) (length-tabulated f n) ∙ add-one n

get_or-tabulated_last : (f : ℕ → Position) (n : ℕ) (d : Position) → get_or (tabulated f n ++ f n ∷ []) n d ≡ f n
get_or-tabulated_last f n d =
    subst (λ k. get_or (tabulated f n ++ f n ∷ []) k d ≡ f n) (length-tabulated f n) (get_or-append_seam (tabulated f n) (f n) [] d)

pub get_or-tabulated : (f : ℕ → Position) (n i : ℕ) (d : Position) → i < n → get_or (tabulated f n) i d ≡ f i
get_or-tabulated f zero i d h = absurd (omega arith)
get_or-tabulated f (suc n) i d h =
    elim (leb n i) as (λ b. leb n i ≡ b → get_or (tabulated f n ++ f n ∷ []) i d ≡ f i) [
      | true ↦ λ e. let same : n ≡ i = grind (arith, nat_tests) in
          subst (λ k. get_or (tabulated f n ++ f n ∷ []) k d ≡ f k) same (get_or-tabulated_last f n d)
      | false ↦ λ e. let below : i < n = grind (arith, nat_tests) in
          get_or_append_left (tabulated f n) (f n ∷ []) d i (subst (λ k. i < k) (sym (length-tabulated f n)) below) ∙ get_or-tabulated f n i d below
    ] refl

pub tabulated-same : (f g : ℕ → Position) (n : ℕ) → ((i : ℕ) → i < n → f i ≡ g i) → tabulated f n ≡ tabulated g n
tabulated-same f g zero h = refl
tabulated-same f g (suc n) h =
    let front = tabulated-same f g n (λ i below. h i (omega arith)) in
    let last = h n (omega arith) in
    cc

pub located-push : (rs : List Run) (p : Position) (r : Run) (at : ℕ) → located p (rs ++ r ∷ []) at ≡ cond (leb r.from at) (shifted r.first (at - r.from)) (located p rs at)
located-push [] p r at = refl
located-push (x ∷ rs) p r at = located-push rs _ r at

chosen_later : (p : Position) (r : Run) (at : ℕ) → at < r.from → cond (leb r.from at) (shifted r.first (at - r.from)) p ≡ p
chosen_later p r at h = grind (arith, nat_tests)

chosen_here : (p : Position) (r : Run) (at : ℕ) → r.from ≤ at → cond (leb r.from at) (shifted r.first (at - r.from)) p ≡ shifted r.first (at - r.from)
chosen_here p r at h = grind (arith, nat_tests)

pub located-later : (rs : List Run) (p : Position) (at : ℕ) → ((j : ℕ) (d : Run) → j < length rs → at < (get_or rs j d).from) → located p rs at ≡ p
located-later [] p at h = refl
located-later (r ∷ rs) p at h =
    located-later rs _ at (λ j d below. h (suc j) d (omega arith)) ∙ chosen_later p r at (h 0 r (omega arith))

pub located-at : (rs : List Run) (k : ℕ) (p : Position) (at : ℕ) (d : Run) → k < length rs → (get_or rs k d).from ≤ at → ((j : ℕ) (e : Run) → k < j → j < length rs → at < (get_or rs j e).from) → located p rs at ≡ shifted (get_or rs k d).first (at - (get_or rs k d).from)
located-at [] k p at d within here later = absurd (omega arith)
located-at (r ∷ rs) zero p at d within here later =
    located-later rs _ at (λ j e below. later (suc j) e (omega arith) (omega arith)) ∙ chosen_here p r at here
located-at (r ∷ rs) (suc k) p at d within here later =
    located-at rs k _ at d (omega arith) here (λ j e above below. later (suc j) e (omega arith) (omega arith))

-- a table with a run at its end
pub places_of-push : (rs : List Run) (n : ℕ) (p : Position) → places_of (rs ++ record { from = n; first = p } ∷ []) (n + 1) ≡ places_of rs n ++ shifted p 0 ∷ []
unfolding places_of
places_of-push rs n p =
    let r : Run = record { from = n; first = p } in
    let same = tabulated-same (located start (rs ++ r ∷ [])) (located start rs) n (λ i below. located-push rs start r i ∙ chosen_later (located start rs i) r i below) in
    let zero_more : n - n ≡ 0 = omega arith in
    let last : located start (rs ++ r ∷ []) n ≡ shifted p 0 = located-push rs start r n ∙ chosen_here (located start rs n) r n (omega arith) ∙ ap (λ k. shifted p k) zero_more in
    rw add-one (cc)

-- a table whose last run goes on
pub places_of-more : (rs : List Run) (n : ℕ) → places_of rs (n + 1) ≡ places_of rs n ++ located start rs n ∷ []
unfolding places_of
places_of-more rs n = rw add-one refl

pub length-places_of : (rs : List Run) (n : ℕ) → length (places_of rs n) ≡ n
unfolding places_of
length-places_of rs n = length-tabulated (located start rs) n

pub get_or-places_of : (rs : List Run) (n at : ℕ) (d : Position) → at < n → get_or (places_of rs n) at d ≡ located start rs at
unfolding places_of
get_or-places_of rs n at d h = get_or-tabulated (located start rs) n at d h

-- the place that a run begins with
pub shifted-zero : (p : Position) → p.column ≤ 4294967295 → shifted p 0 ≡ p
shifted-zero p h =
    let same : min (p.column + 0) 4294967295 ≡ p.column = omega arith in
    let at : ℕ → Position = λ column. record { line = p.line; column = column } in
    ap at same

-- where the last run goes on
pub located-last : (rs : List Run) (n : ℕ) (r : Run) → 0 < length rs → r ≡ get_or rs (length rs - 1) r → r.from ≤ n → located start rs n ≡ shifted r.first (n - r.from)
located-last rs n r some is below =
    let here = subst (λ x. x.from ≤ n) is below in
    located-at rs (length rs - 1) start n r (omega arith) here (λ j e above within. absurd (omega arith)) ∙ ap (λ x. shifted x.first (n - x.from)) (sym is)

pub AreRuns-more : (rs : List Run) (n : ℕ) → AreRuns rs n → 0 < length rs → AreRuns rs (n + 1)
AreRuns-more rs n runs some = record {
  ascending = runs.ascending;
  first = λ d _. (some, (runs.first d (omega (arith, runs.below 0 d some))).1);
  below = λ i d within. omega (arith, runs.below i d within);
}

from_push : (rs : List Run) (r d : Run) (i : ℕ) → i < length rs + 1 → ((i < length rs) × (get_or (rs ++ r ∷ []) i d ≡ get_or rs i d)) ⊎ ((i ≡ length rs) × (get_or (rs ++ r ∷ []) i d ≡ r))
from_push rs r d i h =
    elim (leb (length rs) i) as (λ b. leb (length rs) i ≡ b → ((i < length rs) × (get_or (rs ++ r ∷ []) i d ≡ get_or rs i d)) ⊎ ((i ≡ length rs) × (get_or (rs ++ r ∷ []) i d ≡ r))) [
      | true ↦ λ e. let same : i ≡ length rs = grind (arith, nat_tests) in
          inr (same, rw same (get_or-append_seam rs r [] d))
      | false ↦ λ e. let below : i < length rs = grind (arith, nat_tests) in
          inl (below, get_or_append_left rs (r ∷ []) d i below)
    ] refl

-- a table without runs has no places
empty_before : (rs : List Run) (n : ℕ) → AreRuns rs n → length rs ≡ 0 → n ≡ 0
empty_before rs n runs empty =
    elim (leb 1 n) as (λ b. leb 1 n ≡ b → n ≡ 0) [
      | true ↦ λ e. let some : 0 < n = leb-true 1 n e in
          absurd (omega (arith, (runs.first (record { from = 0; first = start }) some).0))
      | false ↦ λ e. grind (arith, nat_tests)
    ] refl

pub AreRuns-push : (rs : List Run) (n : ℕ) (p : Position) → AreRuns rs n → AreRuns (rs ++ record { from = n; first = p } ∷ []) (n + 1)
AreRuns-push rs n p runs =
    let r : Run = record { from = n; first = p } in
    let more = length-append rs (r ∷ []) in
    record {
      ascending = λ i j d low within.
          let inside : j < length rs + 1 = omega arith in
          elim (from_push rs r d j inside) [
            | inl old ↦
                let front : i < length rs = omega (arith, old.0) in
                rw (get_or_append_left rs (r ∷ []) d i front, old.1) (runs.ascending i j d low old.0)
            | inr new ↦ rw new.1 (elim (from_push rs r d i (omega arith)) [
              | inl old ↦ let below = runs.below i d old.0 in rw old.1 (omega arith)
              | inr last ↦ rw last.1 (omega arith)
            ])
          ];
      first = λ d _. (
        omega arith,
        elim (from_push rs r d 0 (omega arith)) [
          | inl old ↦ rw old.1 (runs.first d (omega (arith, runs.below 0 d old.0))).1
          | inr new ↦ rw new.1 (empty_before rs n runs (sym new.0))
        ],
      );
      below = λ i d within. elim (from_push rs r d i (omega arith)) [
        | inl old ↦ rw old.1 (omega (arith, runs.below i d old.0))
        | inr new ↦ rw new.1 (omega arith)
      ];
    }

-- what the search in a table finds
pub record Found (rs : List Run) (at k : ℕ) : Type 0 where
  pub some : 1 ≤ k
  pub within : k ≤ length rs
  pub here : (d : Run) → (get_or rs (k - 1) d).from ≤ at
  pub place : (d : Run) → located start rs at ≡ shifted (get_or rs (k - 1) d).first (at - (get_or rs (k - 1) d).from)

-- place number 0 is that of the first run, so a run begins at or before each place
found_some : (rs : List Run) (n at k : ℕ) → AreRuns rs n → at < n → IsPartitionPoint (λ (r : Run). leb r.from at ≡ true) (λ (r : Run). leb r.from at ≡ false) rs k → 1 ≤ k
found_some rs n at k runs below point =
    let d : Run = record { from = 0; first = start } in
    let first = runs.first d (omega arith) in
    elim (leb 1 k) as (λ b. leb 1 k ≡ b → 1 ≤ k) [
      | true ↦ λ e. leb-true 1 k e
      | false ↦ λ e. let none : k ≡ 0 = grind (arith, nat_tests) in
          let later = leb-false _ _ (point.1 0 d (omega arith) first.0) in
          absurd (omega (arith, later, first.1))
    ] refl

pub found : (rs : List Run) (n at k : ℕ) → AreRuns rs n → at < n → k ≤ length rs → IsPartitionPoint (λ (r : Run). leb r.from at ≡ true) (λ (r : Run). leb r.from at ≡ false) rs k → Found rs at k
found rs n at k runs below within point =
    let some : 1 ≤ k = found_some rs n at k runs below point in
    let here : (d : Run) → (get_or rs (k - 1) d).from ≤ at = λ d. leb-true _ _ (point.0 (k - 1) d (omega arith) (omega arith)) in
    record {
      some = some;
      within = within;
      here = here;
      place = λ d. located-at rs (k - 1) start at d (omega arith) (here d)
          (λ j e above inside. leb-false _ _ (point.1 j e (omega arith) inside));
    }

pub same_position : (p q : Position) → (eqb p.line q.line && eqb p.column q.column) ≡ true → p ≡ q
same_position p q h =
    let lines : p.line ≡ q.line = grind (arith, nat_tests) in
    let columns : p.column ≡ q.column = grind (arith, nat_tests) in
    let make : ℕ → ℕ → Position = λ line column. record { line = line; column = column } in
    ap (λ l. make l p.column) lines ∙ ap (λ k. make q.line k) columns
