-- The closure is the least set that has the imported submodule and with each submodule what that one shows.
use Rattle.std.proofs.Common.{◌≡◌, ◌∙◌, refl, sym, ap, ℕ, zero, suc, ◌+◌, ◌<◌, ◌≤◌, Bool, true, ◌&&◌, inl, inr, List, length, ◌==◌, arith, true≢false, eq-eqb, eqb-true}
use Rattle.std.specs.List.{list_any, range_with_len}
use Rattle.std.proofs.lemmas.Bool.{or_cases, or_left, or_right, and_from, and_parts, cases_eq}
use Rattle.export_closure.specs.declared.rows.ExportRow.{ExportRow}
use Rattle.export_closure.specs.Flags.{has, only, union}
use Rattle.export_closure.specs.Closure.{shows, shown, closure}
use Rattle.export_closure.proofs.FlagLemmas.{has_within, has_flags, length_flags, has_union, length_rounds, settled, rounds_keep, rounds_within}

-- ---- tests over ranges

from_range : (p : ℕ → Bool) (a n : ℕ) → list_any p (range_with_len a n) ≡ true → (x : ℕ) × (p x ≡ true)
from_range p a zero e = absurd (true≢false (sym e))
from_range p a (suc n) e = elim (or_cases (p a) (list_any p (range_with_len (a + 1) n)) e) [ inl h ↦ (a, h) | inr h ↦ from_range p (a + 1) n h ]

in_range : (p : ℕ → Bool) (a n x : ℕ) → a ≤ x → x < a + n → p x ≡ true → list_any p (range_with_len a n) ≡ true
in_range p a zero x low high h = absurd (omega arith)
in_range p a (suc n) x low high h =
    elim (cases_eq a x) [ inl same ↦ or_left (p a) _ (ap p same ∙ h) | inr other ↦ or_right (p a) _ (in_range p (a + 1) n x (omega arith) (omega arith) h) ]

-- ---- one round

module _ (rows : List ExportRow) where
  pub length_shown : (members : List Bool) → length (shown rows members) ≡ length rows
  unfolding shown
  length_shown members = length_flags (length rows) _

  shown_from : (members : List Bool) (other : ℕ) → has (shown rows members) other ≡ true → (at : ℕ) × (has members at ≡ true) × (shows rows at other ≡ true)
  unfolding shown
  shown_from members other e =
      let within : other < length rows = omega (arith, has_within _ other e, length_flags (length rows) (λ y. list_any (λ at. has members at && shows rows at y) (range_with_len 0 (length rows)))) in
      let some = from_range (λ at. has members at && shows rows at other) 0 (length rows) (sym (has_flags (length rows) _ other within) ∙ e) in
      let parts = and_parts (has members some.0) (shows rows some.0 other) some.1 in
      (some.0, parts.0, parts.1)

  shown_by : (members : List Bool) (at other : ℕ) → at < length rows → other < length rows → has members at ≡ true → shows rows at other ≡ true → has (shown rows members) other ≡ true
  unfolding shown
  shown_by members at other at_within within has_at showing =
      has_flags (length rows) _ other within
      ∙ in_range (λ x. has members x && shows rows x other) 0 (length rows) at (omega arith) (omega arith) (and_from (has members at) (shows rows at other) has_at showing)

  -- ---- the closure

  pub length_closure : (from : ℕ) → length (closure rows from) ≡ length rows
  unfolding closure
  length_closure from = length_rounds (shown rows) (length rows) (only (length rows) from) ∙ length_flags (length rows) _

  pub closure_settled : (from : ℕ) → union (closure rows from) (shown rows (closure rows from)) ≡ closure rows from
  unfolding closure
  closure_settled from = settled (shown rows) (length rows) (only (length rows) from) (length_flags (length rows) _)

  pub closure_start : (from : ℕ) → from < length rows → has (closure rows from) from ≡ true
  unfolding closure
  closure_start from within =
      rounds_keep (shown rows) (length rows) (only (length rows) from) from (has_flags (length rows) (λ at. at == from) from within ∙ eq-eqb from from refl)

  pub closure_closed : (from at other : ℕ) → has (closure rows from) at ≡ true → shows rows at other ≡ true → other < length rows → has (closure rows from) other ≡ true
  closure_closed from at other has_at showing within =
      let c = closure rows from in
      let at_within : at < length rows = omega (arith, has_within c at has_at, length_closure from) in
      let more = shown_by c at other at_within within has_at showing in
      sym (ap (λ s. has s other) (closure_settled from))
      ∙ has_union c (shown rows c) other (length_closure from ∙ sym (length_shown c))
      ∙ or_right (has c other) (has (shown rows c) other) more

  pub closure_least : (from : ℕ) (all : List Bool) → has all from ≡ true → ((at other : ℕ) → has all at ≡ true → shows rows at other ≡ true → has all other ≡ true)
      → (at : ℕ) → has (closure rows from) at ≡ true → has all at ≡ true
  unfolding closure
  closure_least from all has_from closed at e =
      rounds_within (shown rows) (length rows) (only (length rows) from) all
      (λ y h.
      let within : y < length rows = omega (arith, has_within _ y h, length_flags (length rows) (λ x. x == from)) in
      let same : y ≡ from = eqb-true y from (sym (has_flags (length rows) (λ x. x == from) y within) ∙ h) in
      ap (has all) same ∙ has_from)
      (λ now inside y h. let by = shown_from now y h in closed by.0 y (inside by.0 by.1) by.2)
      at e
