-- An import of a module that exports none of its imports makes that module alone visible.
use Rattle.std.proofs.Common.{◌≡◌, ◌≢◌, ◌∙◌, refl, sym, ap, ℕ, zero, suc, ◌+◌, ◌<◌, ◌≤◌, Bool, true, false, ◌||◌, ◌==◌, List, [], ◌∷◌, ◌++◌, length, Option, Some, arith, true≢false, eq-eqb, eqb-true, inl, inr}
use Rattle.std.specs.Prelude.{◌&&◌, slice_get}
use Rattle.std.specs.List.{list_any, range_with_len, flat_map}
use Rattle.std.specs.Option.{option_map_or}
use Rattle.std.proofs.lemmas.Bool.{cases_eq}
use Rattle.std.proofs.lemmas.List.{append-nil}
use Rattle.cm_core.specs.declared.numbers.SubNo.{SubNo}
use Rattle.export_closure.specs.Closure.{closure, exports, is_child, matches, shows}
use Rattle.export_closure.specs.Flags.{has, only}
use Rattle.export_closure.specs.declared.rows.ExportRow.{ExportRow}
use Rattle.export_closure.specs.declared.rows.Pattern.{Pattern}
use Rattle.export_closure.proofs.ClosureLaws.{closure_least, closure_start}
use Rattle.export_closure.proofs.FlagLemmas.{has_flags, has_within, length_flags}
use Rattle.build_store.specs.Libraries.{parts_at, IsOf}
use Rattle.build_store.specs.Parts.{brought, names_if, rows_from, rows_of}
use Rattle.build_store.specs.declared.library.Library.{Library}
use Rattle.build_store.specs.declared.part.Part.{Part}
use Rattle.build_store.specs.declared.table.Table.{Table}
use Rattle.build_store.specs.declared.table.Target.{Target}
use Rattle.build_store.proofs.RowLemmas.{length-rows_of}

-- ---- one of a range

nothing_of : {A : Type 0} (one : ℕ → List A) (a n : ℕ) → ((y : ℕ) → a ≤ y → one y ≡ []) → flat_map one (range_with_len a n) ≡ []
nothing_of one a zero h = refl
nothing_of one a (suc n) h = λ i. h a (omega arith) i ++ nothing_of one (a + 1) n (λ y low. h y (omega arith)) i

one_of : {A : Type 0} (one : ℕ → List A) (a n x : ℕ) → a ≤ x → x < a + n → ((y : ℕ) → y ≢ x → one y ≡ []) → flat_map one (range_with_len a n) ≡ one x
one_of one a zero x low high h = absurd (omega arith)
one_of one a (suc n) x low high h =
    elim (cases_eq a x) [
      | inl same ↦ (λ i. one (same i) ++ nothing_of one (a + 1) n (λ y past. h y (λ e. (let f : a ≡ y = same ∙ sym e in absurd (omega arith)))) i) ∙ append-nil (one x)
      | inr other ↦ (λ i. h a other i ++ one_of one (a + 1) n x (omega arith) (omega arith) h i)
    ]

-- ---- what such a module shows

-- no module of a table stands in another one
no_child : (table : Table) (f : ℕ → Option Part) (from : ℕ) (ms : List Target) (parent at : ℕ) → option_map_or (is_child parent) (slice_get (rows_from table f from ms) at) false ≡ false
no_child table f from [] parent at = refl
no_child table f from (m ∷ ms) parent zero = refl
no_child table f from (m ∷ ms) parent (suc at) = no_child table f (suc from) ms parent at

module _ (table : Table) (f : ℕ → Option Part) (x : ℕ) (row : ExportRow) (within : x < length table.targets) (here : slice_get (rows_of table f) x ≡ Some row) (none : (other : ℕ) → exports (rows_of table f) row other ≡ false) where
  shows_none : (other : ℕ) → shows (rows_of table f) x other ≡ false
  shows_none other = (λ i. no_child table f 0 table.targets x other i || option_map_or (λ (r : ExportRow). exports (rows_of table f) r other) (here i) false) ∙ none other

  only_itself : (at : ℕ) → has (only (length (rows_of table f)) x) at ≡ true → at ≡ x
  only_itself at e =
      let n = length (rows_of table f) in
      let inside : at < n = omega (arith, has_within (only n x) at e, length_flags n (λ y. y == x)) in
      eqb-true at x (sym (has_flags n (λ y. y == x) at inside) ∙ e)

  closure_itself : (at : ℕ) → has (closure (rows_of table f) x) at ≡ true → at ≡ x
  closure_itself at e =
      let n = length (rows_of table f) in
      let inside : x < n = omega (arith, length-rows_of table f) in
      only_itself at
      (closure_least (rows_of table f) x (only n x)
      (has_flags n (λ y. y == x) x inside ∙ eq-eqb x x refl)
      (λ y other has_y showing.
      let same : y ≡ x = only_itself y has_y in
      absurd (true≢false (sym showing ∙ ap (λ z. shows (rows_of table f) z other) same ∙ shows_none other)))
      at e)

  not_other : (y : ℕ) → y ≢ x → has (closure (rows_of table f) x) y ≡ false
  not_other y other = not_true (has (closure (rows_of table f) x) y) (λ e. other (closure_itself y e))
    where
      not_true : (b : Bool) → (b ≡ true → ⊥) → b ≡ false
      not_true true h = absurd (h refl)
      not_true false h = refl

  pub alone : names_if true (f x) ≡ brought table f x
  unfolding brought
  alone =
      let set = closure (rows_of table f) x in
      let inside : x < length (rows_of table f) = omega (arith, length-rows_of table f) in
      sym
      (one_of (λ y. names_if (has set y) (f y)) 0 (length table.targets) x (omega arith) (omega arith) (λ y other. ap (λ b. names_if b (f y)) (not_other y other))
      ∙ ap (λ b. names_if b (f x)) (closure_start (rows_of table f) x inside))

pub brought_alone : (table : Table) (library : Library) (x : ℕ) (row : ExportRow) (names : List (List ℕ)) → IsOf table library → x < length library.parts
    → slice_get library.rows x ≡ Some row → ((rows : List ExportRow) (other : ℕ) → exports rows row other ≡ false)
    → names ≡ names_if true (parts_at library x) → names ≡ brought table (parts_at library) x
brought_alone table library x row names of within here none is =
    let inside : x < length table.targets = omega (arith, of.places) in
    is ∙ alone table (parts_at library) x row inside (ap (λ rows. slice_get rows x) (sym of.rows) ∙ here) (none (rows_of table (parts_at library)))

-- a row without patterns exports nothing
pub none_exported : (row : ExportRow) → row.exports ≡ [] → (rows : List ExportRow) (other : ℕ) → exports rows row other ≡ false
none_exported row none rows other =
    ap (λ (patterns : List Pattern). list_any (λ (s : SubNo). s.index == other) row.imports && list_any (matches rows other) patterns) none
    ∙ nothing (list_any (λ (s : SubNo). s.index == other) row.imports)
  where
    nothing : (b : Bool) → (b && false) ≡ false
    nothing true = refl
    nothing false = refl

-- and neither does one without imports
pub none_imported : (row : ExportRow) → row.imports ≡ [] → (rows : List ExportRow) (other : ℕ) → exports rows row other ≡ false
none_imported row none rows other =
    ap (λ (imports : List SubNo). list_any (λ (s : SubNo). s.index == other) imports && list_any (matches rows other) row.exports) none
