-- Rows that are gone over in order, each of which is a row.
use Rattle.std.proofs.Common.{◌≡◌, sym, subst, ℕ, ◌+◌, ◌<◌, ◌≤◌, inl, inr, List, length, arith}
use Rattle.std.specs.Prelude.{Option, Some, slice_get, IfSome}
use Rattle.std.proofs.lemmas.Bool.{cases_eq, cases_lt}
use Rattle.std.proofs.lemmas.Option.{slice_get_past}
use Rattle.export_closure.specs.declared.rows.ExportRow.{ExportRow}
use Rattle.export_closure.specs.Closure.{AreRows, IsRow}

pub rows_more : (rows : List ExportRow) (at : ℕ) (row : ExportRow) → slice_get rows at ≡ Some row → IsRow (length rows) at row
    → ((k : ℕ) → k < at → IfSome (slice_get rows k) (IsRow (length rows) k)) → (k : ℕ) → k < at + 1 → IfSome (slice_get rows k) (IsRow (length rows) k)
rows_more rows at row here is_row before k within =
    let P : ℕ → Type 0 = λ x. IfSome (slice_get rows x) (IsRow (length rows) x) in
    let Q : Option ExportRow → Type 0 = λ o. IfSome o (IsRow (length rows) at) in
    elim (cases_eq k at) [ inl same ↦ subst P (sym same) (subst Q (sym here) is_row) | inr other ↦ before k (omega arith) ]

pub rows_all : (rows : List ExportRow) (n : ℕ) → length rows ≤ n → ((k : ℕ) → k < n → IfSome (slice_get rows k) (IsRow (length rows) k)) → AreRows rows
rows_all rows n all each = record {
  rows_at = λ at.
      let Q : Option ExportRow → Type 0 = λ o. IfSome o (IsRow (length rows) at) in
      elim (cases_lt at n) [ inl within ↦ each at within | inr past ↦ subst Q (sym (slice_get_past rows at (omega arith))) tt ];
}
