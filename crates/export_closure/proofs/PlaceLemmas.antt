-- Where a submodule lies among the parents of another one: as many steps as there are rows suffice.
use Rattle.std.proofs.Common.{◌≡◌, ◌∙◌, refl, sym, ap, subst, ℕ, zero, suc, ◌<◌, ◌≤◌, Bool, true, false, ◌||◌, List, length, get_or, ◌==◌, arith, eq-eqb, ne_eqb}
use Rattle.std.proofs.Math.Bool.{or-false}
use Rattle.std.proofs.lemmas.Bool.{or_left}
use Rattle.std.proofs.lemmas.Option.{slice_get-get_or}
use Rattle.std.specs.Prelude.{Option, Some, None, slice_get, option_and_then, IfSome}
use Rattle.std.specs.Option.{option_map_or}
use Rattle.cm_core.specs.declared.numbers.SubNo.{SubNo}
use Rattle.export_closure.specs.declared.rows.ExportRow.{ExportRow}
use Rattle.export_closure.specs.Closure.{AreRows, IsRow, lies_in, parent_of}

in_row : (n at : ℕ) (p : SubNo) (o : Option ExportRow) → IfSome o (IsRow n at) → option_and_then (λ (row : ExportRow). row.parent) o ≡ Some p → p.index < at
in_row n at p None h e = cc
in_row n at p (Some row) h e = let P : Option SubNo → Type 0 = λ o. IfSome o (λ (s : SubNo). s.index < at) in subst P e h.parent

same_above : (o : Option SubNo) (f g : ℕ → Bool) → ((p : SubNo) → o ≡ Some p → f p.index ≡ g p.index)
    → option_map_or (λ (p : SubNo). f p.index) o false ≡ option_map_or (λ (p : SubNo). g p.index) o false
same_above None f g h = refl
same_above (Some p) f g h = h p refl

nothing_above : (o : Option SubNo) (f : ℕ → Bool) → ((p : SubNo) → o ≡ Some p → ⊥) → option_map_or (λ (p : SubNo). f p.index) o false ≡ false
nothing_above None f h = refl
nothing_above (Some p) f h = absurd (h p refl)

module _ (rows : List ExportRow) (are : AreRows rows) (outer : ℕ) where
  pub parent_before : (at : ℕ) (p : SubNo) → parent_of rows at ≡ Some p → p.index < at
  parent_before at p e = in_row (length rows) at p (slice_get rows at) (are.rows_at at) e

  -- a step more changes nothing where there are as many as the number
  step_more : (steps at : ℕ) → at ≤ steps → lies_in rows outer steps at ≡ lies_in rows outer (suc steps) at
  step_more zero at low =
      sym (ap (λ b. at == outer || b) (nothing_above (parent_of rows at) (lies_in rows outer zero) (λ p e. let before = parent_before at p e in omega arith)) ∙ or-false (at == outer))
  step_more (suc steps) at low =
      ap (λ b. at == outer || b) (same_above (parent_of rows at) (lies_in rows outer steps) (lies_in rows outer (suc steps)) (λ p e. let before = parent_before at p e in step_more steps p.index (omega arith)))

  pub lies_here : (steps at : ℕ) → at ≡ outer → lies_in rows outer steps at ≡ true
  lies_here zero at e = eq-eqb at outer e
  lies_here (suc steps) at e = or_left (at == outer) _ (eq-eqb at outer e)

  pub lies_above : (steps at : ℕ) (p : SubNo) → at < steps → parent_of rows at ≡ Some p → (at ≡ outer → ⊥) → lies_in rows outer steps at ≡ lies_in rows outer steps p.index
  lies_above zero at p within e ne = absurd (omega arith)
  lies_above (suc steps) at p within e ne =
      let before = parent_before at p e in
      ap (λ b. b || option_map_or (λ (s : SubNo). lies_in rows outer steps s.index) (parent_of rows at) false) (ne_eqb at outer ne)
      ∙ ap (λ o. option_map_or (λ (s : SubNo). lies_in rows outer steps s.index) o false) e
      ∙ step_more steps p.index (omega arith)

  pub lies_nowhere : (steps at : ℕ) → parent_of rows at ≡ None → (at ≡ outer → ⊥) → lies_in rows outer steps at ≡ false
  lies_nowhere zero at e ne = ne_eqb at outer ne
  lies_nowhere (suc steps) at e ne =
      ap (λ b. b || option_map_or (λ (s : SubNo). lies_in rows outer steps s.index) (parent_of rows at) false) (ne_eqb at outer ne)
      ∙ ap (λ o. option_map_or (λ (s : SubNo). lies_in rows outer steps s.index) o false) e

pub parent_read : (rows : List ExportRow) (at : ℕ) (d : ExportRow) → at < length rows → parent_of rows at ≡ (get_or rows at d).parent
parent_read rows at d within = ap (λ o. option_and_then (λ (row : ExportRow). row.parent) o) (slice_get-get_or rows at d within)
