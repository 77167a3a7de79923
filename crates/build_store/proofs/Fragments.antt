-- What an import makes visible by the parts that it brought is what it makes visible by all parts that are known.
use Rattle.std.proofs.Common.{◌≡◌, ◌∙◌, refl, sym, ap, subst, ℕ, zero, suc, ◌+◌, ◌<◌, Bool, true, false, ◌==◌, ◌||◌, ◌&&◌, List, [], ◌∷◌, ◌++◌, length, Option, Some, None, arith, zero-add, add-zero, true≢false, eqb-true, inl, inr}
use Rattle.std.proofs.Math.Path.{fun_ext}
use Rattle.std.specs.Prelude.{slice_get, All}
use Rattle.std.specs.List.{list_any, range_with_len}
use Rattle.std.specs.Option.{option_map_or, is_some}
use Rattle.std.proofs.Math.Bool.{or-false}
use Rattle.std.proofs.lemmas.Bool.{or_cases, and_parts, and_from}
use Rattle.cm_core.specs.declared.numbers.SubNo.{SubNo}
use Rattle.export_closure.specs.Closure.{parent_of, lies_in, matches, exports, is_open_child, shows, closure}
use Rattle.export_closure.specs.Flags.{has, flags}
use Rattle.export_closure.specs.declared.rows.ExportRow.{ExportRow}
use Rattle.export_closure.specs.declared.rows.Pattern.{Pattern}
use Rattle.export_closure.specs.declared.rows.Pattern.TheVariants.{All as Every, Under}
use Rattle.export_closure.proofs.FlagLemmas.{has_within, has_flags, length_flags, same_sets}
use Rattle.export_closure.proofs.ClosureLaws.{length_closure, closure_start, closure_closed, closure_least}
use Rattle.build_store.specs.Parts.{Fragment, part_in, numbers_of, row_of, part_or_none, rows_from, rows_of, names_if, declared_in, brought}
use Rattle.build_store.specs.Libraries.{is_imported, IsBroughtBy}
use Rattle.build_store.specs.declared.part.Part.{Part}
use Rattle.build_store.specs.declared.table.Table.{Table}
use Rattle.build_store.specs.declared.table.Target.{Target}
use Rattle.build_store.proofs.RowLemmas.{numbers_within, length-rows_of}

-- ---- what a module shows is told by its own part

module _ (table : Table) where
  no_parent : (f : ℕ → Option Part) (x : ℕ) (ms : List Target) (at : ℕ) → parent_of (rows_from table f x ms) at ≡ None
  no_parent f x [] at = refl
  no_parent f x (m ∷ ms) zero = refl
  no_parent f x (m ∷ ms) (suc at) = no_parent f (suc x) ms at

  no_child : (f : ℕ → Option Part) (x : ℕ) (ms : List Target) (parent at : ℕ) → is_open_child (rows_from table f x ms) parent at ≡ false
  no_child f x [] parent at = refl
  no_child f x (m ∷ ms) parent zero = refl
  no_child f x (m ∷ ms) parent (suc at) = no_child f (suc x) ms parent at

  same_row : (f g : ℕ → Option Part) (x : ℕ) (ms : List Target) (at : ℕ) → f (x + at) ≡ g (x + at) → slice_get (rows_from table f x ms) at ≡ slice_get (rows_from table g x ms) at
  same_row f g x [] at same = refl
  same_row f g x (m ∷ ms) zero same =
      let here : f x ≡ g x = ap f (sym (add-zero x)) ∙ same ∙ ap g (add-zero x) in
      λ i. Some (row_of table m.export (part_or_none (here i)))
  same_row f g x (m ∷ ms) (suc at) same =
      let next : suc x + at ≡ x + suc at = omega arith in
      same_row f g (suc x) ms at (ap f next ∙ same ∙ ap g (sym next))

  lies_in_itself : (rows : List ExportRow) (outer n at : ℕ) → parent_of rows at ≡ None → lies_in rows outer n at ≡ (at == outer)
  lies_in_itself rows outer zero at top = refl
  lies_in_itself rows outer (suc n) at top =
      ap (λ o. at == outer || option_map_or (λ (parent : SubNo). lies_in rows outer n parent.index) o false) top ∙ or-false (at == outer)

  matches_alike : (rows others : List ExportRow) (at : ℕ) → parent_of rows at ≡ None → parent_of others at ≡ None → (p : Pattern) → matches rows at p ≡ matches others at p
  matches_alike rows others at top also Every = refl
  matches_alike rows others at top also (Under outer) =
      lies_in_itself rows outer.index (length rows) at top ∙ sym (lies_in_itself others outer.index (length others) at also)

  exports_alike : (rows others : List ExportRow) (row : ExportRow) (at : ℕ) → parent_of rows at ≡ None → parent_of others at ≡ None → exports rows row at ≡ exports others row at
  exports_alike rows others row at top also =
      ap (λ test. list_any (λ (s : SubNo). s.index == at) row.imports && list_any test row.exports) (fun_ext (matches_alike rows others at top also))

  shows_itself : (f : ℕ → Option Part) (at other : ℕ) → shows (rows_of table f) at other ≡ option_map_or (λ row. exports (rows_of table f) row other) (slice_get (rows_of table f) at) false
  shows_itself f at other = ap (λ b. b || option_map_or (λ row. exports (rows_of table f) row other) (slice_get (rows_of table f) at) false) (no_child f 0 table.targets at other)

  -- where two know the same part of a module it shows the same by both
  pub shows_alike : (f g : ℕ → Option Part) (at other : ℕ) → f at ≡ g at → shows (rows_of table f) at other ≡ shows (rows_of table g) at other
  shows_alike f g at other same =
      let row : slice_get (rows_of table f) at ≡ slice_get (rows_of table g) at =
      same_row f g 0 table.targets at (ap f (zero-add at) ∙ same ∙ ap g (sym (zero-add at))) in
      let test : (λ row. exports (rows_of table f) row other) ≡ (λ row. exports (rows_of table g) row other) =
      fun_ext (λ row. exports_alike (rows_of table f) (rows_of table g) row other (no_parent f 0 table.targets other) (no_parent g 0 table.targets other)) in
      shows_itself f at other ∙ (λ i. option_map_or (test i) (row i) false) ∙ sym (shows_itself g at other)

  -- a module of which nothing is known shows nothing, and any other one what it imports
  from_row : (f : ℕ → Option Part) (x : ℕ) (ms : List Target) (at other : ℕ) (rows : List ExportRow) → option_map_or (λ row. exports rows row other) (slice_get (rows_from table f x ms) at) false ≡ true
      → list_any (λ (s : SubNo). s.index == other) (numbers_of table (part_or_none (f (x + at))).imports) ≡ true
  from_row f x [] at other rows e = absurd (true≢false (sym e))
  from_row f x (m ∷ ms) zero other rows e =
      let P : ℕ → Type 0 = λ n. list_any (λ (s : SubNo). s.index == other) (numbers_of table (part_or_none (f n)).imports) ≡ true in
      subst P (sym (add-zero x)) (and_parts (list_any (λ (s : SubNo). s.index == other) (numbers_of table (part_or_none (f x)).imports)) _ e).0
  from_row f x (m ∷ ms) (suc at) other rows e =
      let P : ℕ → Type 0 = λ n. list_any (λ (s : SubNo). s.index == other) (numbers_of table (part_or_none (f n)).imports) ≡ true in
      subst P (let next : suc x + at ≡ x + suc at = omega arith in next) (from_row f (suc x) ms at other rows e)

  known_imports : (o : Option Part) (other : ℕ) → list_any (λ (s : SubNo). s.index == other) (numbers_of table (part_or_none o).imports) ≡ true
      → (part : Part) × (o ≡ Some part) × (is_imported table part other ≡ true)
  known_imports None other e = absurd (true≢false (sym e))
  known_imports (Some part) other e = (part, refl, e)

  pub shown_is_imported : (f : ℕ → Option Part) (at other : ℕ) → shows (rows_of table f) at other ≡ true → (part : Part) × (f at ≡ Some part) × (is_imported table part other ≡ true)
  shown_is_imported f at other e =
      let by : list_any (λ (s : SubNo). s.index == other) (numbers_of table (part_or_none (f (0 + at))).imports) ≡ true =
      from_row f 0 table.targets at other (rows_of table f) (sym (shows_itself f at other) ∙ e) in
      known_imports (f at) other (ap (λ n. list_any (λ (s : SubNo). s.index == other) (numbers_of table (part_or_none (f n)).imports)) (sym (zero-add at)) ∙ by)

  any_within : (xs : List SubNo) (n y : ℕ) → All (λ (s : SubNo). s.index < n) xs → list_any (λ (s : SubNo). s.index == y) xs ≡ true → y < n
  any_within [] n y h e = absurd (true≢false (sym e))
  any_within (x ∷ xs) n y h e =
      elim (or_cases (x.index == y) (list_any (λ (s : SubNo). s.index == y) xs) e) [
        | inl same ↦ subst (λ k. k < n) (eqb-true x.index y same) (h 0 x (omega arith))
        | inr more ↦ any_within xs n y (λ k d within. h (suc k) d (omega arith)) more
      ]

  pub imported_within : (part : Part) (y : ℕ) → is_imported table part y ≡ true → y < length table.targets
  imported_within part y e = any_within (numbers_of table part.imports) (length table.targets) y (numbers_within table part.imports) e

  -- ---- what a set declares

  names_alike : (f g : ℕ → Option Part) (z : ℕ) (b : Bool) → (b ≡ true → f z ≡ g z) → names_if b (f z) ≡ names_if b (g z)
  names_alike f g z true same = ap (names_if true) (same refl)
  names_alike f g z false same = refl

  declared_alike : (f g : ℕ → Option Part) (set : List Bool) (xs : List ℕ) → ((z : ℕ) → has set z ≡ true → f z ≡ g z) → declared_in f set xs ≡ declared_in g set xs
  declared_alike f g set [] same = refl
  declared_alike f g set (x ∷ xs) same = λ i. names_alike f g x (has set x) (same x) i ++ declared_alike f g set xs same i

  -- ---- the closure of what was brought

  module _ (f g : ℕ → Option Part) (x : ℕ) (within : x < length table.targets) (all : List Bool)
      (own : has all x ≡ true) (same : (z : ℕ) → has all z ≡ true → f z ≡ g z)
      (closed : (at other : ℕ) → has all at ≡ true → shows (rows_of table f) at other ≡ true → has all other ≡ true) where
    abbrev n : ℕ
    n = length table.targets

    pub closure_inside : (z : ℕ) → has (closure (rows_of table f) x) z ≡ true → has all z ≡ true
    closure_inside z e = closure_least (rows_of table f) x all own closed z e

    -- what is in `all` and in the other closure
    abbrev both : List Bool
    both = flags n (λ z. has all z && has (closure (rows_of table g) x) z)

    both_at : (z : ℕ) → has both z ≡ true → (z < n) × (has all z ≡ true) × (has (closure (rows_of table g) x) z ≡ true)
    both_at z e =
        let z_within : z < n = omega (arith, has_within both z e, length_flags n (λ y. has all y && has (closure (rows_of table g) x) y)) in
        let parts = and_parts (has all z) (has (closure (rows_of table g) x) z) (sym (has_flags n (λ y. has all y && has (closure (rows_of table g) x) y) z z_within) ∙ e) in
        (z_within, parts.0, parts.1)

    both_from : (z : ℕ) → z < n → has all z ≡ true → has (closure (rows_of table g) x) z ≡ true → has both z ≡ true
    both_from z z_within e h =
        has_flags n (λ y. has all y && has (closure (rows_of table g) x) y) z z_within ∙ and_from (has all z) (has (closure (rows_of table g) x) z) e h

    pub closure_less : (z : ℕ) → has (closure (rows_of table f) x) z ≡ true → has (closure (rows_of table g) x) z ≡ true
    closure_less z e =
        (both_at z
        (closure_least (rows_of table f) x both
        (both_from x within own (closure_start (rows_of table g) x (subst (λ k. x < k) (sym (length-rows_of table g)) within)))
        (λ at other h showing.
        let here = both_at at h in
        let by = shown_is_imported f at other showing in
        let other_within : other < n = imported_within by.0 other by.2 in
        both_from other other_within (closed at other here.1 showing)
        (closure_closed (rows_of table g) x at other here.2 (sym (shows_alike f g at other (same at here.1)) ∙ showing) (subst (λ k. other < k) (sym (length-rows_of table g)) other_within)))
        z e)).2

  pub brought_by_fragment : (parts : ℕ → Option Part) (x : ℕ) (b : Fragment) → x < length table.targets → IsBroughtBy table parts x b → brought table (part_in b) x ≡ brought table parts x
  unfolding brought
  brought_by_fragment parts x b within by =
      let n = length table.targets in
      let test : ℕ → Bool = λ z. is_some (part_in b z) in
      let all : List Bool = flags n test in
      let at_all : (z : ℕ) → has all z ≡ true → (part : Part) × (part_in b z ≡ Some part) =
      λ z e. some_of (part_in b z) (sym (has_flags n test z (omega (arith, has_within all z e, length_flags n test))) ∙ e) in
      let same : (z : ℕ) → has all z ≡ true → part_in b z ≡ parts z =
      λ z e. let h = at_all z e in h.1 ∙ sym (by.known z h.0 h.1) in
      let own : has all x ≡ true = has_flags n test x within ∙ by.own in
      let closed : (at other : ℕ) → has all at ≡ true → shows (rows_of table (part_in b)) at other ≡ true → has all other ≡ true =
      λ at other e showing.
      let h = shown_is_imported (part_in b) at other showing in
      has_flags n test other (imported_within h.0 other h.2) ∙ by.closed at other h.0 h.1 h.2 in
      let also : (at other : ℕ) → has all at ≡ true → shows (rows_of table parts) at other ≡ true → has all other ≡ true =
      λ at other e showing. closed at other e (shows_alike (part_in b) parts at other (same at e) ∙ showing) in
      let back : (z : ℕ) → has all z ≡ true → parts z ≡ part_in b z = λ z e. sym (same z e) in
      let sets : closure (rows_of table (part_in b)) x ≡ closure (rows_of table parts) x =
      same_sets (closure (rows_of table (part_in b)) x) (closure (rows_of table parts) x)
      (length_closure (rows_of table (part_in b)) x ∙ length-rows_of table (part_in b) ∙ sym (length_closure (rows_of table parts) x ∙ length-rows_of table parts))
      (closure_less (part_in b) parts x within all own same closed)
      (closure_less parts (part_in b) x within all own back also) in
      ap (λ set. declared_in (part_in b) set (range_with_len 0 n)) sets
      ∙ declared_alike (part_in b) parts (closure (rows_of table parts) x) (range_with_len 0 n) (λ z e. same z (closure_inside parts (part_in b) x within all own back also z e))
    where
      some_of : (o : Option Part) → is_some o ≡ true → (part : Part) × (o ≡ Some part)
      some_of None e = absurd (true≢false (sym e))
      some_of (Some part) e = (part, refl)
