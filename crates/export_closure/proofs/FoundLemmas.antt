-- Lists of found submodules: what is added, and when a list has all of a closure.
use Rattle.std.proofs.Common.{◌≡◌, ◌∙◌, refl, sym, ap, subst, ℕ, zero, suc, ◌+◌, ◌<◌, ◌≤◌, Bool, true, false, ◌||◌, ◌&&◌, inl, inr, List, [], ◌∷◌, ◌++◌, length, get_or, set, take, ◌==◌, arith, true≢false, eq-eqb, eqb-true, ne_eqb, ltb, lt-ltb, le-ltb, take_all, take-take, get_or-set_same, get_or-set_other, length-take, length-append, length-set}
use Rattle.std.specs.Prelude.{Option, Some, slice_get, All, IfSome}
use Rattle.std.specs.Option.{option_map_or}
use Rattle.std.proofs.Math.Bool.{or_assoc, or-false, and-true}
use Rattle.std.proofs.Math.Seq.{take-append_seam, take-length}
use Rattle.std.proofs.lemmas.Bool.{or_cases, or_left, or_right, and_right, cases_eq, cases_lt}
use Rattle.std.proofs.lemmas.List.{length-replicate}
use Rattle.std.proofs.lemmas.List.Folds.{list_any-append, list_any_at, list_any_more}
use Rattle.cm_core.specs.declared.numbers.SubNo.{SubNo}
use Rattle.export_closure.specs.declared.members.Members.{Members}
use Rattle.export_closure.specs.declared.rows.ExportRow.{ExportRow}
use Rattle.export_closure.specs.Flags.{has, none, count}
use Rattle.export_closure.specs.Closure.{AreRows, IsRow, exports, is_child, is_open_child, shows, closure}
use Rattle.export_closure.specs.Found.{is_found, Tracks, Adds}
use Rattle.export_closure.proofs.FlagLemmas.{has_within, has_none, count_none, count_put, count_within, same_sets}
use Rattle.export_closure.proofs.ClosureLaws.{length_closure, closure_start, closure_closed, closure_least}

pub found_push : (found : List SubNo) (sub : SubNo) (at : ℕ) → is_found (found ++ sub ∷ []) at ≡ (is_found found at || (sub.index == at))
found_push found sub at = list_any-append (λ (s : SubNo). s.index == at) found (sub ∷ []) ∙ ap (λ b. is_found found at || b) (or-false (sub.index == at))

-- what is there already adds nothing
pub found_again : (found : List SubNo) (sub at : ℕ) → is_found found sub ≡ true → is_found found at ≡ (is_found found at || (sub == at))
found_again found sub at e =
    elim (cases_eq sub at) [
      | inl same ↦ (let here : is_found found at ≡ true = ap (is_found found) (sym same) ∙ e in here ∙ sym (or_left (is_found found at) (sub == at) here))
      | inr other ↦ sym (ap (λ b. is_found found at || b) (ne_eqb sub at other) ∙ or-false (is_found found at))
    ]

pub put_same : (xs : List Bool) (found : List SubNo) (sub : SubNo) → sub.index < length xs → ((at : ℕ) → has xs at ≡ is_found found at)
    → (at : ℕ) → has (set xs sub.index true) at ≡ is_found (found ++ sub ∷ []) at
put_same xs found sub within same at =
    elim (cases_eq sub.index at) [
      | inl here ↦
          (let put : has (set xs sub.index true) at ≡ true = ap (has (set xs sub.index true)) (sym here) ∙ get_or-set_same xs sub.index true false within in
          put ∙ sym (found_push found sub at ∙ or_right (is_found found at) (sub.index == at) (eq-eqb sub.index at here)))
      | inr other ↦
          get_or-set_other xs sub.index at true false (λ e. other (sym e)) ∙ same at
          ∙ sym (found_push found sub at ∙ ap (λ b. is_found found at || b) (ne_eqb sub.index at other) ∙ or-false (is_found found at))
    ]

longer : (a b : List SubNo) → take (length a) b ≡ a → length a ≤ length b
longer a b front = let cut = ap length front in omega (arith, length-take (length a) b)

-- what was added first and what then
pub adds_more : (a b c : Members) (p q r : ℕ → Bool) → Adds a b p → Adds b c q → ((at : ℕ) → r at ≡ (p at || q at)) → Adds a c r
adds_more a b c p q r first then together = record {
  found = λ at. then.found at ∙ ap (λ t. t || q at) (first.found at) ∙ or_assoc (is_found a.found.items at) (p at) (q at) ∙ ap (λ t. is_found a.found.items at || t) (sym (together at));
  front =
      (let short = longer a.found.items b.found.items first.front in
      sym (take-take (length a.found.items) (length b.found.items) c.found.items short) ∙ ap (take (length a.found.items)) then.front ∙ first.front);
  size = then.size ∙ first.size;
}

-- ---- a search that is under way

-- what is found is in the closure, and what the submodules before `done` show is found
pub record IsUnderWay (rows : List ExportRow) (from : ℕ) (members : Members) (done : ℕ) : Type 0 where
  pub size : length members.set ≡ length rows
  pub tracks : Tracks members
  pub reached : done ≤ length members.found.items
  pub start : is_found members.found.items from ≡ true
  pub inside : (at : ℕ) → is_found members.found.items at ≡ true → has (closure rows from) at ≡ true
  pub shown : (at other : ℕ) → is_found (take done members.found.items) at ≡ true → shows rows at other ≡ true → is_found members.found.items other ≡ true

found_within : (members : Members) → Tracks members → (at : ℕ) → is_found members.found.items at ≡ true → at < length members.set
found_within members tracks at e = has_within members.set at (tracks.same at ∙ e)

pub under_way_at_end : (rows : List ExportRow) (from : ℕ) (members : Members) (done : ℕ) → IsUnderWay rows from members done → length members.found.items ≤ done → members.set ≡ closure rows from
under_way_at_end rows from members done way past =
    let found = members.found.items in
    let all : take done found ≡ found = take_all done found past in
    same_sets members.set (closure rows from) (way.size ∙ sym (length_closure rows from))
    (λ at e. way.inside at (sym (way.tracks.same at) ∙ e))
    (λ at e. closure_least rows from members.set (way.tracks.same from ∙ way.start)
    (λ x y h showing. way.tracks.same y ∙ way.shown x y (ap (λ t. is_found t x) all ∙ sym (way.tracks.same x) ∙ h) showing)
    at e)

pub tracks_new : (n : ℕ) (members : Members) → members.set ≡ none n → members.found.items ≡ [] → Tracks members
tracks_new n members no_flags no_items = record {
  same = λ at. ap (λ s. has s at) no_flags ∙ has_none n at ∙ sym (ap (λ found. is_found found at) no_items);
  once = ap length no_items ∙ sym (ap count no_flags ∙ count_none n);
}

pub under_way_at_start : (rows : List ExportRow) (from : ℕ) (fresh members : Members) → from < length rows → fresh.set ≡ none (length rows) → fresh.found.items ≡ []
    → Adds fresh members (λ at. from == at) → Tracks members → IsUnderWay rows from members 0
under_way_at_start rows from fresh members within no_flags no_items adds tracks =
    let only : (at : ℕ) → is_found members.found.items at ≡ (from == at) = λ at. adds.found at ∙ ap (λ found. is_found found at || (from == at)) no_items in
    record {
      size = adds.size ∙ ap length no_flags ∙ length-replicate (length rows) false;
      tracks = tracks;
      reached = omega arith;
      start = only from ∙ eq-eqb from from refl;
      inside = λ at e. ap (has (closure rows from)) (sym (eqb-true from at (sym (only at) ∙ e))) ∙ closure_start rows from within;
      shown = λ at other e showing. absurd (true≢false (sym e));
    }

with_front : (a c : Members) (k : ℕ) → take (length a.found.items) c.found.items ≡ a.found.items → k ≤ length a.found.items → take k c.found.items ≡ take k a.found.items
with_front a c k front short = sym (take-take k (length a.found.items) c.found.items short) ∙ ap (take k) front

pub sub_found : (found : List SubNo) (k : ℕ) (d : SubNo) → k < length found → is_found found (get_or found k d).index ≡ true
sub_found found k d within = list_any_at (λ (s : SubNo). s.index == (get_or found k d).index) found k d within (eq-eqb (get_or found k d).index (get_or found k d).index refl)

pub sub_within : (rows : List ExportRow) (from : ℕ) (members : Members) (done : ℕ) (d : SubNo) → IsUnderWay rows from members done → done < length members.found.items
    → (get_or members.found.items done d).index < length rows
sub_within rows from members done d way more =
    let within = found_within members way.tracks (get_or members.found.items done d).index (sub_found members.found.items done d more) in
    omega (arith, within, way.size)

-- no more can be done than there are rows
pub done_within : (rows : List ExportRow) (from : ℕ) (members : Members) (done : ℕ) → IsUnderWay rows from members done → done < length members.found.items → done < length rows
done_within rows from members done way more = let most = count_within members.set in omega (arith, most, way.size, way.tracks.once)

pub under_way_next : (rows : List ExportRow) (from : ℕ) (a c : Members) (done : ℕ) (d : SubNo)
    → IsUnderWay rows from a done → done < length a.found.items → Adds a c (shows rows (get_or a.found.items done d).index) → Tracks c → IsUnderWay rows from c (done + 1)
under_way_next rows from a c done d way more joined tracks =
    let sub = (get_or a.found.items done d).index in
    record {
      size = joined.size ∙ way.size;
      tracks = tracks;
      reached = (let long = longer a.found.items c.found.items joined.front in omega arith);
      start = joined.found from ∙ or_left (is_found a.found.items from) (shows rows sub from) way.start;
      inside = λ other e.
          elim (or_cases (is_found a.found.items other) (shows rows sub other) (sym (joined.found other) ∙ e)) [
            | inl h ↦ way.inside other h
            | inr showing ↦
                (let within : other < length rows = omega (arith, found_within c tracks other e, joined.size, way.size) in
                closure_closed rows from sub other (way.inside sub (sub_found a.found.items done d more)) showing within)
          ];
      shown = λ at other e showing.
          let before : is_found (take (done + 1) a.found.items) at ≡ true =
          ap (λ t. is_found t at) (sym (with_front a c (done + 1) joined.front (omega arith))) ∙ e in
          joined.found other
          ∙ elim (or_cases (is_found (take done a.found.items) at) (sub == at) (sym (list_any_more (λ (s : SubNo). s.index == at) a.found.items done d more) ∙ before)) [
            | inl h ↦ or_left (is_found a.found.items other) (shows rows sub other) (way.shown at other h showing)
            | inr h ↦ or_right (is_found a.found.items other) (shows rows sub other) (ap (λ x. shows rows x other) (eqb-true sub at h) ∙ showing)
          ];
    }

-- ---- one submodule is added

pub tracks_put : (old new : Members) (sub : SubNo) → sub.index < length old.set → Tracks old → has old.set sub.index ≡ false
    → new.set ≡ set old.set sub.index true → new.found.items ≡ old.found.items ++ sub ∷ [] → Tracks new
tracks_put old new sub within tracks absent flags items = record {
  same = λ at. ap (λ s. has s at) flags ∙ put_same old.set old.found.items sub within tracks.same at ∙ sym (ap (λ found. is_found found at) items);
  once =
      ap length items ∙ length-append old.found.items (sub ∷ []) ∙ ap (λ n. n + 1) tracks.once
      ∙ sym (ap count flags ∙ count_put old.set sub.index within absent);
}

pub adds_put : (old new : Members) (sub : SubNo) → new.set ≡ set old.set sub.index true → new.found.items ≡ old.found.items ++ sub ∷ [] → Adds old new (λ at. sub.index == at)
adds_put old new sub flags items = record {
  found = λ at. ap (λ found. is_found found at) items ∙ found_push old.found.items sub at;
  front = ap (take (length old.found.items)) items ∙ take-append_seam old.found.items (sub ∷ []);
  size = ap length flags ∙ length-set old.set sub.index true;
}

pub adds_again : (old : Members) (sub : ℕ) → Tracks old → has old.set sub ≡ true → Adds old old (λ at. sub == at)
adds_again old sub tracks present = record {
  found = λ at. found_again old.found.items sub at (sym (tracks.same sub) ∙ present);
  front = take-length old.found.items;
  size = refl;
}

pub adds_nothing : (old : Members) (test : ℕ → Bool) → ((at : ℕ) → test at ≡ false) → Adds old old test
adds_nothing old test nothing = record {
  found = λ at. sym (ap (λ b. is_found old.found.items at || b) (nothing at) ∙ or-false (is_found old.found.items at));
  front = take-length old.found.items;
  size = refl;
}

-- ---- submodules that are not explicit

is_row_there : (f : ExportRow → Bool) (rows : List ExportRow) (at : ℕ) → option_map_or f (slice_get rows at) false ≡ true → at < length rows
is_row_there f [] at e = absurd (true≢false (sym e))
is_row_there f (row ∷ rows) zero e = omega arith
is_row_there f (row ∷ rows) (suc at) e = let rest = is_row_there f rows at e in omega arith

pub children_within : (rows : List ExportRow) (parent : ℕ) (children : List SubNo) → ((at : ℕ) → is_found children at ≡ is_open_child rows parent at)
    → (k : ℕ) (d : SubNo) → k < length children → (get_or children k d).index < length rows
children_within rows parent children same k d within =
    is_row_there (is_child parent) rows (get_or children k d).index (sym (same (get_or children k d).index) ∙ sub_found children k d within)

pub imports_within : (rows : List ExportRow) → AreRows rows → (at : ℕ) (row : ExportRow) → slice_get rows at ≡ Some row → All (λ (s : SubNo). s.index < length rows) row.imports
imports_within rows are at row e =
    let P : Option ExportRow → Type 0 = λ o. IfSome o (IsRow (length rows) at) in
    let there : IsRow (length rows) at row = subst P e (are.rows_at at) in
    there.imports

-- what a submodule shows: its submodules and what it exports
pub adds_shown : (rows : List ExportRow) (sub : ℕ) (row : ExportRow) (children : List SubNo) (a b c : Members) → slice_get rows sub ≡ Some row
    → ((at : ℕ) → is_found children at ≡ is_open_child rows sub at) → Adds a b (is_found children) → Adds b c (exports rows row) → Adds a c (shows rows sub)
adds_shown rows sub row children a b c is_row same first then =
    adds_more a b c (is_found children) (exports rows row) (shows rows sub) first then
    (λ at. ap (λ o. is_open_child rows sub at || option_map_or (λ (r : ExportRow). exports rows r at) o false) is_row
    ∙ ap (λ t. t || exports rows row at) (sym (same at)))

-- a list takes one submodule more
pub child_put : (lists : List (List SubNo)) (p : ℕ) (sub : SubNo) (longer : List SubNo) → p < length lists → longer ≡ get_or lists p [] ++ sub ∷ []
    → (parent at : ℕ) → is_found (get_or (set lists p longer) parent []) at ≡ (is_found (get_or lists parent []) at || (sub.index == at) && (p == parent))
child_put lists p sub longer within is_longer parent at =
    elim (cases_eq p parent) [
      | inl here ↦
          ap (λ x. is_found (get_or (set lists p longer) x []) at) (sym here)
          ∙ ap (λ l. is_found l at) (get_or-set_same lists p longer [] within ∙ is_longer)
          ∙ found_push (get_or lists p []) sub at
          ∙ ap (λ x. is_found (get_or lists x []) at || (sub.index == at)) here
          ∙ ap (λ b. is_found (get_or lists parent []) at || b) (sym (ap (λ b. (sub.index == at) && b) (eq-eqb p parent here) ∙ and-true (sub.index == at)))
      | inr other ↦
          ap (λ l. is_found l at) (get_or-set_other lists p parent longer [] (λ e. other (sym e)))
          ∙ sym (ap (λ b. is_found (get_or lists parent []) at || b) (and_right (sub.index == at) (p == parent) (ne_eqb p parent other)) ∙ or-false (is_found (get_or lists parent []) at))
    ]

-- an empty list more holds nothing new
pub list_more : (lists : List (List SubNo)) (p : ℕ) → get_or (lists ++ [] ∷ []) p [] ≡ get_or lists p []
list_more [] zero = refl
list_more [] (suc p) = refl
list_more (l ∷ ls) zero = refl
list_more (l ∷ ls) (suc p) = list_more ls p

pub child_none : (found test : Bool) (at : ℕ) (sub : ℕ) → test ≡ false → found ≡ (found || (sub == at) && test)
child_none found test at sub e = sym (ap (λ b. found || b) (and_right (sub == at) test e) ∙ or-false found)

-- one row more is gone over
pub children_more : (rows : List ExportRow) (k parent at : ℕ) (row : ExportRow) (before after : Bool) → slice_get rows k ≡ Some row
    → before ≡ (ltb at k && is_open_child rows parent at) → after ≡ (before || (k == at) && is_child parent row) → after ≡ (ltb at (k + 1) && is_open_child rows parent at)
children_more rows k parent at row before after is_row was is =
    elim (cases_eq k at) [
      | inl here ↦
          (let of_row : is_open_child rows parent at ≡ is_child parent row = ap (λ x. is_open_child rows parent x) (sym here) ∙ ap (λ o. option_map_or (is_child parent) o false) is_row in
          is ∙ ap (λ b. b || (k == at) && is_child parent row) (was ∙ ap (λ b. b && is_open_child rows parent at) (le-ltb at k (omega arith)))
          ∙ ap (λ b. b && is_child parent row) (eq-eqb k at here) ∙ sym of_row
          ∙ sym (ap (λ b. b && is_open_child rows parent at) (lt-ltb at (k + 1) (omega arith))))
      | inr other ↦
          is ∙ ap (λ b. before || b && is_child parent row) (ne_eqb k at other) ∙ or-false before ∙ was
          ∙ ap (λ b. b && is_open_child rows parent at) (same_side at k other)
    ]
  where
    same_side : (at k : ℕ) → (k ≡ at → ⊥) → ltb at k ≡ ltb at (k + 1)
    same_side at k ne = elim (cases_lt at k) [
      | inl low ↦ lt-ltb at k low ∙ sym (lt-ltb at (k + 1) (omega arith))
      | inr high ↦ le-ltb at k high ∙ sym (le-ltb at (k + 1) (let apart : k ≡ at → ⊥ = ne in omega arith))
    ]

implied : (x y : Bool) → (y ≡ true → x ≡ true) → (x && y) ≡ y
implied true y h = refl
implied false true h = h refl
implied false false h = refl

-- all rows are gone over
pub children_all : (rows : List ExportRow) (k parent at : ℕ) → length rows ≤ k → (ltb at k && is_open_child rows parent at) ≡ is_open_child rows parent at
children_all rows k parent at all =
    implied (ltb at k) (is_open_child rows parent at) (λ e. let within = is_row_there (is_child parent) rows at e in lt-ltb at k (omega arith))
