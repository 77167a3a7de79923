-- The rows that stand beside the declarations of a module file.
use Rattle.std.proofs.Common.{◌≡◌, ℕ, suc, ◌+◌, ◌<◌, ◌≤◌, ◌≢◌, Bool, true, false, ◌&&◌, ◌==◌, List, [], ◌∷◌, ◌++◌, length, drop, get_or, refl, sym, ap, ◌∙◌, append_assoc, add-one, drop-cons}
use Rattle.std.proofs.Math.ListN.{drop_of_length-le}
use Rattle.std.specs.List.{flat_map}
use Rattle.std.specs.Str.{bytes_eq}
use Rattle.std.proofs.lemmas.Bool.{and_parts}
use Rattle.std.proofs.lemmas.Bool.Decides.{Decides-eqb}
use Rattle.std.proofs.lemmas.List.{append-nil}
use Rattle.std.proofs.lemmas.Slice.Eq.{bytes_eq-Decides}
use Rattle.cm_wire.specs.Spelling.{spell_u64}
use Rattle.module_file.specs.declared.index.Declaration.{Declaration}
use Rattle.module_file.specs.declared.row.Row.{Row}
use Rattle.module_file.specs.ModuleFile.{rows_from, spell_row, spell_list}
use Rattle.module_file.specs.Reading.{is_row, agree}

pub rows_len : (number : ℕ) (ds : List Declaration) → length (rows_from number ds) ≡ length ds
rows_len number [] = refl
rows_len number (d ∷ ds) = ap suc (rows_len (number + 1) ds)

-- the rows from a place on
pub rows_step : (number at : ℕ) (ds : List Declaration) (d : Declaration) → at < length ds → d ≡ get_or ds at d →
    rows_from number (drop at ds) ≡ record { name = d.name; number = number } ∷ rows_from (number + 1) (drop (at + 1) ds)
rows_step number at ds d lt e =
    let here : drop at ds ≡ d ∷ drop (at + 1) ds = rw (drop-cons ds at d lt, ← e, add-one) refl in
    rw here refl

-- there are no rows behind the last declaration
pub rows_done : (number at : ℕ) (ds : List Declaration) → length ds ≤ at → rows_from number (drop at ds) ≡ []
rows_done number at ds le = rw (drop_of_length-le ds le) refl

-- where nothing is left to put, the rows were put
pub rows_put : (out before : List ℕ) (number at : ℕ) (ds : List Declaration) → length ds ≤ at →
    out ++ flat_map spell_row (rows_from number (drop at ds)) ≡ (before ++ spell_u64 (length ds)) ++ flat_map spell_row (rows_from 1 ds) → out ≡ before ++ spell_list spell_row (rows_from 1 ds)
rows_put out before number at ds le e =
    let none : out ++ flat_map spell_row (rows_from number (drop at ds)) ≡ out = rw (rows_done number at ds le, append-nil) refl in
    let whole : (before ++ spell_u64 (length ds)) ++ flat_map spell_row (rows_from 1 ds) ≡ before ++ spell_list spell_row (rows_from 1 ds) = rw (append_assoc, rows_len) refl in
    sym none ∙ (e ∙ whole)

-- whether rows agree, from a place on
pub agree_step : (number at : ℕ) (rs : List Row) (ds : List Declaration) (r : Row) (d : Declaration) → at < length rs → at < length ds → r ≡ get_or rs at r → d ≡ get_or ds at d →
    agree number (drop at rs) (drop at ds) ≡ (is_row number r d && agree (number + 1) (drop (at + 1) rs) (drop (at + 1) ds))
agree_step number at rs ds r d in_rows in_ds e f =
    let rows : drop at rs ≡ r ∷ drop (at + 1) rs = rw (drop-cons rs at r in_rows, ← e, add-one) refl in
    let others : drop at ds ≡ d ∷ drop (at + 1) ds = rw (drop-cons ds at d in_ds, ← f, add-one) refl in
    rw (rows, others) refl

pub agree_lengths : (number : ℕ) (rs : List Row) (ds : List Declaration) → length rs ≢ length ds → agree number rs ds ≡ false
agree_lengths number [] [] ne = absurd (ne refl)
agree_lengths number [] (d ∷ ds) ne = refl
agree_lengths number (r ∷ rs) [] ne = refl
agree_lengths number (r ∷ rs) (d ∷ ds) ne =
    let others = agree_lengths (number + 1) rs ds (λ e. ne (ap suc e)) in
    rw others (and_no (is_row number r d))
  where
    and_no : (b : Bool) → (b && false) ≡ false
    and_no true = refl
    and_no false = refl

-- ---- rows that agree are the rows

row_is : (r : Row) (name : List ℕ) (number : ℕ) → r.name ≡ name → r.number ≡ number → r ≡ record { name = name; number = number }
row_is r name number e f = rw (← e, ← f) refl

pub agree_rows : (number : ℕ) (rs : List Row) (ds : List Declaration) → agree number rs ds ≡ true → rs ≡ rows_from number ds
agree_rows number [] [] e = refl
agree_rows number [] (d ∷ ds) e = absurd cc
agree_rows number (r ∷ rs) [] e = absurd cc
agree_rows number (r ∷ rs) (d ∷ ds) e =
    let h = and_parts (is_row number r d) (agree (number + 1) rs ds) e in
    let g = and_parts (bytes_eq r.name d.name) (r.number == number) h.0 in
    let same : r ≡ record { name = d.name; number = number } = row_is r d.name number ((bytes_eq-Decides r.name d.name).0 g.0) ((Decides-eqb r.number number).0 g.1) in
    rw (← agree_rows (number + 1) rs ds h.1, ← same) refl

pub rows_agree : (number : ℕ) (rs : List Row) (ds : List Declaration) → rs ≡ rows_from number ds → agree number rs ds ≡ true
rows_agree number rs ds e = rw e (own_rows number ds)
  where
    own_rows : (number : ℕ) (ds : List Declaration) → agree number (rows_from number ds) ds ≡ true
    own_rows number [] = refl
    own_rows number (d ∷ ds) = rw ((bytes_eq-Decides d.name d.name).1 refl, (Decides-eqb number number).1 refl, own_rows (number + 1) ds) refl
