-- The rows of a table's modules: how many there are, that they are rows, and what one part more makes of them.
use Rattle.std.proofs.Common.{◌≡◌, ◌≢◌, ◌∙◌, refl, sym, ap, subst, ℕ, zero, suc, ◌+◌, ◌<◌, ◌≤◌, Bool, cond, List, [], ◌∷◌, ◌++◌, length, get_or, set, take, replicate, add-one, length-set, Option, Some, None, arith, zero-add, add-zero, eq-eqb, ne_eqb, inl, inr}
use Rattle.std.proofs.Math.Path.{fun_ext}
use Rattle.std.specs.Prelude.{slice_get, All, IfSome}
use Rattle.std.specs.List.{range_with_len, flat_map}
use Rattle.std.specs.Str.{bytes_eq}
use Rattle.std.specs.Option.{unwrap_or}
use Rattle.std.proofs.lemmas.Option.{unwrap_or-slice_get}
use Rattle.std.proofs.lemmas.Bool.{cases_eq}
use Rattle.std.proofs.lemmas.Grind.{flat_map-append}
use Rattle.std.proofs.lemmas.List.{append-nil, get_or-set_same, get_or-set_other, length-replicate}
use Rattle.std.proofs.lemmas.List.Elements.{All-nil, All-append}
use Rattle.std.proofs.lemmas.List.Quantifiers.{position-Some}
use Rattle.cm_core.specs.declared.numbers.SubNo.{SubNo}
use Rattle.export_closure.specs.Closure.{AreRows, IsRow, IsPattern, closure}
use Rattle.export_closure.specs.Flags.{has}
use Rattle.export_closure.specs.declared.rows.ExportRow.{ExportRow}
use Rattle.export_closure.specs.declared.rows.Pattern.TheVariants.{All as Every, Under}
use Rattle.build_store.specs.Parts.{sub_numbers, numbers_of, under, patterns_of, row_of, part_or_none, no_part, rows_from, rows_of, names_if, declared_in, brought}
use Rattle.build_store.specs.Targets.{number_of}
use Rattle.build_store.specs.Libraries.{part_at, parts_at, with_part, IsOf}
use Rattle.build_store.specs.declared.library.Library.{Library}
use Rattle.build_store.specs.declared.part.Part.{Part}
use Rattle.build_store.specs.declared.table.Table.{Table}
use Rattle.build_store.specs.declared.table.Target.{Target}
use Rattle.build_store.specs.declared.table.Export.{Export}
use Rattle.build_store.specs.declared.table.Export.TheVariants.{Nothing, All as Whole, Module}

-- ---- numbers of names

pub no_target : Target
no_target = record { name = []; header = []; export = Nothing }

pub number_within : (table : Table) (name : List ℕ) (x : ℕ) → number_of table name ≡ Some x → x < length table.targets
number_within table name x e = (position-Some (λ (m : Target). bytes_eq m.name name) table.targets x no_target e).0

all_one : {X : Type 0} (P : X → Type 0) (x : X) → P x → All P (x ∷ [])
all_one P x h zero d within = h
all_one P x h (suc k) d within = absurd (omega arith)

module _ (table : Table) where
  numbers_at : (o : Option ℕ) → ((x : ℕ) → o ≡ Some x → x < length table.targets) → All (λ (s : SubNo). s.index < length table.targets) (sub_numbers o)
  numbers_at None h = All-nil _
  numbers_at (Some x) h = all_one (λ (s : SubNo). s.index < length table.targets) (record { index = x }) (h x refl)

  pub numbers_within : (names : List (List ℕ)) → All (λ (s : SubNo). s.index < length table.targets) (numbers_of table names)
  numbers_within [] = All-nil _
  numbers_within (name ∷ names) =
      All-append (λ (s : SubNo). s.index < length table.targets) (sub_numbers (number_of table name)) (numbers_of table names)
      (numbers_at (number_of table name) (number_within table name)) (numbers_within names)

  under_within : (o : Option ℕ) → ((x : ℕ) → o ≡ Some x → x < length table.targets) → All (IsPattern (length table.targets)) (under o)
  under_within None h = All-nil _
  under_within (Some x) h = all_one (IsPattern (length table.targets)) (Under (record { index = x })) (h x refl)

  patterns_within : (export : Export) → All (IsPattern (length table.targets)) (patterns_of table export)
  patterns_within Nothing = All-nil _
  patterns_within Whole = all_one (IsPattern (length table.targets)) Every tt
  patterns_within (Module name) = under_within (number_of table name) (number_within table name)

  row_within : (export : Export) (part : Part) (at : ℕ) → IsRow (length table.targets) at (row_of table export part)
  row_within export part at = record { parent = tt; exports = patterns_within export; imports = numbers_within part.imports }

  -- ---- rows

  pub length-rows_from : (f : ℕ → Option Part) (x : ℕ) (ms : List Target) → length (rows_from table f x ms) ≡ length ms
  length-rows_from f x [] = refl
  length-rows_from f x (m ∷ ms) = ap suc (length-rows_from f (suc x) ms)

  pub length-rows_of : (f : ℕ → Option Part) → length (rows_of table f) ≡ length table.targets
  length-rows_of f = length-rows_from f 0 table.targets

  rows_within : (f : ℕ → Option Part) (x : ℕ) (ms : List Target) (at : ℕ) → IfSome (slice_get (rows_from table f x ms) at) (IsRow (length table.targets) (x + at))
  rows_within f x [] at = tt
  rows_within f x (m ∷ ms) zero = row_within m.export (part_or_none (f x)) (x + 0)
  rows_within f x (m ∷ ms) (suc at) =
      let P : ℕ → Type 0 = λ n. IfSome (slice_get (rows_from table f (suc x) ms) at) (IsRow (length table.targets) n) in
      subst P (let e : suc x + at ≡ x + suc at = omega arith in e) (rows_within f (suc x) ms at)

  pub are_rows : (f : ℕ → Option Part) → AreRows (rows_of table f)
  are_rows f = record {
    rows_at = λ at.
        let P : ℕ → Type 0 = λ n. IfSome (slice_get (rows_of table f) at) (IsRow n at) in
        let Q : ℕ → Type 0 = λ n. IfSome (slice_get (rows_of table f) at) (IsRow (length table.targets) n) in
        subst P (sym (length-rows_of f)) (subst Q (zero-add at) (rows_within f 0 table.targets at));
  }

  -- rows by the same parts are the same
  rows_alike : (f g : ℕ → Option Part) (x : ℕ) (ms : List Target) → ((y : ℕ) → x ≤ y → g y ≡ f y) → rows_from table g x ms ≡ rows_from table f x ms
  rows_alike f g x [] same = refl
  rows_alike f g x (m ∷ ms) same = λ i. row_of table m.export (part_or_none (same x (omega arith) i)) ∷ rows_alike f g (suc x) ms (λ y h. same y (omega arith)) i

  set_row : (f g : ℕ → Option Part) (x : ℕ) (ms : List Target) (at : ℕ) (d : Target) (part : Part) → at < length ms → g (x + at) ≡ Some part → ((y : ℕ) → y ≢ x + at → g y ≡ f y)
      → rows_from table g x ms ≡ set (rows_from table f x ms) at (row_of table (get_or ms at d).export part)
  set_row f g x [] at d part within this others = absurd (omega arith)
  set_row f g x (m ∷ ms) zero d part within this others =
      let here : g x ≡ Some part = ap g (sym (add-zero x)) ∙ this in
      λ i. row_of table m.export (part_or_none (here i)) ∷ rows_alike f g (suc x) ms (λ y h. others y (omega arith)) i
  set_row f g x (m ∷ ms) (suc at) d part within this others =
      let next : suc x + at ≡ x + suc at = omega arith in
      let rest = set_row f g (suc x) ms at d part (omega arith) (ap g next ∙ this) (λ y h. others y (λ e. h (e ∙ sym next))) in
      λ i. row_of table m.export (part_or_none (others x (omega arith) i)) ∷ rest i

  pub rows_with : (f g : ℕ → Option Part) (at : ℕ) (d : Target) (part : Part) → at < length table.targets → ((y : ℕ) → g y ≡ with_part f at part y)
      → rows_of table g ≡ set (rows_of table f) at (row_of table (get_or table.targets at d).export part)
  rows_with f g at d part within same =
      set_row f g 0 table.targets at d part within
      (same (0 + at) ∙ ap (λ b. cond b (Some part) (f (0 + at))) (eq-eqb (0 + at) at (zero-add at)))
      (λ y other. same y ∙ ap (λ b. cond b (Some part) (f y)) (ne_eqb y at (λ e. other (e ∙ sym (zero-add at)))))

-- ---- parts

pub part_at_none : (n : ℕ) (x : ℕ) → part_at (replicate n None) x ≡ None
part_at_none zero x = refl
part_at_none (suc n) zero = refl
part_at_none (suc n) (suc x) = part_at_none n x

pub part_at_set : (parts : List (Option Part)) (x : ℕ) (part : Part) (y : ℕ) → x < length parts → part_at (set parts x (Some part)) y ≡ with_part (part_at parts) x part y
part_at_set parts x part y within =
    elim (cases_eq y x) [
      | inl same ↦ (rw same (get_or-set_same parts x (Some part) None within ∙ sym (ap (λ b. cond b (Some part) (part_at parts x)) (eq-eqb x x refl))))
      | inr other ↦ get_or-set_other parts x y (Some part) None other ∙ sym (ap (λ b. cond b (Some part) (part_at parts y)) (ne_eqb y x other))
    ]

pub part_at_is : (parts : List (Option Part)) (x : ℕ) (o : Option (Option Part)) → o ≡ slice_get parts x → unwrap_or o None ≡ part_at parts x
part_at_is parts x o same = ap (λ p. unwrap_or p None) same ∙ unwrap_or-slice_get parts x None

-- ---- libraries

of_rows : (table : Table) (library : Library) → length library.parts ≡ length table.targets → library.rows ≡ rows_of table (parts_at library) → IsOf table library
of_rows table library places known = record {
  places = places;
  rows = known;
  whole = record {
    rows = subst AreRows (sym known) (are_rows table (parts_at library));
    places = ap length known ∙ length-rows_of table (parts_at library) ∙ sym places;
  };
}

pub is_of_new : (table : Table) (library : Library) → library.rows ≡ rows_of table (λ _. None) → library.parts ≡ replicate (length table.targets) None → IsOf table library
is_of_new table library rows parts =
    let nothing : parts_at library ≡ λ _. None = ap part_at parts ∙ fun_ext (part_at_none (length table.targets)) in
    let known : library.rows ≡ rows_of table (parts_at library) = rows ∙ ap (rows_of table) (sym nothing) in
    of_rows table library (ap length parts ∙ length-replicate (length table.targets) None) known

pub is_of_set : (table : Table) (old new : Library) (x : ℕ) (d : Target) (part : Part) → IsOf table old → x < length table.targets
    → new.rows ≡ set old.rows x (row_of table (get_or table.targets x d).export part) → new.parts ≡ set old.parts x (Some part) → IsOf table new
is_of_set table old new x d part of within rows parts =
    let inside : x < length old.parts = omega (arith, of.places) in
    let after : (y : ℕ) → parts_at new y ≡ with_part (parts_at old) x part y = λ y. ap (λ ps. part_at ps y) parts ∙ part_at_set old.parts x part y inside in
    let known : new.rows ≡ rows_of table (parts_at new) =
    rows ∙ ap (λ rs. set rs x (row_of table (get_or table.targets x d).export part)) of.rows ∙ sym (rows_with table (parts_at old) (parts_at new) x d part within after) in
    of_rows table new (ap length parts ∙ length-set old.parts x (Some part) ∙ of.places) known

pub is_of_put : (table : Table) (old new : Library) (x : ℕ) (ms : List Target) (item : Target) (part : Part) (row : ExportRow) → IsOf table old → x < length table.targets
    → ms ≡ table.targets → item ≡ get_or ms x item → row ≡ row_of table item.export part
    → new.rows ≡ set old.rows x row → new.parts ≡ set old.parts x (Some part) → IsOf table new
is_of_put table old new x ms item part row of within same here is rows parts =
    let at : item ≡ get_or table.targets x item = here ∙ ap (λ xs. get_or xs x item) same in
    is_of_set table old new x item part of within (rows ∙ ap (set old.rows x) (is ∙ ap (λ (m : Target). row_of table m.export part) at)) parts

-- ---- rows one after the other

pub rows_from_more : (table : Table) (f : ℕ → Option Part) (x : ℕ) (ms : List Target) (at : ℕ) (d : Target) → at < length ms
    → rows_from table f x (take (suc at) ms) ≡ rows_from table f x (take at ms) ++ row_of table (get_or ms at d).export (part_or_none (f (x + at))) ∷ []
rows_from_more table f x [] at d within = absurd (omega arith)
rows_from_more table f x (m ∷ ms) zero d within = ap (λ n. row_of table m.export (part_or_none (f n)) ∷ []) (sym (add-zero x))
rows_from_more table f x (m ∷ ms) (suc at) d within =
    let next : suc x + at ≡ x + suc at = omega arith in
    ap (λ rows. row_of table m.export (part_or_none (f x)) ∷ rows)
    (rows_from_more table f (suc x) ms at d (omega arith) ∙ ap (λ n. rows_from table f (suc x) (take at ms) ++ row_of table (get_or ms at d).export (part_or_none (f n)) ∷ []) next)

pub empty_rows_more : (table : Table) (ms : List Target) (at : ℕ) (before after : List ExportRow) (item : Target) (row : ExportRow) → ms ≡ table.targets → at < length ms → item ≡ get_or ms at item
    → before ≡ rows_from table (λ _. None) 0 (take at table.targets) → row ≡ row_of table item.export no_part → after ≡ before ++ row ∷ []
    → after ≡ rows_from table (λ _. None) 0 (take (at + 1) table.targets)
empty_rows_more table ms at before after item row same within here so is more =
    let inside : at < length table.targets = omega (arith, ap length same) in
    more
    ∙ (λ i. so i ++ (is ∙ ap (λ (m : Target). row_of table m.export no_part) (here ∙ ap (λ xs. get_or xs at item) same)) i ∷ [])
    ∙ sym (rows_from_more table (λ _. None) 0 table.targets at item inside)
    ∙ ap (λ n. rows_from table (λ _. None) 0 (take n table.targets)) (sym (add-one at))

-- ---- what a set declares

pub range_more : (a n : ℕ) → range_with_len a (suc n) ≡ range_with_len a n ++ (a + n) ∷ []
range_more a zero = ap (λ x. x ∷ []) (sym (add-zero a))
range_more a (suc n) = let next : (a + 1) + n ≡ a + suc n = omega arith in ap (λ xs. a ∷ xs) (range_more (a + 1) n ∙ ap (λ x. range_with_len (a + 1) n ++ x ∷ []) next)

pub declared_more : (parts : List (Option Part)) (members : List Bool) (x : ℕ) (before after : List (List ℕ)) (part : Option Part) → x < length parts → part ≡ get_or parts x part
    → before ≡ declared_in (part_at parts) members (range_with_len 0 x) → after ≡ before ++ names_if (has members x) part
    → after ≡ declared_in (part_at parts) members (range_with_len 0 (x + 1))
declared_more parts members x before after part within here so more =
    let one : ℕ → List (List ℕ) = λ y. names_if (has members y) (part_at parts y) in
    let known : part ≡ part_at parts (0 + x) = here ∙ get_or_default parts x part within ∙ ap (part_at parts) (sym (zero-add x)) in
    more
    ∙ ap (λ front. front ++ names_if (has members x) part) so
    ∙ (λ i. declared_in (part_at parts) members (range_with_len 0 x) ++ names_if (has members (sym (zero-add x) i)) (known i))
    ∙ sym (ap (λ n. flat_map one (range_with_len 0 n)) (add-one x) ∙ ap (flat_map one) (range_more 0 x) ∙ flat_map-append one (range_with_len 0 x) ((0 + x) ∷ []) ∙ ap (λ xs. flat_map one (range_with_len 0 x) ++ xs) (append-nil (one (0 + x))))
  where
    get_or_default : (ps : List (Option Part)) (y : ℕ) (p : Option Part) → y < length ps → get_or ps y p ≡ get_or ps y None
    get_or_default [] y p lt = absurd (omega arith)
    get_or_default (q ∷ ps) zero p lt = refl
    get_or_default (q ∷ ps) (suc y) p lt = get_or_default ps y p (omega arith)

pub brought_is : (table : Table) (library : Library) (x : ℕ) (members : List Bool) (names : List (List ℕ)) → IsOf table library → members ≡ closure library.rows x
    → names ≡ declared_in (part_at library.parts) members (range_with_len 0 (length library.parts)) → names ≡ brought table (parts_at library) x
unfolding brought
brought_is table library x members names of same so =
    so ∙ (λ i. declared_in (parts_at library) ((same ∙ ap (λ rows. closure rows x) of.rows) i) (range_with_len 0 (of.places i)))
