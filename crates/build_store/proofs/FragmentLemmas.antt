-- The parts that a module brings: its own, and what its imports brought.
use Rattle.std.proofs.Common.{◌≡◌, ◌∙◌, refl, sym, ap, ℕ, ◌<◌, Bool, true, false, ◌==◌, cond, List, [], ◌∷◌, ◌++◌, length, map, get_or, Option, Some, None, true≢false, eq-eqb, eqb-true, ne_eqb, ◌⊎◌, inl, inr}
use Rattle.std.specs.Prelude.{slice_get}
use Rattle.std.specs.List.{list_any}
use Rattle.std.specs.Option.{option_map_or, is_some, option_or}
use Rattle.std.proofs.lemmas.Bool.{or_cases, or_left, cases_eq}
use Rattle.std.proofs.lemmas.Option.{same_Some, slice_get-get_or}
use Rattle.cm_core.specs.declared.numbers.SubNo.{SubNo}
use Rattle.build_store.specs.Modules.{is_in}
use Rattle.build_store.specs.Parts.{Fragment, part_in, part_or, sub_numbers, numbers_of}
use Rattle.build_store.specs.Targets.{name_of, number_of, HasOwnNames}
use Rattle.build_store.specs.Libraries.{with_part, is_imported, IsBroughtBy}
use Rattle.build_store.specs.declared.part.Part.{Part}
use Rattle.build_store.specs.declared.table.Table.{Table}
use Rattle.build_store.specs.declared.table.Target.{Target}
use Rattle.build_store.proofs.ListLemmas.{Every, every_at, in_head, in_tail}
use Rattle.build_store.proofs.RowLemmas.{no_target}
use Rattle.build_store.proofs.OwnerLemmas.{fragment_of, fragments, Brings}

-- ---- parts of fragments

pub part_in-append : (a b : Fragment) (z : ℕ) → part_in (a ++ b) z ≡ option_or (part_in a z) (part_in b z)
part_in-append [] b z = refl
part_in-append (p ∷ a) b z = by (p.0 == z) (part_in-append a b z)
  where
    by : (test : Bool) → part_in (a ++ b) z ≡ option_or (part_in a z) (part_in b z) → part_or test p.1 (part_in (a ++ b) z) ≡ option_or (part_or test p.1 (part_in a z)) (part_in b z)
    by true rest = refl
    by false rest = rest

or_first : (a b : Option Part) → is_some a ≡ true → is_some (option_or a b) ≡ true
or_first None b e = absurd (true≢false (sym e))
or_first (Some p) b e = refl

or_second : (a b : Option Part) → is_some b ≡ true → is_some (option_or a b) ≡ true
or_second None b e = e
or_second (Some p) b e = refl

or_from : (a b : Option Part) (p : Part) → option_or a b ≡ Some p → (a ≡ Some p) ⊎ (b ≡ Some p)
or_from None b p e = inr e
or_from (Some q) b p e = inl e

module _ (brings : ℕ → Option Fragment) where
  -- a part among what some modules brought is among what one of them did
  pub in_fragments : (ms : List ℕ) (z : ℕ) (part : Part) → part_in (fragments brings ms) z ≡ Some part
      → (m : ℕ) × (b : Fragment) × (is_in m ms ≡ true) × (brings m ≡ Some b) × (part_in b z ≡ Some part)
  in_fragments [] z part e = absurd (cc)
  in_fragments (m ∷ ms) z part e =
      elim (or_from (part_in (fragment_of (brings m)) z) (part_in (fragments brings ms) z) part (sym (part_in-append (fragment_of (brings m)) (fragments brings ms) z) ∙ e)) [
        | inl here ↦ by (brings m) refl here
        | inr there ↦ (let r = in_fragments ms z part there in (r.0, r.1, in_tail r.0 m ms r.2, r.3, r.4))
      ]
    where
      by : (o : Option Fragment) → brings m ≡ o → part_in (fragment_of o) z ≡ Some part
          → (y : ℕ) × (b : Fragment) × (is_in y (m ∷ ms) ≡ true) × (brings y ≡ Some b) × (part_in b z ≡ Some part)
      by None is h = absurd (cc)
      by (Some b) is h = (m, b, in_head m ms, is, h)

  pub of_fragments : (ms : List ℕ) (m : ℕ) (b : Fragment) (z : ℕ) → is_in m ms ≡ true → brings m ≡ Some b → is_some (part_in b z) ≡ true → is_some (part_in (fragments brings ms) z) ≡ true
  of_fragments [] m b z e is h = absurd (true≢false (sym e))
  of_fragments (x ∷ ms) m b z e is h =
      ap is_some (part_in-append (fragment_of (brings x)) (fragments brings ms) z)
      ∙ elim (or_cases (m == x) (is_in m ms) e) [
        | inl same ↦
            or_first (part_in (fragment_of (brings x)) z) (part_in (fragments brings ms) z)
            (ap (λ o. is_some (part_in (fragment_of o) z)) (ap brings (sym (eqb-true m x same)) ∙ is) ∙ h)
        | inr more ↦ or_second (part_in (fragment_of (brings x)) z) (part_in (fragments brings ms) z) (of_fragments ms m b z more is h)
      ]

-- ---- numbers of names

module _ (table : Table) (names : HasOwnNames table) where
  pub number_of_name : (x : ℕ) → x < length table.targets → number_of table (name_of table x) ≡ Some x
  number_of_name x within =
      let at : slice_get table.targets x ≡ Some (get_or table.targets x no_target) = slice_get-get_or table.targets x no_target within in
      ap (λ o. number_of table (option_map_or (λ (m : Target). m.name) o [])) at ∙ names.numbered x (get_or table.targets x no_target) at

  pub numbers_of_names : (xs : List ℕ) → Every (λ x. x < length table.targets) xs → numbers_of table (map (name_of table) xs) ≡ map (λ x. record { index = x }) xs
  numbers_of_names [] h = refl
  numbers_of_names (x ∷ xs) h = λ i. sub_numbers (number_of_name x h.0 i) ++ numbers_of_names xs h.1 i

  numbered_in : (xs : List ℕ) (y : ℕ) → list_any (λ (s : SubNo). s.index == y) (map (λ x. record { index = x }) xs) ≡ true → is_in y xs ≡ true
  numbered_in [] y e = absurd (true≢false (sym e))
  numbered_in (x ∷ xs) y e =
      elim (or_cases (x == y) (list_any (λ (s : SubNo). s.index == y) (map (λ z. record { index = z }) xs)) e) [
        | inl same ↦ or_left (y == x) (is_in y xs) (eq-eqb y x (sym (eqb-true x y same)))
        | inr more ↦ in_tail y x xs (numbered_in xs y more)
      ]

  imported_in : (part : Part) (ms : List ℕ) (y : ℕ) → Every (λ x. x < length table.targets) ms → part.imports ≡ map (name_of table) ms → is_imported table part y ≡ true → is_in y ms ≡ true
  imported_in part ms y known imports e =
      numbered_in ms y (sym (ap (list_any (λ (s : SubNo). s.index == y)) (ap (numbers_of table) imports ∙ numbers_of_names ms known)) ∙ e)

  -- ---- modules

  -- what a module brings stays so when the part of another one becomes known
  pub still_brought : (parts : ℕ → Option Part) (x m : ℕ) (part : Part) (b : Fragment) → parts x ≡ None → IsBroughtBy table parts m b → IsBroughtBy table (with_part parts x part) m b
  still_brought parts x m part b unknown by = record {
    own = by.own;
    known = λ z q e. (let apart : z ≡ x → ⊥ = λ same. (let so = by.known z q e in let none = ap parts same ∙ unknown in cc) in
        ap (λ test. cond test (Some part) (parts z)) (ne_eqb z x apart) ∙ by.known z q e);
    closed = by.closed;
  }

  -- a module brings its part and what its imports brought
  pub module_brings : (parts : ℕ → Option Part) (brings : ℕ → Option Fragment) (x : ℕ) (part : Part) (ms : List ℕ)
      → Every (λ m. m < length table.targets) ms → Every (Brings brings) ms → part.imports ≡ map (name_of table) ms
      → ((m : ℕ) (b : Fragment) → is_in m ms ≡ true → brings m ≡ Some b → IsBroughtBy table parts m b)
      → IsBroughtBy table (with_part parts x part) x ((x, part) ∷ fragments brings ms)
  module_brings parts brings x part ms within there imports each = record {
    own = own_there x (x == x) (eq-eqb x x refl);
    known = λ z q e. known_at z q (cases_eq x z) e;
    closed = λ z y q e h. closed_at z y q (cases_eq x z) e h;
  }
    where
      rest : Fragment
      rest = fragments brings ms

      own_there : (z : ℕ) (b : Bool) → b ≡ true → is_some (part_or b part (part_in rest z)) ≡ true
      own_there z true e = refl
      own_there z false e = absurd (true≢false (sym e))

      at_own : (z : ℕ) → x ≡ z → part_in ((x, part) ∷ rest) z ≡ Some part
      at_own z same = ap (λ b. part_or b part (part_in rest z)) (eq-eqb x z same)

      at_other : (z : ℕ) → (x ≡ z → ⊥) → part_in ((x, part) ∷ rest) z ≡ part_in rest z
      at_other z other = ap (λ b. part_or b part (part_in rest z)) (ne_eqb x z other)

      any_there : (y : ℕ) (b : Bool) → is_some (part_in rest y) ≡ true → is_some (part_or b part (part_in rest y)) ≡ true
      any_there y true h = refl
      any_there y false h = h

      known_at : (z : ℕ) (q : Part) → (x ≡ z) ⊎ (x ≡ z → ⊥) → part_in ((x, part) ∷ rest) z ≡ Some q → with_part parts x part z ≡ Some q
      known_at z q (inl same) e = ap (λ b. cond b (Some part) (parts z)) (eq-eqb z x (sym same)) ∙ sym (at_own z same) ∙ e
      known_at z q (inr other) e =
          let r = in_fragments brings ms z q (sym (at_other z other) ∙ e) in
          ap (λ b. cond b (Some part) (parts z)) (ne_eqb z x (λ same. other (sym same))) ∙ (each r.0 r.1 r.2 r.3).known z q r.4

      brought_at : (y : ℕ) (o : Option Fragment) → brings y ≡ o → is_some o ≡ true → is_in y ms ≡ true → is_some (part_in rest y) ≡ true
      brought_at y None is some h = absurd (true≢false (sym some))
      brought_at y (Some b) is some h = of_fragments brings ms y b y h is (each y b h is).own

      closed_at : (z y : ℕ) (q : Part) → (x ≡ z) ⊎ (x ≡ z → ⊥) → part_in ((x, part) ∷ rest) z ≡ Some q → is_imported table q y ≡ true → is_some (part_in ((x, part) ∷ rest) y) ≡ true
      closed_at z y q (inl same) e h =
          let is_part : q ≡ part = same_Some q part (sym e ∙ at_own z same) in
          let here : is_in y ms ≡ true = imported_in part ms y within imports (ap (λ p. is_imported table p y) (sym is_part) ∙ h) in
          any_there y (x == y) (brought_at y (brings y) refl (every_at (Brings brings) ms there y here) here)
      closed_at z y q (inr other) e h =
          let r = in_fragments brings ms z q (sym (at_other z other) ∙ e) in
          any_there y (x == y) (of_fragments brings ms r.0 r.1 y r.2 r.3 ((each r.0 r.1 r.2 r.3).closed z y q r.4 h))
