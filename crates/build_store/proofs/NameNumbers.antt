-- The names that a map holds with their numbers, and the numbers that an index finds.
use Rattle.std.proofs.Common.{◌≡◌, ℕ, ◌+◌, ◌<◌, ◌≤◌, Bool, true, false, cond, List, [], ◌∷◌, ◌++◌, length, length-append, get_or, map, position, take, Option, Some, None, is_some, refl, sym, ap, ◌∙◌, arith}
use Rattle.std.specs.List.{position_or_len}
use Rattle.std.proofs.lemmas.List.Folds.{position_or_len_push}
use Rattle.std.proofs.lemmas.List.Sums.{prefix_len-le-length}
use Rattle.std.specs.Map.{lookup}
use Rattle.std.specs.Str.{bytes_eq}
use Rattle.std.proofs.lemmas.List.{length-take, take_more}
use Rattle.std.proofs.lemmas.Slice.Eq.{bytes_eq-Decides}
use Rattle.indexmap.specs.IndexMap.{insert_entry}
use Rattle.build_store.specs.NameIndexes.{NameNumbers, number_in, with_name}
use Rattle.build_store.specs.declared.table.Target.{Target}

-- ---- what a map holds

module _ {K : Type 0} (bytes : K → List ℕ) (name : List ℕ) where
  abbrev pub is_name : K → Bool
  is_name key = bytes_eq name (bytes key)

  abbrev pub numbers_in : List (K × ℕ) → NameNumbers
  numbers_in entries = map (λ e. (bytes e.0, e.1)) entries

  pub number_in-lookup : (entries : List (K × ℕ)) → number_in (numbers_in entries) name ≡ lookup is_name entries
  number_in-lookup [] = refl
  number_in-lookup (e ∷ es) = ap (λ o. cond (is_name e.0) (Some e.1) o) (number_in-lookup es)

  -- a name that is there stays as it is
  pub there : (number : ℕ) (entries : List (K × ℕ)) → true ≡ is_some (lookup is_name entries) → numbers_in entries ≡ with_name (numbers_in entries) name number
  there number [] h = absurd (cc)
  there number (e ∷ es) h = by (is_name e.0) h (there number es)
    where
      by : (b : Bool) → true ≡ is_some (cond b (Some e.1) (lookup is_name es)) → (true ≡ is_some (lookup is_name es) → numbers_in es ≡ with_name (numbers_in es) name number)
          → numbers_in (e ∷ es) ≡ cond b (numbers_in (e ∷ es)) ((bytes e.0, e.1) ∷ with_name (numbers_in es) name number)
      by true g f = refl
      by false g f = ap (λ l. (bytes e.0, e.1) ∷ l) (f g)

  -- another name goes last
  pub inserted : (number : ℕ) (key : K) (entries : List (K × ℕ)) → bytes key ≡ name → false ≡ is_some (lookup is_name entries)
      → numbers_in (insert_entry (λ a b. bytes_eq (bytes a) (bytes b)) entries key number) ≡ with_name (numbers_in entries) name number
  inserted number key [] own absent = ap (λ n. (n, number) ∷ []) own
  inserted number key (e ∷ es) own absent =
      by (is_name e.0) (bytes_eq (bytes key) (bytes e.0)) (ap (λ n. bytes_eq n (bytes e.0)) own) absent (inserted number key es own)
    where
      by : (b a : Bool) → a ≡ b → false ≡ is_some (cond b (Some e.1) (lookup is_name es))
          → (false ≡ is_some (lookup is_name es) → numbers_in (insert_entry (λ x y. bytes_eq (bytes x) (bytes y)) es key number) ≡ with_name (numbers_in es) name number)
          → numbers_in (cond a ((e.0, number) ∷ es) (e ∷ insert_entry (λ x y. bytes_eq (bytes x) (bytes y)) es key number))
          ≡ cond b (numbers_in (e ∷ es)) ((bytes e.0, e.1) ∷ with_name (numbers_in es) name number)
      by true a same g f = absurd (cc)
      by false true same g f = absurd (cc)
      by false false same g f = ap (λ l. (bytes e.0, e.1) ∷ l) (f g)

-- ---- what is found of a name

-- the first of two that is there
abbrev pub first_of : Option ℕ → Option ℕ → Option ℕ
first_of None o = o
first_of (Some x) o = Some x

-- what is found where one more name has come
number_in-with_name : (other name : List ℕ) (number : ℕ) (names : NameNumbers) → number_in (with_name names name number) other ≡ first_of (number_in names other) (cond (bytes_eq other name) (Some number) None)
number_in-with_name other name number [] = refl
number_in-with_name other name number (n ∷ ns) = by (bytes_eq name n.0) refl (bytes_eq other n.0) refl (number_in-with_name other name number ns)
  where
    by : (b : Bool) → bytes_eq name n.0 ≡ b → (a : Bool) → bytes_eq other n.0 ≡ a → number_in (with_name ns name number) other ≡ first_of (number_in ns other) (cond (bytes_eq other name) (Some number) None)
        → number_in (cond b (n ∷ ns) (n ∷ with_name ns name number)) other ≡ first_of (cond a (Some n.1) (number_in ns other)) (cond (bytes_eq other name) (Some number) None)
    by true is true here f = ap (λ a. cond a (Some n.1) (number_in ns other)) here
    by true is false here f =
        let named : name ≡ n.0 = (bytes_eq-Decides name n.0).0 is in
        ap (λ a. cond a (Some n.1) (number_in ns other)) here ∙ alone (number_in ns other) (bytes_eq other name) (ap (bytes_eq other) named ∙ here)
      where
        alone : (o : Option ℕ) (a : Bool) → a ≡ false → o ≡ first_of o (cond a (Some number) None)
        alone None a apart = sym (ap (λ t. cond t (Some number) None) apart)
        alone (Some x) a apart = refl
    by false is true here f = ap (λ a. cond a (Some n.1) (number_in (with_name ns name number) other)) here
    by false is false here f = ap (λ a. cond a (Some n.1) (number_in (with_name ns name number) other)) here ∙ f

-- ---- the first module of a name

-- the first place of a list with one more item
position_push : {X : Type 0} (p : X → Bool) (xs : List X) (x : X) → position p (xs ++ x ∷ []) ≡ first_of (position p xs) (cond (p x) (Some (length xs)) None)
position_push p xs x =
    let most : position_or_len p xs ≤ length xs = prefix_len-le-length _ xs in
    grind (arith, position_or_len_push p xs x, most, length-append xs (x ∷ []))

-- which of two texts comes first does not matter
bytes_eq-comm : (a b : List ℕ) → bytes_eq a b ≡ bytes_eq b a
bytes_eq-comm a b = by (bytes_eq a b) refl (bytes_eq b a) refl
  where
    by : (p : Bool) → bytes_eq a b ≡ p → (q : Bool) → bytes_eq b a ≡ q → p ≡ q
    by true e true f = refl
    by true e false f = sym ((bytes_eq-Decides b a).1 (sym ((bytes_eq-Decides a b).0 e))) ∙ f
    by false e true f = sym e ∙ (bytes_eq-Decides a b).1 (sym ((bytes_eq-Decides b a).0 f))
    by false e false f = refl

-- one more module at the end of the table
pub pushed : (names : NameNumbers) (modules : List Target) (m : Target) → ((other : List ℕ) → number_in names other ≡ position (λ (x : Target). bytes_eq x.name other) modules)
    → (other : List ℕ) → number_in (with_name names m.name (length modules)) other ≡ position (λ (x : Target). bytes_eq x.name other) (modules ++ m ∷ [])
pushed names modules m before other =
    let named : bytes_eq other m.name ≡ bytes_eq m.name other = bytes_eq-comm other m.name in
    number_in-with_name other m.name (length modules) names
    ∙ (λ i. first_of (before other i) (cond (named i) (Some (length modules)) None))
    ∙ sym (position_push (λ (x : Target). bytes_eq x.name other) modules m)

-- the next module of a table
pub next : (names after : NameNumbers) (modules : List Target) (m : Target) (name : List ℕ) (n : ℕ) → n < length modules → name ≡ (get_or modules n m).name → after ≡ with_name names name n
    → ((other : List ℕ) → number_in names other ≡ position (λ (x : Target). bytes_eq x.name other) (take n modules))
    → (other : List ℕ) → number_in after other ≡ position (λ (x : Target). bytes_eq x.name other) (take (n + 1) modules)
next names after modules m name n within own is before other =
    let here : n ≡ length (take n modules) = omega (arith, length-take n modules) in
    let same : after ≡ with_name names (get_or modules n m).name (length (take n modules)) = is ∙ (λ i. with_name names (own i) (here i)) in
    ap (λ ns. number_in ns other) same ∙ pushed names (take n modules) (get_or modules n m) before other ∙ ap (position (λ (x : Target). bytes_eq x.name other)) (sym (take_more modules n m within))
