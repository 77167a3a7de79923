-- The groups that a map holds: what a look-up finds, and what a push leaves.
use Rattle.std.proofs.Common.{◌≡◌, ℕ, ◌+◌, suc, zero, Bool, true, false, cond, not, ltb, List, [], ◌∷◌, ◌++◌, length, map, slice_get, position, Option, Some, None, is_some, refl, sym, ap, ◌∙◌, arith}
use Rattle.std.specs.List.{position_or_len}
use Rattle.std.specs.Map.{keys_of, values_of, lookup}
use Rattle.std.specs.Option.{option_map_or}
use Rattle.std.specs.Str.{bytes_eq}
use Rattle.indexmap.specs.IndexMap.{insert_entry, set_value_at}
use Rattle.cm_core.specs.declared.macros.MacroNode.{MacroNode}
use Rattle.macro_sets.specs.declared.groups.Position.{Position}
use Rattle.macro_sets.specs.Histories.{Groups, group_of, place_of, pushed}

some_position : {X : Type 0} (p : X → Bool) (xs : List X) (at : ℕ) → Some at ≡ position p xs → at ≡ position_or_len p xs
some_position p xs at e = by (ltb (position_or_len p xs) (length xs)) e
  where
    by : (b : Bool) → Some at ≡ cond b (Some (position_or_len p xs)) None → at ≡ position_or_len p xs
    by true e = cc
    by false e = absurd (cc)

none_from : {X : Type 0} (o : Option X) → false ≡ is_some o → o ≡ None
none_from None h = refl
none_from (Some x) h = absurd (cc)

abbrev pub place : ℕ → ℕ → Position
place group at = record { group = group; at = at }

module _ {K : Type 0} (bytes : K → List ℕ) (name : List ℕ) where
  abbrev pub is_name : K → Bool
  is_name key = bytes_eq name (bytes key)

  abbrev pub groups_of : List (K × List MacroNode) → Groups
  groups_of entries = map (λ e. (bytes e.0, e.1)) entries

  pub group_of-lookup : (entries : List (K × List MacroNode)) → group_of (groups_of entries) name ≡ option_map_or (λ nodes. nodes) (lookup is_name entries) []
  group_of-lookup [] = refl
  group_of-lookup (e ∷ es) = by (is_name e.0) (group_of-lookup es)
    where
      by : (b : Bool) → group_of (groups_of es) name ≡ option_map_or (λ nodes. nodes) (lookup is_name es) []
          → cond b e.1 (group_of (groups_of es) name) ≡ option_map_or (λ nodes. nodes) (cond b (Some e.1) (lookup is_name es)) []
      by true f = refl
      by false f = f

  pub group_of-found : (entries : List (K × List MacroNode)) (nodes : List MacroNode) → Some nodes ≡ lookup is_name entries → nodes ≡ group_of (groups_of entries) name
  group_of-found entries nodes found = ap (λ o. option_map_or (λ n. n) o []) found ∙ sym (group_of-lookup entries)

  pub group_of-none : (entries : List (K × List MacroNode)) → None ≡ lookup is_name entries → [] ≡ group_of (groups_of entries) name
  group_of-none entries none = ap (λ o. option_map_or (λ n. n) o []) none ∙ sym (group_of-lookup entries)

  module _ (node : MacroNode) where
    -- a push at the entry of the name
    pushed-found : (entries : List (K × List MacroNode)) (nodes : List MacroNode) → slice_get (values_of entries) (position_or_len is_name (keys_of entries)) ≡ Some nodes
        → groups_of (set_value_at entries (position_or_len is_name (keys_of entries)) (nodes ++ node ∷ [])) ≡ pushed (groups_of entries) name node
    pushed-found [] nodes h = cc
    pushed-found (e ∷ es) nodes h = by (is_name e.0) (position_or_len is_name (keys_of es)) h (pushed-found es nodes)
      where
        by : (b : Bool) (next : ℕ) → slice_get (e.1 ∷ values_of es) (cond (not b) (1 + next) 0) ≡ Some nodes
            → (slice_get (values_of es) next ≡ Some nodes → groups_of (set_value_at es next (nodes ++ node ∷ [])) ≡ pushed (groups_of es) name node)
            → groups_of (set_value_at (e ∷ es) (cond (not b) (1 + next) 0) (nodes ++ node ∷ []))
            ≡ cond b ((bytes e.0, e.1 ++ node ∷ []) ∷ groups_of es) ((bytes e.0, e.1) ∷ pushed (groups_of es) name node)
        by true next g f =
            let same : nodes ≡ e.1 = cc in
            ap (λ l. (bytes e.0, l ++ node ∷ []) ∷ groups_of es) same
        by false next g f =
            let one : 1 + next ≡ suc next = omega arith in
            rw one (ap (λ l. (bytes e.0, e.1) ∷ l) (f (rw one at g)))

    pub pushed_at : (entries : List (K × List MacroNode)) (at : ℕ) (nodes : List MacroNode) → Some at ≡ position is_name (keys_of entries) → slice_get (values_of entries) at ≡ Some nodes
        → groups_of (set_value_at entries at (nodes ++ node ∷ [])) ≡ pushed (groups_of entries) name node
    pushed_at entries at nodes found stored =
        let first : at ≡ position_or_len is_name (keys_of entries) = some_position is_name (keys_of entries) at found in
        rw first (pushed-found entries nodes (rw first at stored))

    -- a push of a name that no entry has
    pushed-new : (key : K) (entries : List (K × List MacroNode)) → bytes key ≡ name → lookup is_name entries ≡ None
        → groups_of (insert_entry (λ a b. bytes_eq (bytes a) (bytes b)) entries key (node ∷ [])) ≡ pushed (groups_of entries) name node
    pushed-new key [] own none = ap (λ n. (n, node ∷ []) ∷ []) own
    pushed-new key (e ∷ es) own none =
        by (is_name e.0) (bytes_eq (bytes key) (bytes e.0)) (ap (λ n. bytes_eq n (bytes e.0)) own) none (pushed-new key es own)
      where
        by : (b a : Bool) → a ≡ b → cond b (Some e.1) (lookup is_name es) ≡ None
            → (lookup is_name es ≡ None → groups_of (insert_entry (λ x y. bytes_eq (bytes x) (bytes y)) es key (node ∷ [])) ≡ pushed (groups_of es) name node)
            → groups_of (cond a ((e.0, node ∷ []) ∷ es) (e ∷ insert_entry (λ x y. bytes_eq (bytes x) (bytes y)) es key (node ∷ [])))
            ≡ cond b ((bytes e.0, e.1 ++ node ∷ []) ∷ groups_of es) ((bytes e.0, e.1) ∷ pushed (groups_of es) name node)
        by true a same g f = absurd (cc)
        by false true same g f = absurd (cc)
        by false false same g f = ap (λ l. (bytes e.0, e.1) ∷ l) (f g)

    pub inserted : (key : K) (entries after : List (K × List MacroNode)) (nodes : List MacroNode) → bytes key ≡ name → false ≡ is_some (lookup is_name entries) → nodes ≡ node ∷ []
        → after ≡ insert_entry (λ a b. bytes_eq (bytes a) (bytes b)) entries key nodes → groups_of after ≡ pushed (groups_of entries) name node
    inserted key entries after nodes own absent first is =
        rw (is, first) (pushed-new key entries own (none_from (lookup is_name entries) absent))

  place_of-found : (entries : List (K × List MacroNode)) (nodes : List MacroNode) → slice_get (values_of entries) (position_or_len is_name (keys_of entries)) ≡ Some nodes
      → place (position_or_len is_name (keys_of entries)) (length nodes) ≡ place_of (groups_of entries) name
  place_of-found [] nodes h = cc
  place_of-found (e ∷ es) nodes h = by (is_name e.0) (position_or_len is_name (keys_of es)) h (place_of-found es nodes)
    where
      by : (b : Bool) (next : ℕ) → slice_get (e.1 ∷ values_of es) (cond (not b) (1 + next) 0) ≡ Some nodes
          → (slice_get (values_of es) next ≡ Some nodes → place next (length nodes) ≡ place_of (groups_of es) name)
          → place (cond (not b) (1 + next) 0) (length nodes)
          ≡ cond b (place 0 (length e.1)) (place ((place_of (groups_of es) name).group + 1) (place_of (groups_of es) name).at)
      by true next g f =
          let same : nodes ≡ e.1 = cc in
          ap (λ l. place 0 (length l)) same
      by false next g f =
          let one : 1 + next ≡ suc next = omega arith in
          let last : 1 + next ≡ next + 1 = omega arith in
          ap (λ n. place n (length nodes)) last ∙ ap (λ p. place (p.group + 1) p.at) (f (rw one at g))

  pub place_of_at : (entries : List (K × List MacroNode)) (at : ℕ) (nodes : List MacroNode) → Some at ≡ position is_name (keys_of entries) → slice_get (values_of entries) at ≡ Some nodes
      → place at (length nodes) ≡ place_of (groups_of entries) name
  place_of_at entries at nodes found stored =
      let first : at ≡ position_or_len is_name (keys_of entries) = some_position is_name (keys_of entries) at found in
      rw first (place_of-found entries nodes (rw first at stored))

  place_of-new : (key : K) (entries : List (K × List MacroNode)) → bytes key ≡ name → lookup is_name entries ≡ None
      → place (position_or_len (λ k. bytes_eq (bytes key) (bytes k)) (keys_of entries)) 0 ≡ place_of (groups_of entries) name
  place_of-new key [] own none = refl
  place_of-new key (e ∷ es) own none =
      by (is_name e.0) (bytes_eq (bytes key) (bytes e.0)) (position_or_len (λ k. bytes_eq (bytes key) (bytes k)) (keys_of es)) (ap (λ n. bytes_eq n (bytes e.0)) own) none (place_of-new key es own)
    where
      by : (b a : Bool) (next : ℕ) → a ≡ b → cond b (Some e.1) (lookup is_name es) ≡ None
          → (lookup is_name es ≡ None → place next 0 ≡ place_of (groups_of es) name)
          → place (cond (not a) (1 + next) 0) 0
          ≡ cond b (place 0 (length e.1)) (place ((place_of (groups_of es) name).group + 1) (place_of (groups_of es) name).at)
      by true a next same g f = absurd (cc)
      by false true next same g f = absurd (cc)
      by false false next same g f =
          let last : 1 + next ≡ next + 1 = omega arith in
          ap (λ n. place n 0) last ∙ ap (λ p. place (p.group + 1) p.at) (f g)

  pub place_of_inserted : (key : K) (entries : List (K × List MacroNode)) (at : ℕ) → bytes key ≡ name → false ≡ is_some (lookup is_name entries)
      → at ≡ position_or_len (λ k. bytes_eq (bytes key) (bytes k)) (keys_of entries) → place at 0 ≡ place_of (groups_of entries) name
  place_of_inserted key entries at own absent is = rw is (place_of-new key entries own (none_from (lookup is_name entries) absent))

pub set_value_at-same : {K X : Type 0} (entries : List (K × X)) (i : ℕ) (x : X) → slice_get (values_of entries) i ≡ Some x → set_value_at entries i x ≡ entries
set_value_at-same [] i x h = refl
set_value_at-same (e ∷ es) zero x h = let same : x ≡ e.1 = cc in ap (λ v. (e.0, v) ∷ es) same
set_value_at-same (e ∷ es) (suc i) x h = ap (λ l. e ∷ l) (set_value_at-same es i x h)
