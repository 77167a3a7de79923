-- What a push keeps of a history: each number's directive, and the groups of the names.
use Rattle.std.proofs.Common.{◌≡◌, ℕ, ◌+◌, nat_eq, suc, zero, Bool, true, false, cond, ◌&&◌, List, [], ◌∷◌, ◌++◌, length, map, slice_get, get_or, take, ◌<◌, Option, Some, None, is_some, refl, sym, ap, ◌∙◌, arith}
use Rattle.std.specs.List.{cons_option, list_all}
use Rattle.std.specs.Str.{bytes_eq}
use Rattle.std.proofs.lemmas.Cmp.{nat_eq_equiv, nat_list_eq_equiv}
use Rattle.std.proofs.lemmas.List.{append-nil, take_more}
use Rattle.std.proofs.lemmas.List.Elements.{filter-append, filter_map-append}
use Rattle.cm_core.specs.declared.macros.MacroBody.{MacroBody}
use Rattle.cm_core.specs.declared.macros.MacroNode.{MacroNode}
use Rattle.cm_core.specs.declared.numbers.MacroRef.{MacroRef}
use Rattle.cm_core.specs.Views.{same_owner}
use Rattle.cm_core.specs.declared.numbers.Owner.{Owner}
use Rattle.cm_core.specs.declared.numbers.Owner.TheVariants.{Unit as OfUnit, Sub, Job, Builtin}
use Rattle.cm_core.specs.declared.numbers.Place.{Place}
use Rattle.macro_sets.specs.declared.groups.Position.{Position}
use Rattle.macro_sets.specs.ActiveMacros.{Directives, is_numbered_from, named, visible, next_node, next_ref, with_node}
use Rattle.macro_sets.specs.Histories.{Groups, group_of, pushed, place_of, node_at, in_order, IsKept, IsHistory}
use Rattle.macro_sets.proofs.GroupLemmas.{place}

slice_get-push : {X : Type 0} (xs : List X) (x : X) → slice_get (xs ++ x ∷ []) (length xs) ≡ Some x
slice_get-push [] x = refl
slice_get-push (y ∷ ys) x = slice_get-push ys x

slice_get-kept : {X : Type 0} (xs ys : List X) (i : ℕ) (x : X) → slice_get xs i ≡ Some x → slice_get (xs ++ ys) i ≡ Some x
slice_get-kept [] ys i x h = absurd (cc)
slice_get-kept (z ∷ zs) ys zero x h = h
slice_get-kept (z ∷ zs) ys (suc i) x h = slice_get-kept zs ys i x h

module _ (name : List ℕ) (node : MacroNode) where
  -- the new directive stands at its place
  node_at-pushed : (groups : Groups) → node_at (pushed groups name node) (place_of groups name) ≡ Some node
  node_at-pushed [] = refl
  node_at-pushed (group ∷ groups) = by (bytes_eq name group.0) (place_of groups name) (node_at-pushed groups)
    where
      by : (b : Bool) (p : Position) → node_at (pushed groups name node) p ≡ Some node
          → node_at (cond b ((group.0, group.1 ++ node ∷ []) ∷ groups) (group ∷ pushed groups name node)) (cond b (place 0 (length group.1)) (place (p.group + 1) p.at)) ≡ Some node
      by true p h = slice_get-push group.1 node
      by false p h =
          let one : p.group + 1 ≡ suc p.group = omega arith in
          rw one h

  -- and every other where it stood
  node_at-kept : (groups : Groups) (number at : ℕ) (kept : MacroNode) → node_at groups (place number at) ≡ Some kept → node_at (pushed groups name node) (place number at) ≡ Some kept
  node_at-kept [] number at kept h = absurd (cc)
  node_at-kept (group ∷ groups) zero at kept h = by (bytes_eq name group.0)
    where
      by : (b : Bool) → node_at (cond b ((group.0, group.1 ++ node ∷ []) ∷ groups) (group ∷ pushed groups name node)) (place 0 at) ≡ Some kept
      by true = slice_get-kept group.1 (node ∷ []) at kept h
      by false = h
  node_at-kept (group ∷ groups) (suc number) at kept h = by (bytes_eq name group.0) (node_at-kept groups number at kept h)
    where
      by : (b : Bool) → node_at (pushed groups name node) (place number at) ≡ Some kept
          → node_at (cond b ((group.0, group.1 ++ node ∷ []) ∷ groups) (group ∷ pushed groups name node)) (place (suc number) at) ≡ Some kept
      by true f = h
      by false f = f

  -- the group of a name after a push
  group_of-pushed : (groups : Groups) (other : List ℕ) → group_of (pushed groups name node) other ≡ group_of groups other ++ cond (bytes_eq other name) (node ∷ []) []
  group_of-pushed [] other = refl
  group_of-pushed (group ∷ groups) other =
      by (bytes_eq name group.0) (bytes_eq other group.0) (bytes_eq other name) refl refl refl (alike other name) (tied other name group.0) (group_of-pushed groups other)
    where
      alike : (x y : List ℕ) → bytes_eq x y ≡ true → bytes_eq x group.0 ≡ bytes_eq y group.0
      alike x y = nat_list_eq_equiv.congr x y group.0

      tied : (x y z : List ℕ) → bytes_eq x z ≡ true → bytes_eq y z ≡ true → bytes_eq x y ≡ true
      tied x y z e h = nat_list_eq_equiv.congr x z y e ∙ nat_list_eq_equiv.symm z y ∙ h

      by : (own found same : Bool) → bytes_eq name group.0 ≡ own → bytes_eq other group.0 ≡ found → bytes_eq other name ≡ same
          → (bytes_eq other name ≡ true → bytes_eq other group.0 ≡ bytes_eq name group.0)
          → (bytes_eq other group.0 ≡ true → bytes_eq name group.0 ≡ true → bytes_eq other name ≡ true)
          → group_of (pushed groups name node) other ≡ group_of groups other ++ cond (bytes_eq other name) (node ∷ []) []
          → group_of (cond own ((group.0, group.1 ++ node ∷ []) ∷ groups) (group ∷ pushed groups name node)) other
          ≡ cond (bytes_eq other group.0) group.1 (group_of groups other) ++ cond (bytes_eq other name) (node ∷ []) []
      by true true true o f s a t g = rw (f, s) refl
      by true true false o f s a t g = let k = t f o in absurd (cc)
      by true false true o f s a t g = let k = a s in absurd (cc)
      by true false false o f s a t g = rw (f, s) (sym (append-nil (group_of groups other)))
      by false true true o f s a t g = let k = a s in absurd (cc)
      by false true false o f s a t g = rw (f, s) (sym (append-nil group.1))
      by false false same o f s a t g = rw f g

  module _ (groups : Groups) where
    in_order-kept : (order : List Position) → list_all (λ p. is_some (node_at groups p)) order ≡ true
        → (in_order (pushed groups name node) order ≡ in_order groups order) × (list_all (λ p. is_some (node_at (pushed groups name node) p)) order ≡ true)
    in_order-kept [] h = (refl, refl)
    in_order-kept (p ∷ ps) h = by (node_at groups p) refl h (in_order-kept ps)
      where
        by : (r : Option MacroNode) → node_at groups p ≡ r → (is_some r && list_all (λ q. is_some (node_at groups q)) ps) ≡ true
            → (list_all (λ q. is_some (node_at groups q)) ps ≡ true → (in_order (pushed groups name node) ps ≡ in_order groups ps) × (list_all (λ q. is_some (node_at (pushed groups name node) q)) ps ≡ true))
            → (cons_option (node_at (pushed groups name node) p) (in_order (pushed groups name node) ps) ≡ cons_option (node_at groups p) (in_order groups ps))
            × ((is_some (node_at (pushed groups name node) p) && list_all (λ q. is_some (node_at (pushed groups name node) q)) ps) ≡ true)
        by None e g f = absurd (cc)
        by (Some kept) e g f =
            let after : node_at (pushed groups name node) p ≡ Some kept = node_at-kept groups p.group p.at kept e in
            let rest = f g in
            (rw (after, e) (ap (λ l. kept ∷ l) rest.0), rw after rest.1)

  in_order-pushed : (groups : Groups) (order : List Position) → IsKept groups order
      → in_order (pushed groups name node) (order ++ place_of groups name ∷ []) ≡ in_order groups order ++ node ∷ []
  in_order-pushed groups order kept =
      filter_map-append (node_at (pushed groups name node)) order (place_of groups name ∷ [])
      ∙ ap (λ l. l ++ in_order (pushed groups name node) (place_of groups name ∷ [])) (in_order-kept groups order kept.placed).0
      ∙ ap (λ o. in_order groups order ++ cons_option o []) (node_at-pushed groups)

length-in_order : (groups : Groups) (order : List Position) → list_all (λ p. is_some (node_at groups p)) order ≡ true → length (in_order groups order) ≡ length order
length-in_order groups [] h = refl
length-in_order groups (p ∷ ps) h = by (node_at groups p) h (length-in_order groups ps)
  where
    by : (r : Option MacroNode) → (is_some r && list_all (λ q. is_some (node_at groups q)) ps) ≡ true → (list_all (λ q. is_some (node_at groups q)) ps ≡ true → length (in_order groups ps) ≡ length ps)
        → length (cons_option r (in_order groups ps)) ≡ suc (length ps)
    by None g f = absurd (cc)
    by (Some kept) g f = ap suc (f g)

pub IsKept-empty : IsKept [] []
IsKept-empty = record { placed = refl; grouped = λ name. refl }

list_all-push : {X : Type 0} (test : X → Bool) (xs : List X) (x : X) → list_all test xs ≡ true → test x ≡ true → list_all test (xs ++ x ∷ []) ≡ true
list_all-push test [] x h last = rw last refl
list_all-push test (y ∷ ys) x h last = by (test y) h (λ g. list_all-push test ys x g last)
  where
    by : (b : Bool) → (b && list_all test ys) ≡ true → (list_all test ys ≡ true → list_all test (ys ++ x ∷ []) ≡ true) → (b && list_all test (ys ++ x ∷ [])) ≡ true
    by true g f = f g
    by false g f = g

pub IsKept-pushed : (groups : Groups) (order : List Position) (name : List ℕ) (node : MacroNode) → node.name ≡ name → IsKept groups order
    → IsKept (pushed groups name node) (order ++ place_of groups name ∷ [])
IsKept-pushed groups order name node own kept = record {
  placed =
      list_all-push (λ p. is_some (node_at (pushed groups name node) p)) order (place_of groups name) (in_order-kept name node groups order kept.placed).1 (ap is_some (node_at-pushed name node groups));
  grouped = λ other.
      let same : bytes_eq other name ≡ bytes_eq node.name other = nat_list_eq_equiv.symm other name ∙ ap (λ n. bytes_eq n other) (sym own) in
      group_of-pushed name node groups other
      ∙ ap (λ l. l ++ cond (bytes_eq other name) (node ∷ []) []) (kept.grouped other)
      ∙ ap (λ b. named other (in_order groups order) ++ cond b (node ∷ []) []) same
      ∙ sym (filter-append (λ n. bytes_eq n.name other) (in_order groups order) (node ∷ []))
      ∙ ap (named other) (sym (in_order-pushed name node groups order kept));
}

-- what a history shows
abbrev pub shown : Owner → Groups → List Position → Directives
shown owner groups order = record { owner = owner; nodes = in_order groups order }

pub shown-pushed : (owner : Owner) (groups : Groups) (order : List Position) (name : List ℕ) (node : MacroNode) → IsKept groups order
    → shown owner (pushed groups name node) (order ++ place_of groups name ∷ []) ≡ with_node (shown owner groups order) node
shown-pushed owner groups order name node kept =
    let with : List MacroNode → Directives = λ nodes. record { owner = owner; nodes = nodes } in
    ap with (in_order-pushed name node groups order kept)

pub same_owner-refl : (owner : Owner) → same_owner owner owner ≡ true
same_owner-refl OfUnit = refl
same_owner-refl (Sub sub) = nat_eq_equiv.refl sub.index
same_owner-refl Job = refl
same_owner-refl Builtin = refl

is_numbered_from-push : (owner : Owner) (number : ℕ) (nodes : List MacroNode) (node : MacroNode) → is_numbered_from owner number nodes ≡ true
    → node.at.owner ≡ owner → node.at.no.number ≡ length nodes + number → is_numbered_from owner number (nodes ++ node ∷ []) ≡ true
is_numbered_from-push owner number [] node h own next =
    let here : node.at.no.number ≡ number = omega arith in
    ap (λ o. same_owner owner o && nat_eq node.at.no.number number && true) own
    ∙ ap (λ b. b && nat_eq node.at.no.number number && true) (same_owner-refl owner)
    ∙ ap (λ n. nat_eq n number && true) here
    ∙ ap (λ b. b && true) (nat_eq_equiv.refl number)
is_numbered_from-push owner number (x ∷ xs) node h own next =
    by (same_owner owner x.at.owner) (nat_eq x.at.no.number number) h (λ g. is_numbered_from-push owner (number + 1) xs node g own (next ∙ further))
  where
    further : length (x ∷ xs) + number ≡ length xs + (number + 1)
    further = omega arith

    by : (a b : Bool) → (a && b && is_numbered_from owner (number + 1) xs) ≡ true
        → (is_numbered_from owner (number + 1) xs ≡ true → is_numbered_from owner (number + 1) (xs ++ node ∷ []) ≡ true)
        → (a && b && is_numbered_from owner (number + 1) (xs ++ node ∷ [])) ≡ true
    by true true g f = f g
    by true false g f = absurd (cc)
    by false b g f = absurd (cc)

pub IsHistory-pushed : (owner : Owner) (groups : Groups) (order : List Position) (name : List ℕ) (node : MacroNode) → node.name ≡ name → node.at ≡ next_ref (shown owner groups order)
    → IsHistory owner groups order → IsHistory owner (pushed groups name node) (order ++ place_of groups name ∷ [])
IsHistory-pushed owner groups order name node own new history = record {
  kept = IsKept-pushed groups order name node own history.kept;
  numbered =
      ap (is_numbered_from owner 1) (in_order-pushed name node groups order history.kept)
      ∙ is_numbered_from-push owner 1 (in_order groups order) node history.numbered (ap (λ at. at.owner) new) (ap (λ at. at.no.number) new);
}

-- the next directive by the parts that the code has
pub next_node-kept : (owner : Owner) (groups : Groups) (order : List Position) (name text : List ℕ) (at : Place) (body : Option MacroBody) (before own : List MacroNode) (seen : Owner → Bool) (count : ℕ) (refs : List MacroRef)
    → IsKept groups order → count ≡ length order → text ≡ name → own ≡ group_of groups name → refs ≡ map (λ node. node.at) (visible seen before ++ own)
    → ◌≡◌ {A = MacroNode} (record { at = record { owner = owner; no = record { number = count + 1 } }; name = text; place = at; body = body; overrides = refs })
    (next_node (shown owner groups order) name at body before seen)
next_node-kept owner groups order name text at body before own seen count refs kept counted named_so grouped listed =
    let number : count ≡ length (in_order groups order) = counted ∙ sym (length-in_order groups order kept.placed) in
    let earlier : own ≡ named name (in_order groups order) = grouped ∙ kept.grouped name in
    rw (number, named_so, listed, earlier) refl

-- one more place in the order
pub in_order-more : (groups : Groups) (order : List Position) (i : ℕ) (d : Position) (node : MacroNode) → i < length order → node_at groups (get_or order i d) ≡ Some node
    → in_order groups (take i order) ++ node ∷ [] ≡ in_order groups (take (i + 1) order)
in_order-more groups order i d node within there =
    ap (λ o. in_order groups (take i order) ++ cons_option o []) (sym there)
    ∙ sym (filter_map-append (node_at groups) (take i order) (get_or order i d ∷ []))
    ∙ ap (in_order groups) (sym (take_more order i d within))
