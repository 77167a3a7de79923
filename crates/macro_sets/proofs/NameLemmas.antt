-- A new directive of a name: what it overrides, and what the name means by it.
use Rattle.std.proofs.Common.{◌≡◌, ℕ, ◌+◌, ◌≤◌, nat_eq, Bool, true, false, cond, ◌&&◌, ◌||◌, not, List, [], ◌∷◌, ◌++◌, length, map, filter, Option, Some, None, refl, sym, ap, ◌∙◌, arith}
use Rattle.std.specs.List.{list_any, list_all}
use Rattle.std.specs.Str.{bytes_eq}
use Rattle.std.proofs.lemmas.Bool.Decides.{nat_tests}
use Rattle.std.proofs.lemmas.Cmp.{nat_eq_equiv}
use Rattle.std.proofs.lemmas.List.Elements.{filter-append}
use Rattle.std.proofs.lemmas.List.Folds.{list_any-append, list_all-append}
use Rattle.cm_core.specs.Views.{same_owner}
use Rattle.cm_core.specs.declared.macros.MacroBody.{MacroBody}
use Rattle.cm_core.specs.declared.macros.MacroNode.{MacroNode}
use Rattle.cm_core.specs.declared.numbers.MacroRef.{MacroRef}
use Rattle.cm_core.specs.declared.numbers.Owner.{Owner}
use Rattle.cm_core.specs.declared.numbers.Owner.TheVariants.{Job}
use Rattle.cm_core.specs.declared.numbers.Place.{Place}
use Rattle.macro_sets.specs.declared.meanings.Meaning.TheVariants as outcome
use Rattle.macro_sets.specs.ActiveMacros.{Directives, is_listed, is_numbered, is_numbered_from, is_overridden, meaning_of, named, next_node, next_ref, same_entity, visible}
use Rattle.macro_sets.specs.Laws.{is_before, is_new, lists_visible, sees_itself}
use Rattle.macro_sets.proofs.KeptLemmas.{same_owner-refl}
use Rattle.macro_sets.proofs.LawLemmas.{is_listed-map, or-true, meaning_of-undef, meaning_of-define}

-- ---- the directives of the name that the owner sees

module _ (owner : Owner) (seen : Owner → Bool) where
  -- it sees all of its own
  own-visible : (number : ℕ) (nodes : List MacroNode) → is_numbered_from owner number nodes ≡ true → visible (sees_itself owner seen) nodes ≡ nodes
  own-visible number [] h = refl
  own-visible number (x ∷ xs) h = by (same_owner owner x.at.owner) (nat_eq x.at.no.number number) h (own-visible (number + 1) xs)
    where
      by : (a b : Bool) → (a && b && is_numbered_from owner (number + 1) xs) ≡ true
          → (is_numbered_from owner (number + 1) xs ≡ true → visible (sees_itself owner seen) xs ≡ xs)
          → cond (a || seen x.at.owner) (x ∷ visible (sees_itself owner seen) xs) (visible (sees_itself owner seen) xs) ≡ x ∷ xs
      by true true g f = ap (λ l. x ∷ l) (f g)
      by true false g f = absurd (cc)
      by false b g f = absurd (cc)

  -- and of those by others the ones that it is told to see
  before-visible : (name : List ℕ) (nodes : List MacroNode) → is_before name owner nodes ≡ true → named name (visible (sees_itself owner seen) nodes) ≡ visible seen nodes
  before-visible name [] h = refl
  before-visible name (x ∷ xs) h = by (bytes_eq x.name name) (same_owner owner x.at.owner) (seen x.at.owner) refl h (before-visible name xs)
    where
      by : (a b c : Bool) → bytes_eq x.name name ≡ a → ((a && not b) && is_before name owner xs) ≡ true
          → (is_before name owner xs ≡ true → named name (visible (sees_itself owner seen) xs) ≡ visible seen xs)
          → named name (cond (b || c) (x ∷ visible (sees_itself owner seen) xs) (visible (sees_itself owner seen) xs)) ≡ cond c (x ∷ visible seen xs) (visible seen xs)
      by true false true e g f = ap (λ b. cond b (x ∷ named name (visible (sees_itself owner seen) xs)) (named name (visible (sees_itself owner seen) xs))) e ∙ ap (λ l. x ∷ l) (f g)
      by true false false e g f = f g
      by true true c e g f = absurd (cc)
      by false b c e g f = absurd (cc)

pub overrides-named : (history : Directives) (name : List ℕ) (place : Place) (body : Option MacroBody) (before : List MacroNode) (seen : Owner → Bool) → is_numbered history ≡ true → is_before name history.owner before ≡ true
    → (next_node history name place body before seen).overrides ≡ map (λ node. node.at) (named name (visible (sees_itself history.owner seen) (before ++ history.nodes)))
overrides-named history name place body before seen numbered told =
    let sees : Owner → Bool = sees_itself history.owner seen in
    let both : named name (visible sees (before ++ history.nodes)) ≡ visible seen before ++ named name history.nodes =
    ap (named name) (filter-append (λ node. sees node.at.owner) before history.nodes)
    ∙ filter-append (λ node. bytes_eq node.name name) (visible sees before) (visible sees history.nodes)
    ∙ ap (λ l. l ++ named name (visible sees history.nodes)) (before-visible history.owner seen name before told)
    ∙ ap (λ l. visible seen before ++ named name l) (own-visible history.owner seen 1 history.nodes numbered) in
    ap (map (λ node. node.at)) (sym both)

-- ---- it overrides all that are visible before it

module _ {X : Type 0} where
  pub list_all-weaker : (p q : X → Bool) → ((x : X) → p x ≡ true → q x ≡ true) → (xs : List X) → list_all p xs ≡ true → list_all q xs ≡ true
  list_all-weaker p q more [] h = refl
  list_all-weaker p q more (x ∷ xs) h = by (p x) refl h (list_all-weaker p q more xs)
    where
      by : (b : Bool) → p x ≡ b → (b && list_all p xs) ≡ true → (list_all p xs ≡ true → list_all q xs ≡ true) → (q x && list_all q xs) ≡ true
      by true e g f = ap (λ b. b && list_all q xs) (more x e) ∙ f g
      by false e g f = absurd (cc)

  pub list_all-filter : (p q : X → Bool) (xs : List X) → list_all q xs ≡ true → list_all q (filter p xs) ≡ true
  list_all-filter p q [] h = refl
  list_all-filter p q (x ∷ xs) h = by (p x) (q x) refl h (list_all-filter p q xs)
    where
      by : (a b : Bool) → q x ≡ b → (b && list_all q xs) ≡ true → (list_all q xs ≡ true → list_all q (filter p xs) ≡ true) → list_all q (cond a (x ∷ filter p xs) (filter p xs)) ≡ true
      by true true e g f = ap (λ b. b && list_all q (filter p xs)) e ∙ f g
      by false true e g f = f g
      by a false e g f = absurd (cc)

  list_any-among : (p q : X → Bool) (xs : List X) → list_any q xs ≡ false → list_any q (filter p xs) ≡ false
  list_any-among p q [] h = refl
  list_any-among p q (x ∷ xs) h = by (p x) (q x) refl h (list_any-among p q xs)
    where
      by : (a b : Bool) → q x ≡ b → (b || list_any q xs) ≡ false → (list_any q xs ≡ false → list_any q (filter p xs) ≡ false) → list_any q (cond a (x ∷ filter p xs) (filter p xs)) ≡ false
      by a true e g f = absurd (cc)
      by true false e g f = ap (λ b. b || list_any q (filter p xs)) e ∙ f g
      by false false e g f = f g

  module _ (same : X → X → Bool) (alike : (x : X) → same x x ≡ true) where
    all-among : (xs : List X) → list_all (λ x. list_any (same x) xs) xs ≡ true
    all-among [] = refl
    all-among (x ∷ xs) =
        ap (λ b. (b || list_any (same x) xs) && list_all (λ y. same y x || list_any (same y) xs) xs) (alike x)
        ∙ list_all-weaker (λ y. list_any (same y) xs) (λ y. same y x || list_any (same y) xs) (λ y e. ap (λ b. same y x || b) e ∙ or-true (same y x)) xs (all-among xs)

    all-among-both : (xs ys zs : List X) → list_all (λ x. list_any (same x) ys) zs ≡ true → list_all (λ x. list_any (same x) (xs ++ ys)) (xs ++ zs) ≡ true
    all-among-both xs ys zs h =
        let first : list_all (λ x. list_any (same x) (xs ++ ys)) xs ≡ true =
        list_all-weaker (λ x. list_any (same x) xs) (λ x. list_any (same x) (xs ++ ys)) (λ x e. list_any-append (same x) xs ys ∙ ap (λ b. b || list_any (same x) ys) e) xs (all-among xs) in
        let rest : list_all (λ x. list_any (same x) (xs ++ ys)) zs ≡ true =
        list_all-weaker (λ x. list_any (same x) ys) (λ x. list_any (same x) (xs ++ ys)) (λ x e. list_any-append (same x) xs ys ∙ ap (λ b. list_any (same x) xs || b) e ∙ or-true (list_any (same x) xs)) zs h in
        list_all-append (λ x. list_any (same x) (xs ++ ys)) xs zs ∙ ap (λ b. b && list_all (λ x. list_any (same x) (xs ++ ys)) zs) first ∙ rest

same_entity-refl : (at : MacroRef) → same_entity at at ≡ true
same_entity-refl at =
    ap (λ b. b && (same_owner at.owner Job || nat_eq at.no.number at.no.number)) (same_owner-refl at.owner)
    ∙ ap (λ b. same_owner at.owner Job || b) (nat_eq_equiv.refl at.no.number)
    ∙ or-true (same_owner at.owner Job)

list_all-alike : {X : Type 0} (p q : X → Bool) → ((x : X) → p x ≡ q x) → (xs : List X) → list_all p xs ≡ list_all q xs
list_all-alike p q same [] = refl
list_all-alike p q same (x ∷ xs) = ap (λ b. b && list_all p xs) (same x) ∙ ap (λ b. q x && b) (list_all-alike p q same xs)

lists-visible : (seen : Owner → Bool) (before own : List MacroNode) → lists_visible seen (before ++ own) (map (λ node. node.at) (visible seen before ++ own)) ≡ true
lists-visible seen before own =
    let same : MacroNode → MacroNode → Bool = λ a b. same_entity a.at b.at in
    let among : list_all (λ node. list_any (same node) (visible seen before ++ own)) (visible seen before ++ visible seen own) ≡ true =
    all-among-both same (λ node. same_entity-refl node.at) (visible seen before) own (visible seen own)
    (list_all-filter (λ node. seen node.at.owner) (λ node. list_any (same node) own) own (all-among same (λ node. same_entity-refl node.at) own)) in
    ap (list_all (λ node. is_listed node.at (map (λ n. n.at) (visible seen before ++ own)))) (filter-append (λ node. seen node.at.owner) before own)
    ∙ list_all-alike (λ node. is_listed node.at (map (λ n. n.at) (visible seen before ++ own))) (λ node. list_any (same node) (visible seen before ++ own))
    (λ node. is_listed-map node.at (visible seen before ++ own)) (visible seen before ++ visible seen own)
    ∙ among

-- ---- and not itself

others-unlisted : (name : List ℕ) (at : MacroRef) (nodes : List MacroNode) → is_before name at.owner nodes ≡ true → list_any (λ node. same_entity at node.at) nodes ≡ false
others-unlisted name at [] h = refl
others-unlisted name at (x ∷ xs) h = by (bytes_eq x.name name) (same_owner at.owner x.at.owner) refl h (others-unlisted name at xs)
  where
    by : (a b : Bool) → same_owner at.owner x.at.owner ≡ b → ((a && not b) && is_before name at.owner xs) ≡ true
        → (is_before name at.owner xs ≡ true → list_any (λ node. same_entity at node.at) xs ≡ false) → (same_entity at x.at || list_any (λ node. same_entity at node.at) xs) ≡ false
    by true false e g f = ap (λ b. (b && (same_owner at.owner Job || nat_eq at.no.number x.at.no.number)) || list_any (λ node. same_entity at node.at) xs) e ∙ f g
    by true true e g f = absurd (cc)
    by false b e g f = absurd (cc)

earlier-unlisted : (at : MacroRef) (number : ℕ) (nodes : List MacroNode) → same_owner at.owner Job ≡ false → length nodes + number ≤ at.no.number → is_numbered_from at.owner number nodes ≡ true
    → list_any (λ node. same_entity at node.at) nodes ≡ false
earlier-unlisted at number [] job later h = refl
earlier-unlisted at number (x ∷ xs) job later h =
    by (same_owner at.owner x.at.owner) (nat_eq x.at.no.number number) refl h (earlier-unlisted at (number + 1) xs job (omega arith))
  where
    other : nat_eq x.at.no.number number ≡ true → nat_eq at.no.number x.at.no.number ≡ false
    other e = grind (arith, nat_tests)

    by : (a b : Bool) → nat_eq x.at.no.number number ≡ b → (a && b && is_numbered_from at.owner (number + 1) xs) ≡ true
        → (is_numbered_from at.owner (number + 1) xs ≡ true → list_any (λ node. same_entity at node.at) xs ≡ false)
        → ((a && (same_owner at.owner Job || nat_eq at.no.number x.at.no.number)) || list_any (λ node. same_entity at node.at) xs) ≡ false
    by true true e g f =
        ap (λ b. (b || nat_eq at.no.number x.at.no.number) || list_any (λ node. same_entity at node.at) xs) job
        ∙ ap (λ b. b || list_any (λ node. same_entity at node.at) xs) (other e) ∙ f g
    by true false e g f = absurd (cc)
    by false b e g f = absurd (cc)

at_most_itself : (n : ℕ) → n ≤ n
at_most_itself n = omega arith

new-free : (seen : Owner → Bool) (at : MacroRef) (nodes : List MacroNode) → is_new at nodes ≡ true → is_overridden seen nodes at ≡ false
new-free seen at [] h = refl
new-free seen at (x ∷ xs) h = by (is_listed at x.overrides) (seen x.at.owner) h (new-free seen at xs)
  where
    by : (a b : Bool) → (not a && is_new at xs) ≡ true → (is_new at xs ≡ true → is_overridden seen xs at ≡ false) → ((b && a) || is_overridden seen xs at) ≡ false
    by true b g f = absurd (cc)
    by false true g f = f g
    by false false g f = f g

-- ---- what it decides

module _ (history : Directives) (name : List ℕ) (place : Place) (before : List MacroNode) (seen : Owner → Bool) (shown : seen history.owner ≡ true) where
  abbrev pub own : List MacroNode
  own = named name history.nodes

  pub meaning_of-next-undef : meaning_of seen (before ++ own ++ next_node history name place None before seen ∷ []) ≡ outcome.None
  meaning_of-next-undef =
      let last : MacroNode = next_node history name place None before seen in
      meaning_of-undef seen (before ++ own) last shown (lists-visible seen before own) refl

  pub meaning_of-next-define : (body : MacroBody) → same_owner history.owner Job ≡ false → is_numbered history ≡ true → is_before name history.owner before ≡ true → is_new (next_ref history) (before ++ own) ≡ true
      → meaning_of seen (before ++ own ++ next_node history name place (Some body) before seen ∷ []) ≡ outcome.Macro (next_ref history)
  meaning_of-next-define body job numbered told new =
      let last : MacroNode = next_node history name place (Some body) before seen in
      let at : MacroRef = next_ref history in
      let unlisted : is_listed at last.overrides ≡ false =
      is_listed-map at (visible seen before ++ own)
      ∙ list_any-append (λ node. same_entity at node.at) (visible seen before) own
      ∙ ap (λ b. b || list_any (λ node. same_entity at node.at) own) (list_any-among (λ node. seen node.at.owner) (λ node. same_entity at node.at) before (others-unlisted name at before told))
      ∙ list_any-among (λ node. bytes_eq node.name name) (λ node. same_entity at node.at) history.nodes (earlier-unlisted at 1 history.nodes job (at_most_itself (length history.nodes + 1)) numbered) in
      let free : is_overridden seen ((before ++ own) ++ last ∷ []) at ≡ false =
      list_any-append (λ n. seen n.at.owner && is_listed at n.overrides) (before ++ own) (last ∷ [])
      ∙ ap (λ b. b || is_overridden seen (last ∷ []) at) (new-free seen at (before ++ own) new)
      ∙ ap (λ b. (b && is_listed at last.overrides) || false) shown
      ∙ ap (λ b. b || false) unlisted in
      meaning_of-define seen (before ++ own) last shown (lists-visible seen before own) body free refl
