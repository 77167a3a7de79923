-- The meaning of a name by its first active `#define`.
use Rattle.std.proofs.Common.{◌≡◌, Bool, true, false, cond, ◌&&◌, not, List, [], ◌∷◌, filter, find, Option, Some, None, refl, sym, ap, ◌∙◌}
use Rattle.std.specs.Cmp.{IsEquivalence, bool_eq_equiv, and_equiv, on_equiv}
use Rattle.std.specs.Cmp.Lexicographic.{options_equiv}
use Rattle.std.specs.Option.{option_map_or}
use Rattle.std.proofs.lemmas.Cmp.{nat_list_eq_equiv, lists_equiv}
use Rattle.cm_core.specs.declared.macros.MacroNode.{MacroNode}
use Rattle.cm_core.specs.declared.macros.MacroBody.{MacroBody}
use Rattle.macro_sets.specs.declared.meanings.Meaning.{Meaning}
use Rattle.macro_sets.specs.declared.meanings.Meaning.TheVariants as meaning
use Rattle.macro_sets.specs.ActiveMacros.{same_token, same_replacement, without_lead, parameters_of, same_parameters, same_definition, differ, meaning_from}

module _ {X : Type 0} (p : X → Bool) where
  pub filter-none : (xs : List X) → find p xs ≡ None → filter p xs ≡ []
  filter-none [] h = refl
  filter-none (x ∷ xs) h = by (p x) h (filter-none xs)
    where
      by : (b : Bool) → cond b (Some x) (find p xs) ≡ None → (find p xs ≡ None → filter p xs ≡ []) → cond b (x ∷ filter p xs) (filter p xs) ≡ []
      by true e f = absurd (cc)
      by false e f = f e

  pub filter-found : (xs : List X) (first : X) → find p xs ≡ Some first → (rest : List X) × (filter p xs ≡ first ∷ rest)
  filter-found [] first h = absurd (cc)
  filter-found (x ∷ xs) first h = by (p x) h (filter-found xs first)
    where
      by : (b : Bool) → cond b (Some x) (find p xs) ≡ Some first → (find p xs ≡ Some first → (rest : List X) × (filter p xs ≡ first ∷ rest)) → (rest : List X) × (cond b (x ∷ filter p xs) (filter p xs) ≡ first ∷ rest)
      by true e f = (filter p xs, cc)
      by false e f = f e

  pub find-filter : (q : X → Bool) (xs : List X) → find (λ x. q x && p x) xs ≡ find q (filter p xs)
  find-filter q [] = refl
  find-filter q (x ∷ xs) = by (q x) (p x) refl (find-filter q xs)
    where
      by : (a b : Bool) → q x ≡ a → find (λ y. q y && p y) xs ≡ find q (filter p xs) → cond (a && b) (Some x) (find (λ y. q y && p y) xs) ≡ find q (cond b (x ∷ filter p xs) (filter p xs))
      by true true e f = ap (λ c. cond c (Some x) (find q (filter p xs))) (sym e)
      by true false e f = f
      by false true e f = f ∙ ap (λ c. cond c (Some x) (find q (filter p xs))) (sym e)
      by false false e f = f

-- being the same definition is an equivalence
tokens_equiv : IsEquivalence same_token
tokens_equiv = and_equiv (on_equiv (λ token. token.text) nat_list_eq_equiv) (on_equiv (λ token. token.spaced) bool_eq_equiv)

replacements_equiv : IsEquivalence same_replacement
replacements_equiv = on_equiv without_lead (lists_equiv tokens_equiv)

parameters_equiv : IsEquivalence same_parameters
parameters_equiv = and_equiv (on_equiv (λ p. p.0) (lists_equiv nat_list_eq_equiv)) (on_equiv (λ p. p.1) bool_eq_equiv)

pub definitions_equiv : IsEquivalence same_definition
definitions_equiv = and_equiv (on_equiv parameters_of (options_equiv parameters_equiv)) (on_equiv (λ body. body.tokens) replacements_equiv)

pub differ-self : (node : MacroNode) → differ node node ≡ false
differ-self node = by node.body
  where
    by : (body : Option MacroBody) → differ (record node { body = body }) (record node { body = body }) ≡ false
    by None = refl
    by (Some body) = ap not (definitions_equiv.refl body)

-- the meaning by the first active `#define` and the first other one
pub meaning-none : (p : MacroNode → Bool) (nodes : List MacroNode) → None ≡ find p nodes → meaning.None ≡ meaning_from (filter p nodes)
meaning-none p nodes h = ap meaning_from (sym (filter-none p nodes (sym h)))

abbrev pub meaning_by : MacroNode → Option MacroNode → Meaning
meaning_by first other = option_map_or (λ node. meaning.Ambiguous first.at node.at) other (meaning.Macro first.at)

pub meaning-found : (p : MacroNode → Bool) (nodes : List MacroNode) (first : MacroNode) → Some first ≡ find p nodes
    → meaning_by first (find (λ node. differ first node && p node) nodes) ≡ meaning_from (filter p nodes)
meaning-found p nodes first h =
    let found = filter-found p nodes first (sym h) in
    let among : find (λ node. differ first node && p node) nodes ≡ find (differ first) (first ∷ found.0) = find-filter p (differ first) nodes ∙ ap (find (differ first)) found.1 in
    let past : find (differ first) (first ∷ found.0) ≡ find (differ first) found.0 = ap (λ b. cond b (Some first) (find (differ first) found.0)) (differ-self first) in
    ap (meaning_by first) (among ∙ past) ∙ sym (ap meaning_from found.1)
