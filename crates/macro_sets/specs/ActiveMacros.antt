-- Macros that several owners define: which directives of a name are active, and what the name means by them. The rules
-- are those of Clang's documentation of modules, "Macros"; which definitions are the same is C11 6.10.3p1, p2 and p7. That
-- a name has one definition of the job at most, whatever its number in a list, is this project's own.
use Rattle.std.specs.Prelude.{ℕ, ◌+◌, ◌==◌, Bool, true, false, ◌&&◌, ◌||◌, not, List, [], ◌∷◌, ◌++◌, length, slice_get, map, filter, find, Option, Some, is_some}
use Rattle.std.specs.Bool.{beq}
use Rattle.std.specs.Cmp.Lexicographic.{pointwise}
use Rattle.std.specs.List.{list_any}
use Rattle.std.specs.Option.{option_eq, option_map, option_map_or}
use Rattle.std.specs.Str.{bytes_eq}
use Rattle.cm_core.specs.Views.{same_owner}
use Rattle.cm_core.specs.declared.macros.BodyToken.{BodyToken}
use Rattle.cm_core.specs.declared.macros.MacroBody.{MacroBody}
use Rattle.cm_core.specs.declared.macros.MacroNode.{MacroNode}
use Rattle.cm_core.specs.declared.numbers.MacroRef.{MacroRef}
use Rattle.cm_core.specs.declared.numbers.Owner.{Owner}
use Rattle.cm_core.specs.declared.numbers.Owner.TheVariants.{Job}
use Rattle.cm_core.specs.declared.numbers.Place.{Place}
use Rattle.macro_sets.specs.declared.meanings.Meaning.{Meaning}
use Rattle.macro_sets.specs.declared.meanings.Meaning.TheVariants as meaning

-- tokens that are spelled and separated alike, where all white space counts as one
abbrev pub same_token : BodyToken → BodyToken → Bool
same_token a b = bytes_eq a.text b.text && beq a.spaced b.spaced

-- a replacement list without the white space before it, which is no part of it (6.10.3p7)
abbrev pub without_lead : List BodyToken → List BodyToken
without_lead [] = []
without_lead (token ∷ tokens) = record token { spaced = false } ∷ tokens

abbrev pub same_replacement : List BodyToken → List BodyToken → Bool
same_replacement a b = pointwise same_token (without_lead a) (without_lead b)

-- the parameters of a function-like macro, and whether `...` ends them; an object-like macro has none
abbrev pub parameters_of : MacroBody → Option (List (List ℕ) × Bool)
parameters_of body = option_map (λ names. (names, body.variadic)) body.params

abbrev pub same_parameters : List (List ℕ) × Bool → List (List ℕ) × Bool → Bool
same_parameters a b = pointwise bytes_eq a.0 b.0 && beq a.1 b.1

-- definitions of a name that may stand beside each other: macros of one kind, with the same parameters and replacement
abbrev pub same_definition : MacroBody → MacroBody → Bool
same_definition a b = option_eq same_parameters (parameters_of a) (parameters_of b) && same_replacement a.tokens b.tokens

-- references to one directive: a name has one definition of the job at most, which lists number differently
abbrev pub same_entity : MacroRef → MacroRef → Bool
same_entity a b = same_owner a.owner b.owner && (same_owner a.owner Job || a.no.number == b.no.number)

abbrev pub is_listed : MacroRef → List MacroRef → Bool
is_listed at refs = list_any (same_entity at) refs

-- a visible directive overrides the one that is referred to
abbrev pub is_overridden : (Owner → Bool) → List MacroNode → MacroRef → Bool
is_overridden seen nodes at = list_any (λ node. seen node.at.owner && is_listed at node.overrides) nodes

abbrev pub is_active : (Owner → Bool) → List MacroNode → MacroNode → Bool
is_active seen nodes node = seen node.at.owner && not (is_overridden seen nodes node.at)

abbrev pub is_active_at : (Owner → Bool) → List MacroNode → ℕ → Bool
is_active_at seen nodes at = option_map_or (is_active seen nodes) (slice_get nodes at) false

abbrev pub is_active_define : (Owner → Bool) → List MacroNode → MacroNode → Bool
is_active_define seen nodes node = is_some node.body && is_active seen nodes node

-- two `#define`s of different definitions
abbrev pub differ : MacroNode → MacroNode → Bool
differ a b = by a.body b.body
  where
    by : Option MacroBody → Option MacroBody → Bool
    by (Some own) (Some other) = not (same_definition own other)
    by _ _ = false

-- what a name means by its active `#define`s in order
abbrev pub meaning_from : List MacroNode → Meaning
meaning_from [] = meaning.None
meaning_from (first ∷ others) = option_map_or (λ other. meaning.Ambiguous first.at other.at) (find (differ first) others) (meaning.Macro first.at)

abbrev pub meaning_of : (Owner → Bool) → List MacroNode → Meaning
meaning_of seen nodes = meaning_from (filter (is_active_define seen nodes) nodes)

-- the directives of one owner in order, which are numbered from 1
pub record Directives : Type 0 where
  pub owner : Owner
  pub nodes : List MacroNode

-- directives of one owner under their numbers, the first of them under this one
abbrev pub is_numbered_from : Owner → ℕ → List MacroNode → Bool
is_numbered_from owner number [] = true
is_numbered_from owner number (node ∷ nodes) =
    same_owner owner node.at.owner && node.at.no.number == number && is_numbered_from owner (number + 1) nodes

abbrev pub is_numbered : Directives → Bool
is_numbered history = is_numbered_from history.owner 1 history.nodes

abbrev pub named : List ℕ → List MacroNode → List MacroNode
named name nodes = filter (λ node. bytes_eq node.name name) nodes

abbrev pub visible : (Owner → Bool) → List MacroNode → List MacroNode
visible seen nodes = filter (λ node. seen node.at.owner) nodes

abbrev pub next_ref : Directives → MacroRef
next_ref history = record { owner = history.owner; no = record { number = length history.nodes + 1 } }

-- a further directive of a name, which overrides the visible ones of other owners and all earlier ones of its own
abbrev pub next_node : Directives → List ℕ → Place → Option MacroBody → List MacroNode → (Owner → Bool) → MacroNode
next_node history name place body before seen = record {
  at = next_ref history;
  name = name;
  place = place;
  body = body;
  overrides = map (λ node. node.at) (visible seen before ++ named name history.nodes);
}

abbrev pub with_node : Directives → MacroNode → Directives
with_node history node = record { owner = history.owner; nodes = history.nodes ++ node ∷ [] }
