-- How a history keeps directives: those of each name together, and for each number the place of its directive: own.
use Rattle.std.specs.Prelude.{◌≡◌, ℕ, ◌+◌, true, if◌then◌else◌, List, [], ◌∷◌, ◌++◌, length, slice_get, Option, is_some, option_and_then}
use Rattle.std.specs.List.{filter_map, list_all}
use Rattle.std.specs.Str.{bytes_eq}
use Rattle.cm_core.specs.declared.macros.MacroNode.{MacroNode}
use Rattle.cm_core.specs.declared.numbers.Owner.{Owner}
use Rattle.macro_sets.specs.declared.groups.Position.{Position}
use Rattle.macro_sets.specs.ActiveMacros.{named, is_numbered}

-- the names in the order in which they came, each with its directives in order
abbrev pub Groups : Type 0
Groups = List (List ℕ × List MacroNode)

abbrev pub group_of : Groups → List ℕ → List MacroNode
group_of [] name = []
group_of (group ∷ groups) name = if bytes_eq name group.0 then group.1 else group_of groups name

-- the groups with one more directive of a name
abbrev pub pushed : Groups → List ℕ → MacroNode → Groups
pushed [] name node = (name, node ∷ []) ∷ []
pushed (group ∷ groups) name node =
    if bytes_eq name group.0 then (group.0, group.1 ++ node ∷ []) ∷ groups else group ∷ pushed groups name node

-- where that directive stands
abbrev pub place_of : Groups → List ℕ → Position
place_of [] name = record { group = 0; at = 0 }
place_of (group ∷ groups) name =
    if bytes_eq name group.0 then record { group = 0; at = length group.1 }
    else record { group = (place_of groups name).group + 1; at = (place_of groups name).at }

abbrev pub node_at : Groups → Position → Option MacroNode
node_at groups place = option_and_then (λ group. slice_get group.1 place.at) (slice_get groups place.group)

abbrev pub in_order : Groups → List Position → List MacroNode
in_order groups order = filter_map (node_at groups) order

-- each number has a directive, and the groups are those of the names
pub record IsKept (groups : Groups) (order : List Position) : Type 0 where
  pub placed : list_all (λ place. is_some (node_at groups place)) order ≡ true
  pub grouped : (name : List ℕ) → group_of groups name ≡ named name (in_order groups order)

-- and each directive stands under its number
pub record IsHistory (owner : Owner) (groups : Groups) (order : List Position) : Type 0 where
  pub kept : IsKept groups order
  pub numbered : is_numbered (record { owner = owner; nodes = in_order groups order }) ≡ true
