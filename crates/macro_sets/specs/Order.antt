-- The order of the directives of one name: the job, the submodules by number and the owner itself, and of each in the order
-- of its numbers: own.
use Rattle.std.specs.Prelude.{nat_lt, ◌==◌, Bool, true, false, ◌&&◌, ◌||◌, not, if◌then◌else◌, List, [], ◌∷◌, filter, Option, Some, None}
use Rattle.std.specs.List.{list_any, list_all}
use Rattle.cm_core.specs.Views.{same_owner}
use Rattle.cm_core.specs.declared.macros.MacroNode.{MacroNode}
use Rattle.cm_core.specs.declared.numbers.MacroRef.{MacroRef}
use Rattle.cm_core.specs.declared.numbers.Owner.{Owner}
use Rattle.cm_core.specs.declared.numbers.Owner.TheVariants.{Sub, Job}
use Rattle.macro_sets.specs.declared.meanings.Meaning.{Meaning}
use Rattle.macro_sets.specs.declared.meanings.Meaning.TheVariants as meaning
use Rattle.macro_sets.specs.ActiveMacros.{differ}

-- what a name can have directives of; a predefined macro is not among them
abbrev pub has_place : Owner → Owner → Bool
has_place own owner = same_owner own owner || by owner
  where
    by : Owner → Bool
    by Job = true
    by (Sub sub) = true
    by _ = false

-- of two owners the first goes first
abbrev pub owner_before : Owner → Owner → Owner → Bool
owner_before own a b = not (same_owner own a) && (same_owner own b || by a b)
  where
    by : Owner → Owner → Bool
    by Job (Sub sub) = true
    by (Sub one) (Sub other) = nat_lt one.index other.index
    by _ _ = false

abbrev pub goes_before : Owner → MacroRef → MacroRef → Bool
goes_before own a b = if same_owner a.owner b.owner then nat_lt a.no.number b.no.number else owner_before own a.owner b.owner

abbrev pub is_in_order : Owner → List MacroNode → Bool
is_in_order own [] = true
is_in_order own (node ∷ nodes) = has_place own node.at.owner && list_all (λ later. goes_before own node.at later.at) nodes && is_in_order own nodes

abbrev pub same_ref : MacroRef → MacroRef → Bool
same_ref a b = same_owner a.owner b.owner && a.no.number == b.no.number

-- the reference is to the first of these in the order
abbrev pub is_first : Owner → MacroRef → List MacroNode → Bool
is_first own at nodes = list_all (λ node. same_ref at node.at || goes_before own at node.at) nodes

-- those that are other definitions than the one that is referred to
abbrev pub differing : MacroRef → List MacroNode → List MacroNode
differing at nodes = filter (λ node. list_any (λ one. same_ref at one.at && differ one node) nodes) nodes

-- the directive by which a name means something
abbrev pub meant_first : Meaning → Option MacroRef
meant_first meaning.None = None
meant_first (meaning.Macro at) = Some at
meant_first (meaning.Ambiguous first other) = Some first
