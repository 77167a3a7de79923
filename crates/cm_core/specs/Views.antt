-- What a view of declarations and macros gives, as data: own. Name spaces and scopes are those of C11 6.2.1 and 6.2.3.
-- A view is a list of layers, innermost first: a scope over a view is one more layer.
use Rattle.std.specs.Prelude.{◌≡◌, ℕ, ◌+◌, ◌-◌, ◌≤◌, ◌==◌, nat_le, Bool, true, false, ◌&&◌, if◌then◌else◌, min, ◌^◌, List, [], ◌∷◌, ◌++◌, slice_get, filter, Option, Some, None, Result, Ok, Err, ⊤}
use Rattle.std.specs.List.{flat_map}
use Rattle.std.specs.Option.{option_map_or}
use Rattle.std.specs.Str.{bytes_eq}
use Rattle.cm_core.specs.declared.numbers.Owner.{Owner}
use Rattle.cm_core.specs.declared.numbers.Owner.TheVariants.{Unit as OfUnit, Sub, Job, Builtin}
use Rattle.cm_core.specs.declared.numbers.SubNo.{SubNo}
use Rattle.cm_core.specs.declared.numbers.DeclRef.{DeclRef}
use Rattle.cm_core.specs.declared.declarations.Space.{Space}
use Rattle.cm_core.specs.declared.declarations.Space.TheVariants.{Ordinary, Tag}
use Rattle.cm_core.specs.declared.declarations.DeclNode.{DeclNode}
use Rattle.cm_core.specs.declared.declarations.NameRow.{NameRow}
use Rattle.cm_core.specs.declared.macros.MacroNode.{MacroNode}
use Rattle.cm_core.specs.declared.view.ViewFault.{ViewFault}
use Rattle.cm_core.specs.declared.view.ViewFault.TheVariants.{Lost, NoMemory}

-- the declarations of one owner, numbered from `first` on in their order, and its macros
pub record Part : Type 0 where
  pub owner : Owner
  pub first : ℕ
  pub decls : List DeclNode
  pub macros : List MacroNode

-- what one layer adds: parts that are found by name, in the order of lookup, parts that are reached by number alone, and
-- the declarations of the blocks that are open, the innermost block last
pub record Layer : Type 0 where
  pub parts : List Part
  pub locals : List Part
  pub blocks : List (List DeclRef)

abbrev pub Graph : Type 0
Graph = List Layer

abbrev pub same_owner : Owner → Owner → Bool
same_owner OfUnit OfUnit = true
same_owner (Sub a) (Sub b) = a.index == b.index
same_owner Job Job = true
same_owner Builtin Builtin = true
same_owner _ _ = false

abbrev pub same_space : Space → Space → Bool
same_space Ordinary Ordinary = true
same_space Tag Tag = true
same_space _ _ = false

abbrev pub or_else : {X : Type 0} → Option X → Option X → Option X
or_else None other = other
or_else (Some x) other = Some x

-- the first list, or the second where the first is empty
abbrev pub else_from : {X : Type 0} → List X → List X → List X
else_from [] others = others
else_from (x ∷ xs) others = x ∷ xs

-- a declaration by its number
abbrev pub in_part : DeclRef → Part → Option DeclNode
in_part at part =
    if same_owner at.owner part.owner && nat_le part.first at.no.number then slice_get part.decls (at.no.number - part.first) else None

abbrev pub in_parts : DeclRef → List Part → Option DeclNode
in_parts at [] = None
in_parts at (part ∷ parts) = or_else (in_part at part) (in_parts at parts)

abbrev pub in_layer : DeclRef → Layer → Option DeclNode
in_layer at layer = in_parts at (layer.parts ++ layer.locals)

abbrev pub decl : Graph → DeclRef → Option DeclNode
decl [] at = None
decl (layer ∷ outer) at = or_else (in_layer at layer) (decl outer at)

-- the declarations of a name
abbrev pub is_named : List ℕ → Space → DeclNode → Bool
is_named name space node = bytes_eq node.name name && same_space node.space space

abbrev pub named_from : List ℕ → Space → Owner → ℕ → List DeclNode → List DeclRef
named_from name space owner number [] = []
named_from name space owner number (node ∷ nodes) =
    if is_named name space node then record { owner = owner; no = record { number = number } } ∷ named_from name space owner (number + 1) nodes
    else named_from name space owner (number + 1) nodes

abbrev pub in_file : List ℕ → Space → Part → List DeclRef
in_file name space part = named_from name space part.owner part.first part.decls

abbrev pub of_block : List ℕ → Space → List Part → List DeclRef → List DeclRef
of_block name space locals block = filter (λ at. option_map_or (is_named name space) (in_parts at locals) false) block

abbrev pub of_blocks : List ℕ → Space → List Part → List (List DeclRef) → List DeclRef
of_blocks name space locals [] = []
of_blocks name space locals (block ∷ blocks) = else_from (of_blocks name space locals blocks) (of_block name space locals block)

abbrev pub find : Graph → List ℕ → Space → List DeclRef
find [] name space = []
find (layer ∷ outer) name space =
    else_from (of_blocks name space layer.locals layer.blocks) (find outer name space ++ flat_map (in_file name space) layer.parts)

-- the macro definitions and `#undef`s of a name
abbrev pub macros_in : List ℕ → Part → List MacroNode
macros_in name part = filter (λ node. bytes_eq node.name name) part.macros

abbrev pub macros : Graph → List ℕ → List MacroNode
macros [] name = []
macros (layer ∷ outer) name = macros outer name ++ flat_map (macros_in name) layer.parts

-- the names of a submodule's declarations, in order of number
abbrev pub rows_from : ℕ → List DeclNode → List NameRow
rows_from number [] = []
rows_from number (node ∷ nodes) = record { name = node.name; space = node.space; no = number } ∷ rows_from (number + 1) nodes

abbrev pub names_in : SubNo → Part → List NameRow
names_in sub part = if same_owner part.owner (Sub sub) then rows_from part.first part.decls else []

abbrev pub names : Graph → SubNo → List NameRow
names [] sub = []
names (layer ∷ outer) sub = names outer sub ++ flat_map (names_in sub) (layer.parts ++ layer.locals)

-- a count of faults rose, or stands at its end
abbrev pub Rose : ℕ → ℕ → Type 0
Rose before now = min (before + 1) (2 ^ 64 - 1) ≤ now

abbrev pub IsLost : {A : Type 0} → Result A ViewFault → Type 0
IsLost (Ok a) = ⊥
IsLost (Err (Lost sub piece)) = ⊤
IsLost (Err NoMemory) = ⊥

-- an answer Lost names what was lost last
abbrev pub LastIs : {A : Type 0} → SubNo × ℕ → Result A ViewFault → Type 0
LastIs last (Ok a) = ⊤
LastIs last (Err (Lost sub piece)) = last ≡ (sub, piece)
LastIs last (Err NoMemory) = ⊤

-- what each call leaves of a view
pub record Keeps {V A : Type 0} (same : V → V → Type 0) (losses : V → ℕ) (last : V → SubNo × ℕ) (old new : V) (answer : Result A ViewFault) : Type 0 where
  pub is_same : same old new
  pub lost : IsLost answer → Rose (losses old) (losses new)
  pub last_is : LastIs (last new) answer
