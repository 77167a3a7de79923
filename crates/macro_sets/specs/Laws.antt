-- Words of the laws of active macros: own.
use Rattle.std.specs.Prelude.{ℕ, Bool, true, false, ◌&&◌, ◌||◌, not, if◌then◌else◌, List, map}
use Rattle.std.specs.List.{list_any, list_all}
use Rattle.std.specs.Str.{bytes_eq}
use Rattle.cm_core.specs.Views.{same_owner}
use Rattle.cm_core.specs.declared.macros.MacroNode.{MacroNode}
use Rattle.cm_core.specs.declared.numbers.MacroRef.{MacroRef}
use Rattle.cm_core.specs.declared.numbers.Owner.{Owner}
use Rattle.cm_core.specs.declared.numbers.Owner.TheVariants.{Job}
use Rattle.macro_sets.specs.declared.meanings.Meaning.{Meaning}
use Rattle.macro_sets.specs.declared.meanings.Meaning.TheVariants as meaning
use Rattle.macro_sets.specs.ActiveMacros.{differ, is_listed, visible}

abbrev pub is_ambiguous : Meaning → Bool
is_ambiguous meaning.None = false
is_ambiguous (meaning.Macro at) = false
is_ambiguous (meaning.Ambiguous first other) = true

-- two of these `#define`s are different definitions
abbrev pub some_differ : List MacroNode → Bool
some_differ nodes = list_any (λ a. list_any (differ a) nodes) nodes

-- these references are to each visible directive
abbrev pub lists_visible : (Owner → Bool) → List MacroNode → List MacroRef → Bool
lists_visible seen nodes refs = list_all (λ node. is_listed node.at refs) (visible seen nodes)

-- references with another number for the job's definition
abbrev pub renumbered : ℕ → MacroRef → MacroRef
renumbered number at = if same_owner at.owner Job then record at { no = record { number = number } } else at

abbrev pub with_job_number : ℕ → MacroNode → MacroNode
with_job_number number node = record node { overrides = map (renumbered number) node.overrides }

-- what `define` and `undef` are to be handed: directives of the name, by other owners
abbrev pub is_before : List ℕ → Owner → List MacroNode → Bool
is_before name owner nodes = list_all (λ node. bytes_eq node.name name && not (same_owner owner node.at.owner)) nodes

-- an owner sees itself, and those that it is told to see
abbrev pub sees_itself : Owner → (Owner → Bool) → Owner → Bool
sees_itself owner seen other = same_owner owner other || seen other

-- none of these directives overrides the one that is referred to
abbrev pub is_new : MacroRef → List MacroNode → Bool
is_new at nodes = list_all (λ node. not (is_listed at node.overrides)) nodes
