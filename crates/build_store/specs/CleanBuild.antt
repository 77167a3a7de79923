-- The clean build: what a build writes when everything is interpreted afresh from the tree, without a cache. own
use Rattle.std.specs.Prelude.{ℕ, true, List, [], ◌∷◌, ◌++◌, slice_get, Option, Some, None, codes}
use Rattle.std.specs.List.{flat_map}
use Rattle.cm_outside.specs.declared.question.Question.{Question}
use Rattle.cm_outside.specs.declared.question.Answer.{Answer}
use Rattle.cm_outside.specs.Asks.{Asks, value, begun}
use Rattle.unit_fold.specs.Blocks.{joined, fault_line, end_line, unit_block}
use Rattle.unit_fold.specs.declared.item.Item.{Item}
use Rattle.unit_fold.specs.declared.item.FaultAt.{FaultAt}
use Rattle.unit_fold.specs.declared.item.FaultKind.TheVariants.{NotBuilt}
use Rattle.build_store.specs.Modules.{mod_of, unit_of}
use Rattle.build_store.specs.Order.{new_of}
use Rattle.build_store.specs.Owners.{Setting, plan_of, unit_needs}
use Rattle.build_store.specs.Parts.{Fragment, part_in}
use Rattle.build_store.specs.Tables.{load_of}
use Rattle.build_store.specs.declared.job.Job.{Job}
use Rattle.build_store.specs.declared.loading.Loaded.{Loaded}
use Rattle.build_store.specs.declared.loading.Loaded.TheVariants.{Bad, Ready}
use Rattle.build_store.specs.declared.part.Part.{Part}
use Rattle.build_store.specs.declared.table.MapFault.{MapFault}
use Rattle.build_store.specs.declared.table.Table.{Table}
use Rattle.build_store.specs.declared.table.Target.{Target}

-- what no finished form covers, at the first column of a line
abbrev pub not_built : List ℕ → ℕ → List ℕ
not_built path line = fault_line path (record { line = line; column = 1 }) NotBuilt

-- ---- modules

-- the lines of the diagnostics of a header
abbrev pub fault_lines : List ℕ → List FaultAt → List ℕ
fault_lines header faults = flat_map (λ (f : FaultAt). fault_line header f.at f.kind) faults

abbrev pub block_lines : List ℕ → List ℕ → List FaultAt → List ℕ
block_lines name header [] = []
block_lines name header (fault ∷ faults) =
    joined (codes "module " ∷ name ∷ []) ++ (fault_lines header (fault ∷ faults) ++ end_line name true)

-- the block of a module of the table: it has one where it has a diagnostic
abbrev pub target_block : Option Target → Part → List ℕ
target_block None part = []
target_block (Some m) part = block_lines m.name m.header part.faults

-- the block of a needed module
abbrev pub module_block : Table → ℕ → Option Part → List ℕ
module_block table x None = []
module_block table x (Some part) = target_block (slice_get table.targets x) part

abbrev pub own_part : ℕ → Option Fragment → Option Part
own_part x None = None
own_part x (Some parts) = part_in parts x

-- what module x comes to, interpreted afresh; none where it is Cyclic
abbrev pub fresh_part : Setting → (Question → Answer) → ℕ → Option Part
fresh_part s t x = own_part x (value (mod_of (plan_of s) [] x) t)

-- ---- units

-- a unit as it is interpreted
abbrev pub unit_run : Setting → List ℕ → Asks (List Item)
unit_run s unit = unit_of (plan_of s) (unit_needs s unit)

-- the modules that a unit needs first, after these, in order of first need
abbrev pub first_needs : Setting → (Question → Answer) → List ℕ → List ℕ → List ℕ
first_needs s t seen unit = new_of seen (begun (unit_run s unit) t)

-- the blocks of the modules that a unit needs first, and then its own
abbrev pub unit_text : Setting → (Question → Answer) → List ℕ → List ℕ → List ℕ
unit_text s t news unit =
    flat_map (λ x. module_block s.table x (fresh_part s t x)) news ++ unit_block unit (value (unit_run s unit) t)

-- the units in order, after the modules that the earlier ones needed
abbrev pub unit_texts : Setting → (Question → Answer) → List ℕ → List (List ℕ) → List ℕ
unit_texts s t seen [] = []
unit_texts s t seen (unit ∷ units) =
    let news = first_needs s t seen unit in unit_text s t news unit ++ unit_texts s t (seen ++ news) units

-- ---- the whole build

abbrev pub map_lines : List MapFault → List ℕ
map_lines faults = flat_map (λ (f : MapFault). not_built f.map f.line) faults

abbrev pub setting_of : Job → Table → Setting
setting_of job table = record { table = table; includes = job.includes }

abbrev pub loaded_text : List ℕ → (Question → Answer) → Loaded → List ℕ
loaded_text path t (Bad line) = not_built path line
loaded_text path t (Ready job table) = map_lines table.faults ++ unit_texts (setting_of job table) t [] job.units

-- the whole output of the build of a job file
unfoldable pub clean_build : List ℕ → (Question → Answer) → List ℕ
clean_build path t = loaded_text path t (value (load_of path) t)
