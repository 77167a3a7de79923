-- Keys, images, and which files of a cache are true. own
use Rattle.std.specs.Prelude.{◌≡◌, ℕ, List, [], map, drop, Option, Some, None}
use Rattle.std.specs.Option.{option_map}
use Rattle.cm_outside.specs.declared.question.Question.{Question}
use Rattle.cm_outside.specs.declared.question.Answer.{Answer}
use Rattle.cm_outside.specs.declared.question.Record.{Record}
use Rattle.cm_outside.specs.Asks.{Asks, Done, value, asked, begun, then_ask, Agrees}
use Rattle.cm_outside.specs.Firsts.{firsts}
use Rattle.unit_fold.specs.declared.item.FaultAt.{FaultAt}
use Rattle.unit_fold.specs.declared.item.Named.{Named}
use Rattle.module_file.specs.declared.index.Index.{Index}
use Rattle.module_file.specs.declared.index.Key.{Key}
use Rattle.module_file.specs.declared.index.Declaration.{Declaration}
use Rattle.module_file.specs.declared.index.KeptDiag.{KeptDiag}
use Rattle.build_store.specs.KeptFaults.{kept_fault}
use Rattle.build_store.specs.Modules.{mod_of}
use Rattle.build_store.specs.Order.{new_of}
use Rattle.build_store.specs.Owners.{Setting, plan_of}
use Rattle.build_store.specs.Parts.{Fragment, part_in, part_or_none}
use Rattle.build_store.specs.Origins.{IsSealedAs}
use Rattle.build_store.specs.Tables.{table_of}
use Rattle.build_store.specs.Targets.{name_of, number_of, header_of}
use Rattle.build_store.specs.declared.job.Job.{Job}
use Rattle.build_store.specs.declared.part.Part.{Part}
use Rattle.build_store.specs.declared.table.Table.{Table}

-- ---- what is kept of a module

-- the key of a module of a job
abbrev pub key_of : Job → List ℕ → Key
key_of job name = record { name = name; includes = job.includes; maps = job.maps }

-- the objects of a header
abbrev pub declarations_of : List ℕ → List Named → List Declaration
declarations_of path names = map (λ (d : Named). record { name = d.name; path = path; line = d.at.line; column = d.at.column }) names

-- its diagnostics
abbrev pub diags_of : List ℕ → List FaultAt → List KeptDiag
diags_of path faults = map (kept_fault path) faults

-- what a module file says of module x under this key, with these records, that needs these modules and came to this
abbrev pub index_with : Key → Table → ℕ → List Record → List ℕ → Part → Index
index_with key table x records needs part = record {
  key = key;
  records = records;
  needs = map (name_of table) needs;
  sub = name_of table x;
  imports = part.imports;
  declarations = declarations_of (header_of table x) part.objects;
  diags = diags_of (header_of table x) part.faults;
}

-- ---- interpreting the module of a key

-- a table, the number of a module in it, and what the module came to
pub record Outcome : Type 0 where
  pub table : Table
  pub number : ℕ
  pub parts : Fragment

abbrev pub setting_by : Key → Table → Setting
setting_by key table = record { table = table; includes = key.includes }

abbrev pub outcome_of : Table → ℕ → Option Fragment → Option Outcome
outcome_of table x parts = option_map (λ b. record { table = table; number = x; parts = b }) parts

abbrev pub interpret_in : Key → Table → Option ℕ → Asks (Option Outcome)
interpret_in key table None = Done None
interpret_in key table (Some x) = then_ask (mod_of (plan_of (setting_by key table)) [] x) (λ parts. Done (outcome_of table x parts))

-- The table of the maps comes first and then the module: nothing, where no map declares it or it is Cyclic.
unfoldable pub interpreted : Key → Asks (Option Outcome)
interpreted key = then_ask (table_of key.maps) (λ table. interpret_in key table (number_of table key.name))

-- what the file of a key says, by what its interpretation came to, asked and began: the module itself begins first
abbrev pub index_by : Key → List Record → List ℕ → Outcome → Index
index_by key records begins o =
    index_with key o.table o.number (firsts records) (drop 1 (new_of [] begins)) (part_or_none (part_in o.parts o.number))

-- what the file of a key says over these answers, where there is such a module
abbrev pub index_of : Key → (Question → Answer) → Option Index
index_of key t = option_map (index_by key (asked (interpreted key) t) (begun (interpreted key) t)) (value (interpreted key) t)

-- ---- images and true files

-- the file is the image of the module of some key over some answers
abbrev pub IsImage : List ℕ → Type 0
IsImage file = (index : Index) × IsSealedAs file index × ((t : Question → Answer) × (index_of index.key t ≡ Some index))

-- A file is true where, if it is sealed, it is the image of its key over some answers that agree with its records. By the
-- frame law it is then the image over all such answers.
abbrev pub IsTrueFile : List ℕ → Type 0
IsTrueFile file = (index : Index) → IsSealedAs file index → (t : Question → Answer) × Agrees t index.records × (index_of index.key t ≡ Some index)

-- version 0 has its pieces in the index, and no row that speaks of another place
abbrev pub IsPiece : List ℕ → ℕ → List ℕ → Type 0
IsPiece index place bytes = Unit {0}
