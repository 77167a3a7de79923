-- The report of a build: where what it takes of each needed module comes from, and why. own
use Rattle.std.specs.Prelude.{◌≡◌, ℕ, ◌+◌, ◌-◌, ◌<◌, ◌≤◌, ◌^◌, min, length, Bool, ◌&&◌, List, [], ◌∷◌, ◌++◌, is_some}
use Rattle.std.specs.List.{list_all}
use Rattle.std.specs.Str.{bytes_eq}
use Rattle.cm_outside.specs.declared.question.Question.{Question}
use Rattle.cm_outside.specs.declared.question.Answer.{Answer}
use Rattle.cm_outside.specs.Asks.{value}
use Rattle.cm_outside.specs.Faults.{Rose}
use Rattle.cm_outside.specs.Trees.{Files, file_at}
use Rattle.module_file.specs.ModuleFile.{file_name_of}
use Rattle.module_file.specs.declared.index.Index.{Index}
use Rattle.module_file.specs.declared.index.KeptDiag.{KeptDiag}
use Rattle.build_store.specs.CleanBuild.{first_needs, setting_of}
use Rattle.build_store.specs.Images.{key_of}
use Rattle.build_store.specs.KeptFaults.{fault_of_kept}
use Rattle.build_store.specs.Origins.{IsOrigin, report_line}
use Rattle.build_store.specs.Owners.{Setting}
use Rattle.build_store.specs.Tables.{load_of}
use Rattle.build_store.specs.Targets.{name_of, number_of}
use Rattle.build_store.specs.declared.job.Job.{Job}
use Rattle.build_store.specs.declared.loading.Loaded.{Loaded}
use Rattle.build_store.specs.declared.loading.Loaded.TheVariants.{Bad, Ready}
use Rattle.build_store.specs.declared.origin.Origin.{Origin}
use Rattle.build_store.specs.declared.origin.Origin.TheVariants.{Loaded as FromFile, Built}
use Rattle.build_store.specs.declared.origin.Reason.TheVariants.{Missing, Unreadable, OtherVersion, Damaged, OtherKey, Outdated}
use Rattle.build_store.specs.declared.table.Table.{Table}

-- ---- needed modules

-- the modules that units need, after these, in order of first need
abbrev pub needed_by : Setting → (Question → Answer) → List ℕ → List (List ℕ) → List ℕ
needed_by s t seen [] = []
needed_by s t seen (unit ∷ units) = let news = first_needs s t seen unit in news ++ needed_by s t (seen ++ news) units

-- a module of the table has this name
abbrev pub is_declared : Table → List ℕ → Bool
is_declared table name = is_some (number_of table name)

-- a diagnostic is one that a header can have
abbrev pub is_fault_kept : KeptDiag → Bool
is_fault_kept d = is_some (fault_of_kept d)

-- The file says that its module is of one submodule, which is the module itself, names modules of the table alone, and has
-- diagnostics of headers alone.
abbrev pub fits : Table → Index → Bool
fits table i =
    bytes_eq i.sub i.key.name
    && (list_all (is_declared table) i.imports && (list_all (is_declared table) i.needs && list_all is_fault_kept i.diags))

-- ---- where they come from

-- where module x comes from, over a cache with these files
abbrev pub ComesFrom : Type 0 → Files → Job → Table → (Question → Answer) → ℕ → Origin → Type 0
ComesFrom failed files job table t x origin =
    IsOrigin (fits table) failed (key_of job (name_of table x)) t (file_at (file_name_of (key_of job (name_of table x))) files) origin

abbrev pub ComeFrom : Type 0 → Files → Job → Table → (Question → Answer) → List ℕ → List Origin → Type 0
ComeFrom failed files job table t [] [] = Unit {0}
ComeFrom failed files job table t (x ∷ xs) (o ∷ os) = ComesFrom failed files job table t x o × ComeFrom failed files job table t xs os
ComeFrom failed files job table t [] (o ∷ os) = ⊥
ComeFrom failed files job table t (x ∷ xs) [] = ⊥

abbrev pub report_lines : Table → List ℕ → List Origin → List ℕ
report_lines table [] os = []
report_lines table (x ∷ xs) [] = []
report_lines table (x ∷ xs) (o ∷ os) = report_line (name_of table x) o ++ report_lines table xs os

-- ---- counts

abbrev pub one_if_built : Origin → ℕ
one_if_built FromFile = 0
one_if_built (Built reason) = 1

abbrev pub one_if_unreadable : Origin → ℕ
one_if_unreadable FromFile = 0
one_if_unreadable (Built Unreadable) = 1
one_if_unreadable (Built Missing) = 0
one_if_unreadable (Built OtherVersion) = 0
one_if_unreadable (Built Damaged) = 0
one_if_unreadable (Built OtherKey) = 0
one_if_unreadable (Built (Outdated path)) = 0

abbrev pub count_by : (Origin → ℕ) → List Origin → ℕ
count_by f [] = 0
count_by f (o ∷ os) = f o + count_by f os

-- the count of interpretations, after these
abbrev pub counted : ℕ → List Origin → ℕ
counted before os = min (before + count_by one_if_built os) (2 ^ 64 - 1)

-- no more are unreadable than the cache had faults, unless their count stands at its end
abbrev pub AreFaults : ℕ → ℕ → List Origin → Type 0
AreFaults before now os = min (before + count_by one_if_unreadable os) (2 ^ 64 - 1) ≤ now

-- ---- the report

-- The report of a job that was read, the count of interpretations that goes with it, and the faults of the cache, over a
-- cache with these files when the build begins.
pub record IsReportOf (files : Files) (job : Job) (table : Table) (t : Question → Answer) (before after faults_before faults_after : ℕ) (text : List ℕ) : Type 0 where
  pub origins : List Origin
  pub come_from : ComeFrom (Rose faults_before faults_after) files job table t (needed_by (setting_of job table) t [] job.units) origins
  pub lines : text ≡ report_lines table (needed_by (setting_of job table) t [] job.units) origins
  pub compiles : after ≡ counted before origins
  pub faults : AreFaults faults_before faults_after origins

abbrev pub IsReportOfLoaded : Files → (Question → Answer) → ℕ → ℕ → ℕ → ℕ → List ℕ → Loaded → Type 0
IsReportOfLoaded files t before after faults_before faults_after text (Bad line) = (text ≡ []) × (after ≡ before)
IsReportOfLoaded files t before after faults_before faults_after text (Ready job table) = IsReportOf files job table t before after faults_before faults_after text

-- the report of the build of a job file
abbrev pub IsReport : Files → List ℕ → (Question → Answer) → ℕ → ℕ → ℕ → ℕ → List ℕ → Type 0
IsReport files path t before after faults_before faults_after text = IsReportOfLoaded files t before after faults_before faults_after text (value (load_of path) t)

-- ---- file names

-- the keys of the modules of a job have different file names
abbrev pub HasOwnFiles : Job → Table → Type 0
HasOwnFiles job table = (x y : ℕ) → x < length table.targets → y < length table.targets → file_name_of (key_of job (name_of table x)) ≡ file_name_of (key_of job (name_of table y)) → name_of table x ≡ name_of table y

abbrev pub HaveOwnFilesIn : Loaded → Type 0
HaveOwnFilesIn (Bad line) = Unit {0}
HaveOwnFilesIn (Ready job table) = HasOwnFiles job table

abbrev pub HaveOwnFiles : List ℕ → (Question → Answer) → Type 0
HaveOwnFiles path t = HaveOwnFilesIn (value (load_of path) t)
