-- What a build leaves of a cache that tells its files: the file of each module that was built is its image. own
use Rattle.std.specs.Prelude.{◌≡◌, ◌⊎◌, ℕ, ◌+◌, ◌-◌, ◌^◌, ◌<◌, ◌≤◌, min, Bool, true, false, not, ◌&&◌, List, [], ◌∷◌, length, Option, Some, None, nat_le, if◌then◌else◌}
use Rattle.cm_outside.specs.Asks.{value}
use Rattle.cm_outside.specs.Trees.{Files, Path, file_at}
use Rattle.cm_outside.specs.declared.question.Question.{Question}
use Rattle.cm_outside.specs.declared.question.Answer.{Answer}
use Rattle.module_file.specs.ModuleFile.{file_name_of, spelling}
use Rattle.module_file.specs.declared.index.Index.{Index}
use Rattle.build_store.specs.CleanBuild.{setting_of}
use Rattle.build_store.specs.Held.{key_held}
use Rattle.build_store.specs.Images.{index_of, key_of}
use Rattle.build_store.specs.Kept.{largest_kept}
use Rattle.build_store.specs.Left.{IsFrontOf}
use Rattle.build_store.specs.Modules.{is_in}
use Rattle.build_store.specs.Report.{HasOwnFiles, IsReportOf, needed_by}
use Rattle.build_store.specs.Tables.{load_of}
use Rattle.build_store.specs.Targets.{HasOwnNames, name_of}
use Rattle.build_store.specs.Telling.{IsFileOf, built_in, is_built}
use Rattle.build_store.specs.Turning.{slot_at}
use Rattle.build_store.specs.declared.held.Held.{Held}
use Rattle.build_store.specs.declared.job.Job.{Job}
use Rattle.build_store.specs.declared.loading.Loaded.{Loaded}
use Rattle.build_store.specs.declared.loading.Loaded.TheVariants.{Bad, Ready}
use Rattle.build_store.specs.declared.origin.Origin.{Origin}
use Rattle.build_store.specs.declared.slot.Slot.{Slot}
use Rattle.build_store.specs.declared.slot.Slot.TheVariants.{Unknown, Busy, Cyclic, Good}
use Rattle.build_store.specs.declared.slot.Turn.{Turn}
use Rattle.build_store.specs.declared.slot.Turn.TheVariants.{Needs as NeedsFirst, Cyclic as ComesBack, Good as HasEnded}
use Rattle.build_store.specs.declared.table.Table.{Table}

-- ---- the file of a module

-- a larger image isn't kept
abbrev pub kept_of : Option Index → Option (List ℕ)
kept_of None = None
kept_of (Some i) = if nat_le (length (spelling i)) largest_kept then Some (spelling i) else None

-- the image of module x of a table over these answers, where there is one and it is kept
abbrev pub kept_image : Job → Table → (Question → Answer) → ℕ → Option (List ℕ)
kept_image job table t x = kept_of (index_of (key_of job (name_of table x)) t)

-- the file of a module that was built, where this was its file before
abbrev pub file_built : Option (List ℕ) → Option (List ℕ) → Option (List ℕ)
file_built None before = before
file_built (Some image) before = Some image

-- Such a file that wasn't put: it is as before, absent or a front of the image.
abbrev pub IsBroken : Option (List ℕ) → Option (List ℕ) → Option (List ℕ) → Type 0
IsBroken None before now = now ≡ before
IsBroken (Some image) before now = (now ≡ before) ⊎ IsFrontOf image now

-- the file of a module, by whether it was built and whether its file may be broken
abbrev pub IsFileBehind : Bool → Bool → Option (List ℕ) → Option (List ℕ) → Option (List ℕ) → Type 0
IsFileBehind false broken image before now = now ≡ before
IsFileBehind true false image before now = now ≡ file_built image before
IsFileBehind true true image before now = IsBroken image before now

-- ---- a build

-- each needed module by where it comes from; the files of the broken ones may be broken
abbrev pub AreFilesBehind : Files → Files → Job → Table → (Question → Answer) → List ℕ → List ℕ → List Origin → Type 0
AreFilesBehind files after job table t broken [] [] = Unit {0}
AreFilesBehind files after job table t broken (x ∷ xs) (o ∷ os) =
    IsFileBehind (is_built o) (is_in x broken) (kept_image job table t x) (file_at (file_name_of (key_of job (name_of table x))) files) (file_at (file_name_of (key_of job (name_of table x))) after)
    × AreFilesBehind files after job table t broken xs os
AreFilesBehind files after job table t broken [] (o ∷ os) = ⊥
AreFilesBehind files after job table t broken (x ∷ xs) [] = ⊥

-- What is left behind of these files, where these modules were needed and come from here: no more files are broken than the
-- cache had faults, unless their count stands at its end.
pub record IsLeftBehind (files after : Files) (job : Job) (table : Table) (t : Question → Answer) (faults_before faults_after : ℕ) (needed : List ℕ) (origins : List Origin) : Type 0 where
  pub broken : List ℕ
  pub few : min (faults_before + length broken) (2 ^ 64 - 1) ≤ faults_after
  pub each : AreFilesBehind files after job table t broken needed origins
  pub others : (name : Path) → (IsFileOf job table needed name → ⊥) → file_at name after ≡ file_at name files

-- where the cache tells its files now
abbrev pub LeavesBehind : Files → Option Files → Job → Table → (Question → Answer) → ℕ → ℕ → List ℕ → List Origin → Type 0
LeavesBehind files None job table t faults_before faults_after needed origins = ⊥
LeavesBehind files (Some after) job table t faults_before faults_after needed origins = IsLeftBehind files after job table t faults_before faults_after needed origins

-- the report of a job that was read, and what is left behind of the modules that it speaks of
pub record IsBuildOf (files : Files) (now : Option Files) (job : Job) (table : Table) (t : Question → Answer) (before after faults_before faults_after : ℕ) (text : List ℕ) : Type 0 where
  pub report : IsReportOf files job table t before after faults_before faults_after text
  pub left : LeavesBehind files now job table t faults_before faults_after (needed_by (setting_of job table) t [] job.units) report.origins

abbrev pub IsBuildOfLoaded : Files → Option Files → (Question → Answer) → ℕ → ℕ → ℕ → ℕ → List ℕ → Loaded → Type 0
IsBuildOfLoaded files now t before after faults_before faults_after text (Bad line) = (text ≡ []) × (after ≡ before) × (now ≡ Some files)
IsBuildOfLoaded files now t before after faults_before faults_after text (Ready job table) = IsBuildOf files now job table t before after faults_before faults_after text

-- the report of the build of a job file, and what it leaves behind
abbrev pub IsBuild : Files → Option Files → List ℕ → (Question → Answer) → ℕ → ℕ → ℕ → ℕ → List ℕ → Type 0
IsBuild files now path t before after faults_before faults_after text = IsBuildOfLoaded files now t before after faults_before faults_after text (value (load_of path) t)

-- ---- calls in the midst of a build

abbrev pub is_good : Slot → Bool
is_good Unknown = false
is_good Busy = false
is_good Cyclic = false
is_good Good = true

abbrev pub has_ended : Turn → Bool
has_ended (NeedsFirst x) = false
has_ended ComesBack = false
has_ended HasEnded = true

-- module m was built, and isn't Cyclic
abbrev pub has_built : Held → ℕ → Bool
has_built h m = is_good (slot_at h.slots m) && built_in h.noted m

-- what calls leave that built the modules which `new` has built and `old` hadn't
pub record BehindOf (files after : Files) (old new : Held) (t : Question → Answer) (faults_before faults_after : ℕ) : Type 0 where
  pub broken : List ℕ
  pub few : min (faults_before + length broken) (2 ^ 64 - 1) ≤ faults_after
  pub later : faults_before ≤ faults_after
  pub stays : (m : ℕ) → has_built old m ≡ true → has_built new m ≡ true
  pub each : (m : ℕ) → m < length old.table.targets
      → IsFileBehind (not (has_built old m) && has_built new m) (is_in m broken) (kept_image old.job old.table t m) (file_at (file_name_of (key_of old.job (name_of old.table m))) files) (file_at (file_name_of (key_of old.job (name_of old.table m))) after)

-- where the keys of the job's modules have different file names, and no two modules have one name
abbrev pub Behind : Option Files → Option Files → Held → Held → (Question → Answer) → ℕ → ℕ → Type 0
Behind None after old new t faults_before faults_after = Unit {0}
Behind (Some files) None old new t faults_before faults_after = ⊥
Behind (Some files) (Some after) old new t faults_before faults_after =
    HasOwnFiles old.job old.table → HasOwnNames old.table
    → (new.job ≡ old.job) × (new.table ≡ old.table) × BehindOf files after old new t faults_before faults_after

-- The file of this name, which is that of a module with this image, after a call that built it or didn't; where the cache
-- failed it may be broken.
abbrev pub FileBehind : Path → Bool → Option (List ℕ) → Option Files → Option Files → Type 0 → Type 0
FileBehind name built image None after failed = Unit {0}
FileBehind name built image (Some files) None failed = ⊥
FileBehind name built image (Some files) (Some after) failed =
    IsFileBehind built false image (file_at name files) (file_at name after) ⊎ (failed × IsFileBehind built true image (file_at name files) (file_at name after))

-- the file of module m of what is held
abbrev pub ModuleBehind : Held → ℕ → Bool → (Question → Answer) → Option Files → Option Files → Type 0 → Type 0
ModuleBehind h m built t old new failed = FileBehind (file_name_of (key_held h m)) built (kept_image h.job h.table t m) old new failed
