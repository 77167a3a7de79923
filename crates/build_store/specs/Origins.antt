-- Where what a build takes of a needed module comes from, and why; the report line that says so. own
use Rattle.std.specs.Prelude.{◌≡◌, ◌≢◌, ◌⊎◌, ℕ, Bool, true, false, List, ◌++◌, length, take, Option, Some, None, Err, codes}
use Rattle.cm_outside.specs.Asks.{Agrees}
use Rattle.cm_outside.specs.declared.question.Question.{Question}
use Rattle.cm_outside.specs.declared.question.Answer.{Answer}
use Rattle.module_file.specs.ModuleFile.{IsWellFormed, index_len_of, spelling}
use Rattle.module_file.specs.declared.fault.FileFault.TheVariants.{OtherVersion as VersionFault}
use Rattle.module_file.specs.declared.index.Index.{Index}
use Rattle.module_file.specs.declared.index.Key.{Key}
use Rattle.build_store.specs.Changes.{changed}
use Rattle.build_store.specs.declared.origin.Reason.{Reason}
use Rattle.build_store.specs.declared.origin.Reason.TheVariants.{Missing, Unreadable, OtherVersion, Damaged, OtherKey, Outdated}
use Rattle.build_store.specs.declared.origin.Origin.{Origin}
use Rattle.build_store.specs.declared.origin.Origin.TheVariants.{Loaded, Built}

-- ---- what is true of a module's file

-- the file is sealed and says this
pub record IsSealedAs (file : List ℕ) (index : Index) : Type 0 where
  pub well_formed : IsWellFormed index
  pub spelled : file ≡ spelling index

abbrev pub IsSealed : List ℕ → Type 0
IsSealed file = (index : Index) × IsSealedAs file index

-- there is a file, and this holds of it
abbrev pub OfFile : (List ℕ → Type 0) → Option (List ℕ) → Type 0
OfFile holds None = ⊥
OfFile holds (Some file) = holds file

-- the first check of its head that fails is that of the version
abbrev pub IsOfOtherVersion : List ℕ → Type 0
IsOfOtherVersion file = (n : ℕ) × (index_len_of (take 56 file) (length file) ≡ Err (VersionFault n))

-- another check fails
abbrev pub IsDamaged : List ℕ → Type 0
IsDamaged file = (IsOfOtherVersion file → ⊥) × (IsSealed file → ⊥)

-- it is sealed, and its index is such
abbrev pub IsSealedWith : (Index → Type 0) → List ℕ → Type 0
IsSealedWith says file = (index : Index) × IsSealedAs file index × says index

-- it is current: of the key, and with records that the answers agree with
abbrev pub IsCurrent : Key → (Question → Answer) → Index → Type 0
IsCurrent key t index = (index.key ≡ key) × Agrees t index.records

-- ---- why a module is built

-- Why a module is built whose file was this. No two of these hold of one file, but for `unreadable`, which comes only
-- where the cache failed. A current file whose index doesn't fit the table of modules counts as damaged.
abbrev pub IsReason : (Index → Bool) → Type 0 → Key → (Question → Answer) → Option (List ℕ) → Reason → Type 0
IsReason fits failed key t file Missing = file ≡ None
IsReason fits failed key t file Unreadable = failed
IsReason fits failed key t file OtherVersion = OfFile IsOfOtherVersion file
IsReason fits failed key t file Damaged = OfFile (λ f. IsDamaged f ⊎ IsSealedWith (λ i. IsCurrent key t i × (fits i ≡ false)) f) file
IsReason fits failed key t file OtherKey = OfFile (IsSealedWith (λ i. i.key ≢ key)) file
IsReason fits failed key t file (Outdated path) = OfFile (IsSealedWith (λ i. (i.key ≡ key) × (changed t i.records ≡ Some path))) file

-- a module is loaded where its file is current and fits
abbrev pub IsOrigin : (Index → Bool) → Type 0 → Key → (Question → Answer) → Option (List ℕ) → Origin → Type 0
IsOrigin fits failed key t file Loaded = OfFile (IsSealedWith (λ i. IsCurrent key t i × (fits i ≡ true))) file
IsOrigin fits failed key t file (Built reason) = IsReason fits failed key t file reason

-- ---- its line

abbrev pub reason_text : Reason → List ℕ
reason_text Missing = codes "missing"
reason_text Unreadable = codes "unreadable"
reason_text OtherVersion = codes "other version"
reason_text Damaged = codes "damaged"
reason_text OtherKey = codes "other key"
reason_text (Outdated path) = codes "outdated " ++ path

-- `loaded NAME` or `built NAME REASON`, and the end of the line
abbrev pub report_line : List ℕ → Origin → List ℕ
report_line name Loaded = codes "loaded " ++ (name ++ codes "\n")
report_line name (Built reason) = codes "built " ++ (name ++ (codes " " ++ (reason_text reason ++ codes "\n")))
