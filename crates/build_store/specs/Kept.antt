-- What is known of a kept file that was opened and of its records, and what keeping one leaves. own
use Rattle.std.specs.Prelude.{◌≡◌, ◌≢◌, ◌⊎◌, ℕ, List, map, slice_get, Option, Some, None}
use Rattle.cm_outside.specs.Asks.{Agrees}
use Rattle.cm_outside.specs.Caches.{with_file, LeavesReplaced}
use Rattle.cm_outside.specs.Trees.{Files, Path}
use Rattle.cm_outside.specs.declared.question.Question.{Question}
use Rattle.cm_outside.specs.declared.question.Answer.{Answer}
use Rattle.cm_outside.specs.declared.question.Record.{Record}
use Rattle.module_file.specs.ModuleFile.{IsWellFormed, file_name_of, spelling}
use Rattle.module_file.specs.declared.index.Index.{Index}
use Rattle.module_file.specs.declared.index.Key.{Key}
use Rattle.build_store.specs.Changes.{changed}
use Rattle.build_store.specs.Origins.{IsDamaged, IsOfOtherVersion, IsSealed, IsSealedAs, IsSealedWith, OfFile}
use Rattle.build_store.specs.declared.changes.Changes.{Changes}
use Rattle.build_store.specs.declared.changes.Changes.TheVariants.{Same, At}
use Rattle.build_store.specs.declared.kept.Opened.{Opened}
use Rattle.build_store.specs.declared.kept.Opened.TheVariants.{Sealed, Not}
use Rattle.build_store.specs.declared.origin.Reason.TheVariants.{Missing, Unreadable, OtherVersion, Damaged, OtherKey, Outdated}

-- ---- opened

-- the names of a cache's images take each sealed file for one
abbrev pub NamesSealed : (List ℕ → Type 0) → Type 0
NamesSealed is_sealed = (file : List ℕ) → IsSealed file → is_sealed file

-- a sealed file of this key has these bytes
abbrev pub IsDecoded : Key → List ℕ → Opened → Type 0
IsDecoded key file (Sealed i) = IsWellFormed i × (i.key ≡ key) × (file ≡ spelling i)
IsDecoded key file (Not reason) = Unit {0}

-- a sealed file of this key, which an honest cache gives only where it is true
abbrev pub IsOpened : (List ℕ → Type 0) → Key → Type 0 → Opened → Type 0
IsOpened is_true key honest (Sealed i) = IsWellFormed i × (i.key ≡ key) × (honest → is_true (spelling i))
IsOpened is_true key honest (Not reason) = Unit {0}

-- what the file of a key is found to be, where it was this file and calls fail only so
abbrev pub IsOpenedFrom : Type 0 → Key → Option (List ℕ) → Opened → Type 0
IsOpenedFrom failed key file (Sealed i) = OfFile (λ f. IsSealedAs f i × (i.key ≡ key)) file
IsOpenedFrom failed key file (Not Missing) = file ≡ None
IsOpenedFrom failed key file (Not Unreadable) = failed
IsOpenedFrom failed key file (Not OtherVersion) = OfFile IsOfOtherVersion file
IsOpenedFrom failed key file (Not Damaged) = OfFile IsDamaged file
IsOpenedFrom failed key file (Not OtherKey) = OfFile (IsSealedWith (λ i. i.key ≢ key)) file
IsOpenedFrom failed key file (Not (Outdated path)) = ⊥

-- ---- its records

-- these answers are the recorded ones, or this is the path of the first question that has another
abbrev pub AreChanges : (Question → Answer) → List Record → Changes → Type 0
AreChanges f records (Same numbers) = Agrees f records
AreChanges f records (At path) = changed f records ≡ Some path

-- where nothing has changed, these are the numbers of the recorded answers, in order
abbrev pub AreNumbered : List Record → List Record → Changes → Type 0
AreNumbered kept records (Same numbers) = map (slice_get kept) numbers ≡ map Some records
AreNumbered kept records (At path) = Unit {0}

-- ---- kept

-- a larger file isn't kept
unfoldable pub largest_kept : ℕ
largest_kept = 67108864

-- a file was put there, or that was refused: then the old file is there, none or a front of the new one
abbrev pub IsPut : Path → List ℕ → Files → Files → Type 0
IsPut name file old new = (new ≡ with_file name file old) ⊎ LeavesReplaced name file old new

-- All files are as they were, but maybe one: that of the key, where the file which says this was put or putting it was
-- refused.
abbrev pub LeavesKept : Index → Option Files → Option Files → Type 0
LeavesKept i None new = new ≡ None
LeavesKept i (Some old) new = (files : Files) × (new ≡ Some files) × ((files ≡ old) ⊎ (IsWellFormed i × IsPut (file_name_of i.key) (spelling i) old files))
