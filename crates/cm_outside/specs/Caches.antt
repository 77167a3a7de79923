-- The files of a cache folder, what its calls answer, and what they leave. own
use Rattle.std.specs.Prelude.{◌≡◌, ◌⊎◌, ℕ, ◌+◌, ◌-◌, ◌^◌, ◌<◌, min, List, [], ◌∷◌, ◌++◌, length, take, drop, Option, Some, None, Result, Ok, Err, IsSorted}
use Rattle.std.specs.Option.{option_map}
use Rattle.std.specs.Ordering.{nat_cmp}
use Rattle.std.specs.Cmp.Lexicographic.{slice_cmp}
use Rattle.cm_outside.specs.Trees.{Files, Path, file_at, without_path, with_path}
use Rattle.cm_outside.specs.declared.cache.CallKind.{CallKind}
use Rattle.cm_outside.specs.declared.cache.CallKind.TheVariants.{Size, ReadAt, Replace, Remove, Names}
use Rattle.cm_outside.specs.declared.cache.CallAnswer.{CallAnswer}
use Rattle.cm_outside.specs.declared.cache.CallAnswer.TheVariants.{Size as SizeIs, Read as PartIs}
use Rattle.cm_outside.specs.declared.cache.CacheEntry.{CacheEntry}

-- the size of a file
abbrev pub size_in : Path → Files → Option ℕ
size_in name files = option_map length (file_at name files)

-- the bytes of a file from a place on, so many or as many as there are
abbrev pub part_in : Path → ℕ → ℕ → Files → Option (List ℕ)
part_in name at len files = option_map (λ bytes. take len (drop at bytes)) (file_at name files)

-- the files with this one in the place of one of its name
abbrev pub with_file : Path → List ℕ → Files → Files
with_file name bytes files = without_path name files ++ (name, bytes) ∷ []

-- the files after one was set, or removed where there are no bytes
abbrev pub with_set : Path → Option (List ℕ) → Files → Files
with_set name None files = without_path name files
with_set name (Some bytes) files = with_file name bytes files

-- no name comes before the one ahead of it, byte by byte
abbrev pub InByteOrder : List Path → Type 0
InByteOrder names = IsSorted (slice_cmp nat_cmp) names

-- the names of the files, in byte order, each once
abbrev pub names_onto : List Path → Files → List Path
names_onto names [] = names
names_onto names (f ∷ files) = names_onto (with_path f.0 names) files

abbrev pub names_in : Files → List Path
names_in files = names_onto [] files

-- What a refused replace leaves of that file: what was there, nothing, or a front of the new bytes.
abbrev pub LeavesReplaced : Path → List ℕ → Files → Files → Type 0
LeavesReplaced name bytes old new =
    (new ≡ old) ⊎ ((new ≡ without_path name old) ⊎ ((n : ℕ) × (n < length bytes) × (new ≡ with_file name (take n bytes) old)))

abbrev pub Replaced : {A E : Type 0} → Path → List ℕ → Files → Files → Result A E → Type 0
Replaced name bytes old new (Ok _) = new ≡ with_file name bytes old
Replaced name bytes old new (Err _) = LeavesReplaced name bytes old new

-- a refused removal leaves the file or none
abbrev pub Removed : {A E : Type 0} → Path → Files → Files → Result A E → Type 0
Removed name old new (Ok _) = new ≡ without_path name old
Removed name old new (Err _) = (new ≡ old) ⊎ (new ≡ without_path name old)

-- a cache that tells its files goes on to tell them, and this relates them
abbrev pub Tells : (Files → Files → Type 0) → Option Files → Option Files → Type 0
Tells relates None new = new ≡ None
Tells relates (Some old) None = ⊥
Tells relates (Some old) (Some new) = relates old new

-- the list of answered calls with one more
abbrev pub adding : CallKind → CallAnswer → Option (List CacheEntry) → Option (List CacheEntry)
adding call answer None = None
adding call answer (Some entries) = Some (entries ++ record { call = call; answer = answer } ∷ [])

-- the number of bytes that were given, with more; it stays at its last value
abbrev pub taking : ℕ → Option ℕ → Option ℕ
taking n None = None
taking n (Some taken) = Some (min (taken + n) (2 ^ 64 - 1))

abbrev pub given_len : Option (List ℕ) → ℕ
given_len None = 0
given_len (Some bytes) = length bytes

-- the file that a call asks for
abbrev pub name_asked : CallKind → Option Path
name_asked (Size name) = Some name
name_asked (ReadAt name at len) = Some name
name_asked (Replace name bytes) = Some name
name_asked (Remove name) = Some name
name_asked Names = None

-- what these files would answer to `size` and `read_at`
abbrev pub WouldAnswer : Files → CacheEntry → Type 0
WouldAnswer files e = answers e.call e.answer
  where
    answers : CallKind → CallAnswer → Type 0
    answers (Size name) (SizeIs size) = size ≡ size_in name files
    answers (ReadAt name at len) (PartIs part) = part ≡ part_in name at len files
    answers call answer = ⊥

-- a file has this size, this front and these bytes behind it
pub record HasParts (n at len : ℕ) (front rest : List ℕ) (file : List ℕ) : Type 0 where
  pub has_size : length file ≡ n
  pub has_front : take at file ≡ front
  pub has_rest : take len (drop at file) ≡ rest
