-- What the lines `tear` and `drop` of a script do to kept files, and what stays true of those. own
use Rattle.std.specs.Prelude.{ℕ, nat_lt, List, ◌++◌, length, take, Option, Some, None, IfSome, option_and_then, slice_get}
use Rattle.cm_outside.specs.Trees.{Files, Path, file_at, without_path}
use Rattle.cm_outside.specs.Caches.{with_file, names_in}
use Rattle.cm_outside.specs.CachesInMemory.{AllTrue}
use Rattle.unit_fold.specs.Lines.{when}
use Rattle.build_store.specs.Images.{IsImage, IsTrueFile}

-- the name of file number n, from 0 in byte order of names
abbrev pub name_at : ℕ → Files → Option Path
name_at n files = slice_get (names_in files) n

abbrev pub without_named : Option Path → Files → Files
without_named None files = files
without_named (Some name) files = without_path name files

-- the files without number n
abbrev pub dropped : ℕ → Files → Files
dropped n files = without_named (name_at n files) files

-- the first bytes of a file, if it is there and longer
abbrev pub front_in : Path → ℕ → Files → Option (List ℕ)
front_in name len files = option_and_then (λ bytes. when (nat_lt len (length bytes)) (take len bytes)) (file_at name files)

abbrev pub with_front : Path → Option (List ℕ) → Files → Files
with_front name None files = files
with_front name (Some front) files = with_file name front files

abbrev pub torn_named : ℕ → Option Path → Files → Files
torn_named len None files = files
torn_named len (Some name) files = with_front name (front_in name len files) files

-- the files where number n is cut to so many bytes
abbrev pub torn : ℕ → ℕ → Files → Files
torn n len files = torn_named len (name_at n files) files

-- a front of an image, and maybe all of it
abbrev pub IsFront : List ℕ → Type 0
IsFront file = (rest : List ℕ) × IsImage (file ++ rest)

-- The file of each name is one, and the files are true.
pub record AreFronts (files : Files) : Type 0 where
  pub fronts : (name : Path) → IfSome (file_at name files) IsFront
  pub honest : AllTrue IsTrueFile files
