-- What calls leave of a cache that tells its files. own
use Rattle.std.specs.Prelude.{◌≡◌, ◌≢◌, ◌⊎◌, ℕ, List, take, Option, Some, None}
use Rattle.cm_outside.specs.Trees.{Files, Path, file_at}
use Rattle.module_file.specs.ModuleFile.{spelling, file_name_of}
use Rattle.module_file.specs.declared.index.Index.{Index}
use Rattle.build_store.specs.Images.{IsImage}

-- no file, or one with these bytes or a front of them
abbrev pub IsFrontOf : List ℕ → Option (List ℕ) → Type 0
IsFrontOf bytes None = Unit {0}
IsFrontOf bytes (Some file) = (n : ℕ) × (file ≡ take n bytes)

-- The file of this name is as it was, or it is that of the key of an image, and this image was put there, or putting it was
-- refused: then none is there or a front of it.
abbrev pub IsLeftAt : Path → Files → Files → Type 0
IsLeftAt name old new =
    (file_at name new ≡ file_at name old)
    ⊎ ((index : Index) × IsImage (spelling index) × (name ≡ file_name_of index.key) × IsFrontOf (spelling index) (file_at name new))

abbrev pub Leaves : Option Files → Option Files → Type 0
Leaves None new = new ≡ None
Leaves (Some old) new = (files : Files) × (new ≡ Some files) × ((name : Path) → IsLeftAt name old files)

-- no file but that of this name is another one
abbrev pub LeavesOthers : Path → Option Files → Option Files → Type 0
LeavesOthers name None new = new ≡ None
LeavesOthers name (Some old) new = (files : Files) × (new ≡ Some files) × ((other : Path) → other ≢ name → file_at other files ≡ file_at other old)
