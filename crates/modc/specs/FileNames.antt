-- Which texts name a file in a folder, and where the cache's folder has it. own
use Rattle.std.specs.Prelude.{ℕ, ◌==◌, Bool, not, ◌||◌, List, ◌++◌, length, codes}
use Rattle.std.specs.List.{list_any}
use Rattle.std.specs.Str.{bytes_eq}

-- One name on a path: it is none of the words for the folder itself and the one above it, and has no `/`.
abbrev pub is_file_name : List ℕ → Bool
is_file_name name =
    not (length name == 0 || bytes_eq name (codes ".") || bytes_eq name (codes "..") || list_any (λ b. b == 47) name)

-- the path of a file in the cache's folder
abbrev pub path_in_cache : List ℕ → List ℕ
path_in_cache name = codes ".modc-cache/" ++ name
