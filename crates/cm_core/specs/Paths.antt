-- Paths below one root folder, as texts, after pathname resolution in POSIX.1-2017, 4.13, without links: own.
-- A path is its names from the root down with slashes between, and the root is spelled `.`.
use Rattle.std.specs.Prelude.{◌≡◌, ℕ, ◌-◌, ◌==◌, Bool, ◌||◌, if◌then◌else◌, List, [], ◌∷◌, ◌++◌, length, take, slice_index, Option, Some, None, option_and_then, Result, Ok, Err, ⊤}
use Rattle.std.specs.List.{list_any, slice_split}
use Rattle.std.specs.Str.{bytes_eq}
use Rattle.cm_core.specs.declared.path.PathFault.{PathFault}
use Rattle.cm_core.specs.declared.path.PathFault.TheVariants.{Empty, HasNul, Absolute, Climbs, NoMemory}

-- the parts between the slashes of a text
abbrev pub parts_of : List ℕ → List (List ℕ)
parts_of text = slice_split (λ b. b == 47) text

abbrev pub is_dot : List ℕ → Bool
is_dot part = bytes_eq part [] || bytes_eq part (46 ∷ [])

abbrev pub is_dot_dot : List ℕ → Bool
is_dot_dot part = bytes_eq part (46 ∷ 46 ∷ [])

-- one folder up, which there is none of above the root
abbrev pub up : List (List ℕ) → Option (List (List ℕ))
up names = if length names == 0 then None else Some (take (length names - 1) names)

-- where a part leads from the folder of these names
abbrev pub stepped : List (List ℕ) → List ℕ → Option (List (List ℕ))
stepped names part = if is_dot part then Some names else if is_dot_dot part then up names else Some (names ++ part ∷ [])

-- where parts lead, one after the other
abbrev pub walked : List (List ℕ) → List (List ℕ) → Option (List (List ℕ))
walked names [] = Some names
walked names (part ∷ parts) = option_and_then (λ next. walked next parts) (stepped names part)

abbrev pub slashed : List (List ℕ) → List ℕ
slashed [] = []
slashed (name ∷ names) = (47 ∷ name) ++ slashed names

abbrev pub spelled : List (List ℕ) → List ℕ
spelled [] = 46 ∷ []
spelled (name ∷ names) = name ++ slashed names

abbrev pub spelled_or_climbs : Option (List (List ℕ)) → Result (List ℕ) PathFault
spelled_or_climbs None = Err Climbs
spelled_or_climbs (Some names) = Ok (spelled names)

-- the path that a relative text leads to
abbrev pub folded : List ℕ → Result (List ℕ) PathFault
folded text = spelled_or_climbs (walked [] (parts_of text))

abbrev pub has_nul : List ℕ → Bool
has_nul text = list_any (λ b. b == 0) text

-- the first reason not to read a text as a relative path, apart from where it leads
abbrev pub refusal_of : List ℕ → Option PathFault
refusal_of text =
    if length text == 0 then Some Empty
    else if has_nul text then Some HasNul
    else if slice_index text 0 == 47 then Some Absolute
    else None

abbrev pub unless_refused : Option PathFault → Result (List ℕ) PathFault → Result (List ℕ) PathFault
unless_refused None path = path
unless_refused (Some fault) path = Err fault

-- the path of a text
abbrev pub path_of : List ℕ → Result (List ℕ) PathFault
path_of text = unless_refused (refusal_of text) (folded text)

-- the path of a text that starts at the folder of a path
abbrev pub join_of : List ℕ → List ℕ → Result (List ℕ) PathFault
join_of path tail = unless_refused (refusal_of tail) (folded (path ++ 47 ∷ tail))

-- the folder of a path, and the root for the root
abbrev pub folder_or_root : Result (List ℕ) PathFault → List ℕ
folder_or_root (Ok folder) = folder
folder_or_root (Err _) = 46 ∷ []

abbrev pub folder_of : List ℕ → List ℕ
folder_of path = folder_or_root (join_of path (46 ∷ 46 ∷ []))

-- a text that reading leaves as it is
abbrev pub IsPath : List ℕ → Type 0
IsPath text = path_of text ≡ Ok text

-- an answer is the wanted one, unless memory ran out
abbrev pub IsUnlessMemory : Result (List ℕ) PathFault → Result (List ℕ) PathFault → Type 0
IsUnlessMemory (Err NoMemory) wanted = ⊤
IsUnlessMemory (Ok path) wanted = wanted ≡ Ok path
IsUnlessMemory (Err Empty) wanted = wanted ≡ Err Empty
IsUnlessMemory (Err HasNul) wanted = wanted ≡ Err HasNul
IsUnlessMemory (Err Absolute) wanted = wanted ≡ Err Absolute
IsUnlessMemory (Err Climbs) wanted = wanted ≡ Err Climbs
