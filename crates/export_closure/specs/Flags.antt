-- Sets of submodules as lists of flags, one for each submodule by its number, and rounds that make such a set larger: own.
use Rattle.std.specs.Prelude.{ℕ, zero, suc, ◌+◌, Bool, true, false, ◌||◌, ◌==◌, List, [], ◌∷◌, map, replicate}
use Rattle.std.specs.List.{range_with_len, slice_index_or}

-- whether the set has this submodule; it has none past its end
abbrev pub has : List Bool → ℕ → Bool
has set at = slice_index_or set at false

-- the set of the submodules below `n` that pass a test
abbrev pub flags : ℕ → (ℕ → Bool) → List Bool
flags n test = map test (range_with_len 0 n)

abbrev pub none : ℕ → List Bool
none n = replicate n false

abbrev pub only : ℕ → ℕ → List Bool
only n sub = flags n (λ at. at == sub)

-- the union of two sets over the same submodules
abbrev pub union : List Bool → List Bool → List Bool
union [] others = []
union (x ∷ xs) [] = x ∷ xs
union (x ∷ xs) (y ∷ ys) = (x || y) ∷ union xs ys

-- each round adds what `more` gives of the set so far
abbrev pub rounds : (List Bool → List Bool) → ℕ → List Bool → List Bool
rounds more zero set = set
rounds more (suc n) set = let now = rounds more n set in union now (more now)

-- how many submodules a set has
abbrev pub count : List Bool → ℕ
count [] = 0
count (true ∷ xs) = count xs + 1
count (false ∷ xs) = count xs
