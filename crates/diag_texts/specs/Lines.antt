-- The line of a diagnostic: own.
use Rattle.std.specs.Prelude.{ℕ, Bool, ◌-◌, ◌==◌, if◌then◌else◌, List, [], ◌∷◌, ◌++◌, length, replicate, slice_index_or, codes}
use Rattle.std.specs.List.{concat}
use Rattle.std.specs.Fmt.{decimal}
use Rattle.cm_core.specs.declared.diag.Diag.{Diag}
use Rattle.cm_core.specs.declared.numbers.Place.{Place}
use Rattle.diag_texts.specs.Rows.{text_of}
use Rattle.diag_texts.specs.Severities.{severity_of, shown, word, letter}

-- what stands in a place for an argument: the next one, or nothing after the last
abbrev pub next : List (List ℕ) → List ℕ
next [] = []
next (arg ∷ args) = arg

abbrev pub after_next : List (List ℕ) → List (List ℕ)
after_next [] = []
after_next (arg ∷ args) = args

-- `%`
abbrev pub is_place : ℕ → Bool
is_place byte = byte == 37

-- a text with the arguments in its places, in their order
abbrev pub filled : List ℕ → List (List ℕ) → List ℕ
filled [] args = []
filled (byte ∷ text) args = if is_place byte then next args ++ filled text (after_next args) else byte ∷ filled text args

-- a number with zeros before it up to three digits
abbrev pub three_digits : ℕ → List ℕ
three_digits n = replicate (3 - length (decimal n)) 48 ++ decimal n

-- what stands before the text: the word, the place, and the letter with the number
abbrev pub head_of : ℕ → List ℕ → Place → List ℕ
head_of number path place =
    let severity = severity_of number in
    concat (word severity ∷ codes " " ∷ path ∷ codes ":" ∷ decimal place.line ∷ codes ":" ∷ decimal place.col
    ∷ codes " " ∷ letter severity ∷ three_digits (shown number) ∷ codes " " ∷ [])

-- the line of a diagnostic in the file of this path
abbrev pub line_at : List ℕ → Diag → List ℕ
line_at path diag = concat (head_of diag.number path diag.place ∷ filled (text_of diag.number) diag.args ∷ codes "\n" ∷ [])

-- the line of a diagnostic, with the paths of the files by number
unfoldable pub line_of : Diag → List (List ℕ) → List ℕ
line_of diag files = line_at (slice_index_or files diag.place.file.index []) diag
