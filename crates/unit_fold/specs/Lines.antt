-- The lines of a text, and the parts of lines. own
use Rattle.std.specs.Prelude.{◌≡◌, ℕ, ◌-◌, ◌==◌, Bool, ◌||◌, if◌then◌else◌, List, [], ◌∷◌, length, take, drop, Option, Some, None, option_and_then, Result, Ok, Err}
use Rattle.std.specs.List.{take_while}
use Rattle.std.specs.Option.{option_map}
use Rattle.std.specs.Result.{result_ok}
use Rattle.std.specs.Str.{bytes_eq}
use Rattle.cm_core.specs.Paths.{path_of}
use Rattle.unit_fold.specs.declared.line_fault.LineFault.{LineFault}
use Rattle.unit_fold.specs.declared.line_fault.LineFault.TheVariants.{At, NoMemory}
use Rattle.unit_fold.specs.Names.{is_nondigit, is_digit, is_path_text}

-- a byte before the first line of these, or as a line of its own
abbrev pub onto_first : ℕ → List (List ℕ) → List (List ℕ)
onto_first c [] = (c ∷ []) ∷ []
onto_first c (line ∷ more) = (c ∷ line) ∷ more

-- The lines of a text, without their line ends. The last line may lack its line end.
abbrev pub lines : List ℕ → List (List ℕ)
lines [] = []
lines (c ∷ cs) = if c == 10 then [] ∷ lines cs else onto_first c (lines cs)

-- what follows a front of a line
abbrev pub after_front : List ℕ → List ℕ → Option (List ℕ)
after_front front line = if bytes_eq (take (length front) line) front then Some (drop (length front) line) else None

-- what stands before a back of a line
abbrev pub before_back : List ℕ → List ℕ → Option (List ℕ)
before_back back line =
    let rest = length line - length back in
    if bytes_eq (drop rest line) back then Some (take rest line) else None

-- the middle of a line that is made of this front, a middle and this back
abbrev pub between : List ℕ → List ℕ → List ℕ → Option (List ℕ)
between front back line = option_and_then (before_back back) (after_front front line)

abbrev pub when : {A : Type 0} → Bool → A → Option A
when test x = if test then Some x else None

-- a text that may name a file, as the path of that file
abbrev pub named_path : List ℕ → Option (List ℕ)
named_path text = option_and_then (λ t. result_ok (path_of t)) (when (is_path_text text) text)

-- the path after a front of a line
abbrev pub path_after : List ℕ → List ℕ → Option (List ℕ)
path_after word line = option_and_then named_path (after_front word line)

-- how long the first word of a text is
abbrev pub first_word_len : List ℕ → ℕ
first_word_len text = length (take_while (λ c. is_nondigit c || is_digit c) text)

-- A line of this form at line n of a text, with the lines that follow. Without it the line is at fault;
-- a text that ends too early is at fault at its first line.
abbrev pub or_fault : {A : Type 0} → ℕ → Option A → Result A ℕ
or_fault n None = Err n
or_fault n (Some x) = Ok x

abbrev pub read_line : {A : Type 0} → ℕ → (List ℕ → Option A) → List (List ℕ) → Result (A × List (List ℕ)) ℕ
read_line n form [] = Err 1
read_line n form (line ∷ rest) = or_fault n (option_map (λ x. (x, rest)) (form line))

-- for the contracts of private functions: a call answers this, or the line at fault, or finds no memory
abbrev pub Gives : {A : Type 0} → Result A ℕ → Result A LineFault → Type 0
Gives wanted (Ok x) = wanted ≡ Ok x
Gives wanted (Err (At n)) = wanted ≡ Err n
Gives wanted (Err NoMemory) = Unit {0}

-- the same, where what follows is left
abbrev pub GivesFront : {A : Type 0} → Result (A × List (List ℕ)) ℕ → List (List ℕ) → Result A LineFault → Type 0
GivesFront wanted rest (Ok x) = wanted ≡ Ok (x, rest)
GivesFront wanted rest (Err (At n)) = wanted ≡ Err n
GivesFront wanted rest (Err NoMemory) = Unit {0}
