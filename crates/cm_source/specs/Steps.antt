-- One step through a file (own): what the file's next bytes give to its text, said by the phases of
-- `LogicalText`.
use Rattle.std.specs.Prelude.{◌≡◌, ℕ, ◌<◌, ◌≤◌, List, [], ◌∷◌, ◌++◌, length, take, drop, Option, Some, None, false, map}
use Rattle.std.specs.Str.{IsUtf8, IsAscii}
use Rattle.cm_source.specs.declared.position.Position.{Position}
use Rattle.cm_source.specs.declared.step.First.{First}
use Rattle.cm_source.specs.declared.step.Step.{Step}
use Rattle.cm_source.specs.Places.{after}
use Rattle.cm_source.specs.LogicalText.{Mark, placed, trigraphs, begins, line_ends, splices}

-- the marks of bytes that begin at p, after phase 1 and the dropped carriage returns, and after phase 2
abbrev pub unspliced : Position → List ℕ → List Mark
unspliced p bytes = line_ends (trigraphs (placed p bytes))

unfoldable pub phases : Position → List ℕ → List Mark
phases p bytes = splices (unspliced p bytes)

-- `first` is the first byte after phase 1
pub record IsFirst (rest : List ℕ) (first : First) : Type 0 where
  pub some : 0 < first.length
  pub within : first.length ≤ length rest
  pub marks : (p : Position) → trigraphs (placed p rest) ≡ record { byte = first.byte; place = p } ∷ trigraphs (placed (after p (take first.length rest)) (drop first.length rest))
  pub ascii : first.byte < 128 → IsAscii (take first.length rest)
  pub utf8 : (front : List ℕ) → IsUtf8 (front ++ rest) → IsUtf8 (front ++ first.byte ∷ drop first.length rest)

-- a line feed, or a carriage return before one, is as long as n; 0 where neither stands there
pub record IsLineEnd (rest : List ℕ) (n : ℕ) : Type 0 where
  pub within : n ≤ length rest
  pub none : n ≡ 0 → (p : Position) → begins 10 (unspliced p rest) ≡ false
  pub some : 0 < n → (p : Position) → (q : Position) × (unspliced p rest ≡ record { byte = 10; place = q } ∷ unspliced (after p (take n rest)) (drop n rest))
  pub ascii : IsAscii (take n rest)

-- the mark at p of a byte, if there is one
abbrev pub given : Position → Option ℕ → List Mark
given p None = []
given p (Some b) = record { byte = b; place = p } ∷ []

-- the bytes that the step leads past give its byte, if it has one, and nothing else
pub record IsStep (rest : List ℕ) (step : Step) : Type 0 where
  pub some : 0 < step.length
  pub within : step.length ≤ length rest
  pub marks : (p : Position) → phases p rest ≡ given p step.byte ++ phases (after p (take step.length rest)) (drop step.length rest)
  pub utf8 : (front : List ℕ) → IsUtf8 (front ++ rest) → IsUtf8 ((front ++ map (λ m. m.byte) (given (record { line = 1; column = 1 }) step.byte)) ++ drop step.length rest)
