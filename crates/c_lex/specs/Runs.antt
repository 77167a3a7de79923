-- How far the runs reach that the scanner follows (own), from the front of a text.
use Rattle.std.specs.Prelude.{ℕ, ◌+◌, Bool, false, ◌&&◌, ◌==◌, nat_le, nat_lt, List, [], ◌∷◌, Option, Some, None, if◌then◌else◌}
use Rattle.std.specs.Option.{option_map}
use Rattle.c_lex.specs.Pieces.{is_word, goes_on}

-- the bytes before the first that doesn't go on
abbrev pub word_run : List ℕ → ℕ
word_run [] = 0
word_run (b ∷ bs) = if is_word b then word_run bs + 1 else 0

abbrev pub number_run : ℕ → List ℕ → ℕ
number_run p [] = 0
number_run p (b ∷ bs) = if goes_on p b then number_run b bs + 1 else 0

abbrev pub line_run : List ℕ → ℕ
line_run [] = 0
line_run (b ∷ bs) = if b == 10 then 0 else line_run bs + 1

abbrev pub continue_run : List ℕ → ℕ
continue_run [] = 0
continue_run (b ∷ bs) = if nat_le 128 b && nat_lt b 192 then continue_run bs + 1 else 0

-- the bytes up to and with what ends them, if it comes
abbrev pub longer : Option ℕ → Option ℕ
longer n = option_map (λ k. k + 1) n

abbrev pub quoted_run : ℕ → Bool → List ℕ → Option ℕ
quoted_run q escaped [] = None
quoted_run q escaped (b ∷ bs) =
    if b == 10 then None
    else (if escaped then longer (quoted_run q false bs)
    else (if b == q then Some 1
    else longer (quoted_run q (b == 92) bs)))

abbrev pub closed_run : ℕ → List ℕ → Option ℕ
closed_run p [] = None
closed_run p (b ∷ bs) = if p == 42 && b == 47 then Some 1 else longer (closed_run b bs)

abbrev pub named_run : ℕ → List ℕ → Option ℕ
named_run q [] = None
named_run q (b ∷ bs) =
    if b == 10 then None
    else (if b == q then Some 1
    else longer (named_run q bs))
