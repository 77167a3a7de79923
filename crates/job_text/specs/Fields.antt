-- The parts of a line: blanks, keywords, fields and numbers. own
use Rattle.std.specs.Prelude.{ℕ, ◌+◌, ◌^◌, Bool, true, false, not, ◌&&◌, ◌||◌, ◌==◌, nat_lt, if◌then◌else◌, List, [], ◌∷◌, length, drop, reverse, slice_index, Option, Some, None, Result}
use Rattle.std.specs.List.{list_all, position_or_len, before_first, after_first}
use Rattle.std.specs.Char.{is_ascii_digit}
use Rattle.std.specs.Result.{result_ok}
use Rattle.std.specs.Str.Parse.{digits_value}
use Rattle.cm_core.specs.Paths.{path_of}
use Rattle.job_text.specs.declared.fault.JobKind.{JobKind}
use Rattle.job_text.specs.declared.fault.JobKind.TheVariants.{Path}
use Rattle.job_text.specs.Answers.{or_bad}

-- a blank is a space or a tab
abbrev pub is_blank : ℕ → Bool
is_blank c = c == 32 || c == 9

-- a text from its first byte on that is no blank
abbrev pub without_blanks : List ℕ → List ℕ
without_blanks [] = []
without_blanks (c ∷ cs) = if is_blank c then without_blanks cs else c ∷ cs

-- a text without the blanks at its ends
abbrev pub trimmed : List ℕ → List ℕ
trimmed text = reverse (without_blanks (reverse (without_blanks text)))

-- a line that is empty or begins with `#` is passed over
abbrev pub is_passed_over : List ℕ → Bool
is_passed_over line = length line == 0 || slice_index line 0 == 35

-- what stands before the first blank of a line, and after the blanks there
abbrev pub keyword_of : List ℕ → List ℕ
keyword_of line = before_first is_blank line

abbrev pub field_of : List ℕ → List ℕ
field_of line = without_blanks (drop (position_or_len is_blank line) line)

-- what stands before the first byte `mark` of a text, or the whole text without one
abbrev pub before_mark : ℕ → List ℕ → List ℕ
before_mark mark text = before_first (λ b. b == mark) text

-- what follows the first byte `mark` of a text, if it has one
abbrev pub after_mark : ℕ → List ℕ → Option (List ℕ)
after_mark mark text =
    if nat_lt (position_or_len (λ b. b == mark) text) (length text) then Some (after_first (λ b. b == mark) text) else None

-- the path of a field
abbrev pub path_field : List ℕ → Result (List ℕ) JobKind
path_field text = or_bad Path (result_ok (path_of text))

-- decimal digits, and a zero before others of them
abbrev pub is_digits : List ℕ → Bool
is_digits text = not (length text == 0) && list_all is_ascii_digit text

abbrev pub is_padded : List ℕ → Bool
is_padded text = nat_lt 1 (length text) && slice_index text 0 == 48

unfoldable pub number_bound : ℕ
number_bound = 2 ^ 64

-- a decimal number below 2^64, without a sign or a leading zero
abbrev pub number_of : List ℕ → Option ℕ
number_of text =
    if not (is_digits text) || is_padded text then None
    else if nat_lt (digits_value 10 text) number_bound then Some (digits_value 10 text)
    else None
