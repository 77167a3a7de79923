-- The forms of line that job files and module maps are made of, and the numbers of their lines. own
use Rattle.std.specs.Prelude.{ℕ, ◌+◌, ◌-◌, ◌^◌, ◌==◌, not, min, List, length, take, drop, Option, option_and_then}
use Rattle.std.specs.List.{take_while}
use Rattle.std.specs.Result.{result_ok}
use Rattle.cm_core.specs.Paths.{join_of, folder_of}
use Rattle.unit_fold.specs.Names.{is_path_text}
use Rattle.unit_fold.specs.Lines.{when}

-- the number of the line after line n: the count stands still at its type's end
abbrev pub next_line : ℕ → ℕ
next_line n = min (n + 1) (2 ^ 32 - 1)

-- the path of a text that starts at the folder of a file
abbrev pub beside : List ℕ → List ℕ → Option (List ℕ)
beside file text = option_and_then (λ t. result_ok (join_of (folder_of file) t)) (when (is_path_text text) text)

-- what stands before the first quote of a text, and what follows from that quote on
abbrev pub quoted_len : List ℕ → ℕ
quoted_len text = length (take_while (λ c. not (c == 34)) text)

abbrev pub before_quote : List ℕ → List ℕ
before_quote text = take (quoted_len text) text

abbrev pub from_quote : List ℕ → List ℕ
from_quote text = drop (quoted_len text) text
