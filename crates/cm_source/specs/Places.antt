-- Places in a file, by line and column from 1, columns in bytes (own). A line ends at each line feed
-- (10), and a count stands still at 2^32 - 1.
use Rattle.std.specs.Prelude.{ℕ, ◌+◌, min, List, [], ◌∷◌, if◌then◌else◌, ◌==◌}
use Rattle.cm_source.specs.declared.position.Position.{Position}

-- the highest line or column that is told
abbrev pub last_count : ℕ
last_count = 4294967295

-- the place of the first byte
abbrev pub start : Position
start = record { line = 1; column = 1 }

-- the place n bytes further in the same line
abbrev pub shifted : Position → ℕ → Position
shifted p n = record { line = p.line; column = min (p.column + n) last_count }

-- the place after the byte b, which stands at p
abbrev pub next : Position → ℕ → Position
next p b = if b == 10 then record { line = min (p.line + 1) last_count; column = 1 } else shifted p 1

-- the place after the bytes, which begin at p
abbrev pub after : Position → List ℕ → Position
after p [] = p
after p (b ∷ bs) = after (next p b) bs
