-- The text of a source after translation phases 1 and 2 (C11 5.1.1.2), each byte with the place in the
-- file of the byte that it stands for. Trigraphs: C11 5.2.1.1. Own: a carriage return before a line
-- feed is no part of the text, and a last line without its line feed gets one.
use Rattle.std.specs.Prelude.{ℕ, min, Bool, false, ◌&&◌, List, [], ◌∷◌, ◌++◌, map, length, if◌then◌else◌, ◌==◌, Option, Some, None, slice_index_or}
use Rattle.cm_source.specs.declared.position.Position.{Position}
use Rattle.cm_source.specs.Places.{start, next, after}

-- a byte of the text, and the place in the file of what it stands for
pub record Mark : Type 0 where
  pub byte : ℕ
  pub place : Position

-- the bytes of a file that begin at p, each with its place
abbrev pub placed : Position → List ℕ → List Mark
placed p [] = []
placed p (b ∷ bs) = record { byte = b; place = p } ∷ placed (next p b) bs

-- what `??` and this byte stand for: `??=` is `#`, `??(` is `[`, `??/` is `\`, `??)` is `]`,
-- `??'` is `^`, `??<` is `{`, `??!` is `|`, `??>` is `}` and `??-` is `~`
unfoldable pub trigraph_meaning : ℕ → Option ℕ
trigraph_meaning b =
    if b == 61 then Some 35
    else (if b == 40 then Some 91
    else (if b == 47 then Some 92
    else (if b == 41 then Some 93
    else (if b == 39 then Some 94
    else (if b == 60 then Some 123
    else (if b == 33 then Some 124
    else (if b == 62 then Some 125
    else (if b == 45 then Some 126
    else None))))))))

-- what three bytes in a row stand for, if they are a trigraph
abbrev pub trigraph : ℕ → ℕ → ℕ → Option ℕ
trigraph a b c = if a == 63 && b == 63 then trigraph_meaning c else None

-- phase 1: each trigraph becomes the byte that it stands for, at the place of its first byte
abbrev pub trigraphs : List Mark → List Mark
trigraphs [] = []
trigraphs (a ∷ []) = a ∷ []
trigraphs (a ∷ b ∷ []) = a ∷ b ∷ []
trigraphs (a ∷ b ∷ c ∷ rest) =
    elim (trigraph a.byte b.byte c.byte) [
      | None ↦ a ∷ trigraphs (b ∷ c ∷ rest)
      | Some m ↦ record { byte = m; place = a.place } ∷ trigraphs rest
    ]

-- the first of the marks is the byte b
abbrev pub begins : ℕ → List Mark → Bool
begins b [] = false
begins b (x ∷ xs) = x.byte == b

-- each carriage return (13) before a line feed (10) is dropped
abbrev pub line_ends : List Mark → List Mark
line_ends [] = []
line_ends (x ∷ xs) = if x.byte == 13 && begins 10 xs then line_ends xs else x ∷ line_ends xs

-- phase 2: each backslash (92) before a line feed is deleted together with it
abbrev pub splices : List Mark → List Mark
splices [] = []
splices (x ∷ []) = x ∷ []
splices (x ∷ y ∷ rest) = if x.byte == 92 && y.byte == 10 then splices rest else x ∷ splices (y ∷ rest)

-- the last line gets a line feed at the place `end` where it has none; no line, no line feed
abbrev pub ended : Position → List Mark → List Mark
ended end [] = []
ended end (x ∷ []) = if x.byte == 10 then x ∷ [] else x ∷ record { byte = 10; place = end } ∷ []
ended end (x ∷ y ∷ rest) = x ∷ ended end (y ∷ rest)

-- the marks of a file's text
unfoldable pub marks_of : List ℕ → List Mark
marks_of file = ended (after start file) (splices (line_ends (trigraphs (placed start file))))

-- the bytes of a text, and the places in the file of each of them and of the end
pub record Logical : Type 0 where
  pub bytes : List ℕ
  pub places : List Position

-- the text of a file
unfoldable pub text_of : List ℕ → Logical
text_of file = record {
  bytes = map (λ m. m.byte) (marks_of file);
  places = map (λ m. m.place) (marks_of file) ++ after start file ∷ [];
}

-- the place of the text's byte number `at`, from 0, or of the end where the text has no more bytes
abbrev pub place_at : Logical → ℕ → Position
place_at text at = slice_index_or text.places (min at (length text.bytes)) start
