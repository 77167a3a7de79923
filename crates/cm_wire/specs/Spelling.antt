-- How a field is spelled in bytes. Own: the numbers, bytes and texts of a module file, big-endian.
use Rattle.std.specs.Prelude.{ℕ, List, [], ◌∷◌, ◌++◌, length}
use Rattle.std.specs.Int.{w32, w64, to_be_bytes}

-- a byte, and a tag
unfoldable pub spell_u8 : ℕ → List ℕ
spell_u8 n = n ∷ []

-- four bytes, the highest first
unfoldable pub spell_u32 : ℕ → List ℕ
spell_u32 n = to_be_bytes w32 n

-- eight bytes, the highest first
unfoldable pub spell_u64 : ℕ → List ℕ
spell_u64 n = to_be_bytes w64 n

-- their number, and the bytes
unfoldable pub spell_bytes : List ℕ → List ℕ
spell_bytes bs = spell_u64 (length bs) ++ bs

-- a text is spelled as its bytes
unfoldable pub spell_text : List ℕ → List ℕ
spell_text bs = spell_bytes bs

-- a digest is 32 bytes, with no number before them
unfoldable pub spell_digest : List ℕ → List ℕ
spell_digest bs = bs
