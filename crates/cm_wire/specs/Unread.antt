-- What a reader has before it. Own.
use Rattle.std.specs.Prelude.{◌≡◌, ℕ, ◌+◌, ◌<◌, List, ◌++◌, length, drop, slice_index}

-- the offset of the next byte, and the bytes from there to the end
pub record Unread : Type 0 where
  pub at : ℕ
  pub rest : List ℕ

-- what is unread n bytes later
abbrev pub past : ℕ → Unread → Unread
past n u = record { at = u.at + n; rest = drop n u.rest }

-- u begins with these bytes, and v is what is unread after them
pub record Passes (u : Unread) (bytes : List ℕ) (v : Unread) : Type 0 where
  pub parts : u.rest ≡ bytes ++ v.rest
  pub place : v.at ≡ u.at + length bytes

-- each is the value of a byte
abbrev pub AreBytes : List ℕ → Type 0
AreBytes bs = (i : ℕ) → slice_index bs i < 256
