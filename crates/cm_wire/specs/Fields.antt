-- Several fields, one after another: their spelling, and their reading by shapes. Own.
use Rattle.std.specs.Prelude.{◌≡◌, ℕ, ◌<◌, ◌≤◌, ◌^◌, List, [], ◌∷◌, length, Result, Ok, IsUtf8}
use Rattle.std.specs.List.{flat_map, AllByRecursion}
use Rattle.cm_wire.specs.declared.fault.WireFault.{WireFault}
use Rattle.cm_wire.specs.Spelling.{spell_u8, spell_u32, spell_u64, spell_bytes, spell_text, spell_digest}
use Rattle.cm_wire.specs.Unread.{Unread}
use Rattle.cm_wire.specs.Reading.{◌>>=◌, read_u8, read_u32, read_u64, read_tag, read_bytes, read_text, read_digest}

-- a field with its value; a tag has its limit first
pub data Field : Type 0 where
  U8 : ℕ → Field
  U32 : ℕ → Field
  U64 : ℕ → Field
  Tag : ℕ → ℕ → Field
  Bytes : List ℕ → Field
  Text : List ℕ → Field
  Digest : List ℕ → Field

-- what a reader expects
pub data Shape : Type 0 where
  OneByte : Shape
  FourBytes : Shape
  EightBytes : Shape
  TagUpTo : ℕ → Shape
  SomeBytes : Shape
  SomeText : Shape
  SomeDigest : Shape

abbrev pub shape_of : Field → Shape
shape_of (U8 n) = OneByte
shape_of (U32 n) = FourBytes
shape_of (U64 n) = EightBytes
shape_of (Tag limit n) = TagUpTo limit
shape_of (Bytes bs) = SomeBytes
shape_of (Text bs) = SomeText
shape_of (Digest bs) = SomeDigest

-- the value is one that the form can hold
abbrev pub HasSpelling : Field → Type 0
HasSpelling (U8 n) = n < 256
HasSpelling (U32 n) = n < 2 ^ 32
HasSpelling (U64 n) = n < 2 ^ 64
HasSpelling (Tag limit n) = (n < 256) × (n ≤ limit)
HasSpelling (Bytes bs) = length bs < 2 ^ 64
HasSpelling (Text bs) = (length bs < 2 ^ 64) × IsUtf8 bs
HasSpelling (Digest bs) = length bs ≡ 32

abbrev pub AllHaveSpellings : List Field → Type 0
AllHaveSpellings fields = AllByRecursion HasSpelling fields

abbrev pub spell : Field → List ℕ
spell (U8 n) = spell_u8 n
spell (U32 n) = spell_u32 n
spell (U64 n) = spell_u64 n
spell (Tag limit n) = spell_u8 n
spell (Bytes bs) = spell_bytes bs
spell (Text bs) = spell_text bs
spell (Digest bs) = spell_digest bs

abbrev pub spell_all : List Field → List ℕ
spell_all fields = flat_map spell fields

abbrev pub read_field : Shape → Unread → Result (Field × Unread) WireFault
read_field OneByte u = read_u8 u >>= λ x. Ok (U8 x.0, x.1)
read_field FourBytes u = read_u32 u >>= λ x. Ok (U32 x.0, x.1)
read_field EightBytes u = read_u64 u >>= λ x. Ok (U64 x.0, x.1)
read_field (TagUpTo limit) u = read_tag limit u >>= λ x. Ok (Tag limit x.0, x.1)
read_field SomeBytes u = read_bytes u >>= λ x. Ok (Bytes x.0, x.1)
read_field SomeText u = read_text u >>= λ x. Ok (Text x.0, x.1)
read_field SomeDigest u = read_digest u >>= λ x. Ok (Digest x.0, x.1)

unfoldable pub read_all : List Shape → Unread → Result (List Field × Unread) WireFault
read_all [] u = Ok ([], u)
read_all (shape ∷ shapes) u = do
  first ← read_field shape u
  others ← read_all shapes first.1
  Ok (first.0 ∷ others.0, others.1)
