-- How each form of field is read: its value and what is unread after it, or the fault. Own.
use Rattle.std.specs.Prelude.{ℕ, List, length, take, Result, Ok, Err, nat_lt, ◌==◌, slice_index, if◌then◌else◌, ⊤}
use Rattle.std.specs.Int.{w32, w64, from_be_bytes}
use Rattle.std.specs.Str.{is_utf8}
use Rattle.cm_wire.specs.declared.fault.WireFault.{WireFault}
use Rattle.cm_wire.specs.declared.fault.WireFault.TheVariants.{Short, OutOfRange, NotCanonical}
use Rattle.cm_wire.specs.Unread.{Unread, past}

-- one step after another: the first fault stands
infixl 10 ◌>>=◌
abbrev pub ◌>>=◌ : {A B : Type 0} → Result A WireFault → (A → Result B WireFault) → Result B WireFault
(Ok x) >>= f = f x
(Err fault) >>= f = Err fault

-- the next n bytes, of the field that begins at this offset
unfoldable pub read_front : ℕ → ℕ → Unread → Result (List ℕ × Unread) WireFault
read_front field n u = if nat_lt (length u.rest) n then Err (Short field) else Ok (take n u.rest, past n u)

unfoldable pub read_u8 : Unread → Result (ℕ × Unread) WireFault
read_u8 u = do
  front ← read_front u.at 1 u
  Ok (slice_index front.0 0, front.1)

unfoldable pub read_u32 : Unread → Result (ℕ × Unread) WireFault
read_u32 u = do
  front ← read_front u.at 4 u
  Ok (from_be_bytes w32 front.0, front.1)

unfoldable pub read_u64 : Unread → Result (ℕ × Unread) WireFault
read_u64 u = do
  front ← read_front u.at 8 u
  Ok (from_be_bytes w64 front.0, front.1)

-- a byte that is at most the limit
unfoldable pub read_tag : ℕ → Unread → Result (ℕ × Unread) WireFault
read_tag limit u = do
  tag ← read_u8 u
  if nat_lt limit tag.0 then Err (OutOfRange u.at) else Ok tag

-- as many bytes as the number before them says
unfoldable pub read_bytes : Unread → Result (List ℕ × Unread) WireFault
read_bytes u = do
  n ← read_u64 u
  read_front u.at n.0 n.1

-- bytes that are UTF-8
unfoldable pub read_text : Unread → Result (List ℕ × Unread) WireFault
read_text u = do
  text ← read_bytes u
  if is_utf8 text.0 then Ok text else Err (OutOfRange u.at)

-- the 32 bytes of a digest
unfoldable pub read_digest : Unread → Result (List ℕ × Unread) WireFault
read_digest u = read_front u.at 32 u

-- nothing is left
unfoldable pub read_end : Unread → Result ⊤ WireFault
read_end u = if length u.rest == 0 then Ok tt else Err (NotCanonical u.at)
