-- The integer types: their ranges (C11 6.2.5, 6.2.6.2), ranks and promotions (6.3.1.1) and the usual
-- arithmetic conversions of two of them (6.3.1.8). The widths and the sign of char are own: LP64.
use Rattle.std.specs.Prelude.{ℕ, ◌-◌, ◌^◌, Bool, true, false, ◌&&◌, nat_lt, nat_le, ℤ, pos, neg_ℤ, if◌then◌else◌}
use Rattle.std.specs.Int.RustNames.{int_le}
use Rattle.cm_core.specs.declared.integers.IntKind.{IntKind}
use Rattle.cm_core.specs.declared.integers.IntKind.TheVariants.{Bool as BoolKind, Char, SChar, UChar, Short, UShort, Int, UInt, Long, ULong, LLong, ULLong}

-- the bits that a value is held in, with that of the sign; a _Bool holds 0 and 1
abbrev pub width : IntKind → ℕ
width BoolKind = 1
width Char = 8
width SChar = 8
width UChar = 8
width Short = 16
width UShort = 16
width Int = 32
width UInt = 32
width Long = 64
width ULong = 64
width LLong = 64
width ULLong = 64

abbrev pub is_signed : IntKind → Bool
is_signed BoolKind = false
is_signed Char = true
is_signed SChar = true
is_signed UChar = false
is_signed Short = true
is_signed UShort = false
is_signed Int = true
is_signed UInt = false
is_signed Long = true
is_signed ULong = false
is_signed LLong = true
is_signed ULLong = false

-- the least and the greatest number that the type holds
unfoldable pub least : IntKind → ℤ
least k = if is_signed k then neg_ℤ (pos (2 ^ (width k - 1))) else pos 0

unfoldable pub greatest : IntKind → ℤ
greatest k = if is_signed k then pos (2 ^ (width k - 1) - 1) else pos (2 ^ width k - 1)

unfoldable pub holds : IntKind → ℤ → Bool
holds k z = int_le (least k) z && int_le z (greatest k)

-- 6.3.1.1p1, as numbers that rise with the rank
abbrev pub rank : IntKind → ℕ
rank BoolKind = 0
rank Char = 1
rank SChar = 1
rank UChar = 1
rank Short = 2
rank UShort = 2
rank Int = 3
rank UInt = 3
rank Long = 4
rank ULong = 4
rank LLong = 5
rank ULLong = 5

-- the first type represents every value of the second
unfoldable pub represents_all : IntKind → IntKind → Bool
represents_all k l = int_le (least k) (least l) && int_le (greatest l) (greatest k)

-- 6.3.1.1p2
unfoldable pub promoted : IntKind → IntKind
promoted k = if nat_le (rank k) (rank Int) then (if represents_all Int k then Int else UInt) else k

-- the unsigned type that corresponds to a signed one (6.2.5p6)
unfoldable pub unsigned_of : IntKind → IntKind
unsigned_of BoolKind = BoolKind
unsigned_of Char = UChar
unsigned_of SChar = UChar
unsigned_of UChar = UChar
unsigned_of Short = UShort
unsigned_of UShort = UShort
unsigned_of Int = UInt
unsigned_of UInt = UInt
unsigned_of Long = ULong
unsigned_of ULong = ULong
unsigned_of LLong = ULLong
unsigned_of ULLong = ULLong

-- 6.3.1.8p1 for a signed and an unsigned type
unfoldable pub common_of : IntKind → IntKind → IntKind
common_of signed unsigned =
    if nat_le (rank signed) (rank unsigned) then unsigned else
    if represents_all signed unsigned then signed else
    unsigned_of signed

-- 6.3.1.8p1 for two promoted types
unfoldable pub common : IntKind → IntKind → IntKind
common k l =
    if is_signed k then (if is_signed l then greater_rank else common_of k l)
    else (if is_signed l then common_of l k else greater_rank)
  where
    greater_rank : IntKind
    greater_rank = if nat_lt (rank k) (rank l) then l else k

unfoldable pub usual : IntKind → IntKind → IntKind
usual k l = common (promoted k) (promoted l)
