-- The type of an integer constant: the table of C11 6.4.4.1p5.
use Rattle.std.specs.Prelude.{ℕ, ◌*◌, Bool, List, [], ◌∷◌, pos, drop, Option, if◌then◌else◌}
use Rattle.std.specs.Int.RustNames.{int_le}
use Rattle.std.specs.List.{find}
use Rattle.cm_core.specs.declared.integers.IntKind.{IntKind}
use Rattle.cm_core.specs.declared.integers.IntKind.TheVariants.{Int, UInt, Long, ULong, LLong, ULLong}
use Rattle.int_types.specs.Kinds.{greatest}

-- a decimal constant without u, a constant with u, and an octal or hexadecimal one without u
abbrev pub signed_types : List IntKind
signed_types = Int ∷ Long ∷ LLong ∷ []

abbrev pub unsigned_types : List IntKind
unsigned_types = UInt ∷ ULong ∷ ULLong ∷ []

abbrev pub all_types : List IntKind
all_types = Int ∷ UInt ∷ Long ∷ ULong ∷ LLong ∷ ULLong ∷ []

-- each l of the suffix takes the lowest rank away
abbrev pub candidates : Bool → Bool → ℕ → List IntKind
candidates decimal unsigned longs =
    if unsigned then drop longs unsigned_types else
    if decimal then drop longs signed_types else
    drop (2 * longs) all_types

abbrev pub represents : ℕ → IntKind → Bool
represents number k = int_le (pos number) (greatest k)

-- the first type of the list that holds the number
abbrev pub constant_kind : Bool → Bool → ℕ → ℕ → Option IntKind
constant_kind decimal unsigned longs number = find (represents number) (candidates decimal unsigned longs)
