-- Sets of submodules as words of 64 bits, a bit for each submodule from the lowest bit of the first word on: own.
use Rattle.std.specs.Prelude.{ℕ, ◌/◌, ◌%◌, ◌==◌, Bool, List}
use Rattle.std.specs.List.{slice_index_or}
use Rattle.std.specs.Int.{bit_at}
use Rattle.export_closure.specs.Flags.{flags}

-- whether the bit of the submodule is set; past the last word none is
abbrev pub has_bit : List ℕ → ℕ → Bool
has_bit words at = bit_at (slice_index_or words (at / 64) 0) (at % 64) == 1

-- the flags of the first `size` submodules
unfoldable pub flags_of : List ℕ → ℕ → List Bool
flags_of words size = flags size (has_bit words)
