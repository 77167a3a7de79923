-- What a hole `{:03}` writes of a numeral.
use Rattle.std.proofs.Common.{◌≡◌, ℕ, ◌-◌, ◌^◌, false, List, [], ◌++◌, length, replicate}
use Rattle.std.specs.Fmt.{padded_integral, format_spec, char_count}
use Rattle.std.proofs.Math.Nat.{sub-zero}
use Rattle.std.proofs.lemmas.List.{append-nil}

pub three_places : (numeral : List ℕ)
    → padded_integral (format_spec 32 0 4 3 (2 ^ 64 - 1)) false [] numeral ≡ replicate (3 - length numeral) 48 ++ numeral
unfolding padded_integral char_count
three_places numeral = simp (sub-zero, append-nil)
