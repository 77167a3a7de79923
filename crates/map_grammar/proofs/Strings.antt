-- The bounds of what stands between the quotes of a string.
use Rattle.std.proofs.Common.{◌≡◌, ℕ, ◌-◌, ◌≤◌, true, ◌==◌, nat_le, List, length, slice_index, arith}
use Rattle.std.proofs.lemmas.Bool.{and_parts}
use Rattle.std.proofs.lemmas.Bool.Decides.{nat_tests}
use Rattle.map_grammar.specs.Grammar.{has_string_form}

pub string_bounds : (text : List ℕ) → has_string_form text ≡ true → (2 ≤ length text) × (slice_index text 0 ≡ 34) × (slice_index text (length text - 1) ≡ 34)
unfolding has_string_form
string_bounds text h =
    let a = and_parts _ _ h in
    let b = and_parts _ _ a.0 in
    let c = and_parts _ _ b.0 in
    let low : nat_le 2 (length text) ≡ true = c.0 in
    let first : (slice_index text 0 == 34) ≡ true = c.1 in
    let last : (slice_index text (length text - 1) == 34) ≡ true = b.1 in
    (grind (arith, nat_tests), grind (arith, nat_tests), grind (arith, nat_tests))
