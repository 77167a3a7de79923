-- The longest punctuator at the front of a text (C11 6.4p4, 6.4.6).
use Rattle.std.specs.Prelude.{◌≡◌, ℕ, ◌+◌, ◌-◌, ◌<◌, ◌≤◌, true, false, List, ◌∷◌, length, take, slice_index}
use Rattle.c_lex.specs.Pieces.{is_punctuator}

-- the punctuator has the byte a and n - 1 more of the rest, and no more of them are one with it
pub record IsPunctuatorLength (a : ℕ) (rest : List ℕ) (n : ℕ) : Type 0 where
  pub some : 0 < n
  pub within : n ≤ length rest + 1
  pub here : is_punctuator (a ∷ take (n - 1) rest) ≡ true
  pub beyond : (m : ℕ) → n ≤ m → m ≤ length rest → is_punctuator (a ∷ take m rest) ≡ false
  pub ascii : slice_index (a ∷ rest) (n - 1) < 128
