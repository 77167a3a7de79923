-- What a cut has seen of the tokens that it took since the last end of a piece: own.
use Rattle.std.specs.Prelude.{◌≡◌, ℕ, ◌^◌, ◌<◌, List, ◌∷◌, length}
use Rattle.cm_core.specs.declared.token.Token.{Token}
use Rattle.c_parse.specs.declared.role.Role.{Role}
use Rattle.c_parse.specs.declared.role.Role.TheVariants.{OpenBrace, CloseParen}
use Rattle.c_parse.specs.declared.cut.Cut.{Cut}
use Rattle.c_parse.specs.declared.cut.Ending.{Ending}
use Rattle.c_parse.specs.declared.cut.Ending.TheVariants as ending
use Rattle.c_parse.specs.Pieces.{roles, depth, outside, has_equals}

-- what the tokens outside all brackets end in, the last of them first
abbrev pub ending_of : List Role → Ending
ending_of (CloseParen ∷ before) = ending.CloseParen
ending_of (OpenBrace ∷ CloseParen ∷ before) = ending.Body
ending_of rs = ending.Other

pub record HasSeen (rs : List Role) (cut : Cut) : Type 0 where
  pub depth : cut.depth ≡ depth rs
  pub ending : cut.ending ≡ ending_of (outside rs)
  pub assigned : cut.assigned ≡ has_equals (outside rs)

-- the depth is counted in 64 bits: nothing is said after more tokens than these count
abbrev pub Follows : List Role → Cut → Type 0
Follows rs cut = length rs < 2 ^ 64 → HasSeen rs cut

-- the cut took these tokens since the last end of a piece
abbrev pub IsAfter : List (List ℕ) → List Token → Cut → Type 0
IsAfter names tokens cut = Follows (roles names tokens) cut
