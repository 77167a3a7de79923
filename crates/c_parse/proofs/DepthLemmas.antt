-- The depth of brackets behind some tokens is at most their number.
use Rattle.std.proofs.Common.{ℕ, ◌+◌, ◌≤◌, List, [], ◌∷◌, length, arith}
use Rattle.c_parse.specs.declared.role.Role.{Role}
use Rattle.c_parse.specs.declared.role.Role.TheVariants.{Open, OpenBrace, CloseParen, CloseBrace, Close, Semicolon, Equals, Other}
use Rattle.c_parse.specs.Pieces.{depth, depth_after}

one_more : (r : Role) (n : ℕ) → depth_after r n ≤ n + 1
one_more Open n = omega arith
one_more OpenBrace n = omega arith
one_more CloseParen n = omega arith
one_more CloseBrace n = omega arith
one_more Close n = omega arith
one_more Semicolon n = omega arith
one_more Equals n = omega arith
one_more Other n = omega arith

pub depth_bound : (rs : List Role) → depth rs ≤ length rs
depth_bound [] = omega arith
depth_bound (r ∷ before) =
    let more = one_more r (depth before) in
    let rest = depth_bound before in
    omega arith
