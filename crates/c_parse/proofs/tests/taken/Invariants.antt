-- The pieces so far, and those of the tokens that are left behind the open one.
use Rattle.std.proofs.Common.{◌≡◌, ◌++◌, ◌≤◌, drop, length}
use Rattle.c_parse.specs.Cuts.{IsAfter}
use Rattle.c_parse.specs.Pieces.{pieces, pieces_after}
use Rattle.c_parse.proofs.tests.taken.Given as goal

abbrev pub invariant-loop-token : goal.invariant-loop-token
invariant-loop-token l =
    (l.parts ++ pieces_after l.names l.part (drop l.token-index l.tokens) ≡ pieces l.names l.tokens) × IsAfter l.names l.part l.cut × (length l.part ≤ l.token-index)
