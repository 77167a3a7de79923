use Rattle.std.proofs.Common.{◌≡◌, take}
use Rattle.pp_cond.specs.Conditions.{symbols_of}
use Rattle.pp_cond.proofs.conditions.symbols.Given as goal

abbrev pub invariant-loop-token : goal.invariant-loop-token
invariant-loop-token l = l.symbols.items ≡ symbols_of l.names (take l.token-index l.tokens)
