use Rattle.std.proofs.Common.{◌≡◌, ◌^◌, ◌<◌, drop}
use Rattle.pp_cond.specs.Numbers.{digits_onto}
use Rattle.pp_cond.proofs.numbers.number.Given as goal

abbrev pub invariant-loop-byte : goal.invariant-loop-byte
invariant-loop-byte l = (l.number < 2 ^ 64) × (digits_onto l.base l.number (drop l.byte-index l.digits) ≡ digits_onto l.base 0 l.digits)
