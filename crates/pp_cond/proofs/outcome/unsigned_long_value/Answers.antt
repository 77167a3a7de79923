use Rattle.std.proofs.Common.{◌≡◌, to_z, of_z, pos, arith}
use Rattle.std.specs.Int.{w128}
use Rattle.std.proofs.lemmas.Int.{ints}
use Rattle.pp_cond.proofs.OutcomeLemmas.{unsigned_long_holds}
use Rattle.pp_cond.proofs.outcome.unsigned_long_value.Goals as goal

pub returns-clause-valid : goal.returns-clause-valid
returns-clause-valid c =
    let held = unsigned_long_holds c.args.number c.ranges.number.fits in
    let number : to_z w128 (of_z w128 c.from.result) ≡ pos c.args.number = omega (arith, ints) in
    rw number held
