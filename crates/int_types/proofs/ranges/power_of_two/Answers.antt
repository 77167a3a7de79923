use Rattle.std.proofs.Common.{◌^◌, ◌<◌, arith}
use Rattle.std.specs.Int.{w128}
use Rattle.std.proofs.lemmas.Int.{to_z_pos}
use Rattle.std.proofs.lemmas.Nat.{one_shl, pow_below}
use Rattle.int_types.proofs.ranges.power_of_two.Goals as goal

pub returns : goal.returns
returns c =
    let fits : 2 ^ c.args.exponent < 2 ^ 127 = pow_below c.args.exponent 127 c.requires in
    let below : c.args.exponent < 128 = omega arith in
    rw (one_shl c.args.exponent 128 below) (to_z_pos w128 (2 ^ c.args.exponent) fits)
