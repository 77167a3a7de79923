use Rattle.std.proofs.Common.{◌≡◌, arith, Some}
use Rattle.std.specs.Int.{w128}
use Rattle.std.specs.Int.RustNames.{int_rem}
use Rattle.std.proofs.lemmas.Int.{to_z-of_z}
use Rattle.int_types.specs.Operations.{quotient}
use Rattle.int_types.proofs.RangeLemmas.{fits_holds, small_holds, rem_holds, quot_fits_small, quotient_some, nonzero_bits}
use Rattle.int_types.proofs.arithmetic.remainder.Goals as goal

pub nonzero_rem-result : goal.nonzero_rem-result
nonzero_rem-result c =
    let a = small_holds c.args.kind c.args.x c.requires.left in
    let some : quotient c.args.kind c.args.x c.args.y ≡ Some c.in-Some.field-0 = grind (arith, to_z-of_z) in
    let fits = quot_fits_small c.args.x c.args.y a.0 a.1 in
    (nonzero_bits c.args.y c.ranges.y (quotient_some c.args.kind c.args.x c.args.y c.in-Some.field-0 some), rw (to_z-of_z w128 c.args.x c.ranges.x, to_z-of_z w128 c.args.y c.ranges.y) fits)

pub returns-in-Some-clause-valid : goal.returns-in-Some-clause-valid
returns-in-Some-clause-valid c =
    let held = rem_holds c.args.kind c.args.x c.args.y c.requires.left in
    rw (to_z-of_z w128 c.args.x c.ranges.x, to_z-of_z w128 c.args.y c.ranges.y, to_z-of_z w128 (int_rem c.args.x c.args.y) (fits_holds c.args.kind _ held)) held
