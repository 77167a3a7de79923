use Rattle.std.proofs.Common.{◌≡◌, arith}
use Rattle.std.specs.Int.{w128}
use Rattle.std.specs.Int.RustNames.{int_div}
use Rattle.std.proofs.lemmas.Int.{to_z-of_z}
use Rattle.int_types.specs.Operations.{fitted, quotient}
use Rattle.int_types.proofs.RangeLemmas.{small_holds, quot_fits_small, nonzero_test}
use Rattle.int_types.proofs.arithmetic.quotient.Goals as goal

pub nonzero_div-x : goal.nonzero_div-x
nonzero_div-x c =
    let a = small_holds c.args.kind c.args.x c.requires.left in
    let zero = c.if-y-eq0.false in
    let fits = quot_fits_small c.args.x c.args.y a.0 a.1 in
    (omega arith, rw (to_z-of_z w128 c.args.x c.ranges.x, to_z-of_z w128 c.args.y c.ranges.y) fits)

pub returns-else-y-eq0-clause-value : goal.returns-else-y-eq0-clause-value
unfolding quotient
returns-else-y-eq0-clause-value c =
    let a = small_holds c.args.kind c.args.x c.requires.left in
    let fits = quot_fits_small c.args.x c.args.y a.0 a.1 in
    let value : c.fitted.result ≡ fitted c.args.kind (int_div c.args.x c.args.y) = grind (arith, to_z-of_z) in
    rw (nonzero_test c.args.y c.ranges.y c.if-y-eq0.false) value
