use Rattle.std.proofs.Common.{◌^◌, unsigned_abs, to_z, of_z}
use Rattle.std.specs.Int.{w128}
use Rattle.std.proofs.lemmas.Int.{to_z-of_z}
use Rattle.int_types.proofs.RangeLemmas.{fits_holds, shr_holds}
use Rattle.int_types.proofs.arithmetic.shift_right.Goals as goal

pub returns-then-count-from-clause-valid : goal.returns-then-count-from-clause-valid
returns-then-count-from-clause-valid c =
    let held = shr_holds c.args.kind c.args.x (2 ^ unsigned_abs (to_z w128 (of_z w128 c.args.count))) c.requires in
    rw (to_z-of_z w128 c.args.x c.ranges.x, to_z-of_z w128 _ (fits_holds c.args.kind _ held)) held
