use Rattle.std.proofs.Common.{◌≡◌, ◌^◌, true, arith, pos, ◌*ℤ◌, unsigned_abs, to_z, of_z}
use Rattle.std.specs.Int.{w128}
use Rattle.std.specs.Int.RustNames.{int_le, int_lt}
use Rattle.std.proofs.lemmas.Int.{to_z-of_z}
use Rattle.int_types.specs.Kinds.{width}
use Rattle.int_types.specs.Operations.{fitted, is_count, shifted_left}
use Rattle.int_types.proofs.RangeLemmas.{shl_fits}
use Rattle.int_types.proofs.arithmetic.shift_left.Goals as goal

pub overflow_mul-x : goal.overflow_mul-x
overflow_mul-x c =
    let count : to_z w128 (of_z w128 c.args.count) ≡ c.args.count = to_z-of_z w128 c.args.count c.ranges.count in
    let low : int_le (pos 0) c.args.count ≡ true = grind (arith, to_z-of_z) in
    let high : int_lt c.args.count (pos (width c.args.kind)) ≡ true = grind (arith, to_z-of_z) in
    let natural : int_le (pos 0) c.args.x ≡ true = grind (arith, to_z-of_z) in
    let fits = shl_fits c.args.kind c.args.x c.args.count c.requires low high natural in
    grind (arith, to_z-of_z)

pub returns-then-x-ge0-clause-value : goal.returns-then-x-ge0-clause-value
unfolding shifted_left is_count
returns-then-x-ge0-clause-value c =
    let low : int_le (pos 0) c.args.count ≡ true = grind (arith, to_z-of_z) in
    let high : int_lt c.args.count (pos (width c.args.kind)) ≡ true = grind (arith, to_z-of_z) in
    let natural : int_le (pos 0) c.args.x ≡ true = grind (arith, to_z-of_z) in
    let fits = shl_fits c.args.kind c.args.x c.args.count c.requires low high natural in
    let value : c.fitted.result ≡ fitted c.args.kind (c.args.x *ℤ pos (2 ^ unsigned_abs c.args.count)) = grind (arith, to_z-of_z) in
    rw (low, high, natural) value
