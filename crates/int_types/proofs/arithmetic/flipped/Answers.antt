use Rattle.std.proofs.Common.{arith}
use Rattle.std.proofs.lemmas.Int.{ints}
use Rattle.int_types.proofs.RangeLemmas.{small_holds, zero_within, least_bound}
use Rattle.int_types.proofs.arithmetic.flipped.Goals as goal

pub overflow_sub-x : goal.overflow_sub-x
overflow_sub-x c =
    let a = small_holds c.args.kind c.args.x c.requires in
    omega (arith, ints)

pub overflow_sub-x-2 : goal.overflow_sub-x-2
overflow_sub-x-2 c =
    let a = small_holds c.args.kind c.args.x c.requires in
    omega (arith, ints)

pub wrapped-requires : goal.wrapped-requires
wrapped-requires c =
    let a = small_holds c.args.kind c.args.x c.requires in
    let l = least_bound c.args.kind in
    let l2 = (zero_within c.args.kind).0 in
    omega (arith, ints)
