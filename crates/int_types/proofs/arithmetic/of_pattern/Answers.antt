use Rattle.std.proofs.Common.{arith}
use Rattle.std.proofs.lemmas.Int.{ints}
use Rattle.int_types.proofs.RangeLemmas.{width_bound, zero_within, least_bound}
use Rattle.int_types.proofs.arithmetic.of_pattern.Goals as goal

pub wrapped-requires : goal.wrapped-requires
wrapped-requires c =
    let below = c.requires in
    let b = width_bound c.args.kind in
    let l = least_bound c.args.kind in
    let z = (zero_within c.args.kind).0 in
    omega (arith, ints)
