use Rattle.std.proofs.Common.{arith, ◌-ℤ◌, FitsSigned}
use Rattle.std.specs.Int.{w128}
use Rattle.std.proofs.lemmas.Int.{ints, to_z-of_z}
use Rattle.int_types.proofs.RangeLemmas.{small_holds}
use Rattle.int_types.proofs.arithmetic.difference.Goals as goal

pub overflow_sub-x : goal.overflow_sub-x
overflow_sub-x c =
    let a = small_holds c.args.kind c.args.x c.requires.left in
    let b = small_holds c.args.kind c.args.y c.requires.right in
    omega (arith, ints)

pub returns-clause-value : goal.returns-clause-value
returns-clause-value c =
    let a = small_holds c.args.kind c.args.x c.requires.left in
    let b = small_holds c.args.kind c.args.y c.requires.right in
    let fits : FitsSigned w128 (c.args.x -ℤ c.args.y) = omega (arith, ints) in
    grind (arith, to_z-of_z)
