use Rattle.std.proofs.Common.{◌≡◌, arith, ◌∙◌, pos, neg_ℤ, ◌-ℤ◌, ap, to_z, of_z}
use Rattle.std.specs.Int.{w128}
use Rattle.std.proofs.lemmas.Int.{ints}
use Rattle.int_types.specs.Operations.{fitted}
use Rattle.int_types.proofs.RangeLemmas.{small_holds}
use Rattle.int_types.proofs.arithmetic.negation.Goals as goal

pub overflow_sub-x : goal.overflow_sub-x
overflow_sub-x c =
    let a = small_holds c.args.kind c.args.x c.requires in
    omega (arith, ints)

pub returns-clause-value : goal.returns-clause-value
returns-clause-value c =
    let a = small_holds c.args.kind c.args.x c.requires in
    let e : to_z w128 (of_z w128 (pos 0 -ℤ to_z w128 (of_z w128 c.args.x))) ≡ neg_ℤ c.args.x = omega (arith, ints) in
    c.fitted.ensures.value ∙ ap (fitted c.args.kind) e
