use Rattle.std.proofs.Common.{◌≡◌, false, arith, refl, sym, ◌∙◌, ◌*ℤ◌, to_z, of_z}
use Rattle.std.specs.Int.{w128}
use Rattle.std.proofs.lemmas.Int.{to_z-of_z}
use Rattle.int_types.specs.Kinds.{is_signed}
use Rattle.int_types.specs.Values.{wrapped}
use Rattle.int_types.specs.Operations.{fitted}
use Rattle.int_types.proofs.RangeLemmas.{signed_product_fits}
use Rattle.int_types.proofs.arithmetic.product.Goals as goal

pub overflow_mul-x : goal.overflow_mul-x
overflow_mul-x c =
    let fits = signed_product_fits c.args.kind c.args.x c.args.y (sym c.is_signed.ensures ∙ c.if-is_signed.true) c.requires.left c.requires.right in
    grind (arith, to_z-of_z)

pub returns-then-is_signed-clause-value : goal.returns-then-is_signed-clause-value
returns-then-is_signed-clause-value c =
    let fits = signed_product_fits c.args.kind c.args.x c.args.y (sym c.is_signed.ensures ∙ c.if-is_signed.true) c.requires.left c.requires.right in
    grind (arith, to_z-of_z)

pub returns-else-is_signed-clause-value : goal.returns-else-is_signed-clause-value
unfolding fitted
returns-else-is_signed-clause-value c =
    let unsigned : is_signed c.args.kind ≡ false = sym c.is_signed.ensures ∙ c.if-is_signed.false in
    let value : to_z w128 (of_z w128 c.unsigned_product.result) ≡ wrapped c.args.kind (c.args.x *ℤ c.args.y) = grind (arith, to_z-of_z) in
    rw (unsigned, value) refl
