use Rattle.std.proofs.Common.{sym, ◌∙◌, ◌*ℤ◌, FitsSigned, IsTrue, subst, ℤ}
use Rattle.std.specs.Int.{w128}
use Rattle.std.proofs.lemmas.Int.{to_z-of_z}
use Rattle.int_types.specs.Kinds.{holds}
use Rattle.int_types.proofs.RangeLemmas.{unsigned_cast, unsigned_product_fits, product_computed, wrapped_within, holds_within}
use Rattle.int_types.proofs.arithmetic.unsigned_product.Goals as goal

pub overflow_cast-product : goal.overflow_cast-product
overflow_cast-product c = unsigned_cast c.args.kind c.args.x _ c.requires.unsigned c.requires.left (to_z-of_z w128 c.args.x c.ranges.x)

pub overflow_cast-product-2 : goal.overflow_cast-product-2
overflow_cast-product-2 c = unsigned_cast c.args.kind c.args.y _ c.requires.unsigned c.requires.right (to_z-of_z w128 c.args.y c.ranges.y)

pub overflow_mul-product : goal.overflow_mul-product
overflow_mul-product c =
    unsigned_product_fits c.args.kind c.args.x c.args.y _ _ c.requires.unsigned c.requires.left c.requires.right
    (to_z-of_z w128 c.args.x c.ranges.x) (to_z-of_z w128 c.args.y c.ranges.y)

pub returns-clause-value : goal.returns-clause-value
returns-clause-value c =
    let whole : FitsSigned w128 c.modulus.result = record { sfits = c.modulus.type_inv } in
    product_computed c.args.kind c.args.x c.args.y _ _ _ c.requires.unsigned c.requires.left c.requires.right
    (to_z-of_z w128 c.args.x c.ranges.x) (to_z-of_z w128 c.args.y c.ranges.y) (to_z-of_z w128 _ whole ∙ c.modulus.ensures)

pub returns-clause-valid : goal.returns-clause-valid
returns-clause-valid c =
    let P : ℤ → Type 0 = λ z. IsTrue (holds c.args.kind z) in
    subst P (sym (returns-clause-value c)) (holds_within c.args.kind _ (wrapped_within c.args.kind (c.args.x *ℤ c.args.y)))
