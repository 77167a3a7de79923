use Rattle.std.proofs.Common.{◌≡◌, ◌^◌, arith, pos, ◌-ℤ◌, FitsSigned, IsTrue, subst, sym, ℤ}
use Rattle.std.specs.Int.{int_rem_euclid, w128}
use Rattle.std.proofs.lemmas.Int.{to_z-of_z}
use Rattle.int_types.specs.Kinds.{width, least, holds}
use Rattle.int_types.specs.Values.{wrapped}
use Rattle.int_types.proofs.RangeLemmas.{wrapped_within, holds_within, small, small_fits}
use Rattle.int_types.proofs.values.wrapped.Goals as goal

pub overflow_add-result : goal.overflow_add-result
unfolding wrapped
overflow_add-result c =
    let rem : c.rem_euclid.result ≡ int_rem_euclid (c.args.number -ℤ least c.args.kind) (pos (2 ^ width c.args.kind)) = grind (arith, to_z-of_z) in
    let fits : FitsSigned w128 (wrapped c.args.kind c.args.number) = small_fits _ (small c.args.kind _ (wrapped_within c.args.kind c.args.number)) in
    grind (arith, to_z-of_z)

pub returns-clause-value : goal.returns-clause-value
unfolding wrapped
returns-clause-value c =
    let rem : c.rem_euclid.result ≡ int_rem_euclid (c.args.number -ℤ least c.args.kind) (pos (2 ^ width c.args.kind)) = grind (arith, to_z-of_z) in
    let fits : FitsSigned w128 (wrapped c.args.kind c.args.number) = small_fits _ (small c.args.kind _ (wrapped_within c.args.kind c.args.number)) in
    grind (arith, to_z-of_z)

pub returns-clause-valid : goal.returns-clause-valid
returns-clause-valid c =
    let P : ℤ → Type 0 = λ z. IsTrue (holds c.args.kind z) in
    subst P (sym (returns-clause-value c)) (holds_within c.args.kind _ (wrapped_within c.args.kind c.args.number))
