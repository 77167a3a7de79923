use Rattle.std.proofs.Common.{◌≡◌, ap, subst, IsTrue}
use Rattle.std.specs.Int.{w128}
use Rattle.std.proofs.lemmas.Int.{to_z-of_z}
use Rattle.cm_core.specs.declared.integers.IntKind.TheVariants.{ULong}
use Rattle.int_types.specs.declared.values.Value.{Value}
use Rattle.int_types.specs.Kinds.{holds}
use Rattle.int_types.specs.Values.{converted, IsValid}
use Rattle.int_types.proofs.RangeLemmas.{fits_holds}
use Rattle.pp_cond.proofs.OutcomeLemmas.{unsigned_long_fits}
use Rattle.pp_cond.proofs.outcome.unsigned_long_of.Goals as goal

pub overflow_cast-result : goal.overflow_cast-result
overflow_cast-result c =
    let P : Value → Type 0 = λ v. IsValid v in
    let held : IsTrue (holds ULong (converted ULong c.args.value.number)) = subst P c.convert.ensures.value c.convert.ensures.valid in
    let fits = unsigned_long_fits _ held in
    let number : c.convert.result.number ≡ converted ULong c.args.value.number = ap (λ (v : Value). v.number) c.convert.ensures.value in
    rw number (rw (to_z-of_z w128 _ (fits_holds ULong _ held)) fits)
