use Rattle.std.proofs.Common.{FitsSigned}
use Rattle.std.specs.Int.{w128}
use Rattle.std.proofs.lemmas.Int.{to_z-of_z}
use Rattle.int_types.proofs.RangeLemmas.{truth_bits, truth_holds}
use Rattle.int_types.proofs.operations.truth.Goals as goal

pub returns-clause-valid : goal.returns-clause-valid
returns-clause-valid c =
    let whole : FitsSigned w128 c.from.result = record { sfits = c.from.type_inv } in
    rw (to_z-of_z w128 c.from.result whole, c.from.ensures, truth_bits c.args.is_true) (truth_holds c.args.is_true)
