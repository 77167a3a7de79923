use Rattle.std.proofs.Common.{◌≡◌, ◌==◌, FitsSigned, Some, sym}
use Rattle.std.specs.Int.{w128}
use Rattle.std.proofs.lemmas.Int.{to_z-of_z}
use Rattle.int_types.specs.Constants.{constant_kind}
use Rattle.pp_cond.proofs.NumberLemmas.{constant_holds}
use Rattle.pp_cond.proofs.numbers.typed.Goals as goal

pub seen_as-requires : goal.seen_as-requires
seen_as-requires c =
    let found : constant_kind (c.args.base == 10) c.args.unsigned 1 c.args.number ≡ Some c.in-Some.kind = rw c.from.ensures at (sym (c.in-Some.ensures)) in
    let whole : FitsSigned w128 c.from-in-Some.result = record { sfits = c.from-in-Some.type_inv } in
    rw (to_z-of_z w128 c.from-in-Some.result whole, c.from-in-Some.ensures) (constant_holds (c.args.base == 10) c.args.unsigned 1 c.args.number c.in-Some.kind found)
