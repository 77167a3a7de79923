-- The spelled names of a text without a zero byte are a path.
use Rattle.std.proofs.Common.{◌≡◌, [], map, Some, arith}
use Rattle.std.proofs.lemmas.Grind.{common_steps}
use Rattle.cm_core.specs.Paths.{parts_of, walked}
use Rattle.cm_core.proofs.PathLemmas.{IsPath-spelled}
use Rattle.cm_core.proofs.path.fold.Goals as goal

pub invariant_of-result : goal.invariant_of-result
invariant_of-result c =
    let leads : walked [] (parts_of c.args.text.now) ≡ Some (map (λ name. name.now) c.deref-2.result.now) = grind (arith, common_steps) in
    rw c.in_ok-text.ensures (IsPath-spelled c.args.text.now _ c.requires leads)
