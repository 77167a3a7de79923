-- A part that is none of the three texts is a name.
use Rattle.std.proofs.Common.{map}
use Rattle.std.proofs.lemmas.Grind.{common_steps}
use Rattle.std.proofs.Common.{arith}
use Rattle.cm_core.proofs.PathLemmas.{stepped-other}
use Rattle.cm_core.proofs.path.step.Goals as goal

pub returns-in_ok-push-in_default : goal.returns-in_ok-push-in_default
returns-in_ok-push-in_default c =
    let s = stepped-other (map (λ name. name.now) c.args.names.now.items) c.args.part.now c.in_default.not-empty c.in_default.not-text c.in_default.not-text-2 in
    grind (arith, common_steps, s)
