use Rattle.std.proofs.Common.{sym}
use Rattle.cm_source.proofs.Steps.{first_trigraph, first_other}
use Rattle.cm_source.proofs.step.first_byte.Goals as goal

pub returns-in-Some : goal.returns-in-Some
returns-in-Some c = first_trigraph _ _ (sym c.in-Some.ensures)

pub returns-in-None : goal.returns-in-None
returns-in-None c = first_other _ c.requires (sym c.in-None.ensures)
