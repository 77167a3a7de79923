-- Each part of a definition is compared by an equivalence.
use Rattle.macro_sets.proofs.MeaningLemmas.{definitions_equiv}
use Rattle.macro_sets.proofs.laws.same_definitions_are_an_equivalence.Goals as goal

pub returns : goal.returns
returns c = definitions_equiv
