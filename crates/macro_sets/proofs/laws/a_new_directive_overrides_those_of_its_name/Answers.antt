-- Of the directives handed in all are of the name and by others, and the owner sees all of its own.
use Rattle.macro_sets.proofs.NameLemmas.{overrides-named}
use Rattle.macro_sets.proofs.laws.a_new_directive_overrides_those_of_its_name.Goals as goal

pub returns : goal.returns
returns c = overrides-named
