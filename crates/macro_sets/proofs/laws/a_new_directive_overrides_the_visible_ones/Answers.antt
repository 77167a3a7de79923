-- The list of what it overrides has their references.
use Rattle.std.proofs.Common.{◌++◌}
use Rattle.macro_sets.specs.ActiveMacros.{visible, named}
use Rattle.macro_sets.proofs.LawLemmas.{is_listed-map}
use Rattle.macro_sets.proofs.laws.a_new_directive_overrides_the_visible_ones.Goals as goal

pub returns : goal.returns
returns c = λ history name place body before seen at. is_listed-map at (visible seen before ++ named name history.nodes)
