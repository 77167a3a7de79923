use Rattle.std.proofs.Common.{◌≡◌, ◌++◌, take}
use Rattle.std.specs.List.{flat_map}
use Rattle.map_grammar.specs.Spelling.{attribute_texts}
use Rattle.map_grammar.proofs.spell.put_attributes.Given as goal

abbrev pub invariant-loop-name : goal.invariant-loop-name
invariant-loop-name l = l.out.items ≡ l.initial.out.items ++ flat_map (attribute_texts) (take l.name-index l.attributes)
