use Rattle.std.proofs.Common.{◌≡◌, ◌++◌, map, take}
use Rattle.std.specs.List.{flat_map}
use Rattle.map_grammar.specs.Spelling.{after_dot}
use Rattle.map_grammar.proofs.spell.put_with_dots.Given as goal

abbrev pub invariant-loop-name : goal.invariant-loop-name
invariant-loop-name l = l.out.items ≡ l.initial.out.items ++ flat_map (after_dot) (map (λ name. name.now) (take l.name-index l.names))
