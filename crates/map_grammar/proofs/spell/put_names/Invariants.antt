use Rattle.std.proofs.Common.{◌≡◌, ◌++◌, ◌∷◌, codes, take}
use Rattle.std.specs.List.{flat_map}
use Rattle.map_grammar.specs.Spelling.{alone}
use Rattle.map_grammar.proofs.spell.put_names.Given as goal

abbrev pub invariant-loop-name : goal.invariant-loop-name
invariant-loop-name l = l.out.items ≡ l.initial.out.items ++ flat_map (λ y. codes "," ∷ alone y) (take l.name-index l.rest)
