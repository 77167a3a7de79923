use Rattle.std.proofs.Common.{◌≡◌, ◌++◌, ◌∷◌, codes, take}
use Rattle.std.specs.List.{flat_map}
use Rattle.map_grammar.specs.Spelling.{feature_texts}
use Rattle.map_grammar.proofs.spell.put_features.Given as goal

abbrev pub invariant-loop-feature : goal.invariant-loop-feature
invariant-loop-feature l = l.out.items ≡ l.initial.out.items ++ flat_map (λ y. codes "," ∷ feature_texts y) (take l.feature-index l.rest)
