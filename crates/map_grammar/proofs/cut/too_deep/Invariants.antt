use Rattle.std.proofs.Common.{◌≡◌, ◌≤◌, drop}
use Rattle.map_grammar.specs.MapText.{too_deep_in}
use Rattle.map_grammar.proofs.cut.too_deep.Given as goal

abbrev pub invariant-loop-word : goal.invariant-loop-word
invariant-loop-word l = (l.open ≤ 256) × (too_deep_in l.open (drop l.word-index l.words) ≡ too_deep_in 0 l.words)
