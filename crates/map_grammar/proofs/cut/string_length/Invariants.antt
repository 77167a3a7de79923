use Rattle.std.proofs.Common.{◌≡◌, ◌+◌, drop}
use Rattle.map_grammar.specs.MapText.{string_length}
use Rattle.map_grammar.proofs.cut.string_length.Given as goal

abbrev pub invariant-loop-count : goal.invariant-loop-count
invariant-loop-count l = l.count + string_length (drop l.count l.words) ≡ string_length l.words
