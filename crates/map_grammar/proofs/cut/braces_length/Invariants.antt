use Rattle.std.proofs.Common.{◌≡◌, ◌+◌, ◌≤◌, drop}
use Rattle.map_grammar.specs.MapText.{braces_length}
use Rattle.map_grammar.proofs.cut.braces_length.Given as goal

abbrev pub invariant-loop-count : goal.invariant-loop-count
invariant-loop-count l = (l.open ≤ l.count) × (l.count + braces_length l.open (drop l.count l.words) ≡ braces_length 0 l.words)
