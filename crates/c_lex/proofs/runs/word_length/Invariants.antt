use Rattle.std.proofs.Common.{◌≡◌, ◌+◌, drop}
use Rattle.c_lex.specs.Runs.{word_run}
use Rattle.c_lex.proofs.runs.word_length.Given as goal

abbrev pub invariant-loop-count : goal.invariant-loop-count
invariant-loop-count l = l.count + word_run (drop l.count l.bytes) ≡ word_run l.bytes
