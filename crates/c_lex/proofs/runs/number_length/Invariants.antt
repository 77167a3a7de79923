use Rattle.std.proofs.Common.{◌≡◌, ◌+◌, drop}
use Rattle.c_lex.specs.Runs.{number_run}
use Rattle.c_lex.proofs.runs.number_length.Given as goal

abbrev pub invariant-loop-count : goal.invariant-loop-count
invariant-loop-count l = l.count + number_run l.before (drop l.count l.bytes) ≡ number_run l.first l.bytes
