use Rattle.std.proofs.Common.{◌≡◌, ◌+◌, drop}
use Rattle.c_lex.specs.Runs.{line_run}
use Rattle.c_lex.proofs.runs.line_length.Given as goal

abbrev pub invariant-loop-count : goal.invariant-loop-count
invariant-loop-count l = l.count + line_run (drop l.count l.bytes) ≡ line_run l.bytes
