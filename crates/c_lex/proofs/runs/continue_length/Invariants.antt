use Rattle.std.proofs.Common.{◌≡◌, ◌+◌, drop}
use Rattle.c_lex.specs.Runs.{continue_run}
use Rattle.c_lex.proofs.runs.continue_length.Given as goal

abbrev pub invariant-loop-count : goal.invariant-loop-count
invariant-loop-count l = l.count + continue_run (drop l.count l.bytes) ≡ continue_run l.bytes
