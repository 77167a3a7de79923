use Rattle.std.proofs.Common.{◌≡◌, ◌+◌, drop}
use Rattle.std.specs.Option.{option_map}
use Rattle.c_lex.specs.Runs.{closed_run}
use Rattle.c_lex.proofs.runs.closed_length.Given as goal

abbrev pub invariant-loop-count : goal.invariant-loop-count
invariant-loop-count l = option_map (λ n. l.count + n) (closed_run l.before (drop l.count l.bytes)) ≡ closed_run l.first l.bytes
