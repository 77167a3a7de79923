use Rattle.std.proofs.Common.{◌≡◌, ◌+◌, drop}
use Rattle.std.specs.Option.{option_map}
use Rattle.c_lex.specs.Runs.{named_run}
use Rattle.c_lex.proofs.runs.named_length.Given as goal

abbrev pub invariant-loop-count : goal.invariant-loop-count
invariant-loop-count l = option_map (λ n. l.count + n) (named_run l.end (drop l.count l.bytes)) ≡ named_run l.end l.bytes
