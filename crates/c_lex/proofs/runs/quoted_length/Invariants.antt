use Rattle.std.proofs.Common.{◌≡◌, ◌+◌, drop, false}
use Rattle.std.specs.Option.{option_map}
use Rattle.c_lex.specs.Runs.{quoted_run}
use Rattle.c_lex.proofs.runs.quoted_length.Given as goal

abbrev pub invariant-loop-count : goal.invariant-loop-count
invariant-loop-count l = option_map (λ n. l.count + n) (quoted_run l.quote l.escaped (drop l.count l.bytes)) ≡ quoted_run l.quote false l.bytes
