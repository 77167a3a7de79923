use Rattle.std.proofs.Common.{◌≡◌, ◌+◌, ◌-◌, ◌*◌, ◌<◌, ◌≤◌, length}
use Rattle.pp_cond.specs.Readers.{outcomes, read_rest, read_up_to, read_conditional, read_expression}
use Rattle.pp_cond.proofs.ReaderSteps.{ending_all}
use Rattle.pp_cond.proofs.reader.+reader.Given as goal

abbrev pub decreases-expression : goal.decreases-expression
decreases-expression l = 16 * l.depth

abbrev pub decreases-primary : goal.decreases-primary
decreases-primary l = 16 * l.depth + 1

abbrev pub decreases-unary : goal.decreases-unary
decreases-unary l = 16 * l.depth + 2

abbrev pub decreases-up_to : goal.decreases-up_to
decreases-up_to l = 16 * l.depth + 3 + l.n

abbrev pub decreases-conditional : goal.decreases-conditional
decreases-conditional l = 16 * l.depth + 14

abbrev pub invariant-expression-loop-operator : goal.invariant-expression-loop-operator
invariant-expression-loop-operator l = (0 < l.depth) × (read_rest outcomes 17 (read_conditional outcomes (read_expression outcomes (l.depth - 1))) (length l.rest) l.outcome l.rest ≡ read_expression outcomes l.depth l.fn.symbols)

abbrev pub decreases-expression-loop-operator : goal.decreases-expression-loop-operator
decreases-expression-loop-operator l = length l.rest

abbrev pub invariant-up_to-loop-operator : goal.invariant-up_to-loop-operator
invariant-up_to-loop-operator l = (0 < l.n) × (l.n ≤ 10) × (read_rest outcomes (l.n + 4) (read_up_to outcomes (read_expression outcomes l.depth) (l.n - 1)) (length l.rest) l.outcome l.rest ≡ read_up_to outcomes (read_expression outcomes l.depth) l.n l.fn.symbols)

abbrev pub decreases-up_to-loop-operator : goal.decreases-up_to-loop-operator
decreases-up_to-loop-operator l = length l.rest

abbrev pub invariant-conditional-loop-condition : goal.invariant-conditional-loop-condition
invariant-conditional-loop-condition l = ending_all l.choices (read_conditional outcomes (read_expression outcomes l.depth) l.rest) ≡ read_conditional outcomes (read_expression outcomes l.depth) l.fn.symbols

abbrev pub decreases-conditional-loop-condition : goal.decreases-conditional-loop-condition
decreases-conditional-loop-condition l = length l.rest
