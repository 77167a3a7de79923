use Rattle.std.proofs.Common.{◌-◌, ◌∙◌, sym, ap, take, arith, None}
use Rattle.pp_cond.specs.declared.outcome.Outcome.TheVariants.{Signed}
use Rattle.pp_cond.specs.declared.symbol.Symbol.TheVariants.{Operand}
use Rattle.pp_cond.specs.Readers.{with_prefixes, outcomes}
use Rattle.pp_cond.proofs.ReaderSteps.{with_prefixes_step}
use Rattle.pp_cond.proofs.reader.with_prefixes.Goals as goal

pub loop-left-preserved : goal.loop-left-preserved
loop-left-preserved c =
    let least = c.loop-left-test.true in
    let most = c.loop-left.invariant.0 in
    (omega arith, c.loop-left.invariant.1 ∙ with_prefixes_step c.args.operators.now c.loop-left.left c.loop-left.outcome (Operand (Signed None)) least most ∙ ap (with_prefixes outcomes (take (c.loop-left.left - 1) c.args.operators.now)) (sym c.with_prefix-outcome.ensures))
