use Rattle.std.proofs.Common.{refl, sym, take_all, arith}
use Rattle.std.proofs.lemmas.List.Elements.{All-more, All-same}
use Rattle.export_closure.specs.Closure.{IsPattern}
use Rattle.export_closure.proofs.tests.are_patterns.Goals as goal

pub loop-pattern-preserved : goal.loop-pattern-preserved
loop-pattern-preserved c =
    All-more (IsPattern c.args.n) c.args.patterns.now c.loop-pattern.pattern-index _ c.loop-pattern-test.true c.loop-pattern.invariant (c.if-not-is_pattern.ensures refl)

pub returns : goal.returns
returns c t =
    All-same (IsPattern c.args.n) c.args.patterns.now _ (sym (take_all c.loop-pattern.pattern-index c.args.patterns.now (omega (arith, c.loop-pattern-test.false)))) c.loop-pattern.invariant
