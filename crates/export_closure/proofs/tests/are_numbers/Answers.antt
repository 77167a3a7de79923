use Rattle.std.proofs.Common.{◌<◌, sym, take_all, arith}
use Rattle.std.proofs.lemmas.List.Elements.{All-more, All-same}
use Rattle.cm_core.specs.declared.numbers.SubNo.{SubNo}
use Rattle.export_closure.proofs.tests.are_numbers.Goals as goal

pub loop-sub-preserved : goal.loop-sub-preserved
loop-sub-preserved c = All-more (λ (s : SubNo). s.index < c.args.n) c.args.subs.now c.loop-sub.sub-index _ c.loop-sub-test.true c.loop-sub.invariant c.if-sub-n.false

pub returns : goal.returns
returns c t =
    All-same (λ (s : SubNo). s.index < c.args.n) c.args.subs.now _ (sym (take_all c.loop-sub.sub-index c.args.subs.now (omega (arith, c.loop-sub-test.false)))) c.loop-sub.invariant
