use Rattle.std.proofs.Common.{arith}
use Rattle.cm_outside.proofs.Fronts.{written, within}
use Rattle.cm_outside.proofs.sink.write_all.Goals as goal

pub loop-at-preserved : goal.loop-at-preserved
loop-at-preserved g c = record {
  within = within _ _ _ c.loop-at.invariant.within c.in_ok-at.ensures.within;
  so_far = written _ _ _ c.loop-at.at _ c.args.bytes.now c.loop-at.invariant.so_far c.in_ok-at.ensures.takes;
  later = omega (arith, c.loop-at.invariant.later, c.write.ensures.cause.later);
}
