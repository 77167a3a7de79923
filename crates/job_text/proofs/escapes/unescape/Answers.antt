use Rattle.std.proofs.Common.{arith, ap, sym, ◌∙◌}
use Rattle.job_text.specs.Escapes.{escape_of}
use Rattle.job_text.proofs.EscapeLemmas.{skipped, plain, escaped}
use Rattle.job_text.proofs.escapes.unescape.Goals as goal

pub loop-index-preserved-then-skip-gt0 : goal.loop-index-preserved-then-skip-gt0
loop-index-preserved-then-skip-gt0 c = skipped c.args.text.now c.loop-index.bytes c.loop-index.skip c.loop-index.index (omega arith) (omega arith) c.loop-index.invariant

pub loop-index-preserved-then-byte-ne92 : goal.loop-index-preserved-then-byte-ne92
loop-index-preserved-then-byte-ne92 c =
    rw c.in_ok-push.ensures.ok
    (plain c.args.text.now c.loop-index.bytes c.loop-index.skip c.loop-index.index (omega arith) (omega arith) c.if-byte-ne92.true c.loop-index.invariant)

pub loop-index-preserved : goal.loop-index-preserved
loop-index-preserved c =
    rw c.in_ok-push-2.ensures.ok
    (escaped c.args.text.now c.loop-index.bytes c.loop-index.skip c.loop-index.index c.in-Some.escape (omega arith) (omega arith) c.if-byte-ne92.false (ap escape_of (sym c.split_at.ensures.back) ∙ sym c.in-Some.ensures) c.loop-index.invariant)
