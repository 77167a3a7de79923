use Rattle.std.proofs.Common.{◌≡◌, ap, arith, length}
use Rattle.module_file.specs.ModuleFile.{spelling}
use Rattle.build_store.specs.Kept.{largest_kept}
use Rattle.build_store.proofs.keep.keep_file.Goals as goal

pub returns-then-len-gt-LARGEST_KEPT-clause-put : goal.returns-then-len-gt-LARGEST_KEPT-clause-put
unfolding largest_kept
returns-then-len-gt-LARGEST_KEPT-clause-put g c fs tells small =
    let same : length c.in_ok-bytes.bytes.items ≡ length (spelling c.args.index.now) = ap length c.in_ok-bytes.ensures.spelled in
    absurd (omega (arith, same, c.len.ensures))

pub returns-in-Ok-clause-too_large : goal.returns-in-Ok-clause-too_large
unfolding largest_kept
returns-in-Ok-clause-too_large g c large =
    let same : length c.in_ok-bytes.bytes.items ≡ length (spelling c.args.index.now) = ap length c.in_ok-bytes.ensures.spelled in
    absurd (omega (arith, same, c.len.ensures))

pub returns-clause-too_large : goal.returns-clause-too_large
unfolding largest_kept
returns-clause-too_large g c large =
    let same : length c.in_ok-bytes.bytes.items ≡ length (spelling c.args.index.now) = ap length c.in_ok-bytes.ensures.spelled in
    absurd (omega (arith, same, c.len.ensures))
