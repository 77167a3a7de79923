use Rattle.std.proofs.Common.{refl, length, arith}
use Rattle.std.proofs.lemmas.Option.{slice_get_read}
use Rattle.export_closure.proofs.RowLemmas.{rows_more, rows_all}
use Rattle.export_closure.proofs.tests.are_rows.Goals as goal

pub loop-at-preserved : goal.loop-at-preserved
loop-at-preserved c =
    let rows = c.args.rows.now in
    rows_more rows c.loop-at.at c.index-rows-at.result
    (slice_get_read rows (length rows) c.loop-at.at c.index-rows-at.result refl (omega (arith, c.loop-at-test.true)) c.index-rows-at.is)
    (c.if-not-is_row.ensures refl) c.loop-at.invariant

pub returns : goal.returns
returns c t = rows_all c.args.rows.now c.loop-at.at (omega (arith, c.loop-at-test.false)) c.loop-at.invariant
