use Rattle.std.proofs.Common.{arith}
use Rattle.build_store.proofs.RowLemmas.{empty_rows_more}
use Rattle.build_store.proofs.library.empty_rows.Goals as goal

pub loop-target-preserved : goal.loop-target-preserved
loop-target-preserved c =
    empty_rows_more c.args.table.now c.items-target-items.result.now c.loop-target.target-index c.loop-target.rows c.push.new.self c.target-item.result c.in_ok-row_of.field-0 c.items-target-items.ensures
    (omega arith) c.target-item.is c.loop-target.invariant c.in_ok-row_of.ensures c.in_ok-push.ensures.ok
