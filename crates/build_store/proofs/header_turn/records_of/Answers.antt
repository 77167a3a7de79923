use Rattle.build_store.proofs.HeaderLoops.{record_more}
use Rattle.build_store.proofs.header_turn.records_of.Goals as goal

pub loop-number-preserved : goal.loop-number-preserved
loop-number-preserved g c =
    let so_far = c.loop-number.invariant in
    record {
      numbered = record_more (g.K.Keeper.records c.args.tree.now.kept) c.args.numbers.now c.loop-number.number-index c.loop-number.records c.push_record.new.records c.loop-number-test.true
          c.in_ok-push_record.ensures.numbered so_far.numbered;
      answered = c.in_ok-push_record.ensures.answered so_far.answered;
    }
