-- Each name is found as the table finds it, as far as the table was gone through.
use Rattle.build_store.proofs.NameNumbers.{next}
use Rattle.build_store.proofs.name_index.NameIndex.new.Goals as goal

pub loop-number-preserved : goal.loop-number-preserved
loop-number-preserved c =
    next c.loop-number.names c.push.new.self c.items-targets.result.now c.index-targets-number.result c.text.result.now c.loop-number.number c.loop-number-test.true c.text.ensures c.in_ok-push.ensures
    c.loop-number.invariant
