use Rattle.build_store.proofs.HeaderEnds.{fresh_by}
use Rattle.build_store.proofs.header_turn.fresh.Goals as goal

pub returns-clause-built : goal.returns-clause-built
returns-clause-built g c t chain end walked =
    fresh_by (g.K.Keeper.records c.args.tree.now.kept) c.args.held.now c.args.number c.args.part.now c.args.numbers.now c.requires.number c.len.ensures.kept
    c.len.result c.len-2.result c.in_ok-asked.asked c.in_ok-all.all c.in_ok-needs.needs c.items-3.result.now c.items-2.result.now c.items-4.result.now c.items.result.now
    c.in_ok-records.records c.in_ok-index.index
    c.len.ensures.len c.len-2.ensures c.items.ensures c.items-3.ensures c.items-2.ensures c.items-4.ensures
    c.in_ok-asked.ensures c.in_ok-all.ensures c.in_ok-needs.ensures c.in_ok-records.ensures.numbered c.in_ok-index.ensures t chain end walked
