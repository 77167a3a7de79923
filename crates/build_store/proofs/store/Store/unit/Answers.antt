use Rattle.std.proofs.Common.{refl}
use Rattle.build_store.proofs.StoreAnswers.{text_since}
use Rattle.build_store.proofs.store.Store.unit.Goals as goal

pub returns-clause-out : goal.returns-clause-out
returns-clause-out g c t agrees trust rests =
    let e = c.in_ok-items.ensures in
    let again = e.rests t agrees trust rests in
    let store = e.store in
    text_since (g.K.Keeper.records c.unit_over.new.tree.kept) c.args.self.now.held c.unit_over.new.held t store.places again.0 e.job c.args.path.now again.1
    c.len-begun_before.result c.args.path.now c.in_ok-items.items c.items-2.result.now c.in_ok-text.text.out.items c.len-begun_before.ensures refl c.items-2.ensures (e.items t agrees trust rests) c.in_ok-text.ensures.out
