use Rattle.build_store.proofs.StoreAnswers.{part_needed}
use Rattle.build_store.proofs.store.Store.need.Goals as goal

pub returns-clause-part : goal.returns-clause-part
returns-clause-part g c t agrees trust rests =
    let e = c.in_ok-view.ensures in
    let again = e.rests t agrees trust rests in
    let store = e.store in
    part_needed (g.K.Keeper.records c.need_over.new.tree.kept) c.args.self.now.held c.need_over.new.held t store.places again.0 e.job c.args.number again.1
