use Rattle.std.proofs.Common.{length}
use Rattle.build_store.proofs.BuildEnds.{new_store}
use Rattle.build_store.proofs.StoreAnswers.{new_begun, new_rests}
use Rattle.build_store.proofs.store.Store.new.Goals as goal

pub returns-clause-begun : goal.returns-clause-begun
returns-clause-begun c = new_begun c.in_ok-held.held (length c.args.table.targets) c.in_ok-held.ensures.slots c.in_ok-held.ensures.noted

pub returns-clause-rests : goal.returns-clause-rests
returns-clause-rests c kept t = new_rests c.in_ok-held.held (length c.args.table.targets) c.in_ok-held.ensures.slots c.in_ok-held.ensures.noted kept t

pub returns-clause-store : goal.returns-clause-store
returns-clause-store c kept of_maps once =
    let made = c.in_ok-held.ensures in
    new_store kept c.in_ok-held.held c.args.job c.args.table c.args.maps (made.job, made.table, made.maps) made.places made.noted
    (λ older t. new_rests c.in_ok-held.held (length c.args.table.targets) made.slots made.noted older t) of_maps once
