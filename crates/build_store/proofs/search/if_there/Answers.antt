use Rattle.std.proofs.Common.{true, false}
use Rattle.build_store.proofs.SearchFound.{candidate_asked}
use Rattle.build_store.proofs.search.if_there.Goals as goal

pub returns-then-is_absent-clause-came : goal.returns-then-is_absent-clause-came
returns-then-is_absent-clause-came g c more =
    candidate_asked (g.K.Keeper.records c.ask_path.new.tree.kept) c.args.numbers.now c.push.new.self c.args.path more c.in_ok-at.at c.record.result.now true
    c.record.ensures.record c.in_ok-at.ensures.fixed c.in_ok-push.ensures.ok c.if-is_absent.ensures

pub returns-clause-came : goal.returns-clause-came
returns-clause-came g c more =
    candidate_asked (g.K.Keeper.records c.ask_path.new.tree.kept) c.args.numbers.now c.push.new.self c.args.path more c.in_ok-at.at c.record.result.now false
    c.record.ensures.record c.in_ok-at.ensures.fixed c.in_ok-push.ensures.ok c.if-is_absent.ensures
