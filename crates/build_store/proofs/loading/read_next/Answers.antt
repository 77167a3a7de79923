use Rattle.std.proofs.Common.{◌≡◌, ap, ◌∙◌}
use Rattle.build_store.specs.Tables.{map_of}
use Rattle.build_store.proofs.TableRead.{map_asked, map_passed}
use Rattle.build_store.proofs.loading.read_next.Goals as goal

pub returns-then-is_read-clause-came : goal.returns-then-is_read-clause-came
returns-then-is_read-clause-came g c maps = map_passed (g.K.Keeper.records c.args.tree.now.kept) c.args.numbers.now c.args.read.now c.args.map.now maps (rw c.items.ensures at c.if-is_read.ensures)

pub returns-clause-came : goal.returns-clause-came
returns-clause-came g c maps =
    let made : c.in_ok-next.next ≡ map_of c.args.read.now c.args.map.now c.record.result.now.answer = c.in_ok-next.ensures ∙ ap (λ rs. map_of rs c.args.map.now c.record.result.now.answer) c.items-2.ensures in
    map_asked (g.K.Keeper.records c.ask_path.new.tree.kept) c.args.numbers.now c.push.new.self c.args.read.now c.push-2.new.self c.args.map.now maps c.in_ok-at.at c.record.result.now c.in_ok-next.next
    c.record.ensures.record c.in_ok-at.ensures.fixed c.in_ok-push.ensures.ok (rw c.items.ensures at c.if-is_read.ensures) made c.in_ok-push-2.ensures.ok
