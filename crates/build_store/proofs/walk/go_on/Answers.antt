use Rattle.build_store.proofs.WalkStages.{fold_down}
use Rattle.build_store.proofs.walk.go_on.Goals as goal

pub returns-in-Ok-clause-shorter : goal.returns-in-Ok-clause-shorter
returns-in-Ok-clause-shorter c =
    let made = c.in-Ok.ensures in
    let fold = c.args.fold.now in
    fold_down fold.owner fold.progress fold.stage c.args.given c.in-Ok.event c.advance.new.self made.head made.waits made.stands made.shorter
