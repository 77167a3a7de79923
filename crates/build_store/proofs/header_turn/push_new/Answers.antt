use Rattle.std.proofs.Common.{◌<◌, ℕ, List, true, length, set, sym, subst, arith}
use Rattle.build_store.specs.Headers.{MarksEach}
use Rattle.build_store.proofs.HeaderLoops.{marks_set}
use Rattle.build_store.proofs.header_turn.push_new.Goals as goal

pub returns-clause-marks : goal.returns-clause-marks
returns-clause-marks c marks =
    let flags = c.args.seen.now.items in
    let less : c.args.number < length flags = omega arith in
    let P : List ℕ → Type 0 = MarksEach (set flags c.args.number true) in
    subst P (sym c.in_ok-push.ensures.ok) (marks_set flags c.args.once.now c.args.number marks less)
