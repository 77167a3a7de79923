use Rattle.std.proofs.Common.{◌<◌, ◌∙◌, ℕ, get_or, sym, subst}
use Rattle.build_store.proofs.HeaderLoops.{once_more}
use Rattle.build_store.proofs.header_turn.each_once.Goals as goal

pub loop-number-preserved : goal.loop-number-preserved
loop-number-preserved c =
    let so_far = c.loop-number.invariant in
    let numbers = c.args.numbers.now in
    let at = c.loop-number.number-index in
    let P : ℕ → Type 0 = λ n. get_or numbers at 0 < n in
    record {
      len = c.push_new.ensures.len ∙ so_far.len;
      marks = c.in_ok-push_new.ensures.marks so_far.marks;
      once = once_more c.args.size numbers at c.loop-number.once c.push_new.new.once c.loop-number-test.true
          (λ below. c.in_ok-push_new.ensures.once so_far.marks (subst P (sym so_far.len) below)) so_far.once;
    }
