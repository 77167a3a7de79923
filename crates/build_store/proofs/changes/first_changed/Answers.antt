use Rattle.std.proofs.Common.{◌≡◌, ◌≢◌, Some, None, true, false, sym, subst, refl, rules, arith, length, slice_get}
use Rattle.std.proofs.lemmas.Option.{slice_get_read}
use Rattle.cm_outside.specs.declared.tree.TreeFault.TheVariants.{Failed}
use Rattle.build_store.specs.Changes.{Went, fault_of, same_answer}
use Rattle.build_store.proofs.ChangesWent.{fault_given, went_then, went_ended}
use Rattle.build_store.proofs.ChangesFirst.{all_past, changed_here, changed_past, numbered_more, own_answer, own_question}
use Rattle.build_store.proofs.changes.first_changed.Goals as goal

pub returns-in_err-number-clause-went : goal.returns-in_err-number-clause-went
returns-in_err-number-clause-went g c =
    let whole : Went g.T.Tree g.K.Keeper c.args.tree.now c.ask.new.tree (Some c.in_err-number.field-0.0) =
    went_then g.T.Tree g.K.Keeper c.args.tree.now c.loop-kept.tree c.ask.new.tree (Some c.in_err-number.field-0.0) c.loop-kept.invariant.went c.in_err-number.ensures.went in
    let same : Some c.in_err-number.field-0.0 ≡ fault_of c.from_residual.result = sym (fault_given c.from_residual.result c.in_err-number.field-0.0 c.from_residual.ensures.1) in
    subst (Went g.T.Tree g.K.Keeper c.args.tree.now c.ask.new.tree) same whole

pub returns-in_err-copy-clause-went : goal.returns-in_err-copy-clause-went
returns-in_err-copy-clause-went g c =
    let whole : Went g.T.Tree g.K.Keeper c.args.tree.now c.ask.new.tree None =
    went_then g.T.Tree g.K.Keeper c.args.tree.now c.loop-kept.tree c.ask.new.tree None c.loop-kept.invariant.went c.in_ok-number.ensures.went in
    let other : fault_of c.from_residual-in_err-copy.result ≢ Some Failed = search rules in
    went_ended g.T.Tree g.K.Keeper c.args.tree.now c.ask.new.tree _ other whole

pub returns-then-not-is_same-clause-went : goal.returns-then-not-is_same-clause-went
returns-then-not-is_same-clause-went g c =
    went_then g.T.Tree g.K.Keeper c.args.tree.now c.loop-kept.tree c.ask.new.tree None c.loop-kept.invariant.went c.in_ok-number.ensures.went

pub returns-then-not-is_same-clause-told : goal.returns-then-not-is_same-clause-told
returns-then-not-is_same-clause-told g c f h =
    let kept = c.kept-item.result in
    let now = c.record.result.now in
    let own : now.answer ≡ f kept.question = own_answer kept.question (f kept.question) (g.K.Keeper.records c.ask.new.tree.kept) c.in_ok-number.number now (c.in_ok-number.ensures.fixed f h) c.record.ensures.record in
    let there : slice_get c.args.records.now c.loop-kept.kept-index ≡ Some kept = slice_get_read c.args.records.now (length c.args.records.now) c.loop-kept.kept-index kept refl (omega arith) c.kept-item.is in
    let other : same_answer now.answer kept.answer ≡ false = rw (← c.is_same.ensures) (search (rules, c.if-not-is_same.true)) in
    changed_here f c.args.records.now c.loop-kept.kept-index kept now.answer c.in_ok-copy.field-0 there (c.loop-kept.invariant.so_far f (c.in_ok-number.ensures.went.back f h)) own other
    (rw c.in_ok-copy.ensures c.path.ensures)

pub returns-in_err-push-clause-went : goal.returns-in_err-push-clause-went
returns-in_err-push-clause-went g c =
    let whole : Went g.T.Tree g.K.Keeper c.args.tree.now c.ask.new.tree None =
    went_then g.T.Tree g.K.Keeper c.args.tree.now c.loop-kept.tree c.ask.new.tree None c.loop-kept.invariant.went c.in_ok-number.ensures.went in
    let other : fault_of c.from_residual-in_err-push.result ≢ Some Failed = search rules in
    went_ended g.T.Tree g.K.Keeper c.args.tree.now c.ask.new.tree _ other whole

pub loop-kept-preserved : goal.loop-kept-preserved
loop-kept-preserved g c =
    let kept = c.kept-item.result in
    let now = c.record.result.now in
    let there : slice_get c.args.records.now c.loop-kept.kept-index ≡ Some kept = slice_get_read c.args.records.now (length c.args.records.now) c.loop-kept.kept-index kept refl (omega arith) c.kept-item.is in
    let same : same_answer now.answer kept.answer ≡ true = rw (← c.is_same.ensures) (search (rules, c.if-not-is_same.false)) in
    record {
      went = went_then g.T.Tree g.K.Keeper c.args.tree.now c.loop-kept.tree c.ask.new.tree None c.loop-kept.invariant.went c.in_ok-number.ensures.went;
      so_far = λ f h.
          let own : now.answer ≡ f kept.question = own_answer kept.question (f kept.question) (g.K.Keeper.records c.ask.new.tree.kept) c.in_ok-number.number now (c.in_ok-number.ensures.fixed f h) c.record.ensures.record in
          changed_past f c.args.records.now c.loop-kept.kept-index kept now.answer there (c.loop-kept.invariant.so_far f (c.in_ok-number.ensures.went.back f h)) own same;
      numbered = rw c.in_ok-push.ensures.ok (numbered_more (g.K.Keeper.records c.loop-kept.tree.kept) (g.K.Keeper.records c.ask.new.tree.kept) c.args.records.now c.loop-kept.numbers c.loop-kept.kept-index c.in_ok-number.number kept now
          c.in_ok-number.ensures.went.grew c.loop-kept.invariant.numbered there c.record.ensures.record
          (own_question kept.question (g.K.Keeper.records c.loop-kept.tree.kept) (g.K.Keeper.records c.ask.new.tree.kept) c.in_ok-number.number now c.in_ok-number.ensures.asked c.record.ensures.record) same);
    }

pub returns-clause-told : goal.returns-clause-told
returns-clause-told g c f h = all_past f c.args.records.now c.loop-kept.kept-index c.loop-kept-test.false (c.loop-kept.invariant.so_far f h)
