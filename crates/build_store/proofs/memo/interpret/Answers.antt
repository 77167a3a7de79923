-- The first module is begun, each turn goes on, and when no module waits all have ended.
use Rattle.std.proofs.Common.{◌≡◌, ◌∷◌, ◌∙◌, List, [], ℕ, ap, subst, arith, reverse}
use Rattle.cm_outside.specs.declared.question.Question.{Question}
use Rattle.cm_outside.specs.declared.question.Answer.{Answer}
use Rattle.cm_outside.specs.Asks.{begun}
use Rattle.build_store.specs.Modules.{mod_of}
use Rattle.build_store.specs.Order.{with_new}
use Rattle.build_store.specs.Turning.{AreInProgress, Runs, unknowns}
use Rattle.build_store.proofs.MemoGoing.{Going, going_on, going_stays, going_left}
use Rattle.build_store.proofs.MemoRuns.{moved_after, unknowns_falls, progress_none, progress_begins, runs_begin, reverse_first, reverse_one}
use Rattle.build_store.proofs.memo.interpret.Goals as goal

pub loop-top-init : goal.loop-top-init
loop-top-init g c =
    let a = g.H.Turns.state (c.args.held.now, c.args.tree.now, c.args.cache.now, c.args.steps.now) in
    let b = g.H.Turns.state (c.begin.new.self, c.begin.new.tree, c.begin.new.cache, c.begin.new.steps) in
    let begin = c.in_ok-begin.ensures in
    let room = g.met.H.Turns.room (c.args.held.now, c.args.tree.now, c.args.cache.now, c.args.steps.now) c.requires.well c.args.number c.requires.new.top in
    let chain : c.args.number ∷ [] ≡ reverse c.push.new.self.items = reverse_first c.new-importers.result.items c.push.new.self.items c.args.number c.new-importers.ensures.items c.in_ok-push.ensures.items in
    let P : List ℕ → Type 0 = λ w. AreInProgress b w in
    let falls = unknowns_falls a.slots c.args.number c.requires.new.unknown room in
    let same = ap unknowns begin.slots in
    let len = c.in_ok-push.ensures.len in (
      record {
        is_well = begin.well;
        is_same = begin.same;
        moved = begin.moved;
        all_went = begin.went;
        told_all = begin.tells;
        progress = subst P chain (progress_begins a b [] c.args.number (progress_none a) c.requires.new room begin.moved begin.slots);
        runs = λ t agrees trust rests.
            let Q : List ℕ → Type 0 = λ w. Runs b t w (with_new a.noted (begun (mod_of a.plan [] c.args.number) t)) in
            subst Q chain (runs_begin a b t begin.moved agrees c.args.number rests c.requires.new room begin.slots begin.noted (begin.decided t agrees trust));
        stays = λ told honest t agrees rests. begin.stays told honest;
        left = λ t agrees trust rests. begin.left;
        behind_all = λ t agrees trust rests. begin.behind t agrees;
      },
      omega arith,
    )

pub loop-top-preserved : goal.loop-top-preserved
loop-top-preserved g c =
    let a = g.H.Turns.state (c.args.held.now, c.args.tree.now, c.args.cache.now, c.args.steps.now) in
    let end : (Question → Answer) → List ℕ = λ t. with_new a.noted (begun (mod_of a.plan [] c.args.number) t) in
    let chain = c.in-Some.top ∷ reverse c.pop.new.self.items in
    let same_chain : reverse c.loop-top.importers.items ≡ chain = ap reverse c.in-Some.ensures.items ∙ reverse_one c.pop.new.self.items c.in-Some.top in
    let P : List ℕ → Type 0 = λ w. Going g.H.Turns.state g.H.Turns.well g.H.Turns.same g.H.Turns.leaves g.H.Turns.went g.H.Turns.tells g.H.Turns.behind (c.args.held.now, c.args.tree.now, c.args.cache.now, c.args.steps.now) (c.loop-top.held, c.loop-top.tree, c.loop-top.cache, c.loop-top.steps) w end in
    let going = subst P same_chain c.loop-top.invariant.0 in
    let step = c.in_ok-step.ensures in
    let len = c.in-Some.ensures.len in
    let less = c.loop-top.invariant.1 in
    let fewer = step.fewer in (
      going_on g.H.Turns.state g.H.Turns.well g.H.Turns.same g.H.Turns.leaves g.H.Turns.went g.H.Turns.tells g.H.Turns.behind (c.args.held.now, c.args.tree.now, c.args.cache.now, c.args.steps.now) (c.loop-top.held, c.loop-top.tree, c.loop-top.cache, c.loop-top.steps) (c.step.new.held, c.step.new.tree, c.step.new.cache, c.step.new.steps) chain end going step.moved (reverse c.step.new.importers.items)
          step.well g.met.H.Turns.same_after step.same step.progress g.met.H.Turns.went_after step.went g.met.H.Turns.tells_after step.tells step.runs step.stays g.met.H.Turns.leaves_after step.left g.met.H.Turns.behind_after step.behind,
      omega arith,
    )

pub returns-in_err-step-clause-moved : goal.returns-in_err-step-clause-moved
returns-in_err-step-clause-moved g c =
    moved_after (g.H.Turns.state (c.args.held.now, c.args.tree.now, c.args.cache.now, c.args.steps.now)) (g.H.Turns.state (c.loop-top.held, c.loop-top.tree, c.loop-top.cache, c.loop-top.steps)) (g.H.Turns.state (c.step.new.held, c.step.new.tree, c.step.new.cache, c.step.new.steps)) c.loop-top.invariant.0.moved c.step.ensures.moved

pub returns-in_err-step-clause-stays : goal.returns-in_err-step-clause-stays
returns-in_err-step-clause-stays g c =
    let a = g.H.Turns.state (c.args.held.now, c.args.tree.now, c.args.cache.now, c.args.steps.now) in
    let end : (Question → Answer) → List ℕ = λ t. with_new a.noted (begun (mod_of a.plan [] c.args.number) t) in
    let chain = c.in-Some.top ∷ reverse c.pop.new.self.items in
    let same_chain : reverse c.loop-top.importers.items ≡ chain = ap reverse c.in-Some.ensures.items ∙ reverse_one c.pop.new.self.items c.in-Some.top in
    let P : List ℕ → Type 0 = λ w. Going g.H.Turns.state g.H.Turns.well g.H.Turns.same g.H.Turns.leaves g.H.Turns.went g.H.Turns.tells g.H.Turns.behind (c.args.held.now, c.args.tree.now, c.args.cache.now, c.args.steps.now) (c.loop-top.held, c.loop-top.tree, c.loop-top.cache, c.loop-top.steps) w end in
    let going = subst P same_chain c.loop-top.invariant.0 in
    going_stays g.H.Turns.state g.H.Turns.well g.H.Turns.same g.H.Turns.leaves g.H.Turns.went g.H.Turns.tells g.H.Turns.behind (c.args.held.now, c.args.tree.now, c.args.cache.now, c.args.steps.now) (c.loop-top.held, c.loop-top.tree, c.loop-top.cache, c.loop-top.steps) (c.step.new.held, c.step.new.tree, c.step.new.cache, c.step.new.steps) chain end going c.step.ensures.moved c.step.ensures.stays

pub returns-in_err-step-clause-left : goal.returns-in_err-step-clause-left
returns-in_err-step-clause-left g c =
    let a = g.H.Turns.state (c.args.held.now, c.args.tree.now, c.args.cache.now, c.args.steps.now) in
    let end : (Question → Answer) → List ℕ = λ t. with_new a.noted (begun (mod_of a.plan [] c.args.number) t) in
    let chain = c.in-Some.top ∷ reverse c.pop.new.self.items in
    let same_chain : reverse c.loop-top.importers.items ≡ chain = ap reverse c.in-Some.ensures.items ∙ reverse_one c.pop.new.self.items c.in-Some.top in
    let P : List ℕ → Type 0 = λ w. Going g.H.Turns.state g.H.Turns.well g.H.Turns.same g.H.Turns.leaves g.H.Turns.went g.H.Turns.tells g.H.Turns.behind (c.args.held.now, c.args.tree.now, c.args.cache.now, c.args.steps.now) (c.loop-top.held, c.loop-top.tree, c.loop-top.cache, c.loop-top.steps) w end in
    let going = subst P same_chain c.loop-top.invariant.0 in
    going_left g.H.Turns.state g.H.Turns.well g.H.Turns.same g.H.Turns.leaves g.H.Turns.went g.H.Turns.tells g.H.Turns.behind (c.args.held.now, c.args.tree.now, c.args.cache.now, c.args.steps.now) (c.loop-top.held, c.loop-top.tree, c.loop-top.cache, c.loop-top.steps) (c.step.new.held, c.step.new.tree, c.step.new.cache, c.step.new.steps) chain end going c.step.ensures.moved
    g.met.H.Turns.leaves_after c.step.ensures.left
