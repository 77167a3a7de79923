-- A turn of the module on top: another one is begun above it, or it ends.
use Rattle.std.proofs.Common.{◌∷◌, ◌∙◌, ap, refl, subst, arith, reverse}
use Rattle.std.proofs.lemmas.Result.{on_ok_weaker}
use Rattle.build_store.specs.Turning.{IsTurn, slots_after, one_if_unknown, unknowns}
use Rattle.build_store.specs.declared.slot.Turn.{Turn}
use Rattle.build_store.specs.declared.slot.Slot.TheVariants.{Cyclic as IsCyclic, Good as IsGood}
use Rattle.build_store.proofs.ListLemmas.{in_head}
use Rattle.build_store.proofs.MemoRuns.{moved_after, next_of, runs_cyclic, runs_good, runs_still, trusted_first, trusted_second, unknowns_same}
use Rattle.build_store.proofs.memo.step.Goals as goal

pub returns-in_err-number-clause-stays : goal.returns-in_err-number-clause-stays
returns-in_err-number-clause-stays g c told honest t end agrees runs = c.turn.ensures.stays told honest t (reverse c.args.importers.now.items) end agrees runs

pub returns-in_err-number-clause-left : goal.returns-in_err-number-clause-left
returns-in_err-number-clause-left g c t end agrees trust runs = c.turn.ensures.left t (reverse c.args.importers.now.items) end agrees trust runs

pub returns-in-Needs-clause-moved : goal.returns-in-Needs-clause-moved
returns-in-Needs-clause-moved g c =
    moved_after (g.H.Turns.state (c.args.held.now, c.args.tree.now, c.args.cache.now, c.args.steps.now)) (g.H.Turns.state (c.turn.new.self, c.turn.new.tree, c.turn.new.cache, c.turn.new.steps)) (g.H.Turns.state (c.start.new.held, c.start.new.tree, c.start.new.cache, c.start.new.steps)) c.turn.ensures.moved c.start.ensures.moved

pub returns-in-Needs-clause-runs : goal.returns-in-Needs-clause-runs
returns-in-Needs-clause-runs g c =
    let a = g.H.Turns.state (c.args.held.now, c.args.tree.now, c.args.cache.now, c.args.steps.now) in
    let b = g.H.Turns.state (c.turn.new.self, c.turn.new.tree, c.turn.new.cache, c.turn.new.steps) in
    let d = g.H.Turns.state (c.start.new.held, c.start.new.tree, c.start.new.cache, c.start.new.steps) in
    let chain = reverse c.args.importers.now.items in
    let turn = c.in_ok-number.ensures in
    let slots = turn.slots ∙ ap (λ turn. slots_after turn c.args.top a.slots) c.in-Needs.is in
    on_ok_weaker c.start.result
    (λ h t end agrees trust runs.
    let back = c.start.ensures.moved.back t agrees in
    let first = trusted_first a b d turn.moved c.start.ensures.moved trust in
    let second = trusted_second a b d turn.moved (λ told honest. turn.stays told honest t chain end back runs) trust in
    let P : Turn → Type 0 = λ w. IsTurn a t chain c.args.top (b.holds t c.args.top) w in
    let next = subst P c.in-Needs.is (turn.turn t chain end back first runs) in
    h t end agrees second (runs_still a b t turn.moved back (c.args.top ∷ chain) end runs slots turn.noted)
    (next_of a b t chain c.args.top c.in-Needs.number turn.moved slots turn.noted next))
    c.start.ensures.runs

pub returns-in-Needs-clause-stays : goal.returns-in-Needs-clause-stays
returns-in-Needs-clause-stays g c told honest t end agrees runs =
    let first = c.turn.ensures.stays told honest t (reverse c.args.importers.now.items) end (c.start.ensures.moved.back t agrees) runs in
    c.start.ensures.stays (c.turn.ensures.moved.told ∙ told) first

pub returns-in-Needs-clause-left : goal.returns-in-Needs-clause-left
returns-in-Needs-clause-left g c t end agrees trust runs =
    let first = trusted_first (g.H.Turns.state (c.args.held.now, c.args.tree.now, c.args.cache.now, c.args.steps.now)) (g.H.Turns.state (c.turn.new.self, c.turn.new.tree, c.turn.new.cache, c.turn.new.steps)) (g.H.Turns.state (c.start.new.held, c.start.new.tree, c.start.new.cache, c.start.new.steps)) c.turn.ensures.moved c.start.ensures.moved trust in
    g.met.H.Turns.leaves_after (c.args.held.now, c.args.tree.now, c.args.cache.now, c.args.steps.now) (c.turn.new.self, c.turn.new.tree, c.turn.new.cache, c.turn.new.steps) (c.start.new.held, c.start.new.tree, c.start.new.cache, c.start.new.steps)
    (c.turn.ensures.left t (reverse c.args.importers.now.items) end (c.start.ensures.moved.back t agrees) first runs) c.start.ensures.left

pub returns-in-Cyclic-clause-fewer : goal.returns-in-Cyclic-clause-fewer
returns-in-Cyclic-clause-fewer g c =
    let a = g.H.Turns.state (c.args.held.now, c.args.tree.now, c.args.cache.now, c.args.steps.now) in
    let slots = c.in_ok-number.ensures.slots ∙ ap (λ turn. slots_after turn c.args.top a.slots) c.in-Cyclic.is in
    let none = ap one_if_unknown (c.requires.progress.busy c.args.top (in_head c.args.top (reverse c.args.importers.now.items))) in
    let same = ap unknowns slots ∙ unknowns_same a.slots c.args.top IsCyclic none refl in
    omega arith

pub returns-in-Cyclic-clause-runs : goal.returns-in-Cyclic-clause-runs
returns-in-Cyclic-clause-runs g c t end agrees trust runs =
    let a = g.H.Turns.state (c.args.held.now, c.args.tree.now, c.args.cache.now, c.args.steps.now) in
    let b = g.H.Turns.state (c.turn.new.self, c.turn.new.tree, c.turn.new.cache, c.turn.new.steps) in
    let chain = reverse c.args.importers.now.items in
    let turn = c.in_ok-number.ensures in
    let room = g.met.H.Turns.room (c.args.held.now, c.args.tree.now, c.args.cache.now, c.args.steps.now) c.requires.well c.args.top (c.requires.progress.tops c.args.top (in_head c.args.top chain)) in
    let slots = turn.slots ∙ ap (λ turn. slots_after turn c.args.top a.slots) c.in-Cyclic.is in
    let P : Turn → Type 0 = λ w. IsTurn a t chain c.args.top (b.holds t c.args.top) w in
    runs_cyclic a b t turn.moved agrees chain end c.args.top runs (subst P c.in-Cyclic.is (turn.turn t chain end agrees trust runs)) room slots turn.noted

pub returns-in-Cyclic-clause-stays : goal.returns-in-Cyclic-clause-stays
returns-in-Cyclic-clause-stays g c told honest t end agrees runs = c.turn.ensures.stays told honest t (reverse c.args.importers.now.items) end agrees runs

pub returns-in-Cyclic-clause-left : goal.returns-in-Cyclic-clause-left
returns-in-Cyclic-clause-left g c t end agrees trust runs = c.turn.ensures.left t (reverse c.args.importers.now.items) end agrees trust runs

pub returns-in-Good-clause-fewer : goal.returns-in-Good-clause-fewer
returns-in-Good-clause-fewer g c =
    let a = g.H.Turns.state (c.args.held.now, c.args.tree.now, c.args.cache.now, c.args.steps.now) in
    let slots = c.in_ok-number.ensures.slots ∙ ap (λ turn. slots_after turn c.args.top a.slots) c.in-Good.is in
    let none = ap one_if_unknown (c.requires.progress.busy c.args.top (in_head c.args.top (reverse c.args.importers.now.items))) in
    let same = ap unknowns slots ∙ unknowns_same a.slots c.args.top IsGood none refl in
    omega arith

pub returns-in-Good-clause-runs : goal.returns-in-Good-clause-runs
returns-in-Good-clause-runs g c t end agrees trust runs =
    let a = g.H.Turns.state (c.args.held.now, c.args.tree.now, c.args.cache.now, c.args.steps.now) in
    let b = g.H.Turns.state (c.turn.new.self, c.turn.new.tree, c.turn.new.cache, c.turn.new.steps) in
    let chain = reverse c.args.importers.now.items in
    let turn = c.in_ok-number.ensures in
    let room = g.met.H.Turns.room (c.args.held.now, c.args.tree.now, c.args.cache.now, c.args.steps.now) c.requires.well c.args.top (c.requires.progress.tops c.args.top (in_head c.args.top chain)) in
    let slots = turn.slots ∙ ap (λ turn. slots_after turn c.args.top a.slots) c.in-Good.is in
    let P : Turn → Type 0 = λ w. IsTurn a t chain c.args.top (b.holds t c.args.top) w in
    let ended = subst P c.in-Good.is (turn.turn t chain end agrees trust runs) in
    runs_good a b t turn.moved agrees chain end c.args.top runs ended.0 ended.1 ended.2 room slots turn.noted

pub returns-in-Good-clause-stays : goal.returns-in-Good-clause-stays
returns-in-Good-clause-stays g c told honest t end agrees runs = c.turn.ensures.stays told honest t (reverse c.args.importers.now.items) end agrees runs

pub returns-in-Good-clause-left : goal.returns-in-Good-clause-left
returns-in-Good-clause-left g c t end agrees trust runs = c.turn.ensures.left t (reverse c.args.importers.now.items) end agrees trust runs

pub returns-in-Needs-clause-tells : goal.returns-in-Needs-clause-tells
returns-in-Needs-clause-tells g c =
    on_ok_weaker c.start.result
    (λ h t agrees. g.met.H.Turns.tells_after t (c.args.held.now, c.args.tree.now, c.args.cache.now, c.args.steps.now) (c.turn.new.self, c.turn.new.tree, c.turn.new.cache, c.turn.new.steps) (c.start.new.held, c.start.new.tree, c.start.new.cache, c.start.new.steps) (c.in_ok-number.ensures.tells t (c.start.ensures.moved.back t agrees)) (h t agrees))
    c.start.ensures.tells

pub returns-in-Needs-clause-behind : goal.returns-in-Needs-clause-behind
returns-in-Needs-clause-behind g c =
    let a = g.H.Turns.state (c.args.held.now, c.args.tree.now, c.args.cache.now, c.args.steps.now) in
    let b = g.H.Turns.state (c.turn.new.self, c.turn.new.tree, c.turn.new.cache, c.turn.new.steps) in
    let d = g.H.Turns.state (c.start.new.held, c.start.new.tree, c.start.new.cache, c.start.new.steps) in
    on_ok_weaker c.start.result
    (λ h t end agrees trust runs.
    g.met.H.Turns.behind_after t (c.args.held.now, c.args.tree.now, c.args.cache.now, c.args.steps.now) (c.turn.new.self, c.turn.new.tree, c.turn.new.cache, c.turn.new.steps) (c.start.new.held, c.start.new.tree, c.start.new.cache, c.start.new.steps)
    (c.in_ok-number.ensures.behind t (reverse c.args.importers.now.items) end (c.start.ensures.moved.back t agrees) (trusted_first a b d c.turn.ensures.moved c.start.ensures.moved trust) runs) (h t agrees))
    c.start.ensures.behind

pub returns-in-Cyclic-clause-behind : goal.returns-in-Cyclic-clause-behind
returns-in-Cyclic-clause-behind g c t end agrees trust runs = c.in_ok-number.ensures.behind t (reverse c.args.importers.now.items) end agrees trust runs

pub returns-in-Good-clause-behind : goal.returns-in-Good-clause-behind
returns-in-Good-clause-behind g c t end agrees trust runs = c.in_ok-number.ensures.behind t (reverse c.args.importers.now.items) end agrees trust runs
