-- The module that is begun stands above the one that needs it, and of one module fewer nothing is known.
use Rattle.std.proofs.Common.{◌∷◌, List, ℕ, ap, sym, subst, arith, reverse}
use Rattle.build_store.specs.Turning.{AreInProgress, Runs, unknowns}
use Rattle.build_store.proofs.MemoRuns.{unknowns_falls, progress_begins, runs_start, reverse_two}
use Rattle.build_store.proofs.memo.start.Goals as goal

pub returns-clause-progress : goal.returns-clause-progress
returns-clause-progress g c =
    let a = g.H.Turns.state (c.args.held.now, c.args.tree.now, c.args.cache.now, c.args.steps.now) in
    let b = g.H.Turns.state (c.begin.new.self, c.begin.new.tree, c.begin.new.cache, c.begin.new.steps) in
    let room = g.met.H.Turns.room (c.args.held.now, c.args.tree.now, c.args.cache.now, c.args.steps.now) c.requires.well c.args.number c.requires.new.top in
    let items = c.args.importers.now.items in
    let P : List ℕ → Type 0 = λ chain. AreInProgress b chain in
    subst P (sym (reverse_two items c.push.new.self.items c.push-2.new.self.items c.args.top c.args.number c.in_ok-push.ensures.items c.in_ok-push-2.ensures.items))
    (progress_begins a b (c.args.top ∷ reverse items) c.args.number c.requires.progress c.requires.new room c.in_ok-begin.ensures.moved c.in_ok-begin.ensures.slots)

pub returns-clause-fewer : goal.returns-clause-fewer
returns-clause-fewer g c =
    let a = g.H.Turns.state (c.args.held.now, c.args.tree.now, c.args.cache.now, c.args.steps.now) in
    let room = g.met.H.Turns.room (c.args.held.now, c.args.tree.now, c.args.cache.now, c.args.steps.now) c.requires.well c.args.number c.requires.new.top in
    let falls = unknowns_falls a.slots c.args.number c.requires.new.unknown room in
    let same = ap unknowns c.in_ok-begin.ensures.slots in
    let one = c.in_ok-push.ensures.len in
    let two = c.in_ok-push-2.ensures.len in
    omega arith

pub returns-clause-runs : goal.returns-clause-runs
returns-clause-runs g c t end agrees trust runs next =
    let a = g.H.Turns.state (c.args.held.now, c.args.tree.now, c.args.cache.now, c.args.steps.now) in
    let b = g.H.Turns.state (c.begin.new.self, c.begin.new.tree, c.begin.new.cache, c.begin.new.steps) in
    let room = g.met.H.Turns.room (c.args.held.now, c.args.tree.now, c.args.cache.now, c.args.steps.now) c.requires.well c.args.number c.requires.new.top in
    let items = c.args.importers.now.items in
    let begin = c.in_ok-begin.ensures in
    let P : List ℕ → Type 0 = λ chain. Runs b t chain end in
    subst P (sym (reverse_two items c.push.new.self.items c.push-2.new.self.items c.args.top c.args.number c.in_ok-push.ensures.items c.in_ok-push-2.ensures.items))
    (runs_start a b t begin.moved agrees (reverse items) end c.args.top c.args.number runs next room begin.slots begin.noted (begin.decided t agrees trust))
