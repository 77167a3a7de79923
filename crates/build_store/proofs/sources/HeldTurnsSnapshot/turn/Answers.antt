use Rattle.std.proofs.Common.{◌∷◌, ℕ, List, ap, arith, is_some, length}
use Rattle.cm_outside.specs.Asks.{Agrees}
use Rattle.cm_outside.specs.declared.question.Question.{Question}
use Rattle.cm_outside.specs.declared.question.Answer.{Answer}
use Rattle.module_file.specs.ModuleFile.{file_name_of}
use Rattle.build_store.specs.Held.{Holds, HeldRuns, IsHeldTurn, IsTableOf, key_held, setting_of_held, state_held}
use Rattle.build_store.specs.Telling.{Tells, state_of}
use Rattle.build_store.specs.Turning.{IsTrusted, IsTurn, NeedsNew, Runs}
use Rattle.build_store.specs.declared.held.Noted.{Noted}
use Rattle.build_store.proofs.ChangesWent.{went_cause}
use Rattle.build_store.proofs.PlanLemmas.{of_top}
use Rattle.build_store.proofs.SourceTurns.{behind_turn, busy_begun, if_ok, moved_turn, needs_new, on_any, runs_held, store_turned, told_others, turn_of}
use Rattle.build_store.proofs.TellingLemmas.{tells_turned}
use Rattle.build_store.proofs.sources.HeldTurnsSnapshot.turn.Goals as goal

pub turn_module-requires : goal.turn_module-requires
turn_module-requires g c = record {
  places = (let store = c.requires.well.0 in store.places);
  number = of_top (setting_of_held c.args.self.now) c.args.number c.requires.top;
  busy = c.requires.busy;
}

pub returns-clause-well : goal.returns-clause-well
returns-clause-well g c =
    store_turned (g.K.Keeper.records c.args.tree.now.kept) (g.K.Keeper.records c.turn_module.new.tree.kept) c.args.self.now c.turn_module.new.held c.args.number c.requires.well.0 c.turn_module.ensures.went.grew c.turn_module.ensures.went.back c.turn_module.ensures.went.kept c.turn_module.result c.turn_module.ensures.on c.turn_module.ensures.noted c.requires.busy c.turn_module.ensures.places c.turn_module.ensures.slots c.turn_module.ensures.chosen

pub returns-clause-same : goal.returns-clause-same
returns-clause-same g c =
    let on = c.turn_module.ensures.on in
    let noted = ap (λ (ns : List Noted). length ns) c.turn_module.ensures.noted in
    (on.job, on.table, c.turn_module.ensures.later, omega (arith, noted))

pub returns-clause-tells : goal.returns-clause-tells
returns-clause-tells g c =
    let store = c.requires.well.0 in
    let on = c.turn_module.ensures.on in
    let noted = busy_begun c.args.self.now c.args.number store.begun c.requires.busy in
    on_any c.turn_module.result ((t : Question → Answer) → Agrees t (g.K.Keeper.records c.turn_module.new.tree.kept) → Tells (g.C.Cache.files c.args.cache.now) (g.C.Cache.files c.turn_module.new.cache) c.args.self.now c.turn_module.new.held t c.args.steps.now.compiles c.args.steps.now.compiles (g.C.Cache.faults c.args.cache.now) (g.C.Cache.faults c.turn_module.new.cache))
    (λ t agrees. tells_turned (g.C.Cache.files c.args.cache.now) (g.C.Cache.files c.turn_module.new.cache) c.args.self.now c.turn_module.new.held c.args.number t c.args.steps.now.compiles (g.C.Cache.faults c.args.cache.now) (g.C.Cache.faults c.turn_module.new.cache)
    on.job on.table c.turn_module.ensures.noted (of_top (setting_of_held c.args.self.now) c.args.number c.requires.top) noted c.turn_module.ensures.later c.turn_module.ensures.others)

pub returns-clause-moved : goal.returns-clause-moved
returns-clause-moved g c =
    moved_turn (g.K.Keeper.records c.args.tree.now.kept) (g.K.Keeper.records c.turn_module.new.tree.kept) (is_some (g.C.Cache.files c.args.cache.now)) (is_some (g.C.Cache.files c.turn_module.new.cache)) (g.C.Cache.honest c.args.cache.now) (g.C.Cache.honest c.turn_module.new.cache)
    (g.T.Tree.faults c.args.tree.now.tree.now) (g.T.Tree.faults c.turn_module.new.tree.tree.now) c.turn_module.ensures.went.back (told_others (file_name_of (key_held c.args.self.now c.args.number)) (g.C.Cache.files c.args.cache.now) (g.C.Cache.files c.turn_module.new.cache) c.turn_module.ensures.others) c.turn_module.ensures.back c.turn_module.ensures.went.later c.args.self.now c.turn_module.new.held c.turn_module.ensures.on c.turn_module.ensures.noted

pub returns-clause-unknown : goal.returns-clause-unknown
returns-clause-unknown g c =
    if_ok c.turn_module.result (NeedsNew (state_held (g.K.Keeper.records c.args.tree.now.kept) c.args.self.now)) (NeedsNew (state_of (g.K.Keeper.records c.args.tree.now.kept) c.args.self.now (is_some (g.C.Cache.files c.args.cache.now)) (g.C.Cache.honest c.args.cache.now) (g.T.Tree.faults c.args.tree.now.tree.now)))
    (λ turn h. needs_new (g.K.Keeper.records c.args.tree.now.kept) c.args.self.now (is_some (g.C.Cache.files c.args.cache.now)) (g.C.Cache.honest c.args.cache.now) (g.T.Tree.faults c.args.tree.now.tree.now) turn h) c.turn_module.ensures.unknown

pub returns-clause-turn : goal.returns-clause-turn
returns-clause-turn g c =
    if_ok c.turn_module.result (λ turn. (t : Question → Answer) (chain end : List ℕ) → Agrees t (g.K.Keeper.records c.turn_module.new.tree.kept) → IsTableOf (g.K.Keeper.records c.args.tree.now.kept) c.args.self.now → HeldRuns (g.K.Keeper.records c.args.tree.now.kept) c.args.self.now t (c.args.number ∷ chain) end → IsHeldTurn (g.K.Keeper.records c.turn_module.new.tree.kept) c.args.self.now c.turn_module.new.held t chain c.args.number turn)
    (λ turn. (t : Question → Answer) (chain end : List ℕ) → Agrees t (g.K.Keeper.records c.turn_module.new.tree.kept) → IsTrusted (state_of (g.K.Keeper.records c.args.tree.now.kept) c.args.self.now (is_some (g.C.Cache.files c.args.cache.now)) (g.C.Cache.honest c.args.cache.now) (g.T.Tree.faults c.args.tree.now.tree.now)) (state_of (g.K.Keeper.records c.turn_module.new.tree.kept) c.turn_module.new.held (is_some (g.C.Cache.files c.turn_module.new.cache)) (g.C.Cache.honest c.turn_module.new.cache) (g.T.Tree.faults c.turn_module.new.tree.tree.now)) → Runs (state_of (g.K.Keeper.records c.args.tree.now.kept) c.args.self.now (is_some (g.C.Cache.files c.args.cache.now)) (g.C.Cache.honest c.args.cache.now) (g.T.Tree.faults c.args.tree.now.tree.now)) t (c.args.number ∷ chain) end → IsTurn (state_of (g.K.Keeper.records c.args.tree.now.kept) c.args.self.now (is_some (g.C.Cache.files c.args.cache.now)) (g.C.Cache.honest c.args.cache.now) (g.T.Tree.faults c.args.tree.now.tree.now)) t chain c.args.number (Holds (g.K.Keeper.records c.turn_module.new.tree.kept) c.turn_module.new.held t c.args.number) turn)
    (λ turn h t chain end agrees trusted runs. turn_of (g.K.Keeper.records c.args.tree.now.kept) c.args.self.now (is_some (g.C.Cache.files c.args.cache.now)) (g.C.Cache.honest c.args.cache.now) (g.T.Tree.faults c.args.tree.now.tree.now) t c.turn_module.new.held chain c.args.number turn (g.K.Keeper.records c.turn_module.new.tree.kept) (h t chain end agrees (let store = c.requires.well.0 in store.table) (runs_held (g.K.Keeper.records c.args.tree.now.kept) c.args.self.now (is_some (g.C.Cache.files c.args.cache.now)) (g.C.Cache.honest c.args.cache.now) (g.T.Tree.faults c.args.tree.now.tree.now) t (c.args.number ∷ chain) end runs))) c.turn_module.ensures.turn

pub returns-clause-stays : goal.returns-clause-stays
returns-clause-stays g c told honest t chain end agrees runs =
    c.turn_module.ensures.stays told honest t chain end agrees (let store = c.requires.well.0 in store.table) (runs_held (g.K.Keeper.records c.args.tree.now.kept) c.args.self.now (is_some (g.C.Cache.files c.args.cache.now)) (g.C.Cache.honest c.args.cache.now) (g.T.Tree.faults c.args.tree.now.tree.now) t (c.args.number ∷ chain) end runs)

pub returns-clause-left : goal.returns-clause-left
returns-clause-left g c t chain end agrees trusted runs =
    c.turn_module.ensures.left t chain end agrees (let store = c.requires.well.0 in store.table) (runs_held (g.K.Keeper.records c.args.tree.now.kept) c.args.self.now (is_some (g.C.Cache.files c.args.cache.now)) (g.C.Cache.honest c.args.cache.now) (g.T.Tree.faults c.args.tree.now.tree.now) t (c.args.number ∷ chain) end runs)

pub returns-clause-behind : goal.returns-clause-behind
returns-clause-behind g c =
    behind_turn (g.K.Keeper.records c.args.tree.now.kept) (g.K.Keeper.records c.turn_module.new.tree.kept) (is_some (g.C.Cache.files c.args.cache.now)) (g.C.Cache.honest c.args.cache.now) (g.T.Tree.faults c.args.tree.now.tree.now)
    (state_of (g.K.Keeper.records c.turn_module.new.tree.kept) c.turn_module.new.held (is_some (g.C.Cache.files c.turn_module.new.cache)) (g.C.Cache.honest c.turn_module.new.cache) (g.T.Tree.faults c.turn_module.new.tree.tree.now))
    c.args.self.now c.turn_module.new.held c.args.number c.requires.well.0 c.turn_module.ensures.on c.turn_module.ensures.noted c.requires.busy (of_top (setting_of_held c.args.self.now) c.args.number c.requires.top)
    (g.C.Cache.files c.args.cache.now) (g.C.Cache.files c.turn_module.new.cache) (g.C.Cache.faults c.args.cache.now) (g.C.Cache.faults c.turn_module.new.cache) c.turn_module.ensures.later c.turn_module.ensures.others
    c.turn_module.result c.turn_module.ensures.slots c.turn_module.ensures.behind

pub returns-clause-cause : goal.returns-clause-cause
returns-clause-cause g c =
    went_cause g.T.Tree g.K.Keeper c.args.tree.now c.turn_module.new.tree c.turn_module.result c.turn_module.ensures.went
