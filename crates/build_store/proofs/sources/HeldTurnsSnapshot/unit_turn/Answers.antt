use Rattle.std.proofs.Common.{is_some, length, refl}
use Rattle.cm_outside.specs.Asks.{Agrees}
use Rattle.cm_outside.specs.declared.question.Question.{Question}
use Rattle.cm_outside.specs.declared.question.Answer.{Answer}
use Rattle.build_store.specs.Held.{setting_of_held}
use Rattle.build_store.specs.LeftLaws.{leaves_same}
use Rattle.build_store.specs.Owners.{unit_needs}
use Rattle.build_store.specs.Stores.{HasSlots, IsStore}
use Rattle.build_store.specs.Telling.{Tells, state_of}
use Rattle.build_store.specs.TellingLaws.{no_less, tells_same}
use Rattle.build_store.specs.Turning.{IsUnitTurn, Rests, UnitNeedsNew}
use Rattle.build_store.specs.Walks.{AreTrue, IsPaused, IsUnitWalk, UnitOpensUnknown}
use Rattle.build_store.proofs.ChangesWent.{went_cause}
use Rattle.build_store.proofs.SourceTurns.{held_on, if_ok, known_held_of, moved_turn, on_any, on_ok, store_on, unit_needs_new, unit_turn_of}
use Rattle.build_store.specs.LeftBehind.{Behind}
use Rattle.build_store.specs.LeftBehindLaws.{behind_same}
use Rattle.build_store.proofs.sources.HeldTurnsSnapshot.unit_turn.Goals as goal

pub walk_unit-requires : goal.walk_unit-requires
walk_unit-requires g c = record { places = (let store = c.requires.well.0 in store.places); ready = c.requires.ready }

pub returns-clause-well : goal.returns-clause-well
returns-clause-well g c =
    let store = c.requires.well.0 in
    on_any c.walk_unit.result (IsStore (g.K.Keeper.records c.walk_unit.new.tree.kept) c.args.self.now × HasSlots c.args.self.now)
    (store_on (g.K.Keeper.records c.args.tree.now.kept) (g.K.Keeper.records c.walk_unit.new.tree.kept) c.args.self.now c.args.self.now c.requires.well.0 c.walk_unit.ensures.went.grew c.walk_unit.ensures.went.back c.walk_unit.ensures.went.kept refl refl refl store.places store.begun)

pub returns-clause-same : goal.returns-clause-same
returns-clause-same g c =
    (refl, refl, no_less (g.C.Cache.faults c.args.cache.now), no_less (length c.args.self.now.noted))

pub returns-clause-tells : goal.returns-clause-tells
returns-clause-tells g c =
    on_any c.walk_unit.result ((t : Question → Answer) → Agrees t (g.K.Keeper.records c.walk_unit.new.tree.kept) → Tells (g.C.Cache.files c.args.cache.now) (g.C.Cache.files c.args.cache.now) c.args.self.now c.args.self.now t c.args.steps.now.compiles c.args.steps.now.compiles (g.C.Cache.faults c.args.cache.now) (g.C.Cache.faults c.args.cache.now))
    (λ t agrees. tells_same (g.C.Cache.files c.args.cache.now) c.args.self.now t c.args.steps.now.compiles (g.C.Cache.faults c.args.cache.now))

pub returns-clause-moved : goal.returns-clause-moved
returns-clause-moved g c =
    moved_turn (g.K.Keeper.records c.args.tree.now.kept) (g.K.Keeper.records c.walk_unit.new.tree.kept) (is_some (g.C.Cache.files c.args.cache.now)) (is_some (g.C.Cache.files c.args.cache.now)) (g.C.Cache.honest c.args.cache.now) (g.C.Cache.honest c.args.cache.now) (g.T.Tree.faults c.args.tree.now.tree.now) (g.T.Tree.faults c.walk_unit.new.tree.tree.now) c.walk_unit.ensures.went.back refl (λ e h. h) c.walk_unit.ensures.went.later c.args.self.now c.args.self.now
    (held_on (g.K.Keeper.records c.args.tree.now.kept) (g.K.Keeper.records c.walk_unit.new.tree.kept) c.args.self.now c.walk_unit.ensures.went.grew) refl

pub returns-clause-unknown : goal.returns-clause-unknown
returns-clause-unknown g c =
    if_ok c.walk_unit.result (UnitOpensUnknown c.args.self.now) (UnitNeedsNew (state_of (g.K.Keeper.records c.args.tree.now.kept) c.args.self.now (is_some (g.C.Cache.files c.args.cache.now)) (g.C.Cache.honest c.args.cache.now) (g.T.Tree.faults c.args.tree.now.tree.now)))
    (λ turn h. unit_needs_new (g.K.Keeper.records c.args.tree.now.kept) c.args.self.now (is_some (g.C.Cache.files c.args.cache.now)) (g.C.Cache.honest c.args.cache.now) (g.T.Tree.faults c.args.tree.now.tree.now) turn h) c.walk_unit.ensures.unknown

pub returns-clause-turn : goal.returns-clause-turn
returns-clause-turn g c =
    if_ok c.walk_unit.result (λ turn. (t : Question → Answer) → Agrees t (g.K.Keeper.records c.walk_unit.new.tree.kept) → AreTrue (g.K.Keeper.records c.args.tree.now.kept) c.args.self.now t → IsPaused c.args.self.now t c.args.unit.now c.args.paused.now → IsUnitWalk c.args.self.now t c.args.unit.now turn)
    (λ turn. (t : Question → Answer) → Agrees t (g.K.Keeper.records c.walk_unit.new.tree.kept) → Rests (state_of (g.K.Keeper.records c.args.tree.now.kept) c.args.self.now (is_some (g.C.Cache.files c.args.cache.now)) (g.C.Cache.honest c.args.cache.now) (g.T.Tree.faults c.args.tree.now.tree.now)) t → IsPaused c.args.self.now t c.args.unit.now c.args.paused.now → IsUnitTurn (state_of (g.K.Keeper.records c.args.tree.now.kept) c.args.self.now (is_some (g.C.Cache.files c.args.cache.now)) (g.C.Cache.honest c.args.cache.now) (g.T.Tree.faults c.args.tree.now.tree.now)) t (unit_needs (setting_of_held c.args.self.now) c.args.unit.now) turn)
    (λ turn h t agrees rests paused. unit_turn_of (g.K.Keeper.records c.args.tree.now.kept) c.args.self.now (is_some (g.C.Cache.files c.args.cache.now)) (g.C.Cache.honest c.args.cache.now) (g.T.Tree.faults c.args.tree.now.tree.now) t c.args.unit.now turn rests (h t agrees (known_held_of (g.K.Keeper.records c.args.tree.now.kept) c.args.self.now (is_some (g.C.Cache.files c.args.cache.now)) (g.C.Cache.honest c.args.cache.now) (g.T.Tree.faults c.args.tree.now.tree.now) t rests.known) paused)) c.walk_unit.ensures.walk

pub returns-clause-paused : goal.returns-clause-paused
returns-clause-paused g c =
    on_ok c.walk_unit.result _ _
    (λ h t agrees rests. h t agrees (known_held_of (g.K.Keeper.records c.args.tree.now.kept) c.args.self.now (is_some (g.C.Cache.files c.args.cache.now)) (g.C.Cache.honest c.args.cache.now) (g.T.Tree.faults c.args.tree.now.tree.now) t rests.known)) c.walk_unit.ensures.paused

pub returns-clause-left : goal.returns-clause-left
returns-clause-left g c =
    leaves_same (g.C.Cache.files c.args.cache.now)

pub returns-clause-cause : goal.returns-clause-cause
returns-clause-cause g c =
    went_cause g.T.Tree g.K.Keeper c.args.tree.now c.walk_unit.new.tree c.walk_unit.result c.walk_unit.ensures.went

pub returns-clause-behind : goal.returns-clause-behind
returns-clause-behind g c =
    on_any c.walk_unit.result ((t : Question → Answer) → Agrees t (g.K.Keeper.records c.walk_unit.new.tree.kept) → Behind (g.C.Cache.files c.args.cache.now) (g.C.Cache.files c.args.cache.now) c.args.self.now c.args.self.now t (g.C.Cache.faults c.args.cache.now) (g.C.Cache.faults c.args.cache.now))
    (λ t agrees. behind_same (g.C.Cache.files c.args.cache.now) c.args.self.now t (g.C.Cache.faults c.args.cache.now))
