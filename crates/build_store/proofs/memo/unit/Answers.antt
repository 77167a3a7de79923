-- A turn of the unit, and the module that it needs.
use Rattle.std.proofs.Common.{None, subst}
use Rattle.build_store.specs.Turning.{IsUnitTurn}
use Rattle.build_store.specs.declared.slot.UnitTurn.{UnitTurn}
use Rattle.build_store.proofs.MemoRuns.{moved_after}
use Rattle.build_store.proofs.MemoUnits.{turn_moved, turn_stays, turn_left, turn_behind, turn_items, turn_again, next_stays, next_left, next_behind, next_paused, next_rests}
use Rattle.build_store.proofs.memo.unit.Goals as goal

pub returns-in_err-items-clause-moved : goal.returns-in_err-items-clause-moved
returns-in_err-items-clause-moved g c =
    turn_moved g.H.Turns.state g.H.Turns.well g.H.Turns.same g.H.Turns.leaves g.H.Turns.went g.H.Turns.tells g.H.Turns.behind c.args.path.now g.met.H.Turns.leaves_after
    (c.args.held.now, c.args.tree.now, c.args.cache.now, c.args.steps.now) (c.loop-paused.held, c.loop-paused.tree, c.loop-paused.cache, c.loop-paused.steps) (c.unit_turn.new.self, c.unit_turn.new.tree, c.unit_turn.new.cache, c.unit_turn.new.steps) c.loop-paused.invariant.going c.unit_turn.ensures.moved c.unit_turn.ensures.stays c.unit_turn.ensures.left

pub returns-in_err-items-clause-stays : goal.returns-in_err-items-clause-stays
returns-in_err-items-clause-stays g c =
    turn_stays g.H.Turns.state g.H.Turns.well g.H.Turns.same g.H.Turns.leaves g.H.Turns.went g.H.Turns.tells g.H.Turns.behind c.args.path.now g.met.H.Turns.leaves_after
    (c.args.held.now, c.args.tree.now, c.args.cache.now, c.args.steps.now) (c.loop-paused.held, c.loop-paused.tree, c.loop-paused.cache, c.loop-paused.steps) (c.unit_turn.new.self, c.unit_turn.new.tree, c.unit_turn.new.cache, c.unit_turn.new.steps) c.loop-paused.invariant.going c.unit_turn.ensures.moved c.unit_turn.ensures.stays c.unit_turn.ensures.left

pub returns-in_err-items-clause-left : goal.returns-in_err-items-clause-left
returns-in_err-items-clause-left g c =
    turn_left g.H.Turns.state g.H.Turns.well g.H.Turns.same g.H.Turns.leaves g.H.Turns.went g.H.Turns.tells g.H.Turns.behind c.args.path.now g.met.H.Turns.leaves_after
    (c.args.held.now, c.args.tree.now, c.args.cache.now, c.args.steps.now) (c.loop-paused.held, c.loop-paused.tree, c.loop-paused.cache, c.loop-paused.steps) (c.unit_turn.new.self, c.unit_turn.new.tree, c.unit_turn.new.cache, c.unit_turn.new.steps) c.loop-paused.invariant.going c.unit_turn.ensures.moved c.unit_turn.ensures.stays c.unit_turn.ensures.left

pub returns-in-Done-clause-moved : goal.returns-in-Done-clause-moved
returns-in-Done-clause-moved g c =
    turn_moved g.H.Turns.state g.H.Turns.well g.H.Turns.same g.H.Turns.leaves g.H.Turns.went g.H.Turns.tells g.H.Turns.behind c.args.path.now g.met.H.Turns.leaves_after
    (c.args.held.now, c.args.tree.now, c.args.cache.now, c.args.steps.now) (c.loop-paused.held, c.loop-paused.tree, c.loop-paused.cache, c.loop-paused.steps) (c.unit_turn.new.self, c.unit_turn.new.tree, c.unit_turn.new.cache, c.unit_turn.new.steps) c.loop-paused.invariant.going c.unit_turn.ensures.moved c.unit_turn.ensures.stays c.unit_turn.ensures.left

pub returns-in-Done-clause-stays : goal.returns-in-Done-clause-stays
returns-in-Done-clause-stays g c =
    turn_stays g.H.Turns.state g.H.Turns.well g.H.Turns.same g.H.Turns.leaves g.H.Turns.went g.H.Turns.tells g.H.Turns.behind c.args.path.now g.met.H.Turns.leaves_after
    (c.args.held.now, c.args.tree.now, c.args.cache.now, c.args.steps.now) (c.loop-paused.held, c.loop-paused.tree, c.loop-paused.cache, c.loop-paused.steps) (c.unit_turn.new.self, c.unit_turn.new.tree, c.unit_turn.new.cache, c.unit_turn.new.steps) c.loop-paused.invariant.going c.unit_turn.ensures.moved c.unit_turn.ensures.stays c.unit_turn.ensures.left

pub returns-in-Done-clause-left : goal.returns-in-Done-clause-left
returns-in-Done-clause-left g c =
    turn_left g.H.Turns.state g.H.Turns.well g.H.Turns.same g.H.Turns.leaves g.H.Turns.went g.H.Turns.tells g.H.Turns.behind c.args.path.now g.met.H.Turns.leaves_after
    (c.args.held.now, c.args.tree.now, c.args.cache.now, c.args.steps.now) (c.loop-paused.held, c.loop-paused.tree, c.loop-paused.cache, c.loop-paused.steps) (c.unit_turn.new.self, c.unit_turn.new.tree, c.unit_turn.new.cache, c.unit_turn.new.steps) c.loop-paused.invariant.going c.unit_turn.ensures.moved c.unit_turn.ensures.stays c.unit_turn.ensures.left

pub returns-in-Done-clause-tells : goal.returns-in-Done-clause-tells
returns-in-Done-clause-tells g c t agrees =
    g.met.H.Turns.tells_after t (c.args.held.now, c.args.tree.now, c.args.cache.now, c.args.steps.now) (c.loop-paused.held, c.loop-paused.tree, c.loop-paused.cache, c.loop-paused.steps) (c.unit_turn.new.self, c.unit_turn.new.tree, c.unit_turn.new.cache, c.unit_turn.new.steps) (c.loop-paused.invariant.going.told_all t (c.unit_turn.ensures.moved.back t agrees)) (c.in_ok-items.ensures.tells t agrees)

pub returns-in-Done-clause-behind : goal.returns-in-Done-clause-behind
returns-in-Done-clause-behind g c =
    turn_behind g.H.Turns.state g.H.Turns.well g.H.Turns.same g.H.Turns.leaves g.H.Turns.went g.H.Turns.tells g.H.Turns.behind c.args.path.now g.met.H.Turns.leaves_after
    (c.args.held.now, c.args.tree.now, c.args.cache.now, c.args.steps.now) (c.loop-paused.held, c.loop-paused.tree, c.loop-paused.cache, c.loop-paused.steps) (c.unit_turn.new.self, c.unit_turn.new.tree, c.unit_turn.new.cache, c.unit_turn.new.steps) c.loop-paused.invariant.going c.unit_turn.ensures.moved c.unit_turn.ensures.stays c.unit_turn.ensures.left
    g.met.H.Turns.behind_after c.in_ok-items.ensures.behind

pub returns-in-Done-clause-items : goal.returns-in-Done-clause-items
returns-in-Done-clause-items g c =
    let now = g.H.Turns.state (c.loop-paused.held, c.loop-paused.tree, c.loop-paused.cache, c.loop-paused.steps) in
    turn_items g.H.Turns.state g.H.Turns.well g.H.Turns.same g.H.Turns.leaves g.H.Turns.went g.H.Turns.tells g.H.Turns.behind c.args.path.now g.met.H.Turns.leaves_after
    (c.args.held.now, c.args.tree.now, c.args.cache.now, c.args.steps.now) (c.loop-paused.held, c.loop-paused.tree, c.loop-paused.cache, c.loop-paused.steps) (c.unit_turn.new.self, c.unit_turn.new.tree, c.unit_turn.new.cache, c.unit_turn.new.steps) c.loop-paused.invariant.going c.unit_turn.ensures.moved c.unit_turn.ensures.stays c.unit_turn.ensures.left
    c.in_ok-items.ensures.slots c.in_ok-items.ensures.noted c.in-Done.items
    (λ t agrees trust first rests. let P : UnitTurn → Type 0 = λ w. IsUnitTurn now t (now.unit_fold c.args.path.now) w in subst P c.in-Done.is (c.in_ok-items.ensures.turn t agrees rests (c.loop-paused.invariant.waits t (c.unit_turn.ensures.moved.back t agrees) trust first)))

pub returns-in-Done-clause-rests : goal.returns-in-Done-clause-rests
returns-in-Done-clause-rests g c =
    let now = g.H.Turns.state (c.loop-paused.held, c.loop-paused.tree, c.loop-paused.cache, c.loop-paused.steps) in
    turn_again g.H.Turns.state g.H.Turns.well g.H.Turns.same g.H.Turns.leaves g.H.Turns.went g.H.Turns.tells g.H.Turns.behind c.args.path.now g.met.H.Turns.leaves_after
    (c.args.held.now, c.args.tree.now, c.args.cache.now, c.args.steps.now) (c.loop-paused.held, c.loop-paused.tree, c.loop-paused.cache, c.loop-paused.steps) (c.unit_turn.new.self, c.unit_turn.new.tree, c.unit_turn.new.cache, c.unit_turn.new.steps) c.loop-paused.invariant.going c.unit_turn.ensures.moved c.unit_turn.ensures.stays c.unit_turn.ensures.left
    c.in_ok-items.ensures.slots c.in_ok-items.ensures.noted c.in-Done.items
    (λ t agrees trust first rests. let P : UnitTurn → Type 0 = λ w. IsUnitTurn now t (now.unit_fold c.args.path.now) w in subst P c.in-Done.is (c.in_ok-items.ensures.turn t agrees rests (c.loop-paused.invariant.waits t (c.unit_turn.ensures.moved.back t agrees) trust first)))

pub loop-paused-preserved : goal.loop-paused-preserved
loop-paused-preserved g c =
    let now = g.H.Turns.state (c.loop-paused.held, c.loop-paused.tree, c.loop-paused.cache, c.loop-paused.steps) in
    let turn = c.in_ok-items.ensures in
    let module_ends = c.in_ok-interpret-in-Needs.ensures in
    let going = c.loop-paused.invariant.going in
    let laws = g.met.H.Turns in
    record {
      ready = c.unit_turn.ensures.ready;
      waits = next_paused g.H.Turns.state g.H.Turns.well g.H.Turns.same g.H.Turns.leaves g.H.Turns.went g.H.Turns.tells g.H.Turns.behind c.args.path.now laws.leaves_after
          (c.args.held.now, c.args.tree.now, c.args.cache.now, c.args.steps.now) (c.loop-paused.held, c.loop-paused.tree, c.loop-paused.cache, c.loop-paused.steps) (c.unit_turn.new.self, c.unit_turn.new.tree, c.unit_turn.new.cache, c.unit_turn.new.steps) going c.unit_turn.ensures.moved c.unit_turn.ensures.stays c.unit_turn.ensures.left
          c.in_ok-items.ensures.slots c.in_ok-items.ensures.noted (c.interpret.new.held, c.interpret.new.tree, c.interpret.new.cache, c.interpret.new.steps) c.interpret.ensures.moved g.H.Turns.paused_at laws.paused_after c.loop-paused.paused c.unit_turn.new.paused module_ends.same
          c.loop-paused.invariant.waits turn.paused c.in-Needs.number module_ends.rests;
      going = record {
        is_well = module_ends.well;
        is_same = laws.same_after (c.args.held.now, c.args.tree.now, c.args.cache.now, c.args.steps.now) (c.loop-paused.held, c.loop-paused.tree, c.loop-paused.cache, c.loop-paused.steps) (c.interpret.new.held, c.interpret.new.tree, c.interpret.new.cache, c.interpret.new.steps) going.is_same (laws.same_after (c.loop-paused.held, c.loop-paused.tree, c.loop-paused.cache, c.loop-paused.steps) (c.unit_turn.new.self, c.unit_turn.new.tree, c.unit_turn.new.cache, c.unit_turn.new.steps) (c.interpret.new.held, c.interpret.new.tree, c.interpret.new.cache, c.interpret.new.steps) turn.same module_ends.same);
        moved = moved_after (g.H.Turns.state (c.args.held.now, c.args.tree.now, c.args.cache.now, c.args.steps.now)) (g.H.Turns.state (c.unit_turn.new.self, c.unit_turn.new.tree, c.unit_turn.new.cache, c.unit_turn.new.steps)) (g.H.Turns.state (c.interpret.new.held, c.interpret.new.tree, c.interpret.new.cache, c.interpret.new.steps)) (turn_moved g.H.Turns.state g.H.Turns.well g.H.Turns.same g.H.Turns.leaves g.H.Turns.went g.H.Turns.tells g.H.Turns.behind c.args.path.now g.met.H.Turns.leaves_after
            (c.args.held.now, c.args.tree.now, c.args.cache.now, c.args.steps.now) (c.loop-paused.held, c.loop-paused.tree, c.loop-paused.cache, c.loop-paused.steps) (c.unit_turn.new.self, c.unit_turn.new.tree, c.unit_turn.new.cache, c.unit_turn.new.steps) c.loop-paused.invariant.going c.unit_turn.ensures.moved c.unit_turn.ensures.stays c.unit_turn.ensures.left) module_ends.moved;
        all_went = laws.went_after (c.args.held.now, c.args.tree.now, c.args.cache.now, c.args.steps.now) (c.unit_turn.new.self, c.unit_turn.new.tree, c.unit_turn.new.cache, c.unit_turn.new.steps) (c.interpret.new.held, c.interpret.new.tree, c.interpret.new.cache, c.interpret.new.steps) None (laws.went_after (c.args.held.now, c.args.tree.now, c.args.cache.now, c.args.steps.now) (c.loop-paused.held, c.loop-paused.tree, c.loop-paused.cache, c.loop-paused.steps) (c.unit_turn.new.self, c.unit_turn.new.tree, c.unit_turn.new.cache, c.unit_turn.new.steps) None going.all_went turn.went) module_ends.went;
        told_all = λ t agrees.
            let back = module_ends.moved.back t agrees in
            laws.tells_after t (c.args.held.now, c.args.tree.now, c.args.cache.now, c.args.steps.now) (c.unit_turn.new.self, c.unit_turn.new.tree, c.unit_turn.new.cache, c.unit_turn.new.steps) (c.interpret.new.held, c.interpret.new.tree, c.interpret.new.cache, c.interpret.new.steps) (laws.tells_after t (c.args.held.now, c.args.tree.now, c.args.cache.now, c.args.steps.now) (c.loop-paused.held, c.loop-paused.tree, c.loop-paused.cache, c.loop-paused.steps) (c.unit_turn.new.self, c.unit_turn.new.tree, c.unit_turn.new.cache, c.unit_turn.new.steps) (going.told_all t (turn.moved.back t back)) (turn.tells t back)) (module_ends.tells t agrees);
        rests = next_rests g.H.Turns.state g.H.Turns.well g.H.Turns.same g.H.Turns.leaves g.H.Turns.went g.H.Turns.tells g.H.Turns.behind c.args.path.now g.met.H.Turns.leaves_after
            (c.args.held.now, c.args.tree.now, c.args.cache.now, c.args.steps.now) (c.loop-paused.held, c.loop-paused.tree, c.loop-paused.cache, c.loop-paused.steps) (c.unit_turn.new.self, c.unit_turn.new.tree, c.unit_turn.new.cache, c.unit_turn.new.steps) c.loop-paused.invariant.going c.unit_turn.ensures.moved c.unit_turn.ensures.stays c.unit_turn.ensures.left
            c.in_ok-items.ensures.slots c.in_ok-items.ensures.noted (c.interpret.new.held, c.interpret.new.tree, c.interpret.new.cache, c.interpret.new.steps) c.interpret.ensures.moved c.in-Needs.number
            (λ t agrees trust first rests. let P : UnitTurn → Type 0 = λ w. IsUnitTurn now t (now.unit_fold c.args.path.now) w in subst P c.in-Needs.is (turn.turn t agrees rests (c.loop-paused.invariant.waits t (turn.moved.back t agrees) trust first))) module_ends.rests;
        stays = next_stays g.H.Turns.state g.H.Turns.well g.H.Turns.same g.H.Turns.leaves g.H.Turns.went g.H.Turns.tells g.H.Turns.behind c.args.path.now g.met.H.Turns.leaves_after
            (c.args.held.now, c.args.tree.now, c.args.cache.now, c.args.steps.now) (c.loop-paused.held, c.loop-paused.tree, c.loop-paused.cache, c.loop-paused.steps) (c.unit_turn.new.self, c.unit_turn.new.tree, c.unit_turn.new.cache, c.unit_turn.new.steps) c.loop-paused.invariant.going c.unit_turn.ensures.moved c.unit_turn.ensures.stays c.unit_turn.ensures.left
            c.in_ok-items.ensures.slots c.in_ok-items.ensures.noted (c.interpret.new.held, c.interpret.new.tree, c.interpret.new.cache, c.interpret.new.steps) c.interpret.ensures.moved c.interpret.ensures.stays;
        left = next_left g.H.Turns.state g.H.Turns.well g.H.Turns.same g.H.Turns.leaves g.H.Turns.went g.H.Turns.tells g.H.Turns.behind c.args.path.now g.met.H.Turns.leaves_after
            (c.args.held.now, c.args.tree.now, c.args.cache.now, c.args.steps.now) (c.loop-paused.held, c.loop-paused.tree, c.loop-paused.cache, c.loop-paused.steps) (c.unit_turn.new.self, c.unit_turn.new.tree, c.unit_turn.new.cache, c.unit_turn.new.steps) c.loop-paused.invariant.going c.unit_turn.ensures.moved c.unit_turn.ensures.stays c.unit_turn.ensures.left
            c.in_ok-items.ensures.slots c.in_ok-items.ensures.noted (c.interpret.new.held, c.interpret.new.tree, c.interpret.new.cache, c.interpret.new.steps) c.interpret.ensures.moved c.interpret.ensures.left;
        behind_all = next_behind g.H.Turns.state g.H.Turns.well g.H.Turns.same g.H.Turns.leaves g.H.Turns.went g.H.Turns.tells g.H.Turns.behind c.args.path.now g.met.H.Turns.leaves_after
            (c.args.held.now, c.args.tree.now, c.args.cache.now, c.args.steps.now) (c.loop-paused.held, c.loop-paused.tree, c.loop-paused.cache, c.loop-paused.steps) (c.unit_turn.new.self, c.unit_turn.new.tree, c.unit_turn.new.cache, c.unit_turn.new.steps) c.loop-paused.invariant.going c.unit_turn.ensures.moved c.unit_turn.ensures.stays c.unit_turn.ensures.left
            c.in_ok-items.ensures.slots c.in_ok-items.ensures.noted (c.interpret.new.held, c.interpret.new.tree, c.interpret.new.cache, c.interpret.new.steps) c.interpret.ensures.moved laws.behind_after turn.behind module_ends.behind;
      };
    }

pub returns-in_err-interpret-in-Needs-clause-moved : goal.returns-in_err-interpret-in-Needs-clause-moved
returns-in_err-interpret-in-Needs-clause-moved g c =
    moved_after (g.H.Turns.state (c.args.held.now, c.args.tree.now, c.args.cache.now, c.args.steps.now)) (g.H.Turns.state (c.unit_turn.new.self, c.unit_turn.new.tree, c.unit_turn.new.cache, c.unit_turn.new.steps)) (g.H.Turns.state (c.interpret.new.held, c.interpret.new.tree, c.interpret.new.cache, c.interpret.new.steps)) (turn_moved g.H.Turns.state g.H.Turns.well g.H.Turns.same g.H.Turns.leaves g.H.Turns.went g.H.Turns.tells g.H.Turns.behind c.args.path.now g.met.H.Turns.leaves_after
    (c.args.held.now, c.args.tree.now, c.args.cache.now, c.args.steps.now) (c.loop-paused.held, c.loop-paused.tree, c.loop-paused.cache, c.loop-paused.steps) (c.unit_turn.new.self, c.unit_turn.new.tree, c.unit_turn.new.cache, c.unit_turn.new.steps) c.loop-paused.invariant.going c.unit_turn.ensures.moved c.unit_turn.ensures.stays c.unit_turn.ensures.left) c.interpret.ensures.moved

pub returns-in_err-interpret-in-Needs-clause-stays : goal.returns-in_err-interpret-in-Needs-clause-stays
returns-in_err-interpret-in-Needs-clause-stays g c =
    next_stays g.H.Turns.state g.H.Turns.well g.H.Turns.same g.H.Turns.leaves g.H.Turns.went g.H.Turns.tells g.H.Turns.behind c.args.path.now g.met.H.Turns.leaves_after
    (c.args.held.now, c.args.tree.now, c.args.cache.now, c.args.steps.now) (c.loop-paused.held, c.loop-paused.tree, c.loop-paused.cache, c.loop-paused.steps) (c.unit_turn.new.self, c.unit_turn.new.tree, c.unit_turn.new.cache, c.unit_turn.new.steps) c.loop-paused.invariant.going c.unit_turn.ensures.moved c.unit_turn.ensures.stays c.unit_turn.ensures.left
    c.in_ok-items.ensures.slots c.in_ok-items.ensures.noted (c.interpret.new.held, c.interpret.new.tree, c.interpret.new.cache, c.interpret.new.steps) c.interpret.ensures.moved c.interpret.ensures.stays

pub returns-in_err-interpret-in-Needs-clause-left : goal.returns-in_err-interpret-in-Needs-clause-left
returns-in_err-interpret-in-Needs-clause-left g c =
    next_left g.H.Turns.state g.H.Turns.well g.H.Turns.same g.H.Turns.leaves g.H.Turns.went g.H.Turns.tells g.H.Turns.behind c.args.path.now g.met.H.Turns.leaves_after
    (c.args.held.now, c.args.tree.now, c.args.cache.now, c.args.steps.now) (c.loop-paused.held, c.loop-paused.tree, c.loop-paused.cache, c.loop-paused.steps) (c.unit_turn.new.self, c.unit_turn.new.tree, c.unit_turn.new.cache, c.unit_turn.new.steps) c.loop-paused.invariant.going c.unit_turn.ensures.moved c.unit_turn.ensures.stays c.unit_turn.ensures.left
    c.in_ok-items.ensures.slots c.in_ok-items.ensures.noted (c.interpret.new.held, c.interpret.new.tree, c.interpret.new.cache, c.interpret.new.steps) c.interpret.ensures.moved c.interpret.ensures.left
