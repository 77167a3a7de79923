-- The module was interpreted, and its slot says what it comes to.
use Rattle.std.proofs.Common.{◌≡◌, ◌∙◌, ◌<◌, List, length, ap, sym, subst, []}
use Rattle.cm_outside.specs.Asks.{value}
use Rattle.build_store.specs.Modules.{Plan, is_in, mod_of}
use Rattle.build_store.specs.Parts.{Fragment}
use Rattle.build_store.specs.Turning.{IsView, slot_at, view_as}
use Rattle.build_store.specs.declared.slot.ModuleView.{ModuleView}
use Rattle.build_store.specs.declared.slot.Slot.{Slot}
use Rattle.build_store.proofs.MemoViews.{first_view}
use Rattle.build_store.proofs.memo.view_first.Goals as goal

pub slot-requires : goal.slot-requires
slot-requires g c =
    let done = c.in_ok-interpret.ensures in
    let P : List Slot → Type 0 = λ w. c.args.number < length w in
    subst P (g.met.H.Turns.slots_are (c.interpret.new.held, c.interpret.new.tree, c.interpret.new.cache, c.interpret.new.steps))
    (g.met.H.Turns.room (c.interpret.new.held, c.interpret.new.tree, c.interpret.new.cache, c.interpret.new.steps) done.well c.args.number (ap (λ (p : Plan Fragment). is_in c.args.number p.tops) done.moved.plan ∙ c.requires.new.top))

pub returns-clause-view : goal.returns-clause-view
returns-clause-view g c t agrees trust rests =
    let a = g.H.Turns.state (c.args.held.now, c.args.tree.now, c.args.cache.now, c.args.steps.now) in
    let b = g.H.Turns.state (c.interpret.new.held, c.interpret.new.tree, c.interpret.new.cache, c.interpret.new.steps) in
    let done = c.in_ok-interpret.ensures in
    let P : ModuleView → Type 0 = λ w. IsView (value (mod_of a.plan [] c.args.number) t) w in
    let here : slot_at (g.H.Turns.held_slots c.interpret.new.held) c.args.number ≡ slot_at b.slots c.args.number = sym (ap (λ (w : List Slot). slot_at w c.args.number) (g.met.H.Turns.slots_are (c.interpret.new.held, c.interpret.new.tree, c.interpret.new.cache, c.interpret.new.steps))) in
    subst P (sym (c.view_of.ensures ∙ ap view_as (c.slot.ensures ∙ here))) (first_view a b t c.args.number done.moved (done.rests t agrees trust rests))
