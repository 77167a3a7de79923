-- A module that was begun before comes to what its slot says, and needs no further one.
use Rattle.std.proofs.Common.{◌≡◌, ◌∙◌, ◌<◌, List, length, ap, sym, subst, []}
use Rattle.cm_outside.specs.Asks.{value}
use Rattle.build_store.specs.Modules.{mod_of}
use Rattle.build_store.specs.Turning.{IsView, view_as, slot_at}
use Rattle.build_store.specs.declared.slot.Slot.{Slot}
use Rattle.build_store.specs.declared.slot.Slot.TheVariants.{Unknown as IsUnknown, Busy as IsBusy, Cyclic as IsCyclic, Good as IsGood}
use Rattle.build_store.proofs.MemoViews.{old_view, old_rests}
use Rattle.build_store.proofs.memo.need.Goals as goal

pub slot-requires : goal.slot-requires
slot-requires g c =
    let P : List Slot → Type 0 = λ w. c.args.number < length w in
    subst P (g.met.H.Turns.slots_are (c.args.held.now, c.args.tree.now, c.args.cache.now, c.args.steps.now)) (g.met.H.Turns.room (c.args.held.now, c.args.tree.now, c.args.cache.now, c.args.steps.now) c.requires.well c.args.number c.requires.top)

pub returns-in-Busy-clause-view : goal.returns-in-Busy-clause-view
returns-in-Busy-clause-view g c t agrees trust rests =
    let a = g.H.Turns.state (c.args.held.now, c.args.tree.now, c.args.cache.now, c.args.steps.now) in
    let here : IsBusy ≡ slot_at a.slots c.args.number = c.in-Busy.ensures ∙ sym (ap (λ (w : List Slot). slot_at w c.args.number) (g.met.H.Turns.slots_are (c.args.held.now, c.args.tree.now, c.args.cache.now, c.args.steps.now))) in
    let old : slot_at a.slots c.args.number ≡ IsUnknown → ⊥ = λ e. (let u : IsBusy ≡ IsUnknown = here ∙ e in cc) in
    let P : Slot → Type 0 = λ k. IsView (value (mod_of a.plan [] c.args.number) t) (view_as k) in
    subst P (sym here) (old_view a t c.args.number old rests)

pub returns-in-Busy-clause-rests : goal.returns-in-Busy-clause-rests
returns-in-Busy-clause-rests g c t agrees trust rests =
    let a = g.H.Turns.state (c.args.held.now, c.args.tree.now, c.args.cache.now, c.args.steps.now) in
    let here : IsBusy ≡ slot_at a.slots c.args.number = c.in-Busy.ensures ∙ sym (ap (λ (w : List Slot). slot_at w c.args.number) (g.met.H.Turns.slots_are (c.args.held.now, c.args.tree.now, c.args.cache.now, c.args.steps.now))) in
    let old : slot_at a.slots c.args.number ≡ IsUnknown → ⊥ = λ e. (let u : IsBusy ≡ IsUnknown = here ∙ e in cc) in
    old_rests a t c.args.number old rests

pub returns-in-Cyclic-clause-view : goal.returns-in-Cyclic-clause-view
returns-in-Cyclic-clause-view g c t agrees trust rests =
    let a = g.H.Turns.state (c.args.held.now, c.args.tree.now, c.args.cache.now, c.args.steps.now) in
    let here : IsCyclic ≡ slot_at a.slots c.args.number = c.in-Cyclic.ensures ∙ sym (ap (λ (w : List Slot). slot_at w c.args.number) (g.met.H.Turns.slots_are (c.args.held.now, c.args.tree.now, c.args.cache.now, c.args.steps.now))) in
    let old : slot_at a.slots c.args.number ≡ IsUnknown → ⊥ = λ e. (let u : IsCyclic ≡ IsUnknown = here ∙ e in cc) in
    let P : Slot → Type 0 = λ k. IsView (value (mod_of a.plan [] c.args.number) t) (view_as k) in
    subst P (sym here) (old_view a t c.args.number old rests)

pub returns-in-Cyclic-clause-rests : goal.returns-in-Cyclic-clause-rests
returns-in-Cyclic-clause-rests g c t agrees trust rests =
    let a = g.H.Turns.state (c.args.held.now, c.args.tree.now, c.args.cache.now, c.args.steps.now) in
    let here : IsCyclic ≡ slot_at a.slots c.args.number = c.in-Cyclic.ensures ∙ sym (ap (λ (w : List Slot). slot_at w c.args.number) (g.met.H.Turns.slots_are (c.args.held.now, c.args.tree.now, c.args.cache.now, c.args.steps.now))) in
    let old : slot_at a.slots c.args.number ≡ IsUnknown → ⊥ = λ e. (let u : IsCyclic ≡ IsUnknown = here ∙ e in cc) in
    old_rests a t c.args.number old rests

pub returns-in-Good-clause-view : goal.returns-in-Good-clause-view
returns-in-Good-clause-view g c t agrees trust rests =
    let a = g.H.Turns.state (c.args.held.now, c.args.tree.now, c.args.cache.now, c.args.steps.now) in
    let here : IsGood ≡ slot_at a.slots c.args.number = c.in-Good.ensures ∙ sym (ap (λ (w : List Slot). slot_at w c.args.number) (g.met.H.Turns.slots_are (c.args.held.now, c.args.tree.now, c.args.cache.now, c.args.steps.now))) in
    let old : slot_at a.slots c.args.number ≡ IsUnknown → ⊥ = λ e. (let u : IsGood ≡ IsUnknown = here ∙ e in cc) in
    let P : Slot → Type 0 = λ k. IsView (value (mod_of a.plan [] c.args.number) t) (view_as k) in
    subst P (sym here) (old_view a t c.args.number old rests)

pub returns-in-Good-clause-rests : goal.returns-in-Good-clause-rests
returns-in-Good-clause-rests g c t agrees trust rests =
    let a = g.H.Turns.state (c.args.held.now, c.args.tree.now, c.args.cache.now, c.args.steps.now) in
    let here : IsGood ≡ slot_at a.slots c.args.number = c.in-Good.ensures ∙ sym (ap (λ (w : List Slot). slot_at w c.args.number) (g.met.H.Turns.slots_are (c.args.held.now, c.args.tree.now, c.args.cache.now, c.args.steps.now))) in
    let old : slot_at a.slots c.args.number ≡ IsUnknown → ⊥ = λ e. (let u : IsGood ≡ IsUnknown = here ∙ e in cc) in
    old_rests a t c.args.number old rests
