-- What the events of an owner's fold make of a walk, over plain variables.
use Rattle.std.proofs.Common.{◌≡◌, ℕ, Bool, true, false, List, [], ◌∷◌, ◌++◌, slice_get, Option, Some, None, refl, sym, ap, subst, ◌∙◌}
use Rattle.std.specs.Option.{option_map}
use Rattle.std.proofs.lemmas.List.{append-nil}
use Rattle.cm_outside.specs.Asks.{value}
use Rattle.cm_outside.specs.Keeping.{Grew, answered}
use Rattle.cm_outside.specs.declared.question.Question.{Question}
use Rattle.cm_outside.specs.declared.question.Question.TheVariants.{Read}
use Rattle.cm_outside.specs.declared.question.Answer.{Answer}
use Rattle.cm_outside.specs.declared.question.Record.{Record}
use Rattle.cm_outside.proofs.Grown.{numbered_after}
use Rattle.unit_fold.specs.Owners.{Reading, Ends as ReadsAll, Includes, SoFar, closed}
use Rattle.unit_fold.specs.Steps.{FoldState, IsHead, after, after_stage}
use Rattle.unit_fold.specs.declared.at.At.{At}
use Rattle.unit_fold.specs.declared.fold.Event.TheVariants.{NeedText, NeedInclude, Done as HasRead}
use Rattle.unit_fold.specs.declared.fold.Stage.TheVariants.{WaitsForText}
use Rattle.unit_fold.specs.declared.given.Given.{Given}
use Rattle.unit_fold.specs.declared.given.Given.TheVariants.{Skip}
use Rattle.unit_fold.specs.declared.item.Item.{Item}
use Rattle.build_store.specs.Held.{Holds, setting_of_held, state_held}
use Rattle.build_store.specs.Memo.{Grows, Known, Tried, Ended, Stands, tried, with_records}
use Rattle.build_store.specs.Owners.{at_end, module_needs, owner_needs, owner_with, reading_of, unit_needs}
use Rattle.build_store.specs.Parts.{Fragment, part_of}
use Rattle.build_store.specs.Tables.{table_of}
use Rattle.build_store.specs.Targets.{header_of}
use Rattle.build_store.specs.Walks.{AreTrue, AsksSame, Far, IsIncludeStep, IsStep, IsUnitWalk, IsUnitWalkTo, IsUnitWay, IsWalk, IsWalkTo, IsWay, WaitsBehind, WalksAll, WalksOn, far_of, header_fold, known_held, owner_far}
use Rattle.build_store.specs.declared.held.Held.{Held}
use Rattle.build_store.specs.declared.part.Part.{Part}
use Rattle.build_store.specs.declared.slot.UnitTurn.TheVariants.{Needs as UnitNeedsFirst, Done as UnitDone}
use Rattle.build_store.specs.declared.walk.Paused.{Paused}
use Rattle.build_store.specs.declared.walk.Step.{Step}
use Rattle.build_store.specs.declared.walk.Step.TheVariants.{Goes, Needs as StepNeeds, Cyclic as StepCyclic, Ends as StepEnds}
use Rattle.build_store.specs.declared.walk.Walk.TheVariants.{Needs as NeedsFirst, Cyclic as ComesBack, Done}
use Rattle.build_store.specs.declared.walk.Way.{Way}
use Rattle.build_store.specs.declared.walk.Way.TheVariants.{Needs as WayNeeds, Cyclic as WayCyclic, Done as WayDone}
use Rattle.build_store.proofs.WalkSteps.{walks_nowhere, walks_asked, walks_then}
use Rattle.build_store.proofs.WalkTries.{map_tried, records_both, strictly_then, then_then}

-- ---- what is kept stays true

module _ (old new : List Record) (h : Held) (t : Question → Answer) (grew : Grew old new) where
  holds_later : (m : ℕ) → Holds old h t m → Holds new h t m
  holds_later m holds = record {
    parts = holds.parts;
    found = holds.found;
    outcome = holds.outcome;
    brought = holds.brought;
    is_found = holds.is_found;
    questions = numbered_after old new _ _ grew holds.questions;
    needs = holds.needs;
  }

  pub true_later : AreTrue old h t → AreTrue new h t
  unfolding state_held
  true_later are = record { good = are.good; holds = λ m is. holds_later m (are.holds m is) }

module _ (h : Held) (t : Question → Answer) where
  -- ---- events

  module _ (kept : List Record) (own : Option ℕ) (file : List ℕ) (parts : Fragment) (numbers : List ℕ) where
    far_ended : (known : ℕ → Known Fragment) (own : Option ℕ) (stopped : Bool) (p : SoFar) → far_of h t own file parts (ReadsAll stopped p) known ≡ Ended (Some (at_end (owner_with own) stopped p, parts)) []
    far_ended known None stopped p = refl
    far_ended known (Some x) stopped p = refl

    pub text_event : (reading : Reading) (fold : FoldState) → fold.owner ≡ owner_with own → IsHead reading NeedText fold → IsStep kept h t own file fold numbers numbers (far_of h t own file parts reading) (Goes Skip)
    text_event (ReadsAll stopped p) fold owner head = (
      parts,
      λ known grows.
          walks_nowhere h t kept numbers (far_of h t own file parts (ReadsAll stopped p) known) (far_of h t own file parts (after fold Skip) known)
          (ap (λ s. far_of h t own file parts (ReadsAll s p) known) head.0 ∙ far_ended known own false p
          ∙ sym (far_ended known own true (closed (owner_with own) p))
          ∙ (λ i. far_of h t own file parts (after_stage (sym owner i) p WaitsForText Skip) known)
          ∙ (λ i. far_of h t own file parts (after_stage fold.owner (sym head.1 i) WaitsForText Skip) known)
          ∙ (λ i. far_of h t own file parts (after_stage fold.owner fold.progress (sym head.2 i) Skip) known)),
    )
    text_event (Includes at text more) fold owner head = absurd head

    pub done_event : (reading : Reading) (fold : FoldState) → IsHead reading HasRead fold → IsStep kept h t own file fold numbers numbers (far_of h t own file parts reading) StepEnds
    done_event (ReadsAll stopped p) fold head = (
      parts,
      walks_nowhere h t kept numbers (far_of h t own file parts (ReadsAll stopped p) (known_held h t)) (Ended (Some (fold.progress, parts)) [])
          (ap (λ s. far_of h t own file parts (ReadsAll s p) (known_held h t)) head.0 ∙ far_ended (known_held h t) own true p ∙ (λ i. Ended (Some (sym head.1 i, parts)) [])),
    )
    done_event (Includes at text more) fold head = absurd head

    pub include_event : (now text : List ℕ) (place : At) (reading : Reading) (fold : FoldState) (step : Step) → IsHead reading (NeedInclude text place) fold
        → ((at : At) (next : Given → Reading) → IsIncludeStep kept h t own file next numbers now (far_of h t own file parts (Includes at text next)) step)
        → IsStep kept h t own file fold numbers now (far_of h t own file parts reading) step
    include_event now text place (ReadsAll stopped p) fold step head is = absurd head
    include_event now text place (Includes n wanted more) fold (Goes given) head is =
        let made = is n more in
        let P : Reading → Type 0 = λ r. WalksAll kept h t numbers now (far_of h t own file parts (Includes n wanted more)) (far_of h t own file made.0 r) in
        let Q : List ℕ → Type 0 = λ w. WalksAll kept h t numbers now (far_of h t own file parts (Includes n w more)) (far_of h t own file made.0 (more given)) in
        (made.0, subst P (sym (head.2 given)) (subst Q head.0 made.1))
    include_event now text place (Includes n wanted more) fold (StepNeeds x) head is =
        let P : List ℕ → Type 0 = λ w. far_of h t own file parts (Includes n w more) (known_held h t) ≡ Stands x in subst P head.0 (is n more)
    include_event now text place (Includes n wanted more) fold StepCyclic head is =
        let P : List ℕ → Type 0 = λ w. (records : List Record) × (far_of h t own file parts (Includes n w more) (known_held h t) ≡ Ended None records) in subst P head.0 (is n more)
    include_event now text place (Includes n wanted more) fold StepEnds head is = absurd (is n more)

  -- ---- where a walk over an owner ends

  -- what is held is known
  same_known : Grows (known_held h t) (known_held h t)
  same_known x old = refl

  module _ (own : Option ℕ) (file : List ℕ) (whole far : Far) where
    -- a fold that waits behind a rest waits behind the whole
    pub waits_behind : ((known : ℕ → Known Fragment) → Grows (known_held h t) known → (records : List Record) × (whole known ≡ with_records records (far known)))
        → (paused : Paused) → WaitsBehind h t own file far paused → WaitsBehind h t own file whole paused
    waits_behind comes paused waits = record {
      reading = waits.reading;
      head = waits.head;
      parts = waits.parts;
      comes = λ known grows.
          let first = comes known grows in
          let last = waits.comes known grows in (
            first.0 ++ last.0,
            first.1 ∙ ap (with_records first.0) last.1 ∙ records_both first.0 last.0 (far_of h t own file waits.parts waits.reading known),
          );
    }

  module _ (mid new : List Record) (own : Option ℕ) (file : List ℕ) (n0 n1 n2 : List ℕ) (whole far : Far) (grew : Grew mid new) (way : WalksAll mid h t n0 n1 whole far) where
    on : WalksOn mid h t n0 n1 (whole (known_held h t)) (far (known_held h t))
    on = way (known_held h t) same_known

    pub way_behind : (last : Way) → IsWay new h t own file n1 n2 far last → IsWay new h t own file n0 n2 whole last
    way_behind (WayNeeds x paused) is = (
      on.comes ∙ ap (with_records on.records) is.0,
      waits_behind own file whole far (λ known grows. let first = way known grows in (first.records, first.comes)) paused is.1,
    )
    way_behind WayCyclic is = (on.records ++ is.0, on.comes ∙ ap (with_records on.records) is.1)
    way_behind (WayDone items) is =
        (is.0, is.1, is.2, walks_then h t mid new n0 n1 n2 (whole (known_held h t)) (far (known_held h t)) (Ended (Some (is.0, is.1)) []) grew on is.3)

  -- ---- an owner's file

  far_owner : (known : ℕ → Known Fragment) (own : Option ℕ) (path : List ℕ)
      → owner_far h t own path known
      ≡ with_records (answered (Read path) (t (Read path)) ∷ []) (far_of h t own path [] (reading_of (owner_with own) path (t (Read path))) known)
  far_owner known None path = refl
  far_owner known (Some x) path = refl

  pub owner_begins : (kept : List Record) (numbers : List ℕ) (at : ℕ) (own : Option ℕ) (path : List ℕ) (r : Record)
      → slice_get kept at ≡ Some r → slice_get kept at ≡ Some (answered (Read path) (t (Read path)))
      → WalksAll kept h t numbers (numbers ++ at ∷ []) (owner_far h t own path) (far_of h t own path [] (reading_of (owner_with own) path r.answer))
  owner_begins kept numbers at own path r there fixed known grows =
      let both : Some r ≡ Some (answered (Read path) (t (Read path))) = sym there ∙ fixed in
      let is : r ≡ answered (Read path) (t (Read path)) = cc in
      walks_asked h t kept numbers (numbers ++ at ∷ []) (at ∷ []) (answered (Read path) (t (Read path)) ∷ [])
      (owner_far h t own path known)
      (far_of h t own path [] (reading_of (owner_with own) path r.answer) known) refl
      (far_owner known own path
      ∙ ap (with_records (answered (Read path) (t (Read path)) ∷ []))
      (λ i. far_of h t own path [] (reading_of (owner_with own) path (sym is i).answer) known))
      (ap (λ o. o ∷ []) fixed)

  -- ---- headers

  module _ (kept : List Record) (before now : List ℕ) (m : ℕ) (path : List ℕ) (header : header_of h.table m ≡ path) where
    -- what the module brings whose header came to this
    abbrev made : SoFar × Fragment → Fragment
    made r = (m, part_of r.0.items) ∷ r.1

    abbrev whole : Tried (Option (SoFar × Fragment))
    whole = owner_far h t (Some m) path (known_held h t)

    header_far : tried (known_held h t) (header_fold h m) t ≡ map_tried (option_map made) whole
    unfolding module_needs
    header_far =
        strictly_then (known_held h t) t made (owner_needs (setting_of_held h) (Some m) (header_of h.table m))
        ∙ (λ i. map_tried (option_map made) (owner_far h t (Some m) (header i) (known_held h t)))

    pub header_needs : (x : ℕ) → whole ≡ Stands x → IsWalk kept h t m before now (NeedsFirst x)
    header_needs x is =
        let P : Tried (Option Fragment) → Type 0 = λ far. IsWalkTo kept h t m before now (NeedsFirst x) far in
        subst P (sym (header_far ∙ ap (map_tried (option_map made)) is)) refl

    pub header_cyclic : (records : List Record) → whole ≡ Ended None records → IsWalk kept h t m before now ComesBack
    header_cyclic records is =
        let P : Tried (Option Fragment) → Type 0 = λ far. IsWalkTo kept h t m before now ComesBack far in
        subst P (sym (header_far ∙ ap (map_tried (option_map made)) is)) tt

    pub header_done : value (table_of h.job.maps) t ≡ h.table → (items : List Item) (part : Part) → part ≡ part_of items
        → IsWay kept h t (Some m) path before now (owner_far h t (Some m) path) (WayDone items) → IsWalk kept h t m before now (Done part)
    header_done of items part is way =
        let P : Tried (Option Fragment) → Type 0 = λ far. IsWalkTo kept h t m before now (Done part) far in
        let on : WalksOn kept h t before now whole (Ended (Some (way.0, way.1)) []) = way.3 in
        let Q : List Record → Type 0 = λ rs. AsksSame kept h t on.added rs in
        subst P (sym (header_far ∙ ap (map_tried (option_map made)) on.comes))
        ((way.1, λ i. (m, (ap part_of way.2 ∙ sym is) i) ∷ way.1), (on.added, on.pushed, subst Q (sym (append-nil on.records)) (on.same of)))

  -- ---- units

  module _ (path : List ℕ) where
    -- what was asked on the way is of no matter
    pub unit_way : (kept : List Record) (before now : List ℕ) (whole : Far) (way : Way) → IsWay kept h t None path before now whole way → IsUnitWay h t path whole way
    unit_way kept before now whole (WayNeeds x paused) is = is
    unit_way kept before now whole WayCyclic is = tt
    unit_way kept before now whole (WayDone items) is =
        let on : WalksOn kept h t before now (whole (known_held h t)) (Ended (Some (is.0, is.1)) []) = is.3 in (is.0, is.1, is.2, on.records ++ [], on.comes)

    -- a unit whose fold went on
    pub unit_behind : (whole far : Far) → ((known : ℕ → Known Fragment) → Grows (known_held h t) known → (records : List Record) × (whole known ≡ with_records records (far known)))
        → (way : Way) → IsUnitWay h t path far way → IsUnitWay h t path whole way
    unit_behind whole far comes (WayNeeds x paused) is =
        let first = comes (known_held h t) same_known in (first.1 ∙ ap (with_records first.0) is.0, waits_behind None path whole far comes paused is.1)
    unit_behind whole far comes WayCyclic is = tt
    unit_behind whole far comes (WayDone items) is =
        let first = comes (known_held h t) same_known in (is.0, is.1, is.2, first.0 ++ is.3, first.1 ∙ ap (with_records first.0) is.4)

    items_of : Option (SoFar × Fragment) → List Item
    items_of None = []
    items_of (Some r) = r.0.items

    unit_far : tried (known_held h t) (unit_needs (setting_of_held h) path) t ≡ map_tried items_of (owner_far h t None path (known_held h t))
    unfolding unit_needs items_of
    unit_far = then_then (known_held h t) t (λ (r : SoFar × Fragment). Some r) items_of (owner_needs (setting_of_held h) None path)

    pub unit_needs_first : (x : ℕ) → owner_far h t None path (known_held h t) ≡ Stands x → IsUnitWalk h t path (UnitNeedsFirst x)
    unit_needs_first x is =
        let P : Tried (List Item) → Type 0 = λ far. IsUnitWalkTo (UnitNeedsFirst x) far in
        subst P (sym (unit_far ∙ ap (map_tried items_of) is)) refl

    pub unit_done : (items : List Item) → IsUnitWay h t path (owner_far h t None path) (WayDone items) → IsUnitWalk h t path (UnitDone items)
    unfolding items_of
    unit_done items way =
        let P : Tried (List Item) → Type 0 = λ far. IsUnitWalkTo (UnitDone items) far in
        subst P (sym (unit_far ∙ ap (map_tried items_of) way.4)) (sym way.2)
