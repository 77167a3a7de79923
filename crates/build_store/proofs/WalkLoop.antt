-- The loop of a walk over an owner: how it came from its first event to the one that it is at.
use Rattle.std.proofs.Common.{◌≡◌, ℕ, List, [], Option, refl, sym, subst}
use Rattle.cm_outside.specs.Asks.{Agrees}
use Rattle.cm_outside.specs.Keeping.{Grew}
use Rattle.cm_outside.specs.declared.question.Question.{Question}
use Rattle.cm_outside.specs.declared.question.Answer.{Answer}
use Rattle.cm_outside.specs.declared.question.Record.{Record}
use Rattle.unit_fold.specs.Owners.{Reading}
use Rattle.unit_fold.specs.Steps.{FoldState, IsHead, after}
use Rattle.unit_fold.specs.declared.fold.Event.{Event}
use Rattle.unit_fold.specs.declared.given.Given.{Given}
use Rattle.unit_fold.specs.declared.item.Item.{Item}
use Rattle.build_store.specs.Owners.{owner_with}
use Rattle.build_store.specs.Parts.{Fragment}
use Rattle.build_store.specs.Walks.{AreTrue, IsStep, IsWay, WalksAll, far_of}
use Rattle.build_store.specs.declared.held.Held.{Held}
use Rattle.build_store.specs.declared.walk.Paused.{Paused}
use Rattle.build_store.specs.declared.walk.Step.{Step}
use Rattle.build_store.specs.declared.walk.Step.TheVariants.{Goes, Needs as StepNeeds, Cyclic as StepCyclic, Ends as StepEnds}
use Rattle.build_store.specs.declared.walk.Way.{Way}
use Rattle.build_store.specs.declared.walk.Way.TheVariants.{Needs as WayNeeds, Cyclic as WayCyclic, Done as WayDone}
use Rattle.build_store.proofs.WalkEvents.{true_later, way_behind}
use Rattle.build_store.proofs.WalkSteps.{walks_nowhere, walks_then}
use Rattle.build_store.proofs.WalkTries.{records_none}

-- these were kept at the start
module _ (start : List Record) (h : Held) (own : Option ℕ) (file : List ℕ) where
  -- from one reading the walk came to another
  abbrev pub Passes : List Record → List ℕ → List ℕ → Reading → Reading → Type 0
  Passes kept n0 n1 reading later =
      (t : Question → Answer) (parts : Fragment) → Agrees t kept → AreTrue start h t
      → (more : Fragment) × WalksAll kept h t n0 n1 (far_of h t own file parts reading) (far_of h t own file more later)

  -- what an event comes to
  abbrev pub Makes : List Record → List ℕ → List ℕ → Event → Step → Type 0
  Makes kept n0 n1 event step =
      (t : Question → Answer) (parts : Fragment) (reading : Reading) (fold : FoldState) → Agrees t kept → AreTrue kept h t → fold.owner ≡ owner_with own → IsHead reading event fold
      → IsStep kept h t own file fold n0 n1 (far_of h t own file parts reading) step

  pub passes_nowhere : (n : List ℕ) (reading : Reading) → Passes start n n reading reading
  passes_nowhere n reading t parts agrees are = (parts, λ known grows. walks_nowhere h t start n (far_of h t own file parts reading known) (far_of h t own file parts reading known) refl)

  module _ (mid new : List Record) (grew : Grew start mid) (more : Grew mid new) (back : (t : Question → Answer) → Agrees t new → Agrees t mid)
      (n0 n1 n2 : List ℕ) (event : Event) (reading later : Reading) (fold : FoldState) (owner : fold.owner ≡ owner_with own) (head : IsHead later event fold) (passed : Passes mid n0 n1 reading later)
      (step : Step) (made : Makes new n1 n2 event step) where
    -- over some answers: the way so far, and the step
    at_step : (t : Question → Answer) (parts : Fragment) → Agrees t new → AreTrue start h t
        → (so_far : Fragment) × WalksAll mid h t n0 n1 (far_of h t own file parts reading) (far_of h t own file so_far later)
        × IsStep new h t own file fold n1 n2 (far_of h t own file so_far later) step
    at_step t parts agrees are =
        let so_far = passed t parts (back t agrees) are in
        (so_far.0, so_far.1, made t so_far.0 later fold agrees (true_later mid new h t more (true_later start mid h t grew are)) owner head)

    pub passes_on : (given : Given) → step ≡ Goes given → Passes new n0 n2 reading (after fold given)
    passes_on given is t parts agrees are =
        let found = at_step t parts agrees are in
        let P : Step → Type 0 = λ s. IsStep new h t own file fold n1 n2 (far_of h t own file found.0 later) s in
        let last : IsStep new h t own file fold n1 n2 (far_of h t own file found.0 later) (Goes given) = subst P is found.2 in (
          last.0,
          λ known grows.
              walks_then h t mid new n0 n1 n2 (far_of h t own file parts reading known) (far_of h t own file found.0 later known) (far_of h t own file last.0 (after fold given) known) more
              (found.1 known grows) (last.1 known grows),
        )

    pub way_on : (way : Way) → ((t : Question → Answer) (so_far : Fragment) → IsStep new h t own file fold n1 n2 (far_of h t own file so_far later) step → IsWay new h t own file n1 n2 (far_of h t own file so_far later) way)
        → (t : Question → Answer) (parts : Fragment) → Agrees t new → AreTrue start h t → IsWay new h t own file n0 n2 (far_of h t own file parts reading) way
    way_on way ends t parts agrees are =
        let found = at_step t parts agrees are in
        way_behind h t mid new own file n0 n1 n2 (far_of h t own file parts reading) (far_of h t own file found.0 later) more found.1 way (ends t found.0 found.2)

    -- the fold as it waits
    abbrev waiting : Paused
    waiting = record { fold = fold; event = event }

    pub way_needs_on : (x : ℕ) → step ≡ StepNeeds x → (t : Question → Answer) (parts : Fragment) → Agrees t new → AreTrue start h t → IsWay new h t own file n0 n2 (far_of h t own file parts reading) (WayNeeds x waiting)
    way_needs_on x is =
        way_on (WayNeeds x waiting) (λ t so_far made. (
          subst (λ (s : Step). IsStep new h t own file fold n1 n2 (far_of h t own file so_far later) s) is made,
          record { reading = later; head = head; parts = so_far; comes = λ known grows. ([], sym (records_none (far_of h t own file so_far later known))) },
        ))

    pub way_cyclic_on : step ≡ StepCyclic → (t : Question → Answer) (parts : Fragment) → Agrees t new → AreTrue start h t → IsWay new h t own file n0 n2 (far_of h t own file parts reading) WayCyclic
    way_cyclic_on is =
        way_on WayCyclic (λ t so_far made. subst (λ (s : Step). IsStep new h t own file fold n1 n2 (far_of h t own file so_far later) s) is made)

    pub way_ends_on : step ≡ StepEnds → (items : List Item) → fold.progress.items ≡ items → (t : Question → Answer) (parts : Fragment) → Agrees t new → AreTrue start h t
        → IsWay new h t own file n0 n2 (far_of h t own file parts reading) (WayDone items)
    way_ends_on is items same =
        way_on (WayDone items) (λ t so_far made.
        let last : IsStep new h t own file fold n1 n2 (far_of h t own file so_far later) StepEnds = subst (λ (s : Step). IsStep new h t own file fold n1 n2 (far_of h t own file so_far later) s) is made in
        (fold.progress, last.0, same, last.1))
