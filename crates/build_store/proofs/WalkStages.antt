-- That the fold of an owner comes nearer to its end with each event.
use Rattle.std.proofs.Common.{◌≡◌, ◌+◌, ◌-◌, ◌<◌, true, false, length, refl, sym, ap, subst, arith, true≢false}
use Rattle.cm_core.specs.declared.numbers.Owner.{Owner}
use Rattle.unit_fold.specs.Owners.{Ends as ReadsAll, SoFar, closed}
use Rattle.unit_fold.specs.Steps.{FoldState, HasEnded, IsHead, StandsAt, WaitsFor, after_stage}
use Rattle.unit_fold.specs.declared.fold.Event.{Event}
use Rattle.unit_fold.specs.declared.fold.Event.TheVariants.{NeedText, NeedInclude, Done}
use Rattle.unit_fold.specs.declared.fold.Stage.{Stage}
use Rattle.unit_fold.specs.declared.fold.Stage.TheVariants.{Begins, WaitsForText, WaitsAtInclude, IsDone, IsSpent}
use Rattle.unit_fold.specs.declared.given.Given.{Given}
use Rattle.unit_fold.specs.declared.given.Given.TheVariants.{Skip}
use Rattle.unit_fold.specs.declared.include_at.IncludeAt.{IncludeAt}
use Rattle.build_store.specs.Walks.{EndsWith, GoesDown, stage_left}
use Rattle.build_store.specs.declared.walk.Step.{Step}
use Rattle.build_store.specs.declared.walk.Step.TheVariants.{Goes, Ends as StepEnds}

down_at : (at : IncludeAt) (event : Event) (stage : Stage) → WaitsFor event stage → StandsAt event stage
    → ((next : IncludeAt) → stage ≡ WaitsAtInclude next → length next.text.bytes - next.next < length at.text.bytes - at.next) → stage_left stage < length at.text.bytes - at.next + 2
down_at at NeedText stage waits stands h =
    let P : Stage → Type 0 = λ s. stage_left s < length at.text.bytes - at.next + 2 in
    let one : 1 < length at.text.bytes - at.next + 2 = omega arith in subst P (sym waits) one
down_at at Done stage waits stands h =
    let P : Stage → Type 0 = λ s. stage_left s < length at.text.bytes - at.next + 2 in
    let none : 0 < length at.text.bytes - at.next + 2 = omega arith in subst P (sym waits) none
down_at at (NeedInclude text place) Begins waits stands h = absurd stands
down_at at (NeedInclude text place) WaitsForText waits stands h = absurd stands
down_at at (NeedInclude text place) (WaitsAtInclude next) waits stands h = let less = h next refl in omega (arith, less)
down_at at (NeedInclude text place) IsDone waits stands h = absurd stands
down_at at (NeedInclude text place) IsSpent waits stands h = absurd stands

down_text : (p : SoFar) (event : Event) (new : FoldState) → IsHead (ReadsAll true p) event new → stage_left new.stage < 1
down_text p NeedText new head = absurd (true≢false head.0)
down_text p (NeedInclude text place) new head = absurd head
down_text p Done new head =
    let P : Stage → Type 0 = λ s. stage_left s < 1 in
    let none : 0 < 1 = omega arith in subst P (sym head.2) none

pub fold_down : (owner : Owner) (p : SoFar) (stage : Stage) (given : Given) (event : Event) (new : FoldState) → IsHead (after_stage owner p stage given) event new
    → WaitsFor event new.stage → StandsAt event new.stage
    → ((at next : IncludeAt) → stage ≡ WaitsAtInclude at → new.stage ≡ WaitsAtInclude next → length next.text.bytes - next.next < length at.text.bytes - at.next)
    → GoesDown stage given → stage_left new.stage < stage_left stage
fold_down owner p Begins given event new head waits stands h down = absurd down
fold_down owner p WaitsForText given event new head waits stands h down =
    let P : Given → Type 0 = λ g. IsHead (after_stage owner p WaitsForText g) event new in
    down_text (closed owner p) event new (subst P down head)
fold_down owner p (WaitsAtInclude at) given event new head waits stands h down = down_at at event new.stage waits stands (λ next is. h at next refl is)
fold_down owner p IsDone given event new head waits stands h down = absurd down
fold_down owner p IsSpent given event new head waits stands h down = absurd down

-- ---- where a fold goes on

goes_given : Step → Given
goes_given (Goes given) = given
goes_given step = Skip

is_goes : Step → Type 0
is_goes (Goes given) = Unit {0}
is_goes step = ⊥

no_end : (given : Given) → Goes given ≡ StepEnds → ⊥
unfolding is_goes
no_end given e = subst is_goes e tt

pub goes_down : (event : Event) (stage : Stage) (given : Given) → WaitsFor event stage → StandsAt event stage → EndsWith event (Goes given) → GoesDown stage given
unfolding goes_given
goes_down NeedText stage given waits stands ends = let P : Stage → Type 0 = λ s. GoesDown s given in subst P (sym waits) (ap goes_given ends)
goes_down Done stage given waits stands ends = absurd (no_end given ends)
goes_down (NeedInclude text place) Begins given waits stands ends = absurd stands
goes_down (NeedInclude text place) WaitsForText given waits stands ends = absurd stands
goes_down (NeedInclude text place) (WaitsAtInclude at) given waits stands ends = tt
goes_down (NeedInclude text place) IsDone given waits stands ends = absurd stands
goes_down (NeedInclude text place) IsSpent given waits stands ends = absurd stands

pub is_live : (stage : Stage) (given : Given) → GoesDown stage given → HasEnded stage → ⊥
is_live Begins given down ended = down
is_live WaitsForText given down ended = ended
is_live (WaitsAtInclude at) given down ended = ended
is_live IsDone given down ended = down
is_live IsSpent given down ended = down

-- a fold that begins waits for its text
pub begins_at_text : (p : SoFar) (event : Event) (new : FoldState) → IsHead (ReadsAll false p) event new → (new.progress ≡ p) × (new.stage ≡ WaitsForText)
begins_at_text p NeedText new head = (head.1, head.2)
begins_at_text p (NeedInclude text place) new head = absurd head
begins_at_text p Done new head = absurd (true≢false (sym head.0))
