-- What a call of a fold answers: the head of what is left to read, and what follows each answer is kept. own
use Rattle.std.specs.Prelude.{◌≡◌, ℕ, ◌-◌, ◌<◌, true, false, length}
use Rattle.cm_core.specs.declared.numbers.Owner.{Owner}
use Rattle.unit_fold.specs.Owners.{SoFar, Reading, Ends, Includes, add_fault, closed, included, read_on, read_text, start}
use Rattle.unit_fold.specs.declared.given.Given.{Given}
use Rattle.unit_fold.specs.declared.given.Given.TheVariants.{Again, Text, Imported as Import_of, Refused, Skip, NotBuilt as NotBuiltYet}
use Rattle.unit_fold.specs.declared.fold.Stage.{Stage}
use Rattle.unit_fold.specs.declared.fold.Stage.TheVariants.{Begins, WaitsForText, WaitsAtInclude, IsDone, IsSpent}
use Rattle.unit_fold.specs.declared.fold.Event.{Event}
use Rattle.unit_fold.specs.declared.fold.Event.TheVariants.{NeedText, NeedInclude, Done}

-- a fold: its owner, how far that has come, and where the fold stands
pub record FoldState : Type 0 where
  pub owner : Owner
  pub progress : SoFar
  pub stage : Stage

-- what may be given for the owner's next file
abbrev pub AnswersText : Given → Type 0
AnswersText (Text bytes path) = Unit {0}
AnswersText (Refused kind) = Unit {0}
AnswersText Skip = Unit {0}
AnswersText (Import_of m names) = ⊥
AnswersText NotBuiltYet = ⊥
AnswersText Again = ⊥

-- what may be given for an include
abbrev pub AnswersInclude : Given → Type 0
AnswersInclude (Import_of m names) = Unit {0}
AnswersInclude (Refused kind) = Unit {0}
AnswersInclude Skip = Unit {0}
AnswersInclude NotBuiltYet = Unit {0}
AnswersInclude (Text bytes path) = ⊥
AnswersInclude Again = ⊥

-- what is given fits what was asked for last; a fold that is spent or done asks for nothing
abbrev pub Fits : Stage → Given → Type 0
Fits Begins given = given ≡ Again
Fits WaitsForText given = AnswersText given
Fits (WaitsAtInclude at) given = AnswersInclude given
Fits IsDone given = Unit {0}
Fits IsSpent given = Unit {0}

-- what a fold waits for after an event
abbrev pub WaitsFor : Event → Stage → Type 0
WaitsFor NeedText stage = stage ≡ WaitsForText
WaitsFor (NeedInclude text at) stage = (given : Given) → AnswersInclude given → Fits stage given
WaitsFor Done stage = stage ≡ IsDone

-- a fold that is done, or for which memory ran out, goes on no more
abbrev pub HasEnded : Stage → Type 0
HasEnded Begins = ⊥
HasEnded WaitsForText = ⊥
HasEnded (WaitsAtInclude at) = ⊥
HasEnded IsDone = Unit {0}
HasEnded IsSpent = Unit {0}

abbrev pub after_stage : Owner → SoFar → Stage → Given → Reading
after_stage owner p Begins given = Ends false p
after_stage owner p WaitsForText (Text bytes path) = read_text owner p path bytes
after_stage owner p WaitsForText (Refused kind) = Ends false (add_fault p start kind)
after_stage owner p WaitsForText given = Ends true (closed owner p)
after_stage owner p (WaitsAtInclude i) given = included p i.at given (λ q. read_on owner i.text true q i.next)
after_stage owner p IsDone given = Ends true p
after_stage owner p IsSpent given = Ends true p

-- what is left to read, after this is given
abbrev pub after : FoldState → Given → Reading
after fold given = after_stage fold.owner fold.progress fold.stage given

-- The event is the head of what is left, and what the fold is then has what follows each answer.
abbrev pub IsHead : Reading → Event → FoldState → Type 0
IsHead (Ends stopped p) NeedText new = (stopped ≡ false) × (new.progress ≡ p) × (new.stage ≡ WaitsForText)
IsHead (Ends stopped p) Done new = (stopped ≡ true) × (new.progress ≡ p) × (new.stage ≡ IsDone)
IsHead (Ends stopped p) (NeedInclude text at) new = ⊥
IsHead (Includes place text more) (NeedInclude wanted at) new = (wanted ≡ text) × (at ≡ place) × ((given : Given) → after new given ≡ more given)
IsHead (Includes place text more) NeedText new = ⊥
IsHead (Includes place text more) Done new = ⊥

-- a fold that needs an include stands at one
abbrev pub StandsAt : Event → Stage → Type 0
StandsAt NeedText stage = Unit {0}
StandsAt Done stage = Unit {0}
StandsAt (NeedInclude text at) (WaitsAtInclude i) = Unit {0}
StandsAt (NeedInclude text at) Begins = ⊥
StandsAt (NeedInclude text at) WaitsForText = ⊥
StandsAt (NeedInclude text at) IsDone = ⊥
StandsAt (NeedInclude text at) IsSpent = ⊥

-- where a fold waits at an include, less than so many bytes of the text are left
abbrev pub LeavesLess : ℕ → Stage → Type 0
LeavesLess n Begins = Unit {0}
LeavesLess n WaitsForText = Unit {0}
LeavesLess n (WaitsAtInclude i) = length i.text.bytes - i.next < n
LeavesLess n IsDone = Unit {0}
LeavesLess n IsSpent = Unit {0}
