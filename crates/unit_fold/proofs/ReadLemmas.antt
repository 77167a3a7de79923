-- Where reading a text stands still, and how a step leads there.
use Rattle.std.proofs.Common.{◌≡◌, ℕ, Bool, true, false, List, Result, Ok, Err, refl, arith, ap, subst, sym, if◌then◌else◌}
use Rattle.std.specs.Prelude.{IfOk, OnOk}
use Rattle.cm_core.specs.declared.numbers.Owner.{Owner}
use Rattle.cm_core.specs.declared.token.Token.{Token as CodeToken}
use Rattle.unit_fold.specs.Tokens.{TokenAt}
use Rattle.unit_fold.specs.Opened.{token_in}
use Rattle.unit_fold.specs.Owners.{SoFar, Reading, Ends, includes, read_on}
use Rattle.unit_fold.specs.Reads.{DirectiveMoves, GoesOn, Pauses, StepMoves, TakenMoves, taken_as}
use Rattle.c_lex.specs.Readings.{IsPlace, LexerState}
use Rattle.cm_source.specs.LogicalText.{Logical}
use Rattle.unit_fold.specs.declared.lexed.Step.{Step}
use Rattle.unit_fold.specs.declared.lexed.Step.TheVariants.{Goes, Ends as FileDone, Stops, Includes as IncludesNext}
use Rattle.unit_fold.specs.declared.fold.Pause.{Pause}
use Rattle.unit_fold.specs.declared.fold.Event.TheVariants.{NeedText, NeedInclude, Done}
use Rattle.unit_fold.specs.declared.fold.Stage.TheVariants.{WaitsForText, WaitsAtInclude, IsDone}
use Rattle.unit_fold.specs.declared.include_at.IncludeAt.{IncludeAt}
use Rattle.unit_fold.specs.declared.lexed.Taken.{Taken}
use Rattle.unit_fold.specs.declared.lexed.Taken.TheVariants.{End, FileEnds, OwnerEnds, LineEnd, Token}

pub where_true : {A : Type 0} (test : Bool) (x y : A) → true ≡ test → (if test then x else y) ≡ x
where_true test x y holds = ap (λ (b : Bool). if b then x else y) (sym holds)

pub where_false : {A : Type 0} (test : Bool) (x y : A) → false ≡ test → (if test then x else y) ≡ y
where_false test x y fails = ap (λ (b : Bool). if b then x else y) (sym fails)

-- what follows is the same where it is so for what was taken
pub taken_same : (names : List (List ℕ)) (p : SoFar) (at : ℕ) (taken : Taken) (none none' : SoFar → Reading) (line line' : SoFar → ℕ → Reading) (token token' : SoFar → TokenAt → ℕ → Reading)
    → (taken ≡ End → none p ≡ none' p) → (taken ≡ LineEnd → line p at ≡ line' p at) → ((t : CodeToken) → taken ≡ Token t → token p (token_in names t) at ≡ token' p (token_in names t) at)
    → taken_as names p at taken none line token ≡ taken_as names p at taken none' line' token'
taken_same names p at End none none' line line' token token' at_end at_line at_token = at_end refl
taken_same names p at FileEnds none none' line line' token token' at_end at_line at_token = refl
taken_same names p at OwnerEnds none none' line line' token token' at_end at_line at_token = refl
taken_same names p at LineEnd none none' line line' token token' at_end at_line at_token = at_line refl
taken_same names p at (Token t) none none' line line' token token' at_end at_line at_token = at_token t refl

pub pauses_for_text : (reading : Reading) (owner : Owner) (p : SoFar) (pause : Pause)
    → reading ≡ Ends false p → pause ≡ record { event = NeedText; stage = WaitsForText } → Pauses reading owner p pause
pauses_for_text reading owner p pause ends is =
    let P : Reading → Type 0 = λ r. Pauses r owner p pause in
    let Q : Pause → Type 0 = λ k. Pauses (Ends false p) owner p k in
    subst P (sym ends) (subst Q (sym is) (record { head = (refl, refl, refl); waits = refl; stands = tt }))

pub pauses_at_end : (reading : Reading) (owner : Owner) (p : SoFar) (pause : Pause)
    → reading ≡ Ends true p → pause ≡ record { event = Done; stage = IsDone } → Pauses reading owner p pause
pauses_at_end reading owner p pause ends is =
    let P : Reading → Type 0 = λ r. Pauses r owner p pause in
    let Q : Pause → Type 0 = λ k. Pauses (Ends true p) owner p k in
    subst P (sym ends) (subst Q (sym is) (record { head = (refl, refl, refl); waits = refl; stands = tt }))

pub pauses_at_include : (reading : Reading) (owner : Owner) (p : SoFar) (name : List ℕ) (i : IncludeAt)
    → reading ≡ includes p i.at name (λ r. read_on owner i.text true r i.next)
    → Pauses reading owner p (record { event = NeedInclude name i.at; stage = WaitsAtInclude i })
pauses_at_include reading owner p name i leads =
    let P : Reading → Type 0 = λ r. Pauses r owner p (record { event = NeedInclude name i.at; stage = WaitsAtInclude i }) in
    subst P (sym leads) (record { head = (refl, refl, λ given. refl); waits = λ given answers. answers; stands = tt })

-- what a result that is passed on says
pub if_ok : {A E : Type 0} (r : Result A E) (P Q : A → Type 0) → ((x : A) → P x → Q x) → IfOk r P → IfOk r Q
if_ok (Ok x) P Q follow holds = follow x holds
if_ok (Err e) P Q follow holds = holds

pub on_ok : {A E : Type 0} (r : Result A E) (P Q : Type 0) → (P → Q) → OnOk r P → OnOk r Q
on_ok (Ok x) P Q follow holds = follow holds
on_ok (Err e) P Q follow holds = holds

-- the lexer behind a token or a line end that was taken
pub token_moved : (old new : LexerState) (taken : Taken) (t : CodeToken) → TakenMoves old new taken → taken ≡ Token t → GoesOn old new
token_moved old new taken t moves is = subst (TakenMoves old new) is moves

pub line_moved : (old new : LexerState) (taken : Taken) → TakenMoves old new taken → taken ≡ LineEnd → GoesOn old new
line_moved old new taken moves is = subst (TakenMoves old new) is moves

pub end_moved : (old new : LexerState) (taken : Taken) → TakenMoves old new taken → taken ≡ End → new ≡ old
end_moved old new taken moves is = subst (TakenMoves old new) is moves

-- a directive that goes on behind what was taken
pub directive_moved : (old new : LexerState) (step : Step) → GoesOn old new → DirectiveMoves new step → DirectiveMoves old step
directive_moved old new (Goes first) goes moves = moves
directive_moved old new FileDone goes moves = tt
directive_moved old new Stops goes moves = tt
directive_moved old new (IncludesNext i) goes moves =
    let later = goes.later in
    let behind = moves.1 in
    (subst (λ (x : Logical). IsPlace x i.next) goes.text moves.0, omega arith)

-- a step that is a directive's
pub step_moved : (old new last : LexerState) (step : Step) → GoesOn old new → DirectiveMoves new step → StepMoves old last step
step_moved old new last (Goes first) goes moves = absurd moves
step_moved old new last FileDone goes moves = tt
step_moved old new last Stops goes moves = tt
step_moved old new last (IncludesNext i) goes moves =
    let later = goes.later in
    let behind = moves.1 in
    (subst (λ (x : Logical). IsPlace x i.next) goes.text moves.0, omega arith, goes.within)
