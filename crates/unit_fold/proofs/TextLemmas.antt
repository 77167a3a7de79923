-- Reading the tokens of a text, step by step.
use Rattle.std.proofs.Common.{◌≡◌, ℕ, ◌-◌, ◌<◌, ◌≤◌, Bool, length, ap, sym, subst, ◌∙◌, arith}
use Rattle.cm_core.specs.declared.numbers.Owner.{Owner}
use Rattle.cm_source.specs.LogicalText.{Logical}
use Rattle.c_lex.specs.Readings.{IsPlace, LexerState}
use Rattle.unit_fold.specs.Owners.{SoFar, Reading, read_on, token_step}
use Rattle.unit_fold.specs.Reads.{GoesOn, StepMoves, TextMoves, step_as}
use Rattle.unit_fold.specs.declared.lexed.Include.{Include}
use Rattle.unit_fold.specs.declared.lexed.Step.{Step}
use Rattle.unit_fold.specs.declared.lexed.Step.TheVariants.{Includes}
use Rattle.unit_fold.specs.declared.lexed.TextEnd.TheVariants.{Includes as TextIncludes}
use Rattle.unit_fold.proofs.Fuel.{read_on-step}

-- one step more was read, and went so
pub step_read : (owner : Owner) (text : Logical) (s : LexerState) (first : Bool) (p q : SoFar) (to : ℕ) (step kind : Step) (whole : Reading)
    → whole ≡ read_on owner text first p s.at → s.text ≡ text → ((more : Bool → SoFar → ℕ → Reading) → token_step owner s.text first p s.at more ≡ step_as q to step more) → step ≡ kind
    → whole ≡ step_as q to kind (read_on owner text)
step_read owner text s first p q to step kind whole so_far same told is =
    so_far
    ∙ read_on-step owner text first p s.at
    ∙ ap (λ (x : Logical). token_step owner x first p s.at (read_on owner text)) (sym same)
    ∙ told (read_on owner text)
    ∙ ap (λ (k : Step). step_as q to k (read_on owner text)) is

-- an include that a step came to, in a text that was begun before it
pub include_moves : (text : Logical) (at : ℕ) (s s' : LexerState) (step : Step) (i : Include) → s.text ≡ text → at ≤ s.at → StepMoves s s' step → step ≡ Includes i → TextMoves text at (TextIncludes i)
include_moves text at s s' step i same later moves is =
    let there = subst (StepMoves s s') is moves in
    let within : s.at < length text.bytes = subst (λ (x : Logical). s.at < length x.bytes) same there.2 in
    (subst (λ (x : Logical). IsPlace x i.next) same there.0, omega (arith, within, later, there.1))

-- the lexer behind a step that goes on
pub goes_behind : (text : Logical) (at : ℕ) (s s' : LexerState) → s.text ≡ text → at ≤ s.at → GoesOn s s' → (s'.text ≡ text) × (at ≤ s'.at) × (length text.bytes - s'.at < length text.bytes - s.at)
goes_behind text at s s' same later goes =
    let within : s.at < length text.bytes = subst (λ (x : Logical). s.at < length x.bytes) same goes.within in
    let ahead = goes.later in
    (goes.text ∙ same, omega arith, omega arith)
