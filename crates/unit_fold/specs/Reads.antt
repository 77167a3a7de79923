-- How a step of the code goes on: words for the contracts of private functions, which no public clause cites. own
use Rattle.std.specs.Prelude.{◌≡◌, ℕ, ◌-◌, ◌<◌, ◌≤◌, Bool, true, false, if◌then◌else◌, List, [], length, Option, Some, None}
use Rattle.cm_core.specs.declared.numbers.Owner.{Owner}
use Rattle.cm_core.specs.declared.token.Token.{Token as CodeToken}
use Rattle.cm_source.specs.LogicalText.{Logical}
use Rattle.c_lex.specs.Readings.{IsPlace, LexerState}
use Rattle.c_lex.specs.declared.lexer.LexFault.{LexFault}
use Rattle.c_lex.specs.declared.lexer.LexFault.TheVariants.{Unclosed as LexUnclosed, BadByte as LexBadByte, LongName as LexLongName, NoMemory}
use Rattle.c_lex.specs.Nexts.{NextLexeme, next_lexeme, next_header}
use Rattle.unit_fold.specs.Tokens.{TokenAt, Next, NoneLeft, Faulty, LineEnds as BehindLine, Gives, is_line_end, next_of, own_file, place_at}
use Rattle.unit_fold.specs.Forms.{Form as SpecForm, IsEmpty, IsObject, IsPointer, IsOther, is_whole_piece}
use Rattle.unit_fold.specs.Opened.{Opened, IsNumbered, AreNumbered, token_in, tokens_in}
use Rattle.unit_fold.specs.Owners.{SoFar, Reading, Ends, includes, read_on}
use Rattle.unit_fold.specs.Steps.{IsHead, WaitsFor, StandsAt}
use Rattle.unit_fold.specs.declared.item.FaultAt.{FaultAt}
use Rattle.unit_fold.specs.declared.item.FaultKind.TheVariants.{Unclosed, BadByte, LongName}
use Rattle.unit_fold.specs.declared.forms.Form.{Form}
use Rattle.unit_fold.specs.declared.forms.Form.TheVariants.{Empty, Object, Pointer, Other}
use Rattle.unit_fold.specs.declared.lexed.Lexed.{Lexed}
use Rattle.unit_fold.specs.declared.lexed.Lexed.TheVariants.{End as AtEnd, Fault, LineEnd as AtLineEnd, Token as AtToken}
use Rattle.unit_fold.specs.declared.lexed.Taken.{Taken}
use Rattle.unit_fold.specs.declared.lexed.Taken.TheVariants.{End, FileEnds, OwnerEnds, LineEnd, Token}
use Rattle.unit_fold.specs.declared.lexed.Step.{Step}
use Rattle.unit_fold.specs.declared.lexed.Step.TheVariants.{Goes, Ends as FileDone, Stops, Includes}
use Rattle.unit_fold.specs.declared.lexed.TextEnd.{TextEnd}
use Rattle.unit_fold.specs.declared.lexed.TextEnd.TheVariants.{Ends as TextEnds, Stops as TextStops, Includes as TextIncludes}
use Rattle.unit_fold.specs.declared.fold.Pause.{Pause}

-- what the text goes on with, with a header name first where that is wanted
abbrev pub lexeme_by : Bool → Logical → ℕ → NextLexeme
lexeme_by is_header text at = if is_header then next_header text own_file at else next_lexeme text own_file at

abbrev pub next_by : Bool → Logical → ℕ → Next
next_by is_header text at = next_of (lexeme_by is_header text at)

-- the owner goes on, or it has ended
abbrev pub goes_or_ends : Bool → SoFar → (SoFar → Reading) → Reading
goes_or_ends goes p more = if goes then more p else Ends true p

-- a lexer's fault, where it is no want of memory
abbrev pub fault_in : LexFault → Option FaultAt
fault_in (LexUnclosed place) = Some (record { at = place_at place; kind = Unclosed })
fault_in (LexBadByte place) = Some (record { at = place_at place; kind = BadByte })
fault_in (LexLongName place) = Some (record { at = place_at place; kind = LongName })
fault_in NoMemory = None

-- what a lexer gave, in the words of the definition
abbrev pub next_as : List (List ℕ) → ℕ → Lexed → Next
next_as names at AtEnd = NoneLeft
next_as names at (Fault fault) = Faulty fault
next_as names at AtLineEnd = BehindLine at
next_as names at (AtToken t) = Gives (token_in names t) at

-- a token that a lexer gave, where it may be a line end
abbrev pub token_next : List (List ℕ) → ℕ → CodeToken → Next
token_next names to t = if is_line_end t.kind then BehindLine to else Gives (token_in names t) to

abbrev pub LexedIsNumbered : List (List ℕ) → Lexed → Type 0
LexedIsNumbered names AtEnd = Unit {0}
LexedIsNumbered names (Fault fault) = Unit {0}
LexedIsNumbered names AtLineEnd = Unit {0}
LexedIsNumbered names (AtToken t) = IsNumbered names t

-- the open piece after a token that makes it these tokens: still open, or whole and handed out
abbrev pub Takes : List TokenAt → Opened → Option (List CodeToken) → Type 0
Takes piece new None = (is_whole_piece piece ≡ false) × (tokens_in new.names new.tokens ≡ piece)
Takes piece new (Some tokens) = (is_whole_piece piece ≡ true) × (tokens_in new.names tokens ≡ piece) × AreNumbered new.names tokens × (new.tokens ≡ [])

abbrev pub form_as : List (List ℕ) → Form → SpecForm
form_as names Empty = IsEmpty
form_as names (Object name) = IsObject (token_in names name)
form_as names (Pointer name target) = IsPointer (token_in names name) (token_in names target)
form_as names Other = IsOther

-- what follows a token that was taken so
abbrev pub taken_as : List (List ℕ) → SoFar → ℕ → Taken → (SoFar → Reading) → (SoFar → ℕ → Reading) → (SoFar → TokenAt → ℕ → Reading) → Reading
taken_as names p at End none line token = none p
taken_as names p at FileEnds none line token = Ends false p
taken_as names p at OwnerEnds none line token = Ends true p
taken_as names p at LineEnd none line token = line p at
taken_as names p at (Token t) none line token = token p (token_in names t) at

-- what follows a step that went so
abbrev pub step_as : SoFar → ℕ → Step → (Bool → SoFar → ℕ → Reading) → Reading
step_as p at (Goes first) more = more first p at
step_as p at FileDone more = Ends false p
step_as p at Stops more = Ends true p
step_as p at (Includes i) more = includes p i.at i.name (λ r. more true r i.next)

-- what follows a text that was read so
abbrev pub text_as : Owner → Logical → SoFar → TextEnd → Reading
text_as owner text p TextEnds = Ends false p
text_as owner text p TextStops = Ends true p
text_as owner text p (TextIncludes i) = includes p i.at i.name (λ r. read_on owner text true r i.next)

abbrev pub FormIsNumbered : List (List ℕ) → Form → Type 0
FormIsNumbered names Empty = Unit {0}
FormIsNumbered names (Object name) = IsNumbered names name
FormIsNumbered names (Pointer name target) = IsNumbered names name × IsNumbered names target
FormIsNumbered names Other = Unit {0}

-- a token that was taken has a name, and is counted beside those of the open piece
abbrev pub TakenFits : Opened → Taken → Type 0
TakenFits o End = Unit {0}
TakenFits o FileEnds = Unit {0}
TakenFits o OwnerEnds = Unit {0}
TakenFits o LineEnd = Unit {0}
TakenFits o (Token t) = IsNumbered o.names t × (length o.tokens < o.taken)

-- ---- the lexer behind a step

-- it is that of the owner's file, and not spent
pub record IsFresh (lexer : LexerState) : Type 0 where
  pub file : lexer.file ≡ own_file
  pub unspent : lexer.spent ≡ false

-- it has gone on behind a token
pub record GoesOn (old new : LexerState) : Type 0 where
  pub text : new.text ≡ old.text
  pub fresh : IsFresh new
  pub later : old.at < new.at
  pub within : old.at < length old.text.bytes

abbrev pub LexedMoves : LexerState → LexerState → Lexed → Type 0
LexedMoves old new AtEnd = new ≡ old
LexedMoves old new (Fault fault) = Unit {0}
LexedMoves old new AtLineEnd = GoesOn old new
LexedMoves old new (AtToken t) = GoesOn old new

abbrev pub TakenMoves : LexerState → LexerState → Taken → Type 0
TakenMoves old new End = new ≡ old
TakenMoves old new FileEnds = Unit {0}
TakenMoves old new OwnerEnds = Unit {0}
TakenMoves old new LineEnd = GoesOn old new
TakenMoves old new (Token t) = GoesOn old new

-- a directive leads to an include that ends at a place behind it, or to an end
abbrev pub DirectiveMoves : LexerState → Step → Type 0
DirectiveMoves old (Goes first) = ⊥
DirectiveMoves old FileDone = Unit {0}
DirectiveMoves old Stops = Unit {0}
DirectiveMoves old (Includes i) = IsPlace old.text i.next × (old.at ≤ i.next)

abbrev pub StepMoves : LexerState → LexerState → Step → Type 0
StepMoves old new (Goes first) = GoesOn old new
StepMoves old new FileDone = Unit {0}
StepMoves old new Stops = Unit {0}
StepMoves old new (Includes i) = IsPlace old.text i.next × (old.at < i.next) × (old.at < length old.text.bytes)

-- an include in a text leaves less of it than there was from byte number `at` on
abbrev pub TextMoves : Logical → ℕ → TextEnd → Type 0
TextMoves text at TextEnds = Unit {0}
TextMoves text at TextStops = Unit {0}
TextMoves text at (TextIncludes i) = IsPlace text i.next × (length text.bytes - i.next < length text.bytes - at)

-- what is left to read begins with the event of this pause
pub record Pauses (reading : Reading) (owner : Owner) (p : SoFar) (pause : Pause) : Type 0 where
  pub head : IsHead reading pause.event (record { owner = owner; progress = p; stage = pause.stage })
  pub waits : WaitsFor pause.event pause.stage
  pub stands : StandsAt pause.event pause.stage
