-- What a lexer gives, from the tokens of its text (own).
use Rattle.std.specs.Prelude.{◌≡◌, ℕ, Bool, true, List, Option, Some, None, Ok, Err, MatchResult, slice_range, if◌then◌else◌}
use Rattle.std.specs.declared.result.Result.{Result}
use Rattle.std.specs.Str.{IsUtf8, IsCharBoundary}
use Rattle.cm_core.specs.declared.numbers.FileNo.{FileNo}
use Rattle.cm_core.specs.declared.numbers.Place.{Place}
use Rattle.cm_core.specs.declared.token.Token.{Token}
use Rattle.cm_core.specs.Tables.{number_of, numbered}
use Rattle.cm_source.specs.LogicalText.{Logical, place_at}
use Rattle.c_lex.specs.declared.refusal.Cause.TheVariants.{Unclosed as AtUnclosed, BadByte as AtBadByte, LongName as AtLongName}
use Rattle.c_lex.specs.declared.refusal.Cause.{Cause}
use Rattle.c_lex.specs.declared.refusal.Refusal.{Refusal}
use Rattle.c_lex.specs.declared.find.Mode.{Mode}
use Rattle.c_lex.specs.declared.find.Spelled.{Spelled}
use Rattle.c_lex.specs.declared.find.Found.{Found}
use Rattle.c_lex.specs.declared.find.Found.TheVariants.{End, Refused, Named}
use Rattle.c_lex.specs.declared.lexer.LexFault.{LexFault}
use Rattle.c_lex.specs.declared.lexer.LexFault.TheVariants.{Unclosed, BadByte, LongName, NoMemory}
use Rattle.c_lex.specs.Tokens.{next_at}

-- a lexer: its text, the text's file, the number of the byte that it stands at, and whether it is spent
pub record LexerState : Type 0 where
  pub text : Logical
  pub file : FileNo
  pub at : ℕ
  pub spent : Bool

-- a place between the characters of the text, where the text is UTF-8, as each file's is
abbrev pub IsPlace : Logical → ℕ → Type 0
IsPlace text at = IsUtf8 text.bytes → IsCharBoundary text.bytes at

abbrev pub place_in : Logical → FileNo → ℕ → Place
place_in text file at = record { file = file; line = (place_at text at).line; col = (place_at text at).column }

abbrev pub fault_by : Cause → Place → LexFault
fault_by AtUnclosed place = Unclosed place
fault_by AtBadByte place = BadByte place
fault_by AtLongName place = LongName place

abbrev pub fault_of : Logical → FileNo → Refusal → LexFault
fault_of text file refusal = fault_by refusal.cause (place_in text file refusal.at)

abbrev pub spelling_of : Logical → Spelled → List ℕ
spelling_of text t = slice_range text.bytes t.from t.to

-- the token, with the number of its spelling among the names
abbrev pub token_of : Logical → FileNo → Spelled → ℕ → Token
token_of text file t index = record { kind = t.kind; name = record { index = index }; place = place_in text file t.from; spaced = t.spaced }

-- a spent lexer has come to its end
abbrev pub next_of : Mode → LexerState → Found
next_of mode s = if s.spent then End else next_at mode s.text.bytes s.at

-- what a call gives and leaves, by what comes next: the token, with its spelling among the names and
-- the lexer behind it; the fault or want of memory, with the names as before and the lexer spent; or
-- nothing, with all as before
abbrev pub IsReading : Found → LexerState → LexerState → List (List ℕ) → List (List ℕ) → Result (Option Token) LexFault → Type 0
IsReading End s s' names names' r = (r ≡ Ok None) × (s' ≡ s) × (names' ≡ names)
IsReading (Refused refusal) s s' names names' r =
    (r ≡ Err (fault_of s.text s.file refusal)) × (s' ≡ record s { spent = true }) × (names' ≡ names)
IsReading (Named t) s s' names names' r =
    MatchResult r
    (λ given. (given ≡ Some (token_of s.text s.file t (number_of names (spelling_of s.text t))))
    × (s' ≡ record s { at = t.to }) × (names' ≡ numbered names (spelling_of s.text t)))
    (λ fault. (fault ≡ NoMemory) × (s' ≡ record s { spent = true }) × (names' ≡ names))
