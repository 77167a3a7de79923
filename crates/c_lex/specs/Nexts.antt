-- What a text goes on with, in words that other crates can name (own).
use Rattle.std.specs.Prelude.{◌≡◌, ◌⊎◌, ℕ, ◌<◌, List, length, Option, Some, None, Ok, Err, slice_get}
use Rattle.std.specs.declared.result.Result.{Result}
use Rattle.cm_core.specs.declared.numbers.FileNo.{FileNo}
use Rattle.cm_core.specs.declared.numbers.Place.{Place}
use Rattle.cm_core.specs.declared.token.Token.{Token}
use Rattle.cm_core.specs.Tables.{Extends}
use Rattle.cm_source.specs.LogicalText.{Logical}
use Rattle.c_lex.specs.declared.refusal.Cause.{Cause}
use Rattle.c_lex.specs.declared.refusal.Cause.TheVariants.{Unclosed as AtUnclosed, BadByte as AtBadByte, LongName as AtLongName}
use Rattle.c_lex.specs.declared.find.Mode.TheVariants.{Plain, Header}
use Rattle.c_lex.specs.declared.find.Found.{Found}
use Rattle.c_lex.specs.declared.find.Found.TheVariants.{End, Refused, Named}
use Rattle.c_lex.specs.declared.lexer.LexFault.{LexFault}
use Rattle.c_lex.specs.declared.lexer.LexFault.TheVariants.{Unclosed, BadByte, LongName, NoMemory}
use Rattle.c_lex.specs.Tokens.{next_at}
use Rattle.c_lex.specs.Readings.{LexerState, place_in}
use Rattle.c_lex.specs.Lexemes.{Lexeme, lexeme_of}

-- its end, what ends its tokens at a place, or a token, with the number of the byte behind it
pub data NextLexeme : Type 0 where
  NoLexeme : NextLexeme
  OpenComment : Place → NextLexeme
  ZeroByte : Place → NextLexeme
  LongWord : Place → NextLexeme
  OneLexeme : Lexeme → ℕ → NextLexeme

abbrev pub refused_as : Cause → Place → NextLexeme
refused_as AtUnclosed place = OpenComment place
refused_as AtBadByte place = ZeroByte place
refused_as AtLongName place = LongWord place

abbrev pub lexeme_as : Logical → FileNo → Found → NextLexeme
lexeme_as text file End = NoLexeme
lexeme_as text file (Refused refusal) = refused_as refusal.cause (place_in text file refusal.at)
lexeme_as text file (Named t) = OneLexeme (lexeme_of text file t) t.to

-- the next token of the text, which is that of the file, from byte number `at` on
unfoldable pub next_lexeme : Logical → FileNo → ℕ → NextLexeme
next_lexeme text file at = lexeme_as text file (next_at Plain text.bytes at)

-- the same, where `<..>` and `".."` are header names
unfoldable pub next_header : Logical → FileNo → ℕ → NextLexeme
next_header text file at = lexeme_as text file (next_at Header text.bytes at)

-- a token that a lexer gave: its spelling stands among the names, and the lexer behind it
pub record GivesLexeme (found : NextLexeme) (s s' : LexerState) (names : List (List ℕ)) (t : Token) : Type 0 where
  pub text : List ℕ
  pub given : slice_get names t.name.index ≡ Some text
  pub is : found ≡ OneLexeme (record { kind = t.kind; text = text; place = t.place; spaced = t.spaced }) s'.at
  pub state : s' ≡ record s { at = s'.at }
  pub ahead : s.at < s'.at
  pub inside : s.at < length s.text.bytes

abbrev pub fault_as : LexFault → NextLexeme
fault_as (Unclosed place) = OpenComment place
fault_as (BadByte place) = ZeroByte place
fault_as (LongName place) = LongWord place
fault_as NoMemory = NoLexeme

-- what a call of a lexer that is not spent gives, by what its text goes on with
abbrev pub GivesNext : NextLexeme → LexerState → LexerState → List (List ℕ) → Result (Option Token) LexFault → Type 0
GivesNext found s s' names (Ok None) = (found ≡ NoLexeme) × (s' ≡ s)
GivesNext found s s' names (Ok (Some t)) = GivesLexeme found s s' names t
GivesNext found s s' names (Err fault) = (fault ≡ NoMemory) ⊎ (found ≡ fault_as fault)
