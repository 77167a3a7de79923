-- The preprocessing tokens of a whole text, one after another (C11 5.1.1.2 phase 3, 6.4), or what ends them (own).
use Rattle.std.specs.Prelude.{ℕ, zero, suc, ◌+◌, Bool, List, [], ◌∷◌, length, Result, Ok, Err}
use Rattle.cm_core.specs.declared.numbers.FileNo.{FileNo}
use Rattle.cm_core.specs.declared.numbers.Place.{Place}
use Rattle.cm_core.specs.declared.token.TokenKind.{TokenKind}
use Rattle.cm_source.specs.LogicalText.{Logical}
use Rattle.c_lex.specs.declared.find.Mode.TheVariants.{Plain}
use Rattle.c_lex.specs.declared.find.Spelled.{Spelled}
use Rattle.c_lex.specs.declared.find.Found.{Found}
use Rattle.c_lex.specs.declared.find.Found.TheVariants.{End, Refused, Named}
use Rattle.c_lex.specs.declared.lexer.LexFault.{LexFault}
use Rattle.c_lex.specs.Tokens.{next_at}
use Rattle.c_lex.specs.Readings.{fault_of, place_in, spelling_of}

-- a token with its spelling
pub record Lexeme : Type 0 where
  pub kind : TokenKind
  pub text : List ℕ
  pub place : Place
  pub spaced : Bool

abbrev pub lexeme_of : Logical → FileNo → Spelled → Lexeme
lexeme_of text file t = record { kind = t.kind; text = spelling_of text t; place = place_in text file t.from; spaced = t.spaced }

abbrev pub with_lexeme : Lexeme → Result (List Lexeme) LexFault → Result (List Lexeme) LexFault
with_lexeme l (Ok ls) = Ok (l ∷ ls)
with_lexeme l (Err fault) = Err fault

-- what is found, and the tokens after it
abbrev pub with_found : Logical → FileNo → Found → (ℕ → Result (List Lexeme) LexFault) → Result (List Lexeme) LexFault
with_found text file End after = Ok []
with_found text file (Refused refusal) after = Err (fault_of text file refusal)
with_found text file (Named t) after = with_lexeme (lexeme_of text file t) (after t.to)

-- the tokens from byte number `at` on; the number bounds how many
unfoldable pub lexemes_in : Logical → FileNo → ℕ → ℕ → Result (List Lexeme) LexFault
lexemes_in text file zero at = Ok []
lexemes_in text file (suc n) at = with_found text file (next_at Plain text.bytes at) (lexemes_in text file n)

-- the tokens of the text; each has a byte at least
unfoldable pub lexemes_of : Logical → FileNo → Result (List Lexeme) LexFault
lexemes_of text file = lexemes_in text file (length text.bytes + 1) 0
