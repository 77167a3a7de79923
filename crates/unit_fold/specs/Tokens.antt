-- The tokens of an owner (C11 6.4): those of its texts after translation phase 2 (cm_source, LogicalText), one after another
-- (c_lex, Nexts), each by its kind, its spelling and its place. own
use Rattle.std.specs.Prelude.{ℕ, Bool, true, false, ◌&&◌, ◌||◌, if◌then◌else◌, List, Option, None, codes}
use Rattle.std.specs.Str.{bytes_eq}
use Rattle.cm_core.specs.declared.token.TokenKind.{TokenKind}
use Rattle.cm_core.specs.declared.token.TokenKind.TheVariants.{Ident, Punct, HeaderName, LineEnd}
use Rattle.cm_source.specs.LogicalText.{Logical}
use Rattle.cm_core.specs.declared.numbers.FileNo.{FileNo}
use Rattle.cm_core.specs.declared.numbers.Place.{Place}
use Rattle.c_lex.specs.Lexemes.{Lexeme}
use Rattle.c_lex.specs.Nexts.{NextLexeme, NoLexeme, OpenComment, ZeroByte, LongWord, OneLexeme, next_lexeme, next_header}
use Rattle.unit_fold.specs.Lines.{between}
use Rattle.unit_fold.specs.declared.at.At.{At}
use Rattle.unit_fold.specs.declared.item.FaultAt.{FaultAt}
use Rattle.unit_fold.specs.declared.item.FaultKind.{FaultKind}
use Rattle.unit_fold.specs.declared.item.FaultKind.TheVariants.{Unclosed, BadByte, LongName}

-- a token by its kind, its spelling and its place
pub record TokenAt : Type 0 where
  pub kind : TokenKind
  pub text : List ℕ
  pub at : At

-- ---- which token it is

abbrev pub is_ident : TokenKind → Bool
is_ident Ident = true
is_ident kind = false

abbrev pub is_punct : TokenKind → Bool
is_punct Punct = true
is_punct kind = false

abbrev pub is_header_name : TokenKind → Bool
is_header_name HeaderName = true
is_header_name kind = false

abbrev pub is_line_end : TokenKind → Bool
is_line_end LineEnd = true
is_line_end kind = false

-- the punctuator of this spelling
abbrev pub is_punctuator : List ℕ → TokenAt → Bool
is_punctuator text t = is_punct t.kind && bytes_eq t.text text

-- the identifier of this spelling, which may be a keyword
abbrev pub is_word : List ℕ → TokenAt → Bool
is_word text t = is_ident t.kind && bytes_eq t.text text

-- `#`, for which `%:` stands as well (C11 6.4.6p3)
abbrev pub is_hash : TokenAt → Bool
is_hash t = is_punctuator (codes "#") t || is_punctuator (codes "%:") t

-- what stands between the quotes of a header name `".."`
abbrev pub quoted : TokenAt → Option (List ℕ)
quoted t = if is_header_name t.kind then between (codes "\"") (codes "\"") t.text else None

-- ---- what a text goes on with

-- its end, a fault at which the file ends, a line end or another token; with the number of the byte behind what is read
pub data Next : Type 0 where
  NoneLeft : Next
  Faulty : FaultAt → Next
  LineEnds : ℕ → Next
  Gives : TokenAt → ℕ → Next

abbrev pub place_at : Place → At
place_at place = record { line = place.line; column = place.col }

abbrev pub token_at : Lexeme → TokenAt
token_at l = record { kind = l.kind; text = l.text; at = place_at l.place }

abbrev pub fault_at : Place → FaultKind → FaultAt
fault_at place kind = record { at = place_at place; kind = kind }

abbrev pub next_of : NextLexeme → Next
next_of NoLexeme = NoneLeft
next_of (OpenComment place) = Faulty (fault_at place Unclosed)
next_of (ZeroByte place) = Faulty (fault_at place BadByte)
next_of (LongWord place) = Faulty (fault_at place LongName)
next_of (OneLexeme l to) = if is_line_end l.kind then LineEnds to else Gives (token_at l) to

-- all places of an owner are in one file
abbrev pub own_file : FileNo
own_file = record { index = 0 }

-- what the text goes on with at byte number `at`
abbrev pub next : Logical → ℕ → Next
next text at = next_of (next_lexeme text own_file at)

-- the same, where a header name is read first
abbrev pub next_name : Logical → ℕ → Next
next_name text at = next_of (next_header text own_file at)
