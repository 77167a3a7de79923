-- The macros that a job defines: their names (C11 6.4.2.1, 6.10.8.1) and their bodies (6.10.3), which are cut into
-- preprocessing tokens as a file of that text is. Own: an identifier has at most 4,096 bytes.
use Rattle.std.specs.Prelude.{ℕ, ◌-◌, Bool, true, false, not, ◌&&◌, ◌||◌, if◌then◌else◌, List, [], ◌∷◌, length, slice_get, Option, Some, None, Result, Ok, Err, codes}
use Rattle.std.specs.List.{list_any}
use Rattle.std.specs.Option.{option_map_or}
use Rattle.std.specs.Str.{bytes_eq}
use Rattle.cm_core.specs.declared.macros.BodyToken.{BodyToken}
use Rattle.cm_core.specs.declared.macros.MacroBody.{MacroBody}
use Rattle.cm_core.specs.declared.macros.Define.{Define}
use Rattle.cm_core.specs.declared.numbers.FileNo.{FileNo}
use Rattle.cm_core.specs.declared.token.TokenKind.{TokenKind}
use Rattle.cm_core.specs.declared.token.TokenKind.TheVariants.{Ident, Number, CharConst, Str, Punct, HeaderName, Other, LineEnd}
use Rattle.cm_source.specs.LogicalText.{text_of}
use Rattle.c_lex.specs.declared.lexer.LexFault.{LexFault}
use Rattle.c_lex.specs.Lexemes.{Lexeme, lexemes_of}
use Rattle.c_lex.specs.Tokens.{is_ident, kind_of}
use Rattle.job_text.specs.declared.fault.JobKind.{JobKind}
use Rattle.job_text.specs.declared.fault.JobKind.TheVariants.{Macro}
use Rattle.job_text.specs.Answers.{and_then}
use Rattle.job_text.specs.Fields.{before_mark, after_mark}

abbrev pub is_line_end : TokenKind → Bool
is_line_end Ident = false
is_line_end Number = false
is_line_end CharConst = false
is_line_end Str = false
is_line_end Punct = false
is_line_end HeaderName = false
is_line_end Other = false
is_line_end LineEnd = true

-- the tokens of a text as those of a body, which has no line end and whose first token isn't spaced
abbrev pub body_tokens : Bool → List Lexeme → List BodyToken
body_tokens first [] = []
body_tokens first (l ∷ ls) =
    if is_line_end l.kind then body_tokens first ls
    else record { text = l.text; spaced = l.spaced && not first } ∷ body_tokens false ls

-- the number that places have as their file; none is kept
abbrev pub no_file : FileNo
no_file = record { index = 0 }

abbrev pub cut_body : Result (List Lexeme) LexFault → Result (List BodyToken) JobKind
cut_body (Ok ls) = Ok (body_tokens true ls)
cut_body (Err fault) = Err Macro

-- the tokens that a text is cut into
unfoldable pub cut_text : List ℕ → Result (List BodyToken) JobKind
cut_text text = cut_body (lexemes_of (text_of text) no_file)

-- 6.10.3.3p1: `##` stands neither at the start nor at the end of a body
abbrev pub is_paste : BodyToken → Bool
is_paste t = bytes_eq t.text (codes "##") || bytes_eq t.text (codes "%:%:")

abbrev pub has_outer_paste : List BodyToken → Bool
has_outer_paste tokens = option_map_or is_paste (slice_get tokens 0) false || option_map_or is_paste (slice_get tokens (length tokens - 1)) false

abbrev pub unless_outer_paste : List BodyToken → Result (List BodyToken) JobKind
unless_outer_paste tokens = if has_outer_paste tokens then Err Macro else Ok tokens

-- the body after `NAME`, which is 1, and that after `NAME=`
abbrev pub one_token : List BodyToken
one_token = record { text = codes "1"; spaced = false } ∷ []

abbrev pub body_of : Option (List ℕ) → Result (List BodyToken) JobKind
body_of None = Ok one_token
body_of (Some text) = and_then (cut_text text) unless_outer_paste

-- 6.10.8.1: the names of the predefined macros
unfoldable pub predefined_names : List (List ℕ)
predefined_names =
    codes "__DATE__" ∷ codes "__FILE__" ∷ codes "__LINE__" ∷ codes "__STDC__" ∷ codes "__STDC_HOSTED__"
    ∷ codes "__STDC_VERSION__" ∷ codes "__TIME__" ∷ []

abbrev pub is_identifier : List ℕ → Bool
is_identifier name = option_map_or is_ident (kind_of name) false

abbrev pub is_predefined : List ℕ → Bool
is_predefined name = list_any (λ word. bytes_eq word name) predefined_names

abbrev pub object_like : List ℕ → List BodyToken → Define
object_like name tokens = record { name = name; body = record { params = None; variadic = false; tokens = tokens } }

-- `NAME` or `NAME=TEXT`, where 61 is `=`
abbrev pub definition_of : List ℕ → Result Define JobKind
definition_of field =
    if not (is_identifier (before_mark 61 field)) || is_predefined (before_mark 61 field) then Err Macro
    else and_then (body_of (after_mark 61 field)) (λ tokens. Ok (object_like (before_mark 61 field) tokens))
