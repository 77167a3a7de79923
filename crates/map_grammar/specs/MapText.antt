-- What a text is as a module map: its words, how deep braces nest in them, and the declarations that they spell,
-- after "Module Map Language" of Clang's documentation of modules. Own: the cut into top-level declarations, the limit
-- of nesting, and the order of the refusals.
use Rattle.std.specs.Prelude.{◌≡◌, ℕ, zero, suc, ◌+◌, ◌-◌, Bool, true, false, if◌then◌else◌, ◌==◌, List, [], ◌∷◌, length, take, drop, Option, Some, None, Result, Ok, Err, codes, ⊤}
use Rattle.cm_core.specs.declared.numbers.FileNo.{FileNo}
use Rattle.cm_core.specs.declared.numbers.Place.{Place}
use Rattle.cm_core.specs.declared.token.TokenKind.{TokenKind}
use Rattle.cm_core.specs.declared.token.TokenKind.TheVariants.{Ident, Number, CharConst, Str, Punct, HeaderName, Other, LineEnd}
use Rattle.cm_source.specs.LogicalText.{Logical}
use Rattle.c_lex.specs.declared.lexer.LexFault.{LexFault}
use Rattle.c_lex.specs.Lexemes.{Lexeme, lexemes_of}
use Rattle.map_grammar.specs.declared.word.Word.{Word}
use Rattle.map_grammar.specs.declared.declaration.MapDecl.{MapDecl}
use Rattle.map_grammar.specs.declared.fault.MapFault.{MapFault}
use Rattle.map_grammar.specs.declared.fault.MapFault.TheVariants.{Lex, TooDeep, NotInGrammar, NoMemory}
use Rattle.map_grammar.specs.Grammar.{is, is_string, IsDeclaration}

-- ---- words

abbrev pub is_line_end : TokenKind → Bool
is_line_end Ident = false
is_line_end Number = false
is_line_end CharConst = false
is_line_end Str = false
is_line_end Punct = false
is_line_end HeaderName = false
is_line_end Other = false
is_line_end LineEnd = true

abbrev pub word_of : Lexeme → Word
word_of l = record { text = l.text; place = l.place }

-- the tokens but for line ends
abbrev pub words_among : List Lexeme → List Word
words_among [] = []
words_among (l ∷ ls) = if is_line_end l.kind then words_among ls else word_of l ∷ words_among ls

abbrev pub words_from : Result (List Lexeme) LexFault → Result (List Word) LexFault
words_from (Ok ls) = Ok (words_among ls)
words_from (Err fault) = Err fault

-- the words of a text, or why it has none
abbrev pub words_of : Logical → FileNo → Result (List Word) LexFault
words_of text file = words_from (lexemes_of text file)

-- ---- nesting

-- how deep braces may nest
abbrev pub nesting_limit : ℕ
nesting_limit = 256

-- the first `{` that is deeper than the limit, where so many braces are open
abbrev pub too_deep_in : ℕ → List Word → Option Place
too_deep_in opened [] = None
too_deep_in opened (w ∷ ws) =
    if is (codes "{") w then (if opened == nesting_limit then Some w.place else too_deep_in (opened + 1) ws)
    else (if is (codes "}") w then too_deep_in (opened - 1) ws else too_deep_in opened ws)

unfoldable pub too_deep : List Word → Option Place
too_deep ws = too_deep_in 0 ws

-- ---- the cut

-- how many words there are up to the `}` that closes the first `{`, where so many braces are open
abbrev pub braces_length : ℕ → List Word → ℕ
braces_length opened [] = 0
braces_length opened (w ∷ ws) =
    if is (codes "{") w then braces_length (opened + 1) ws + 1
    else (if is (codes "}") w then (if opened == 1 then 1 else braces_length (opened - 1) ws + 1)
    else braces_length opened ws + 1)

-- how many words there are up to the first string, a literal without a backslash, whatever stands before it
abbrev pub string_length : List Word → ℕ
string_length [] = 0
string_length (w ∷ ws) = if is_string w then 1 else string_length ws + 1

-- how many words the first top-level declaration has
unfoldable pub declaration_length : List Word → ℕ
declaration_length [] = 0
declaration_length (w ∷ ws) = if is (codes "extern") w then string_length ws + 1 else braces_length 0 (w ∷ ws)

-- the top-level declarations; the number bounds how many
unfoldable pub cuts_in : ℕ → List Word → List (List Word)
cuts_in zero ws = []
cuts_in (suc n) [] = []
cuts_in (suc n) (w ∷ ws) = take (declaration_length (w ∷ ws)) (w ∷ ws) ∷ cuts_in n (drop (declaration_length (w ∷ ws)) (w ∷ ws))

-- each has a word at least
unfoldable pub cuts : List Word → List (List Word)
cuts ws = cuts_in (length ws) ws

-- ---- declarations

-- each cut spells the declaration at its place
pub data AreDeclarations : List MapDecl → List (List Word) → Type 0 where
  no_more : AreDeclarations [] []
  one_more : (d : MapDecl) (ds : List MapDecl) (cut : List Word) (others : List (List Word)) → IsDeclaration d cut → AreDeclarations ds others → AreDeclarations (d ∷ ds) (cut ∷ others)

abbrev pub IsNoDeclaration : List Word → Type 0
IsNoDeclaration ws = (d : MapDecl) → IsDeclaration d ws → ⊥

-- the place is that of the first word of the first cut that spells no declaration
pub data IsFirstStray : Place → List (List Word) → Type 0 where
  here : (w : Word) (ws : List Word) (others : List (List Word)) → IsNoDeclaration (w ∷ ws) → IsFirstStray w.place ((w ∷ ws) ∷ others)
  later : (p : Place) (d : MapDecl) (cut : List Word) (others : List (List Word)) → IsDeclaration d cut → IsFirstStray p others → IsFirstStray p (cut ∷ others)

-- ---- what a map is

-- the words spell the declarations, one after another
abbrev pub IsMap : Result (List Word) LexFault → List MapDecl → Type 0
IsMap (Err fault) ds = ⊥
IsMap (Ok words) ds = (too_deep words ≡ None) × AreDeclarations ds (cuts words)

-- the first reason for which a text has no declarations: that of the lexer, its nesting, its grammar
abbrev pub IsRefusal : Result (List Word) LexFault → MapFault → Type 0
IsRefusal lexed NoMemory = ⊤
IsRefusal lexed (Lex fault) = lexed ≡ Err fault
IsRefusal (Ok words) (TooDeep place) = too_deep words ≡ Some place
IsRefusal (Err fault) (TooDeep place) = ⊥
IsRefusal (Ok words) (NotInGrammar place) = (too_deep words ≡ None) × IsFirstStray place (cuts words)
IsRefusal (Err fault) (NotInGrammar place) = ⊥
