-- The words of a text, as a lexer gives its tokens.
use Rattle.std.proofs.Common.{◌≡◌, ◌⊎◌, inl, inr, ℕ, zero, suc, ◌+◌, ◌<◌, true, false, refl, sym, ap, subst, ◌∙◌, List, [], ◌∷◌, ◌++◌, length, slice_get, append_assoc, append-nil, arith, Some, None, Result, Ok, Err}
use Rattle.cm_core.specs.declared.numbers.FileNo.{FileNo}
use Rattle.cm_core.specs.declared.token.Token.{Token}
use Rattle.cm_source.specs.LogicalText.{Logical}
use Rattle.c_lex.specs.declared.lexer.LexFault.{LexFault}
use Rattle.c_lex.specs.declared.lexer.LexFault.TheVariants.{Unclosed, BadByte, LongName, NoMemory}
use Rattle.c_lex.specs.Readings.{LexerState}
use Rattle.c_lex.specs.Lexemes.{Lexeme, with_lexeme, lexemes_in, lexemes_of}
use Rattle.c_lex.proofs.Lexemes.{IsNext, Tells}
use Rattle.map_grammar.specs.declared.word.Word.{Word}
use Rattle.map_grammar.specs.MapText.{is_line_end, word_of, words_among, words_from, words_of}
use Rattle.map_grammar.specs.Faults.{fault_from, IsLexFault}
use Rattle.map_grammar.proofs.RuleLaws.{some_same}

abbrev pub with_words : List Word → Result (List Word) LexFault → Result (List Word) LexFault
with_words found (Ok ws) = Ok (found ++ ws)
with_words found (Err fault) = Err fault

-- `found` was read before the place where the lexer stands
pub record Lexing (text : Logical) (file : FileNo) (found : List Word) (l : LexerState) : Type 0 where
  pub same_text : l.text ≡ text
  pub same_file : l.file ≡ file
  pub fresh : l.spent ≡ false
  pub fuel : ℕ
  pub some : 0 < fuel
  pub enough : length text.bytes < fuel + l.at
  pub same : with_words found (words_from (lexemes_in text file fuel l.at)) ≡ words_of text file

words_none : (ws : Result (List Word) LexFault) → with_words [] ws ≡ ws
words_none (Ok ws) = refl
words_none (Err fault) = refl

pub lex_start : (text : Logical) (file : FileNo) (l : LexerState) → l ≡ record { text = text; file = file; at = 0; spent = false } → Lexing text file [] l
unfolding lexemes_of
lex_start text file l h =
    let start : LexerState = record { text = text; file = file; at = 0; spent = false } in
    let first : Lexing text file [] start = record {
      same_text = refl;
      same_file = refl;
      fresh = refl;
      fuel = length text.bytes + 1;
      some = omega arith;
      enough = omega arith;
      same = words_none (words_from (lexemes_in text file (length text.bytes + 1) 0));
    } in
    subst (λ (x : LexerState). Lexing text file [] x) (sym h) first

fuel_is : (n : ℕ) → 0 < n → (m : ℕ) × (n ≡ suc m)
fuel_is zero h = absurd (omega arith)
fuel_is (suc m) h = (m, refl)

line_end_step : (found : List Word) (l : Lexeme) (ls : Result (List Lexeme) LexFault) → is_line_end l.kind ≡ true → with_words found (words_from (with_lexeme l ls)) ≡ with_words found (words_from ls)
line_end_step found l (Ok ls) h = rw h refl
line_end_step found l (Err fault) h = refl

word_step : (found : List Word) (l : Lexeme) (ls : Result (List Lexeme) LexFault) → is_line_end l.kind ≡ false → with_words found (words_from (with_lexeme l ls)) ≡ with_words (found ++ word_of l ∷ []) (words_from ls)
word_step found l (Ok ls) h = rw h (ap (λ (ws : List Word). let r : Result (List Word) LexFault = Ok ws in r) (sym (append_assoc found (word_of l ∷ []) (words_among ls))))
word_step found l (Err fault) h = refl

-- the lexer after a token, where what was found before and with it is `more`
moved : (text : Logical) (file : FileNo) (found more : List Word) (s s' : LexerState) (names : List (List ℕ)) (t : Token)
    → (l : Lexing text file found s) (n : IsNext s s' names t)
    → ((ls : Result (List Lexeme) LexFault) → with_words found (words_from (with_lexeme (record { kind = t.kind; text = n.text; place = t.place; spaced = t.spaced }) ls)) ≡ with_words more (words_from ls))
    → Lexing text file more s'
moved text file found more s s' names t l n step =
    let f = fuel_is l.fuel l.some in
    let inside : s.at < length text.bytes = subst (λ (x : Logical). s.at < length x.bytes) l.same_text n.inside in
    let enough : length text.bytes < suc f.0 + s.at = subst (λ (x : ℕ). length text.bytes < x + s.at) f.1 l.enough in
    let here : lexemes_in text file (suc f.0) s.at ≡ with_lexeme (record { kind = t.kind; text = n.text; place = t.place; spaced = t.spaced }) (lexemes_in text file f.0 s'.at) =
    subst (λ (x : Logical). lexemes_in x file (suc f.0) s.at ≡ with_lexeme (record { kind = t.kind; text = n.text; place = t.place; spaced = t.spaced }) (lexemes_in x file f.0 s'.at)) l.same_text
    (subst (λ (x : FileNo). lexemes_in s.text x (suc f.0) s.at ≡ with_lexeme (record { kind = t.kind; text = n.text; place = t.place; spaced = t.spaced }) (lexemes_in s.text x f.0 s'.at)) l.same_file (n.same f.0)) in
    let before : with_words found (words_from (lexemes_in text file (suc f.0) s.at)) ≡ words_of text file = subst (λ (x : ℕ). with_words found (words_from (lexemes_in text file x s.at)) ≡ words_of text file) f.1 l.same in
    record {
      same_text = ap (λ (x : LexerState). x.text) n.state ∙ l.same_text;
      same_file = ap (λ (x : LexerState). x.file) n.state ∙ l.same_file;
      fresh = ap (λ (x : LexerState). x.spent) n.state ∙ l.fresh;
      fuel = f.0;
      some = omega (arith, inside, enough);
      enough = omega (arith, enough, n.ahead);
      same = sym (step (lexemes_in text file f.0 s'.at)) ∙ ap (λ (ls : Result (List Lexeme) LexFault). with_words found (words_from ls)) (sym here) ∙ before;
    }

pub lex_line_end : (text : Logical) (file : FileNo) (found : List Word) (s s' : LexerState) (names : List (List ℕ)) (t : Token)
    → Lexing text file found s → IsNext s s' names t → is_line_end t.kind ≡ true → Lexing text file found s'
lex_line_end text file found s s' names t l n h = moved text file found found s s' names t l n (λ ls. line_end_step found _ ls h)

pub lex_word : (text : Logical) (file : FileNo) (found : List Word) (s s' : LexerState) (names : List (List ℕ)) (t : Token) (w : Word)
    → Lexing text file found s → IsNext s s' names t → is_line_end t.kind ≡ false → slice_get names t.name.index ≡ Some w.text → w.place ≡ t.place → Lexing text file (found ++ w ∷ []) s'
lex_word text file found s s' names t w l n h given place =
    let same : n.text ≡ w.text = some_same (sym n.given ∙ given) in
    let word : record { text = n.text; place = t.place } ≡ w = rw (same, sym place) refl in
    subst (λ (x : Word). Lexing text file (found ++ x ∷ []) s') word (moved text file found (found ++ record { text = n.text; place = t.place } ∷ []) s s' names t l n (λ ls. word_step found _ ls h))

pub lex_ends : (text : Logical) (file : FileNo) (found : List Word) (s s' : LexerState) (names : List (List ℕ)) → Lexing text file found s → Tells s s' names (Ok None) → words_of text file ≡ Ok found
lex_ends text file found s s' names l t =
    let f = fuel_is l.fuel l.some in
    let here : lexemes_in text file (suc f.0) s.at ≡ Ok [] =
    subst (λ (x : Logical). lexemes_in x file (suc f.0) s.at ≡ Ok []) l.same_text (subst (λ (x : FileNo). lexemes_in s.text x (suc f.0) s.at ≡ Ok []) l.same_file (t f.0)) in
    let before : with_words found (words_from (lexemes_in text file (suc f.0) s.at)) ≡ words_of text file = subst (λ (x : ℕ). with_words found (words_from (lexemes_in text file x s.at)) ≡ words_of text file) f.1 l.same in
    sym before ∙ ap (λ (ls : Result (List Lexeme) LexFault). with_words found (words_from ls)) here ∙ ap (λ (ws : List Word). let r : Result (List Word) LexFault = Ok ws in r) (append-nil found)

fault_is : (lexed : Result (List Word) LexFault) (fault : LexFault) → lexed ≡ Err fault → IsLexFault lexed (fault_from fault)
fault_is lexed (Unclosed place) h = h
fault_is lexed (BadByte place) h = h
fault_is lexed (LongName place) h = h
fault_is lexed NoMemory h = tt

pub lex_fails : (text : Logical) (file : FileNo) (found : List Word) (s s' : LexerState) (names : List (List ℕ)) (fault : LexFault) → Lexing text file found s → Tells s s' names (Err fault) → IsLexFault (words_of text file) (fault_from fault)
lex_fails text file found s s' names fault l t = by t
  where
    by : (fault ≡ NoMemory) ⊎ ((n : ℕ) → lexemes_in s.text s.file (suc n) s.at ≡ Err fault) → IsLexFault (words_of text file) (fault_from fault)
    by (inl e) = subst (λ (x : LexFault). IsLexFault (words_of text file) (fault_from x)) (sym e) tt
    by (inr e) =
        let f = fuel_is l.fuel l.some in
        let here : lexemes_in text file (suc f.0) s.at ≡ Err fault =
        subst (λ (x : Logical). lexemes_in x file (suc f.0) s.at ≡ Err fault) l.same_text (subst (λ (x : FileNo). lexemes_in s.text x (suc f.0) s.at ≡ Err fault) l.same_file (e f.0)) in
        let before : with_words found (words_from (lexemes_in text file (suc f.0) s.at)) ≡ words_of text file = subst (λ (x : ℕ). with_words found (words_from (lexemes_in text file x s.at)) ≡ words_of text file) f.1 l.same in
        fault_is (words_of text file) fault (sym before ∙ ap (λ (ls : Result (List Lexeme) LexFault). with_words found (words_from ls)) here)
