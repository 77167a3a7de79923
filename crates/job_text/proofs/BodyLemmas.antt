-- The body of a macro, as the lexer gives its tokens.
use Rattle.std.proofs.Common.{◌≡◌, ◌⊎◌, inl, inr, ℕ, zero, suc, ◌+◌, ◌<◌, ◌≤◌, Bool, true, false, not, ◌&&◌, refl, sym, ap, subst, ◌∙◌, List, [], ◌∷◌, ◌++◌, length, slice_get, append_assoc, append-nil, arith, Option, Some, None, Result, Ok, Err}
use Rattle.std.proofs.Math.Seq.{take-length}
use Rattle.std.specs.Str.{IsUtf8, IsValidUpTo}
use Rattle.cm_core.specs.declared.macros.BodyToken.{BodyToken}
use Rattle.cm_core.specs.declared.token.Token.{Token}
use Rattle.cm_source.specs.LogicalText.{Logical}
use Rattle.c_lex.specs.declared.lexer.LexFault.{LexFault}
use Rattle.c_lex.specs.declared.lexer.LexFault.TheVariants.{Unclosed, BadByte, LongName, NoMemory}
use Rattle.c_lex.specs.Readings.{LexerState}
use Rattle.c_lex.specs.Lexemes.{Lexeme, with_lexeme, lexemes_in, lexemes_of}
use Rattle.c_lex.proofs.Lexemes.{IsNext, Tells}
use Rattle.job_text.specs.declared.fault.JobKind.{JobKind}
use Rattle.job_text.specs.declared.fault.JobKind.TheVariants.{Macro}
use Rattle.job_text.specs.Answers.{fault_from, Gives}
use Rattle.job_text.specs.Bodies.{is_line_end, body_tokens, cut_body, no_file}
use Rattle.job_text.specs.Drafts.{is_nil, IsBehind}

-- the tokens so far, and then those of the rest
abbrev pub joined : List BodyToken → Result (List Lexeme) LexFault → Result (List BodyToken) JobKind
joined done (Ok ls) = Ok (done ++ body_tokens (is_nil done) ls)
joined done (Err fault) = Err Macro

-- the tokens so far are those before the place where the lexer stands
pub record Cutting (all : Result (List BodyToken) JobKind) (done : List BodyToken) (l : LexerState) : Type 0 where
  pub fresh : l.spent ≡ false
  pub fuel : ℕ
  pub some : 0 < fuel
  pub enough : length l.text.bytes < fuel + l.at
  pub same : joined done (lexemes_in l.text l.file fuel l.at) ≡ all

joined_none : (r : Result (List Lexeme) LexFault) → joined [] r ≡ cut_body r
joined_none (Ok ls) = refl
joined_none (Err fault) = refl

pub cut_start : (text : Logical) (l : LexerState) → l ≡ record { text = text; file = no_file; at = 0; spent = false } → Cutting (cut_body (lexemes_of text no_file)) [] l
unfolding lexemes_of
cut_start text l h =
    let start : LexerState = record { text = text; file = no_file; at = 0; spent = false } in
    let all : Result (List BodyToken) JobKind = cut_body (lexemes_in text no_file (length text.bytes + 1) 0) in
    let first : Cutting all [] start = record {
      fresh = refl;
      fuel = length text.bytes + 1;
      some = omega arith;
      enough = omega arith;
      same = joined_none (lexemes_in text no_file (length text.bytes + 1) 0);
    } in
    subst (λ (x : LexerState). Cutting all [] x) (sym h) first

fuel_is : (n : ℕ) → 0 < n → (m : ℕ) × (n ≡ suc m)
fuel_is zero h = absurd (omega arith)
fuel_is (suc m) h = (m, refl)

same_at : (all : Result (List BodyToken) JobKind) (done : List BodyToken) (l : LexerState) (fuel n : ℕ) → fuel ≡ n → joined done (lexemes_in l.text l.file fuel l.at) ≡ all → joined done (lexemes_in l.text l.file n l.at) ≡ all
same_at all done l fuel n e h = subst (λ (x : ℕ). joined done (lexemes_in l.text l.file x l.at) ≡ all) e h

moved : (all : Result (List BodyToken) JobKind) (done more : List BodyToken) (s s' : LexerState) (names : List (List ℕ)) (t : Token)
    → (l : Cutting all done s) (n : IsNext s s' names t)
    → ((ls : Result (List Lexeme) LexFault) → joined done (with_lexeme (record { kind = t.kind; text = n.text; place = t.place; spaced = t.spaced }) ls) ≡ joined more ls)
    → Cutting all more s'
moved all done more s s' names t l n step =
    let f = fuel_is l.fuel l.some in
    let enough : length s.text.bytes < suc f.0 + s.at = subst (λ (x : ℕ). length s.text.bytes < x + s.at) f.1 l.enough in
    let next : LexerState = record s { at = s'.at } in
    let after : Cutting all more next = record {
      fresh = l.fresh;
      fuel = f.0;
      some = omega (arith, n.inside, enough);
      enough = omega (arith, enough, n.ahead);
      same = sym (step (lexemes_in s.text s.file f.0 s'.at)) ∙ ap (joined done) (sym (n.same f.0)) ∙ same_at all done s l.fuel (suc f.0) f.1 l.same;
    } in
    subst (λ (x : LexerState). Cutting all more x) (sym n.state) after

line_end_step : (done : List BodyToken) (l : Lexeme) (ls : Result (List Lexeme) LexFault) → is_line_end l.kind ≡ true → joined done (with_lexeme l ls) ≡ joined done ls
line_end_step done l (Ok ls) h = rw h refl
line_end_step done l (Err fault) h = refl

some_before : (done : List BodyToken) (t : BodyToken) → is_nil (done ++ t ∷ []) ≡ false
some_before [] t = refl
some_before (x ∷ done) t = refl

token_step : (done : List BodyToken) (l : Lexeme) (ls : Result (List Lexeme) LexFault) → is_line_end l.kind ≡ false
    → joined done (with_lexeme l ls) ≡ joined (done ++ record { text = l.text; spaced = l.spaced && not (is_nil done) } ∷ []) ls
token_step done l (Err fault) h = refl
token_step done l (Ok ls) h =
    let t : BodyToken = record { text = l.text; spaced = l.spaced && not (is_nil done) } in
    rw (h, some_before done t) (ap (λ (ts : List BodyToken). let r : Result (List BodyToken) JobKind = Ok ts in r) (sym (append_assoc done (t ∷ []) (body_tokens false ls))))

pub cut_line_end : (all : Result (List BodyToken) JobKind) (done : List BodyToken) (s s' : LexerState) (names : List (List ℕ)) (t : Token)
    → Cutting all done s → IsNext s s' names t → is_line_end t.kind ≡ true → Cutting all done s'
cut_line_end all done s s' names t l n h = moved all done done s s' names t l n (λ ls. line_end_step done _ ls h)

some_same : (x y : List ℕ) → (let o : Option (List ℕ) = Some x in o) ≡ Some y → x ≡ y
some_same x y h = cc

pub cut_token : (all : Result (List BodyToken) JobKind) (done after : List BodyToken) (s s' : LexerState) (names : List (List ℕ)) (t : Token)
    → Cutting all done s → IsNext s s' names t → is_line_end t.kind ≡ false → IsBehind done (slice_get names t.name.index) t.spaced after → Cutting all after s'
cut_token all done after s s' names t l n h behind =
    let same : n.text ≡ behind.0 = some_same n.text behind.0 (sym n.given ∙ behind.1) in
    let given : after ≡ done ++ record { text = n.text; spaced = t.spaced && not (is_nil done) } ∷ [] = rw same behind.2 in
    subst (λ (x : List BodyToken). Cutting all x s') (sym given)
    (moved all done (done ++ record { text = n.text; spaced = t.spaced && not (is_nil done) } ∷ []) s s' names t l n (λ ls. token_step done _ ls h))

pub cut_ends : (all : Result (List BodyToken) JobKind) (done : List BodyToken) (s s' : LexerState) (names : List (List ℕ)) → Cutting all done s → Tells s s' names (Ok None) → all ≡ Ok done
cut_ends all done s s' names l t =
    let f = fuel_is l.fuel l.some in
    sym (same_at all done s l.fuel (suc f.0) f.1 l.same) ∙ ap (joined done) (t f.0) ∙ ap (λ (ts : List BodyToken). let r : Result (List BodyToken) JobKind = Ok ts in r) (append-nil done)

refused : (all : Result (List BodyToken) JobKind) (fault : LexFault) → all ≡ Err Macro → Gives all (Err (fault_from fault))
refused all (Unclosed place) h = h
refused all (BadByte place) h = h
refused all (LongName place) h = h
refused all NoMemory h = tt

pub cut_fails : (all : Result (List BodyToken) JobKind) (done : List BodyToken) (s s' : LexerState) (names : List (List ℕ)) (fault : LexFault) → Cutting all done s → Tells s s' names (Err fault) → Gives all (Err (fault_from fault))
cut_fails all done s s' names fault l t = by t
  where
    by : (fault ≡ NoMemory) ⊎ ((n : ℕ) → lexemes_in s.text s.file (suc n) s.at ≡ Err fault) → Gives all (Err (fault_from fault))
    by (inl e) = subst (λ (x : LexFault). Gives all (Err (fault_from x))) (sym e) tt
    by (inr e) =
        let f = fuel_is l.fuel l.some in
        refused all fault (sym (same_at all done s l.fuel (suc f.0) f.1 l.same) ∙ ap (joined done) (e f.0))

-- a text is UTF-8
pub never_cut : (text : List ℕ) (n : ℕ) → IsUtf8 text → IsValidUpTo text n → ⊥
never_cut text n whole part = part.longest (length text) part.short (rw (take-length text) whole)
