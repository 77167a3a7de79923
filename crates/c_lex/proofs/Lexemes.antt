-- What one reading of a lexer says of the tokens of its text.
use Rattle.std.proofs.Common.{◌≡◌, ◌⊎◌, inl, inr, ℕ, zero, suc, ◌+◌, ◌-◌, ◌<◌, ◌≤◌, Bool, true, false, List, [], ◌∷◌, length, take, drop, slice_get, refl, sym, ap, subst, ◌∙◌, arith, Option, Some, None, Result, Ok, Err, length-drop, if◌then◌else◌}
use Rattle.cm_core.specs.declared.token.Token.{Token}
use Rattle.cm_core.specs.Tables.{number_of, numbered}
use Rattle.cm_core.proofs.TableLemmas.{given_after}
use Rattle.c_lex.specs.declared.piece.Piece.{Piece}
use Rattle.c_lex.specs.declared.piece.Piece.TheVariants.{Blank, OpenComment, Token as TokenPiece}
use Rattle.c_lex.specs.declared.piece.Cut.{Cut}
use Rattle.c_lex.specs.declared.refusal.Refusal.{Refusal}
use Rattle.c_lex.specs.declared.find.Mode.{Mode}
use Rattle.c_lex.specs.declared.find.Mode.TheVariants.{Plain}
use Rattle.c_lex.specs.declared.find.Spelled.{Spelled}
use Rattle.c_lex.specs.declared.find.Found.{Found}
use Rattle.c_lex.specs.declared.find.Found.TheVariants.{End, Refused, Named}
use Rattle.c_lex.specs.declared.lexer.LexFault.{LexFault}
use Rattle.c_lex.specs.declared.lexer.LexFault.TheVariants.{NoMemory}
use Rattle.c_lex.specs.Pieces.{piece_of}
use Rattle.c_lex.specs.Cuts.{longest, cut_of}
use Rattle.c_lex.specs.Tokens.{refusal_in, named_or, found_or, follows_line_end, next_in, next_at}
use Rattle.c_lex.specs.Readings.{LexerState, IsReading, next_of, spelling_of, token_of}
use Rattle.c_lex.specs.Lexemes.{Lexeme, with_lexeme, lexemes_in}

-- ---- a token ends after the place where it is sought

longest_within : (piece : List ℕ → Option Piece) (bytes : List ℕ) (n : ℕ) (c : Cut) → longest piece bytes n ≡ Some c → (0 < c.length) × (c.length ≤ n)
longest_within piece bytes zero c h = absurd (cc)
longest_within piece bytes (suc n) c h = by (piece (take (suc n) bytes)) h (longest_within piece bytes n c)
  where
    by : (o : Option Piece) → elim o [ None ↦ longest piece bytes n | Some p ↦ Some (record { piece = p; length = suc n }) ] ≡ Some c → (longest piece bytes n ≡ Some c → (0 < c.length) × (c.length ≤ n)) → (0 < c.length) × (c.length ≤ suc n)
    by None g shorter = let r = shorter g in (r.0, omega arith)
    by (Some p) g shorter =
        let P : Option Cut → Type 0 = λ o. elim o [ None ↦ ⊥ | Some d ↦ (0 < d.length) × (d.length ≤ suc n) ] in
        subst P g (omega arith, omega arith)

-- a place behind the one where the search stands, in a text that goes on there
abbrev IsAhead : ℕ → List ℕ → Found → Type 0
IsAhead at rest End = Unit {0}
IsAhead at rest (Refused refusal) = Unit {0}
IsAhead at rest (Named t) = (at < t.to) × (0 < length rest)

farther : (at n : ℕ) (rest more : List ℕ) (f : Found) → 0 < length rest → IsAhead (at + n) more f → IsAhead at rest f
farther at n rest more End some h = tt
farther at n rest more (Refused refusal) some h = tt
farther at n rest more (Named t) some h = (omega (arith, h.0), some)

ahead_or : (at n : ℕ) (spaced : Bool) (rest : List ℕ) (piece : Piece) (refusal : Option Refusal) (more : Found) → 0 < n → 0 < length rest → IsAhead at rest more → IsAhead at rest (found_or refusal (named_or piece at (at + n) spaced more))
ahead_or at n spaced rest piece (Some refusal) more h g m = tt
ahead_or at n spaced rest Blank None more h g m = m
ahead_or at n spaced rest OpenComment None more h g m = m
ahead_or at n spaced rest (TokenPiece kind) None more h g m = (omega arith, g)

next_ahead : (fuel : ℕ) (spaced : Bool) (at : ℕ) (rest : List ℕ) → IsAhead at rest (next_in Plain fuel spaced at rest)
unfolding cut_of
next_ahead zero spaced at rest = tt
next_ahead (suc fuel) spaced at rest = by (cut_of rest) refl (λ c. next_ahead fuel true (at + c.length) (drop c.length rest))
  where
    by : (o : Option Cut) → cut_of rest ≡ o → ((c : Cut) → IsAhead (at + c.length) (drop c.length rest) (next_in Plain fuel true (at + c.length) (drop c.length rest))) → IsAhead at rest (elim o [
      | None ↦ End
      | Some c ↦
          found_or (refusal_in at c.piece (take c.length rest))
          (named_or c.piece at (at + c.length) spaced (next_in Plain fuel true (at + c.length) (drop c.length rest)))
    ])
    by None h more = tt
    by (Some c) h more =
        let w = longest_within piece_of rest (length rest) c h in
        let some : 0 < length rest = omega arith in
        ahead_or at c.length spaced rest c.piece (refusal_in at c.piece (take c.length rest)) (next_in Plain fuel true (at + c.length) (drop c.length rest)) w.0 some
        (farther at c.length rest (drop c.length rest) (next_in Plain fuel true (at + c.length) (drop c.length rest)) some (more c))

next_at_ahead : (bytes : List ℕ) (at : ℕ) (t : Spelled) → next_at Plain bytes at ≡ Named t → (at < t.to) × (at < length bytes)
unfolding next_at
next_at_ahead bytes at t h =
    let P : Found → Type 0 = λ f. IsAhead at (drop at bytes) f in
    let a = subst P h (next_ahead (length bytes) (follows_line_end bytes at) at (drop at bytes)) in
    (a.0, omega (arith, a.1, length-drop at bytes))

-- ---- one reading

-- what is read next, and the tokens after it
pub record IsNext (s s' : LexerState) (names : List (List ℕ)) (t : Token) : Type 0 where
  pub text : List ℕ
  pub given : slice_get names t.name.index ≡ Some text
  pub state : s' ≡ record s { at = s'.at }
  pub ahead : s.at < s'.at
  pub inside : s.at < length s.text.bytes
  pub same : (n : ℕ) → lexemes_in s.text s.file (suc n) s.at ≡ with_lexeme (record { kind = t.kind; text = text; place = t.place; spaced = t.spaced }) (lexemes_in s.text s.file n s'.at)

abbrev pub Tells : LexerState → LexerState → List (List ℕ) → Result (Option Token) LexFault → Type 0
Tells s s' names (Ok None) = (n : ℕ) → lexemes_in s.text s.file (suc n) s.at ≡ Ok []
Tells s s' names (Ok (Some t)) = IsNext s s' names t
Tells s s' names (Err fault) = (fault ≡ NoMemory) ⊎ ((n : ℕ) → lexemes_in s.text s.file (suc n) s.at ≡ Err fault)

next_state : (s s' : LexerState) (to : ℕ) → s' ≡ record s { at = to } → (s' ≡ record s { at = s'.at }) × (s'.at ≡ to)
next_state s s' to h =
    let at : s'.at ≡ to = ap (λ (x : LexerState). x.at) h in
    (h ∙ ap (λ n. let y : LexerState = record s { at = n } in y) (sym at), at)

is_next : (s s' : LexerState) (names names' : List (List ℕ)) (t : Spelled) → next_at Plain s.text.bytes s.at ≡ Named t → s' ≡ record s { at = t.to } → names' ≡ numbered names (spelling_of s.text t) → IsNext s s' names' (token_of s.text s.file t (number_of names (spelling_of s.text t)))
unfolding lexemes_in
is_next s s' names names' t found moved given =
    let a = next_at_ahead s.text.bytes s.at t found in
    let m = next_state s s' t.to moved in
    record {
      text = spelling_of s.text t;
      given = given_after names names' (spelling_of s.text t) (number_of names (spelling_of s.text t)) (refl, given);
      state = m.0;
      ahead = omega (arith, a.0, m.1);
      inside = a.1;
      same = λ n. rw (found, m.1) refl;
    }

pub tells : (s s' : LexerState) (names names' : List (List ℕ)) (r : Result (Option Token) LexFault) → s.spent ≡ false → IsReading (next_of Plain s) s s' names names' r → Tells s s' names' r
unfolding lexemes_in
tells s s' names names' r fresh read =
    let P : Bool → Type 0 = λ b. IsReading (if b then End else next_at Plain s.text.bytes s.at) s s' names names' r in
    by (next_at Plain s.text.bytes s.at) refl (subst P fresh read)
  where
    given : (t : Spelled) → next_at Plain s.text.bytes s.at ≡ Named t → (r : Result (Option Token) LexFault) → IsReading (Named t) s s' names names' r → Tells s s' names' r
    given t e (Ok x) h = rw h.0 (is_next s s' names names' t e h.1 h.2)
    given t e (Err fault) h = inl h.0

    by : (f : Found) → next_at Plain s.text.bytes s.at ≡ f → IsReading f s s' names names' r → Tells s s' names' r
    by End e h = rw h.0 (λ n. rw e refl)
    by (Refused refusal) e h = rw h.0 (inr (λ n. rw e refl))
    by (Named t) e h = given t e r h
