-- What a text goes on with, and what a lexer gives of it.
use Rattle.std.proofs.Common.{◌≡◌, ◌⊎◌, inl, inr, ℕ, zero, suc, ◌+◌, ◌-◌, ◌<◌, ◌≤◌, Bool, true, false, List, [], ◌∷◌, length, take, drop, slice_get, refl, sym, ap, subst, ◌∙◌, arith, Option, Some, None, Result, Ok, Err, length-drop, if◌then◌else◌}
use Rattle.cm_core.specs.declared.numbers.FileNo.{FileNo}
use Rattle.cm_core.specs.declared.numbers.Place.{Place}
use Rattle.cm_core.specs.declared.token.Token.{Token}
use Rattle.cm_core.specs.Tables.{Extends, Extends-same, number_of, numbered}
use Rattle.cm_core.proofs.TableLemmas.{given_after, Extends-numbered}
use Rattle.cm_source.specs.LogicalText.{Logical}
use Rattle.c_lex.specs.declared.piece.Piece.{Piece}
use Rattle.c_lex.specs.declared.piece.Piece.TheVariants.{Blank, OpenComment as OpenPiece, Token as TokenPiece}
use Rattle.c_lex.specs.declared.piece.Cut.{Cut}
use Rattle.c_lex.specs.declared.refusal.Cause.{Cause}
use Rattle.c_lex.specs.declared.refusal.Cause.TheVariants.{Unclosed as AtUnclosed, BadByte as AtBadByte, LongName as AtLongName}
use Rattle.c_lex.specs.declared.refusal.Refusal.{Refusal}
use Rattle.c_lex.specs.declared.find.Mode.{Mode}
use Rattle.c_lex.specs.declared.find.Mode.TheVariants.{Plain, Header}
use Rattle.c_lex.specs.declared.find.Spelled.{Spelled}
use Rattle.c_lex.specs.declared.find.Found.{Found}
use Rattle.c_lex.specs.declared.find.Found.TheVariants.{End, Refused, Named}
use Rattle.c_lex.specs.declared.lexer.LexFault.{LexFault}
use Rattle.c_lex.specs.declared.lexer.LexFault.TheVariants.{NoMemory}
use Rattle.c_lex.specs.Pieces.{piece_of, header_of}
use Rattle.c_lex.specs.Cuts.{longest, cut_of, header_cut_of}
use Rattle.c_lex.specs.Tokens.{cut_in, refusal_in, named_or, found_or, follows_line_end, next_in, next_at}
use Rattle.c_lex.specs.Readings.{LexerState, IsReading, next_of, fault_by, fault_of, place_in, spelling_of, token_of}
use Rattle.c_lex.specs.Nexts.{NextLexeme, NoLexeme, OpenComment, ZeroByte, LongWord, OneLexeme, GivesLexeme, GivesNext, fault_as, lexeme_as, next_header, next_lexeme, refused_as}

-- ---- a token ends behind the place where it is sought, in a text that goes on there

longest_within : (piece : List ℕ → Option Piece) (bytes : List ℕ) (n : ℕ) (c : Cut) → longest piece bytes n ≡ Some c → (0 < c.length) × (c.length ≤ n)
longest_within piece bytes zero c h = absurd (cc)
longest_within piece bytes (suc n) c h = by (piece (take (suc n) bytes)) h (longest_within piece bytes n c)
  where
    by : (o : Option Piece) → elim o [ None ↦ longest piece bytes n | Some p ↦ Some (record { piece = p; length = suc n }) ] ≡ Some c → (longest piece bytes n ≡ Some c → (0 < c.length) × (c.length ≤ n)) → (0 < c.length) × (c.length ≤ suc n)
    by None g shorter = let r = shorter g in (r.0, omega arith)
    by (Some p) g shorter =
        let P : Option Cut → Type 0 = λ o. elim o [ None ↦ ⊥ | Some d ↦ (0 < d.length) × (d.length ≤ suc n) ] in
        subst P g (omega arith, omega arith)

-- a cut has a byte at least
cut_within : (mode : Mode) (rest : List ℕ) (c : Cut) → cut_in mode rest ≡ Some c → (0 < c.length) × (c.length ≤ length rest)
unfolding cut_of header_cut_of
cut_within Plain rest c h = longest_within piece_of rest (length rest) c h
cut_within Header rest c h = by (longest header_of rest (length rest)) refl h
  where
    by : (o : Option Cut) → longest header_of rest (length rest) ≡ o → elim o [ None ↦ longest piece_of rest (length rest) | Some d ↦ Some d ] ≡ Some c → (0 < c.length) × (c.length ≤ length rest)
    by None e g = longest_within piece_of rest (length rest) c g
    by (Some d) e g = longest_within header_of rest (length rest) c (e ∙ g)

abbrev IsAhead : ℕ → List ℕ → Found → Type 0
IsAhead at rest End = Unit {0}
IsAhead at rest (Refused refusal) = 0 < length rest
IsAhead at rest (Named t) = (at < t.to) × (0 < length rest)

farther : (at n : ℕ) (rest more : List ℕ) (f : Found) → 0 < length rest → IsAhead (at + n) more f → IsAhead at rest f
farther at n rest more End some h = tt
farther at n rest more (Refused refusal) some h = some
farther at n rest more (Named t) some h = (omega (arith, h.0), some)

ahead_or : (at n : ℕ) (spaced : Bool) (rest : List ℕ) (piece : Piece) (refusal : Option Refusal) (more : Found) → 0 < n → 0 < length rest → IsAhead at rest more → IsAhead at rest (found_or refusal (named_or piece at (at + n) spaced more))
ahead_or at n spaced rest piece (Some refusal) more h g m = g
ahead_or at n spaced rest Blank None more h g m = m
ahead_or at n spaced rest OpenPiece None more h g m = m
ahead_or at n spaced rest (TokenPiece kind) None more h g m = (omega arith, g)

next_in_ahead : (mode : Mode) (fuel : ℕ) (spaced : Bool) (at : ℕ) (rest : List ℕ) → IsAhead at rest (next_in mode fuel spaced at rest)
next_in_ahead mode zero spaced at rest = tt
next_in_ahead mode (suc fuel) spaced at rest = by (cut_in mode rest) refl (λ c. next_in_ahead mode fuel true (at + c.length) (drop c.length rest))
  where
    by : (o : Option Cut) → cut_in mode rest ≡ o → ((c : Cut) → IsAhead (at + c.length) (drop c.length rest) (next_in mode fuel true (at + c.length) (drop c.length rest))) → IsAhead at rest (elim o [
      | None ↦ End
      | Some c ↦
          found_or (refusal_in at c.piece (take c.length rest))
          (named_or c.piece at (at + c.length) spaced (next_in mode fuel true (at + c.length) (drop c.length rest)))
    ])
    by None h more = tt
    by (Some c) h more =
        let w = cut_within mode rest c h in
        let some : 0 < length rest = omega arith in
        ahead_or at c.length spaced rest c.piece (refusal_in at c.piece (take c.length rest)) (next_in mode fuel true (at + c.length) (drop c.length rest)) w.0 some
        (farther at c.length rest (drop c.length rest) (next_in mode fuel true (at + c.length) (drop c.length rest)) some (more c))

abbrev IsAheadIn : List ℕ → ℕ → Found → Type 0
IsAheadIn bytes at End = Unit {0}
IsAheadIn bytes at (Refused refusal) = at < length bytes
IsAheadIn bytes at (Named t) = (at < t.to) × (at < length bytes)

in_text : (bytes : List ℕ) (at : ℕ) (f : Found) → IsAhead at (drop at bytes) f → IsAheadIn bytes at f
in_text bytes at End h = tt
in_text bytes at (Refused refusal) h = omega (arith, length-drop at bytes)
in_text bytes at (Named t) h = (h.0, omega (arith, h.1, length-drop at bytes))

found_ahead : (mode : Mode) (bytes : List ℕ) (at : ℕ) → IsAheadIn bytes at (next_at mode bytes at)
unfolding next_at
found_ahead mode bytes at = in_text bytes at (next_at mode bytes at) (next_in_ahead mode (length bytes) (follows_line_end bytes at) at (drop at bytes))

-- the same of what a text goes on with
abbrev pub LeadsOn : List ℕ → ℕ → NextLexeme → Type 0
LeadsOn bytes at NoLexeme = Unit {0}
LeadsOn bytes at (OpenComment place) = at < length bytes
LeadsOn bytes at (ZeroByte place) = at < length bytes
LeadsOn bytes at (LongWord place) = at < length bytes
LeadsOn bytes at (OneLexeme l to) = (at < to) × (at < length bytes)

leads_refused : (bytes : List ℕ) (at : ℕ) (cause : Cause) (place : Place) → at < length bytes → LeadsOn bytes at (refused_as cause place)
leads_refused bytes at AtUnclosed place h = h
leads_refused bytes at AtBadByte place h = h
leads_refused bytes at AtLongName place h = h

leads_as : (text : Logical) (file : FileNo) (at : ℕ) (f : Found) → IsAheadIn text.bytes at f → LeadsOn text.bytes at (lexeme_as text file f)
leads_as text file at End h = tt
leads_as text file at (Refused refusal) h = leads_refused text.bytes at refusal.cause (place_in text file refusal.at) h
leads_as text file at (Named t) h = h

pub next_leads : (text : Logical) (file : FileNo) (at : ℕ) → LeadsOn text.bytes at (next_lexeme text file at)
unfolding next_lexeme
next_leads text file at = leads_as text file at (next_at Plain text.bytes at) (found_ahead Plain text.bytes at)

pub header_leads : (text : Logical) (file : FileNo) (at : ℕ) → LeadsOn text.bytes at (next_header text file at)
unfolding next_header
header_leads text file at = leads_as text file at (next_at Header text.bytes at) (found_ahead Header text.bytes at)

-- ---- what a lexer gives

extends_by : (f : Found) (s s' : LexerState) (names names' : List (List ℕ)) (r : Result (Option Token) LexFault) → IsReading f s s' names names' r → Extends names names'
extends_by End s s' names names' r h = subst (Extends names) (sym h.2) (Extends-same names)
extends_by (Refused refusal) s s' names names' r h = subst (Extends names) (sym h.2) (Extends-same names)
extends_by (Named t) s s' names names' (Ok given) h = Extends-numbered names names' (spelling_of s.text t) h.2
extends_by (Named t) s s' names names' (Err fault) h = subst (Extends names) (sym h.2) (Extends-same names)

next_state : (s s' : LexerState) (to : ℕ) → s' ≡ record s { at = to } → (s' ≡ record s { at = s'.at }) × (s'.at ≡ to)
next_state s s' to h =
    let at : s'.at ≡ to = ap (λ (x : LexerState). x.at) h in
    (h ∙ ap (λ n. let y : LexerState = record s { at = n } in y) (sym at), at)

fault_found : (cause : Cause) (place : Place) → refused_as cause place ≡ fault_as (fault_by cause place)
fault_found AtUnclosed place = refl
fault_found AtBadByte place = refl
fault_found AtLongName place = refl

gives : (mode : Mode) (s s' : LexerState) (names names' : List (List ℕ)) (r : Result (Option Token) LexFault) → s.spent ≡ false → IsReading (next_of mode s) s s' names names' r → GivesNext (lexeme_as s.text s.file (next_at mode s.text.bytes s.at)) s s' names' r
gives mode s s' names names' r fresh read =
    let P : Bool → Type 0 = λ b. IsReading (if b then End else next_at mode s.text.bytes s.at) s s' names names' r in
    by (next_at mode s.text.bytes s.at) (found_ahead mode s.text.bytes s.at) r (subst P fresh read)
  where
    by : (f : Found) → IsAheadIn s.text.bytes s.at f → (r : Result (Option Token) LexFault) → IsReading f s s' names names' r → GivesNext (lexeme_as s.text s.file f) s s' names' r
    by End ahead r h = rw h.0 (refl, h.1)
    by (Refused refusal) ahead r h = rw h.0 (inr (fault_found refusal.cause (place_in s.text s.file refusal.at)))
    by (Named t) ahead (Err fault) h = inl h.0
    by (Named t) ahead (Ok given) h =
        let spelling = spelling_of s.text t in
        let no = number_of names spelling in
        let moved = next_state s s' t.to h.1 in
        rw h.0 (record {
          text = spelling;
          given = given_after names names' spelling no (refl, h.2);
          is = ap (λ (n : ℕ). OneLexeme (record { kind = t.kind; text = spelling; place = place_in s.text s.file t.from; spaced = t.spaced }) n) (sym moved.1);
          state = moved.0;
          ahead = omega (arith, ahead.0, moved.1);
          inside = ahead.1;
        })

pub gives_next : (s s' : LexerState) (names names' : List (List ℕ)) (r : Result (Option Token) LexFault) → s.spent ≡ false → IsReading (next_of Plain s) s s' names names' r → GivesNext (next_lexeme s.text s.file s.at) s s' names' r × Extends names names'
unfolding next_lexeme
gives_next s s' names names' r fresh read = (gives Plain s s' names names' r fresh read, extends_by (next_of Plain s) s s' names names' r read)

pub gives_header : (s s' : LexerState) (names names' : List (List ℕ)) (r : Result (Option Token) LexFault) → s.spent ≡ false → IsReading (next_of Header s) s s' names names' r → GivesNext (next_header s.text s.file s.at) s s' names' r × Extends names names'
unfolding next_header
gives_header s s' names names' r fresh read = (gives Header s s' names names' r fresh read, extends_by (next_of Header s) s s' names names' r read)
