-- The search for the next token, piece by piece.
use Rattle.std.proofs.Common.{◌≡◌, ℕ, zero, suc, ◌+◌, ◌-◌, ◌<◌, ◌≤◌, List, length, get_or, take, drop, refl, sym, ap, ◌∙◌, arith, Bool, true, false, Option, Some, None, inl, inr, length-drop, get_or-drop}
use Rattle.std.proofs.lemmas.List.{drop-drop}
use Rattle.std.specs.Str.{IsUtf8, IsCharBoundary}
use Rattle.std.proofs.lemmas.Str.{IsCharBoundary-after_ascii}
use Rattle.c_lex.specs.declared.piece.Piece.{Piece}
use Rattle.c_lex.specs.declared.piece.Piece.TheVariants.{Blank, OpenComment, Token}
use Rattle.c_lex.specs.declared.refusal.Refusal.{Refusal}
use Rattle.cm_core.specs.declared.token.TokenKind.{TokenKind}
use Rattle.c_lex.specs.declared.piece.Cut.{Cut}
use Rattle.c_lex.specs.declared.find.Mode.{Mode}
use Rattle.c_lex.specs.declared.find.Found.{Found}
use Rattle.c_lex.specs.declared.find.Found.TheVariants.{End, Refused, Named}
use Rattle.c_lex.specs.Cuts.{IsInside}
use Rattle.c_lex.specs.Tokens.{cut_in, refusal_in, named_or, found_or, follows_line_end, next_in, next_at}

-- the search has come to byte number `at`
pub record Searching (mode : Mode) (bytes : List ℕ) (start : ℕ) (spaced : Bool) (at : ℕ) : Type 0 where
  pub fuel : ℕ
  pub enough : length bytes ≤ fuel + at
  pub boundary : IsCharBoundary bytes at
  pub same : next_in mode fuel spaced at (drop at bytes) ≡ next_at mode bytes start

pub search_start : (mode : Mode) (bytes : List ℕ) (start : ℕ) → IsCharBoundary bytes start → Searching mode bytes start (follows_line_end bytes start) start
unfolding next_at
search_start mode bytes start boundary = record { fuel = length bytes; enough = omega arith; boundary = boundary; same = refl }

next_none : (mode : Mode) (fuel : ℕ) (spaced : Bool) (at : ℕ) (rest : List ℕ) → cut_in mode rest ≡ None → next_in mode fuel spaced at rest ≡ End
next_none mode zero spaced at rest h = refl
next_none mode (suc fuel) spaced at rest h = rw (h, next_in) refl

next_some : (mode : Mode) (fuel : ℕ) (spaced : Bool) (at : ℕ) (rest : List ℕ) (c : Cut) → cut_in mode rest ≡ Some c → next_in mode (suc fuel) spaced at rest ≡ found_or (refusal_in at c.piece (take c.length rest)) (named_or c.piece at (at + c.length) spaced (next_in mode fuel true (at + c.length) (drop c.length rest)))
next_some mode fuel spaced at rest c h = rw (h, next_in) refl

pub search_end : (mode : Mode) (bytes : List ℕ) (start : ℕ) (spaced : Bool) (at : ℕ) → Searching mode bytes start spaced at → cut_in mode (drop at bytes) ≡ None → End ≡ next_at mode bytes start
search_end mode bytes start spaced at s none = sym (next_none mode s.fuel spaced at (drop at bytes) none) ∙ s.same

-- what is left of the search after the piece c
abbrev pub More : Mode → List ℕ → ℕ → ℕ → Cut → ℕ → Found
More mode bytes start at c fuel = next_in mode fuel true (at + c.length) (drop c.length (drop at bytes))

fuel_is : (fuel : ℕ) → 0 < fuel → fuel ≡ suc (fuel - 1)
fuel_is fuel h = omega arith

pub search_piece : (mode : Mode) (bytes : List ℕ) (start : ℕ) (spaced : Bool) (at : ℕ) (c : Cut) (s : Searching mode bytes start spaced at) → cut_in mode (drop at bytes) ≡ Some c → IsInside (drop at bytes) c → found_or (refusal_in at c.piece (take c.length (drop at bytes))) (named_or c.piece at (at + c.length) spaced (More mode bytes start at c (s.fuel - 1))) ≡ next_at mode bytes start
search_piece mode bytes start spaced at c s cut inside =
    let some : 0 < s.fuel = omega (arith, inside.some, inside.within, length-drop at bytes, s.enough, s.boundary.0) in
    sym (next_some mode (s.fuel - 1) spaced at (drop at bytes) c cut)
    ∙ ap (λ f. next_in mode f spaced at (drop at bytes)) (sym (fuel_is s.fuel some))
    ∙ s.same

-- a cut of the rest ends between characters
pub cut_boundary : (bytes : List ℕ) (at : ℕ) (c : Cut) → IsUtf8 bytes → IsCharBoundary bytes at → IsInside (drop at bytes) c → IsCharBoundary bytes (at + c.length)
cut_boundary bytes at c utf8 boundary inside =
    let within : at + c.length ≤ length bytes = omega (arith, inside.within, length-drop at bytes, boundary.0) in
    elim inside.ends [
      | inl ascii ↦
          let before : at + c.length ≡ at + (c.length - 1) + 1 = omega (arith, inside.some) in
          let byte : get_or bytes (at + (c.length - 1)) 0 < 128 = rw get_or-drop at ascii in
          rw before (IsCharBoundary-after_ascii bytes (at + (c.length - 1)) utf8 (omega (arith, inside.some)) byte)
      | inr next ↦ (
        within,
        λ below high.
            let there : get_or (drop at bytes) c.length 0 ≡ get_or bytes (at + c.length) 0 = get_or-drop at bytes c.length 0 in
            let far : c.length < length (drop at bytes) = omega (arith, length-drop at bytes) in
            let lead = next far (omega arith) in
            omega arith,
      )
    ]

-- the search goes on after a piece that is no token
pub search_more : (mode : Mode) (bytes : List ℕ) (start : ℕ) (spaced : Bool) (at : ℕ) (c : Cut) (s : Searching mode bytes start spaced at) → IsUtf8 bytes → IsInside (drop at bytes) c → More mode bytes start at c (s.fuel - 1) ≡ next_at mode bytes start → Searching mode bytes start true (at + c.length)
search_more mode bytes start spaced at c s utf8 inside same = record {
  fuel = s.fuel - 1;
  enough = omega (arith, inside.some, s.enough);
  boundary = cut_boundary bytes at c utf8 s.boundary inside;
  same = ap (λ rest. next_in mode (s.fuel - 1) true (at + c.length) rest) (sym (drop-drop c.length at bytes)) ∙ same;
}

-- what a step of the search gives
pub found_refused : (o : Option Refusal) (refusal : Refusal) (more next : Found) → Some refusal ≡ o → found_or o more ≡ next → Refused refusal ≡ next
found_refused o refusal more next is found = ap (λ x. found_or x more) is ∙ found

pub found_named : (o : Option Refusal) (p : Piece) (kind : TokenKind) (from to : ℕ) (spaced : Bool) (more next : Found) → None ≡ o → p ≡ Token kind → found_or o (named_or p from to spaced more) ≡ next → Named (record { kind = kind; from = from; to = to; spaced = spaced }) ≡ next
found_named o p kind from to spaced more next none is found =
    ap (λ x. named_or x from to spaced more) (sym is) ∙ ap (λ x. found_or x (named_or p from to spaced more)) none ∙ found

pub found_more : (p : Piece) (o : Option Refusal) (from to : ℕ) (spaced : Bool) (more next : Found) → None ≡ o → ((kind : TokenKind) → p ≡ Token kind → ⊥) → found_or o (named_or p from to spaced more) ≡ next → more ≡ next
found_more (Token kind) o from to spaced more next none other found = absurd (other kind refl)
found_more Blank o from to spaced more next none other found = ap (λ x. found_or x more) none ∙ found
found_more OpenComment o from to spaced more next none other found = ap (λ x. found_or x more) none ∙ found
