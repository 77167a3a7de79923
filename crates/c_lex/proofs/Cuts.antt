-- The first piece of a text, from the cut after its longest piece.
use Rattle.std.proofs.Common.{◌≡◌, ℕ, zero, suc, ◌<◌, ◌≤◌, List, [], ◌∷◌, length, take, refl, sym, ap, ◌∙◌, subst, arith, true, false, leb, Option, Some, None}
use Rattle.std.proofs.lemmas.Bool.Decides.{nat_tests}
use Rattle.c_lex.specs.declared.piece.Piece.{Piece}
use Rattle.c_lex.specs.declared.piece.Cut.{Cut}
use Rattle.c_lex.specs.Pieces.{piece_of, header_of}
use Rattle.c_lex.specs.Cuts.{longest, cut_of, header_cut_of, IsCut, IsNoHeader}

longest_here : (f : List ℕ → Option Piece) (bytes : List ℕ) (k : ℕ) (p : Piece) → f (take (suc k) bytes) ≡ Some p → longest f bytes (suc k) ≡ Some (record { piece = p; length = suc k })
longest_here f bytes k p h = rw (h, longest) refl

longest_later : (f : List ℕ → Option Piece) (bytes : List ℕ) (k : ℕ) → f (take (suc k) bytes) ≡ None → longest f bytes (suc k) ≡ longest f bytes k
longest_later f bytes k h = rw (h, longest) refl

longest_is : (f : List ℕ → Option Piece) (bytes : List ℕ) (c : Cut) → IsCut f bytes c → (k : ℕ) → c.length ≤ k → k ≤ length bytes → longest f bytes k ≡ Some c
longest_is f bytes c is zero above within = absurd (omega (arith, is.some))
longest_is f bytes c is (suc k) above within =
    elim (leb (suc k) c.length) as (λ w. leb (suc k) c.length ≡ w → longest f bytes (suc k) ≡ Some c) [
      | true ↦ λ e.
          let same : c.length ≡ suc k = grind (arith, nat_tests) in
          let make : ℕ → Cut = λ n. record { piece = c.piece; length = n } in
          longest_here f bytes k c.piece (subst (λ n. f (take n bytes) ≡ Some c.piece) same is.here) ∙ ap (λ n. Some (make n)) (sym same)
      | false ↦ λ e.
          let below : c.length < suc k = grind (arith, nat_tests) in
          longest_later f bytes k (is.beyond (suc k) below within) ∙ longest_is f bytes c is k (omega arith) (omega arith)
    ] refl

longest_none : (f : List ℕ → Option Piece) (bytes : List ℕ) (k : ℕ) → k ≤ length bytes → ((m : ℕ) → m ≤ length bytes → f (take m bytes) ≡ None) → longest f bytes k ≡ None
longest_none f bytes zero within h = refl
longest_none f bytes (suc k) within h = longest_later f bytes k (h (suc k) within) ∙ longest_none f bytes k (omega arith) h

empty : (xs : List ℕ) → length xs ≡ 0 → xs ≡ []
empty [] h = refl
empty (x ∷ xs) h = absurd (omega arith)

pub cut_of_is : (bytes : List ℕ) (c : Cut) → IsCut piece_of bytes c → Some c ≡ cut_of bytes
unfolding cut_of
cut_of_is bytes c is = sym (longest_is piece_of bytes c is (length bytes) is.within (omega arith))

pub cut_of_none : (bytes : List ℕ) → length bytes ≡ 0 → None ≡ cut_of bytes
unfolding cut_of
cut_of_none bytes none = rw (empty bytes none) refl

pub header_is : (bytes : List ℕ) (c : Cut) → IsCut header_of bytes c → Some c ≡ header_cut_of bytes
unfolding header_cut_of
header_is bytes c is =
    let found : longest header_of bytes (length bytes) ≡ Some c = longest_is header_of bytes c is (length bytes) is.within (omega arith) in
    rw (found, header_cut_of) refl

pub header_else : (bytes : List ℕ) (r : Option Cut) → IsNoHeader bytes → r ≡ cut_of bytes → r ≡ header_cut_of bytes
unfolding header_cut_of
header_else bytes r no_name is =
    let none : longest header_of bytes (length bytes) ≡ None = longest_none header_of bytes (length bytes) (omega arith) no_name in
    rw (none, header_cut_of) is

pub header_none : (bytes : List ℕ) → length bytes ≡ 0 → None ≡ header_cut_of bytes
unfolding header_cut_of cut_of
header_none bytes none = rw (empty bytes none) refl
