-- The kind of a whole text, from its first cut.
use Rattle.std.proofs.Common.{◌≡◌, ℕ, ◌<◌, ◌≤◌, List, [], ◌∷◌, length, take, refl, sym, ap, ◌∙◌, subst, arith, Some, None}
use Rattle.std.proofs.Math.Seq.{take-length}
use Rattle.c_lex.specs.declared.piece.Cut.{Cut}
use Rattle.c_lex.specs.Pieces.{piece_of}
use Rattle.c_lex.specs.Cuts.{cut_of, IsCut}
use Rattle.c_lex.specs.Tokens.{token_kind, kind_of}

pub kind_empty : (text : List ℕ) → None ≡ cut_of text → length text ≡ 0 → None ≡ kind_of text
unfolding kind_of piece_of
kind_empty [] h none = refl
kind_empty (x ∷ xs) h none = absurd (omega arith)

pub kind_part : (text : List ℕ) (c : Cut) → IsCut piece_of text c → c.length < length text → None ≡ kind_of text
unfolding kind_of
kind_part text c is below =
    let none : piece_of text ≡ None = ap piece_of (sym (take-length text)) ∙ is.beyond (length text) below (omega arith) in
    rw none refl

pub kind_whole : (text : List ℕ) (c : Cut) → IsCut piece_of text c → length text ≤ c.length → token_kind (Some c.piece) (length text) ≡ kind_of text
unfolding kind_of
kind_whole text c is above =
    let same : c.length ≡ length text = omega (arith, is.within) in
    let whole : piece_of text ≡ Some c.piece = ap piece_of (sym (take-length text)) ∙ subst (λ n. piece_of (take n text) ≡ Some c.piece) same is.here in
    ap (λ p. token_kind p (length text)) (sym whole)
