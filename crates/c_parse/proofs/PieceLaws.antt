-- The pieces of tokens are as the rule states, and no other lists are.
use Rattle.std.proofs.Common.{◌≡◌, ◌∙◌, refl, sym, ap, subst, ℕ, suc, ◌+◌, ◌-◌, ◌<◌, ◌≤◌, Bool, true, false, if◌then◌else◌, inl, inr, List, [], ◌∷◌, ◌++◌, length, take, length-append, append_assoc, arith}
use Rattle.std.specs.List.{All, flat_map}
use Rattle.std.proofs.Math.Seq.{take-append-add}
use Rattle.std.proofs.lemmas.Bool.{cases_lt}
use Rattle.std.proofs.lemmas.List.{append-nil, take-append-le, take_all}
use Rattle.std.proofs.lemmas.List.Concat.{flat_map-cons}
use Rattle.std.proofs.lemmas.List.Elements.{All-cons, All-nil, All-head, All-tail}
use Rattle.cm_core.specs.declared.token.Token.{Token}
use Rattle.c_parse.specs.Pieces.{ends_piece, left_over, pieces_after, pieces, IsPiece, ArePieces}

abbrev together : List (List Token) → List Token
together parts = flat_map (λ part. part) parts

module _ (names : List (List ℕ)) where
  abbrev Ends : List Token → Type 0
  Ends part = ends_piece names part ≡ true

  abbrev AllEnd : List (List Token) → Type 0
  AllEnd parts = All Ends (take (length parts - 1) parts)

  -- ---- they are

  -- neither the tokens nor a front of them end a piece
  record IsOpen (tokens : List Token) : Type 0 where
    none : (n : ℕ) → n ≤ length tokens → ends_piece names (take n tokens) ≡ false

  open_start : IsOpen []
  open_start = record { none = λ n h. ap (ends_piece names) (take_all n [] (omega arith)) }

  open_more : (before : List Token) (t : Token) → IsOpen before → ends_piece names (before ++ t ∷ []) ≡ false → IsOpen (before ++ t ∷ [])
  open_more before t o e =
      record { none = λ n h. elim (cases_lt (length before) n) [ inl above ↦ ap (ends_piece names) (take_all n (before ++ t ∷ []) (omega (arith, length-append before (t ∷ []), above))) ∙ e | inr within ↦ ap (ends_piece names) (take-append-le n before (t ∷ []) within) ∙ o.none n within ] }

  piece_next : (before : List Token) (t : Token) → IsOpen before → IsPiece names (before ++ t ∷ [])
  piece_next before t o =
      let size = length-append before (t ∷ []) in
      record { filled = omega (arith, size); first = λ n h. ap (ends_piece names) (take-append-le n before (t ∷ []) (omega (arith, size, h))) ∙ o.none n (omega (arith, size, h)) }

  all_end_cons : (part : List Token) (parts : List (List Token)) → Ends part → AllEnd parts → AllEnd (part ∷ parts)
  all_end_cons part [] here rest = All-nil Ends
  all_end_cons part (next ∷ parts) here rest =
      let less : suc (length parts) - 1 ≡ length parts = omega arith in
      let all : length (part ∷ next ∷ parts) - 1 ≡ suc (length parts) = omega arith in
      let F : ℕ → Type 0 = λ n. All Ends (take n (next ∷ parts)) in
      let G : ℕ → Type 0 = λ n. All Ends (take n (part ∷ next ∷ parts)) in
      subst G (sym all) (All-cons Ends part (take (length parts) (next ∷ parts)) here (subst F less rest))

  are_cons : (part tokens : List Token) (parts : List (List Token)) → IsPiece names part → Ends part → ArePieces names tokens parts → ArePieces names (part ++ tokens) (part ∷ parts)
  are_cons part tokens parts piece here are =
      record { all = flat_map-cons (λ p. p) part parts ∙ ap (λ ts. part ++ ts) are.all; each = All-cons (IsPiece names) part parts piece are.each; ended = all_end_cons part parts here are.ended }

  are_left : (before : List Token) → IsOpen before → ArePieces names (before ++ []) (left_over before)
  are_left [] o = record { all = refl; each = All-nil (IsPiece names); ended = All-nil Ends }
  are_left (t ∷ tokens) o =
      let piece : IsPiece names (t ∷ tokens) = record { filled = omega arith; first = λ n h. o.none n (omega (arith, h)) } in
      record { all = flat_map-cons (λ p. p) (t ∷ tokens) []; each = All-cons (IsPiece names) (t ∷ tokens) [] piece (All-nil (IsPiece names)); ended = All-nil Ends }

  are_after : (before tokens : List Token) → IsOpen before → ArePieces names (before ++ tokens) (pieces_after names before tokens)
  are_after before [] o = are_left before o
  are_after before (t ∷ tokens) o =
      let next = before ++ t ∷ [] in
      let joined : next ++ tokens ≡ before ++ (t ∷ tokens) = append_assoc before (t ∷ []) tokens in
      let M : Bool → Type 0 = λ b. ends_piece names next ≡ b → ArePieces names (before ++ (t ∷ tokens)) (if b then next ∷ pieces_after names [] tokens else pieces_after names next tokens) in
      let F : List Token → Type 0 = λ ts. ArePieces names ts (next ∷ pieces_after names [] tokens) in
      let G : List Token → Type 0 = λ ts. ArePieces names ts (pieces_after names next tokens) in
      let ended : M true = λ e. subst F joined (are_cons next tokens _ (piece_next before t o) e (are_after [] tokens open_start)) in
      let not_yet : M false = λ e. subst G joined (are_after next tokens (open_more before t o e)) in
      elim (ends_piece names next) as M [ true ↦ ended | false ↦ not_yet ] refl

  pub are_pieces : (tokens : List Token) → ArePieces names tokens (pieces names tokens)
  unfolding pieces
  are_pieces tokens = are_after [] tokens open_start

  -- ---- and no others are

  left_filled : (part : List Token) → 0 < length part → left_over part ≡ part ∷ []
  left_filled [] filled = absurd (omega arith)
  left_filled (t ∷ tokens) filled = refl

  -- a piece goes on behind the tokens `before` and `t`, so it does not end there
  goes_on : (part before after : List Token) (t u : Token) → before ++ (t ∷ u ∷ after) ≡ part → IsPiece names part → ends_piece names (before ++ t ∷ []) ≡ false
  goes_on part before after t u e piece =
      let front : take (length before + 1) part ≡ before ++ t ∷ [] = ap (take (length before + 1)) (sym e) ∙ take-append-add before (t ∷ u ∷ after) 1 in
      let size : length part ≡ length before + length (t ∷ u ∷ after) = ap length (sym e) ∙ length-append before (t ∷ u ∷ after) in
      ap (ends_piece names) (sym front) ∙ piece.first (length before + 1) (omega (arith, size))

  one_piece : (part before after tail : List Token) (t : Token) → before ++ (t ∷ after) ≡ part → IsPiece names part → Ends part → pieces_after names before (t ∷ (after ++ tail)) ≡ part ∷ pieces_after names [] tail
  one_piece part before [] tail t e piece here =
      let next = before ++ t ∷ [] in
      ap (λ b. if b then next ∷ pieces_after names [] tail else pieces_after names next tail) (ap (ends_piece names) e ∙ here) ∙ ap (λ p. p ∷ pieces_after names [] tail) e
  one_piece part before (u ∷ after) tail t e piece here =
      let next = before ++ t ∷ [] in
      ap (λ b. if b then next ∷ pieces_after names [] (u ∷ (after ++ tail)) else pieces_after names next (u ∷ (after ++ tail))) (goes_on part before after t u e piece)
      ∙ one_piece part next after tail u (append_assoc before (t ∷ []) (u ∷ after) ∙ e) piece here

  last_piece : (part before after : List Token) → before ++ after ≡ part → IsPiece names part → pieces_after names before after ≡ part ∷ []
  last_piece part before [] e piece = ap left_over (sym (append-nil before) ∙ e) ∙ left_filled part piece.filled
  last_piece part before (t ∷ []) e piece =
      let next = before ++ t ∷ [] in
      let same : left_over next ≡ part ∷ [] = ap left_over e ∙ left_filled part piece.filled in
      elim (ends_piece names next) as (λ b. (if b then next ∷ [] else left_over next) ≡ part ∷ []) [ true ↦ ap (λ p. p ∷ []) e | false ↦ same ]
  last_piece part before (t ∷ u ∷ after) e piece =
      let next = before ++ t ∷ [] in
      ap (λ b. if b then next ∷ pieces_after names [] (u ∷ after) else pieces_after names next (u ∷ after)) (goes_on part before after t u e piece)
      ∙ last_piece part next (u ∷ after) (append_assoc before (t ∷ []) (u ∷ after) ∙ e) piece

  all_end_parts : (part next : List Token) (parts : List (List Token)) → AllEnd (part ∷ next ∷ parts) → Ends part × AllEnd (next ∷ parts)
  all_end_parts part next parts all =
      let less : suc (length parts) - 1 ≡ length parts = omega arith in
      let size : length (part ∷ next ∷ parts) - 1 ≡ suc (length parts) = omega arith in
      let F : ℕ → Type 0 = λ n. All Ends (take n (next ∷ parts)) in
      let G : ℕ → Type 0 = λ n. All Ends (take n (part ∷ next ∷ parts)) in
      let given : G (suc (length parts)) = subst G size all in
      (All-head Ends part (take (length parts) (next ∷ parts)) given, subst F (sym less) (All-tail Ends part (take (length parts) (next ∷ parts)) given))

  first_piece : (part tail : List Token) → IsPiece names part → Ends part → pieces_after names [] (part ++ tail) ≡ part ∷ pieces_after names [] tail
  first_piece [] tail piece here = absurd (omega (arith, piece.filled))
  first_piece (t ∷ after) tail piece here = one_piece (t ∷ after) [] after tail t refl piece here

  only : (parts : List (List Token)) → All (IsPiece names) parts → AllEnd parts → parts ≡ pieces_after names [] (together parts)
  only [] each ended = refl
  only (part ∷ []) each ended =
      let one : together (part ∷ []) ≡ part = flat_map-cons (λ p. p) part [] ∙ append-nil part in
      sym (ap (pieces_after names []) one ∙ last_piece part [] part refl (All-head (IsPiece names) part [] each))
  only (part ∷ next ∷ parts) each ended =
      let ends = all_end_parts part next parts ended in
      let rest = only (next ∷ parts) (All-tail (IsPiece names) part (next ∷ parts) each) ends.1 in
      let one : together (part ∷ next ∷ parts) ≡ part ++ together (next ∷ parts) = flat_map-cons (λ p. p) part (next ∷ parts) in
      ap (λ ps. part ∷ ps) rest
      ∙ sym (ap (pieces_after names []) one ∙ first_piece part (together (next ∷ parts)) (All-head (IsPiece names) part (next ∷ parts) each) ends.0)

  pub only_pieces : (tokens : List Token) (parts : List (List Token)) → ArePieces names tokens parts → parts ≡ pieces names tokens
  unfolding pieces
  only_pieces tokens parts are = only parts are.each are.ended ∙ ap (pieces_after names []) are.all
