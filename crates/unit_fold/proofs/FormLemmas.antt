-- The forms of piece, by the tokens that are held.
use Rattle.std.proofs.Common.{◌≡◌, ℕ, zero, suc, ◌<◌, Bool, true, false, ◌&&◌, List, [], ◌∷◌, length, refl, sym, ap, ◌∙◌, arith, if◌then◌else◌}
use Rattle.std.specs.Prelude.{slice_index_or}
use Rattle.std.proofs.lemmas.List.{length-map}
use Rattle.cm_core.specs.declared.numbers.Owner.{Owner}
use Rattle.cm_core.specs.declared.token.Token.{Token}
use Rattle.unit_fold.specs.Tokens.{TokenAt}
use Rattle.unit_fold.specs.Forms.{Form, IsPointer, IsOther, nth, is_unit, begins_pointer, has_target, form_of}
use Rattle.unit_fold.specs.Opened.{token_in, tokens_in}

-- a token of the piece is that of the same place
pub nth_in : (names : List (List ℕ)) (tokens : List Token) (i : ℕ) (d : Token) → i < length tokens → nth (tokens_in names tokens) i ≡ token_in names (slice_index_or tokens i d)
nth_in names [] i d within = absurd (omega arith)
nth_in names (t ∷ tokens) zero d within = refl
nth_in names (t ∷ tokens) (suc i) d within = nth_in names tokens i d (omega arith)

pub length_in : (names : List (List ℕ)) (tokens : List Token) → length (tokens_in names tokens) ≡ length tokens
length_in names tokens = length-map tokens (token_in names)

module _ (owner : Owner) (names : List (List ℕ)) (tokens : List Token) (d : Token) (seven : length tokens ≡ 7) where
  abbrev held : ℕ → TokenAt
  held i = token_in names (slice_index_or tokens i d)

  abbrev from_tokens : TokenAt → TokenAt → TokenAt → TokenAt → TokenAt → TokenAt → TokenAt → Form
  from_tokens int star name equals and target end = if is_unit owner && begins_pointer int star name && has_target equals and target end then IsPointer name target else IsOther

  abbrev chosen : Bool → Bool → Bool → Form
  chosen unit begins target = if unit && begins && target then IsPointer (held 2) (held 5) else IsOther

  abbrev begins : Bool
  begins = begins_pointer (held 0) (held 1) (held 2)

  abbrev has : Bool
  has = has_target (held 3) (held 4) (held 5) (held 6)

  same : (i : ℕ) → i < 7 → nth (tokens_in names tokens) i ≡ held i
  same i within = nth_in names tokens i d (omega arith)

  by_seven : (piece : List TokenAt) → length piece ≡ 7 → form_of owner piece ≡ from_tokens (nth piece 0) (nth piece 1) (nth piece 2) (nth piece 3) (nth piece 4) (nth piece 5) (nth piece 6)
  by_seven piece n = rw n refl

  form_held : form_of owner (tokens_in names tokens) ≡ chosen (is_unit owner) begins has
  form_held =
      let piece = tokens_in names tokens in
      let at : ℕ → TokenAt = λ i. nth piece i in
      by_seven piece (length_in names tokens ∙ seven)
      ∙ ap (λ (x : TokenAt). from_tokens x (at 1) (at 2) (at 3) (at 4) (at 5) (at 6)) (same 0 (omega arith))
      ∙ ap (λ (x : TokenAt). from_tokens (held 0) x (at 2) (at 3) (at 4) (at 5) (at 6)) (same 1 (omega arith))
      ∙ ap (λ (x : TokenAt). from_tokens (held 0) (held 1) x (at 3) (at 4) (at 5) (at 6)) (same 2 (omega arith))
      ∙ ap (λ (x : TokenAt). from_tokens (held 0) (held 1) (held 2) x (at 4) (at 5) (at 6)) (same 3 (omega arith))
      ∙ ap (λ (x : TokenAt). from_tokens (held 0) (held 1) (held 2) (held 3) x (at 5) (at 6)) (same 4 (omega arith))
      ∙ ap (λ (x : TokenAt). from_tokens (held 0) (held 1) (held 2) (held 3) (held 4) x (at 6)) (same 5 (omega arith))
      ∙ ap (λ (x : TokenAt). from_tokens (held 0) (held 1) (held 2) (held 3) (held 4) (held 5) x) (same 6 (omega arith))

  pub no_unit : false ≡ is_unit owner → IsOther ≡ form_of owner (tokens_in names tokens)
  no_unit unit = sym (form_held ∙ ap (λ (x : Bool). chosen x begins has) (sym unit))

  pub no_begin : true ≡ is_unit owner → false ≡ begins → IsOther ≡ form_of owner (tokens_in names tokens)
  no_begin unit start = sym (form_held ∙ ap (λ (x : Bool). chosen x begins has) (sym unit) ∙ ap (λ (x : Bool). chosen true x has) (sym start))

  pub no_target : true ≡ is_unit owner → true ≡ begins → false ≡ has → IsOther ≡ form_of owner (tokens_in names tokens)
  no_target unit start rest =
      sym (form_held ∙ ap (λ (x : Bool). chosen x begins has) (sym unit) ∙ ap (λ (x : Bool). chosen true x has) (sym start) ∙ ap (λ (x : Bool). chosen true true x) (sym rest))

  pub pointer_held : true ≡ is_unit owner → true ≡ begins → true ≡ has → IsPointer (held 2) (held 5) ≡ form_of owner (tokens_in names tokens)
  pointer_held unit start rest =
      sym (form_held ∙ ap (λ (x : Bool). chosen x begins has) (sym unit) ∙ ap (λ (x : Bool). chosen true x has) (sym start) ∙ ap (λ (x : Bool). chosen true true x) (sym rest))
