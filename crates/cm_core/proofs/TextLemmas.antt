-- What a set of owned texts is, as a list of their bytes.
use Rattle.std.proofs.Common.{◌≡◌, ℕ, ◌+◌, Bool, true, false, cond, ◌||◌, ltb, List, [], ◌∷◌, ◌++◌, map, length, position, Some, None, refl, sym, ap, ◌∙◌}
use Rattle.std.proofs.lemmas.Bool.{cond-true}
use Rattle.std.proofs.lemmas.List.{map-append, length-map}
use Rattle.std.specs.List.{list_any, position_or_len, prefix_len, IsDistinct, AllByRecursion}
use Rattle.std.specs.Str.{bytes_eq}
use Rattle.indexmap.specs.IndexSet.{insert_key}
use Rattle.cm_core.specs.Tables.{numbered, number_of}

some_position : {X : Type 0} (p : X → Bool) (xs : List X) (at : ℕ) → Some at ≡ position p xs → at ≡ position_or_len p xs
some_position p xs at e = by (ltb (position_or_len p xs) (length xs)) e
  where
    by : (b : Bool) → Some at ≡ cond b (Some (position_or_len p xs)) None → at ≡ position_or_len p xs
    by true e = cc
    by false e = absurd (cc)

module _ {X : Type 0} (v : X → List ℕ) where
  list_any-map : (p : List ℕ → Bool) (xs : List X) → list_any p (map v xs) ≡ list_any (λ x. p (v x)) xs
  list_any-map p [] = refl
  list_any-map p (x ∷ xs) = ap (λ b. p (v x) || b) (list_any-map p xs)

  prefix_len-map : (p : List ℕ → Bool) (xs : List X) → prefix_len p (map v xs) ≡ prefix_len (λ x. p (v x)) xs
  prefix_len-map p [] = refl
  prefix_len-map p (x ∷ xs) = ap (λ n. cond (p (v x)) (1 + n) 0) (prefix_len-map p xs)

  pub position-map : (p : List ℕ → Bool) (xs : List X) → position p (map v xs) ≡ position (λ x. p (v x)) xs
  position-map p xs =
      let at : position_or_len p (map v xs) ≡ position_or_len (λ x. p (v x)) xs = prefix_len-map _ xs in
      let len : length (map v xs) ≡ length xs = length-map xs v in
      rw (at, len) refl

  All-map : (P : List ℕ → Type 0) (xs : List X) → AllByRecursion (λ x. P (v x)) xs → AllByRecursion P (map v xs)
  All-map P [] h = h
  All-map P (x ∷ xs) h = (h.0, All-map P xs h.1)

  -- owned texts that differ have bytes that differ
  pub IsDistinct-map : (xs : List X) → IsDistinct (λ x y. bytes_eq (v x) (v y)) xs → IsDistinct bytes_eq (map v xs)
  unfolding IsDistinct
  IsDistinct-map [] h = h
  IsDistinct-map (x ∷ xs) h = (All-map (λ y. bytes_eq (v x) y ≡ false) xs h.0, IsDistinct-map xs h.1)

  -- a text that a look-up finds keeps its number
  pub numbered-found : (xs : List X) (text : List ℕ) (at : ℕ) → Some at ≡ position (λ x. bytes_eq text (v x)) xs → true ≡ list_any (λ x. bytes_eq text (v x)) xs
      → (at ≡ number_of (map v xs) text) × (map v xs ≡ numbered (map v xs) text)
  numbered-found xs text at e found =
      (some_position _ xs at e ∙ sym (prefix_len-map _ xs), sym (cond-true _ _ _ (list_any-map _ xs ∙ sym found)))

  map-insert_key : (b : Bool) (xs : List X) (x : X) → map v (cond b xs (xs ++ x ∷ [])) ≡ cond b (map v xs) (map v xs ++ v x ∷ [])
  map-insert_key true xs x = refl
  map-insert_key false xs x = map-append v xs (x ∷ [])

  -- an owned text that is put into the set is numbered
  pub numbered-inserted : (xs ys : List X) (x : X) (text : List ℕ) (at : ℕ) → v x ≡ text → at ≡ position_or_len (λ y. bytes_eq (v x) (v y)) xs → ys ≡ insert_key (λ y z. bytes_eq (v y) (v z)) xs x
      → (at ≡ number_of (map v xs) text) × (map v ys ≡ numbered (map v xs) text)
  numbered-inserted xs ys x text at own place keys =
      let number : at ≡ number_of (map v xs) (v x) = place ∙ sym (prefix_len-map _ xs) in
      let after : map v ys ≡ numbered (map v xs) (v x) =
      ap (map v) keys ∙ map-insert_key _ xs x ∙ ap (λ b. cond b (map v xs) (map v xs ++ v x ∷ [])) (sym (list_any-map (bytes_eq (v x)) xs)) in
      (rw own at number, rw own at after)
