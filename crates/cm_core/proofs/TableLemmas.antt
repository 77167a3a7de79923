-- A table of numbered texts: the number gives the text, no number changes its text, and texts differ.
use Rattle.std.proofs.Common.{◌≡◌, ℕ, ◌+◌, ◌<◌, ◌≤◌, Bool, true, false, cond, not, ◌||◌, List, [], ◌∷◌, ◌++◌, length, slice_get, get_or, position, take, Some, refl, sym, ap, ◌∙◌, suc, zero, arith, length-append}
use Rattle.std.specs.List.{list_any, IsDistinct}
use Rattle.std.specs.Str.{bytes_eq}
use Rattle.std.proofs.lemmas.Slice.Eq.{bytes_eq-Decides}
use Rattle.std.proofs.lemmas.Option.{slice_get-get_or}
use Rattle.std.proofs.lemmas.List.Quantifiers.{position-Some}
use Rattle.std.proofs.lemmas.Bool.{both_ways, cond-false, false_from_ne_true}
use Rattle.std.proofs.lemmas.Grind.{common_steps}
use Rattle.std.proofs.lemmas.List.{length-take, take_more}
use Rattle.std.proofs.lemmas.List.Folds.{list_any_none}
use Rattle.std.proofs.lemmas.Map.Keys.{apart_from_distinct}
use Rattle.cm_core.specs.Tables.{numbered, number_of, Extends}

slice_get-append : {X : Type 0} (xs ys : List X) (i : ℕ) → i < length xs → slice_get (xs ++ ys) i ≡ slice_get xs i
slice_get-append [] ys i h = absurd (omega arith)
slice_get-append (x ∷ xs) ys zero h = refl
slice_get-append (x ∷ xs) ys (suc i) h = slice_get-append xs ys i (omega arith)

-- what a table has where the number and the texts after it are known
numbered-given_on : (b : Bool) (text x : List ℕ) (texts : List (List ℕ)) → bytes_eq text x ≡ b → slice_get (numbered texts text) (number_of texts text) ≡ Some text
    → slice_get (cond (b || list_any (bytes_eq text) texts) (x ∷ texts) (x ∷ (texts ++ text ∷ []))) (cond (not b) (1 + number_of texts text) 0) ≡ Some text
numbered-given_on true text x texts same h = ap Some (sym ((bytes_eq-Decides text x).0 same))
numbered-given_on false text x texts same h =
    let next : 1 + number_of texts text ≡ suc (number_of texts text) = omega arith in
    rw next (by (list_any (bytes_eq text) texts) refl h)
  where
    by : (a : Bool) → list_any (bytes_eq text) texts ≡ a → slice_get (cond a texts (texts ++ text ∷ [])) (number_of texts text) ≡ Some text
        → slice_get (cond a (x ∷ texts) (x ∷ (texts ++ text ∷ []))) (suc (number_of texts text)) ≡ Some text
    by true e g = g
    by false e g = g

pub numbered-given : (texts : List (List ℕ)) (text : List ℕ) → slice_get (numbered texts text) (number_of texts text) ≡ Some text
numbered-given [] text = refl
numbered-given (x ∷ texts) text = numbered-given_on (bytes_eq text x) text x texts refl (numbered-given texts text)

numbered-kept : (texts : List (List ℕ)) (text : List ℕ) (at : ℕ) → at < length texts → slice_get (numbered texts text) at ≡ slice_get texts at
numbered-kept texts text at h = by (list_any (bytes_eq text) texts)
  where
    by : (b : Bool) → slice_get (cond b texts (texts ++ text ∷ [])) at ≡ slice_get texts at
    by true = refl
    by false = slice_get-append texts (text ∷ []) at h

pub position-given : (texts : List (List ℕ)) (text : List ℕ) (at : ℕ) → position (bytes_eq text) texts ≡ Some at → slice_get texts at ≡ Some text
position-given texts text at e =
    let at_is = position-Some (bytes_eq text) texts at [] e in
    slice_get-get_or texts at [] at_is.0 ∙ ap Some (sym ((bytes_eq-Decides text (get_or texts at [])).0 at_is.1))

-- the same, of a number and texts that are the ones of the definitions
pub given_after : (texts after : List (List ℕ)) (text : List ℕ) (at : ℕ) → (at ≡ number_of texts text) × (after ≡ numbered texts text) → slice_get after at ≡ Some text
given_after texts after text at is = rw (is.0, is.1) (numbered-given texts text)

length-numbered : (texts : List (List ℕ)) (text : List ℕ) → length texts ≤ length (numbered texts text)
length-numbered texts text = by (list_any (bytes_eq text) texts)
  where
    by : (b : Bool) → length texts ≤ length (cond b texts (texts ++ text ∷ []))
    by true = omega arith
    by false = omega (arith, length-append texts (text ∷ []))

pub Extends-numbered : (texts after : List (List ℕ)) (text : List ℕ) → after ≡ numbered texts text → Extends texts after
Extends-numbered texts after text is = rw is (record { longer = length-numbered texts text; kept = numbered-kept texts text })

-- among texts that differ, each is new after those before it
list_any-before : (texts : List (List ℕ)) (i : ℕ) → IsDistinct bytes_eq texts → i < length texts → list_any (bytes_eq (get_or texts i [])) (take i texts) ≡ false
list_any-before texts i h within = list_any_none _ (take i texts) (λ k d before. false_from_ne_true _ (λ same. both_ways _ (apart k before) (alike k d before same)))
  where
    apart : (k : ℕ) → k < length (take i texts) → bytes_eq (get_or texts k []) (get_or texts i []) ≡ false
    apart k before = apart_from_distinct bytes_eq texts k i [] h (omega (arith, length-take i texts)) within

    alike : (k : ℕ) (d : List ℕ) → k < length (take i texts) → bytes_eq (get_or texts i []) (get_or (take i texts) k d) ≡ true → bytes_eq (get_or texts k []) (get_or texts i []) ≡ true
    alike k d before same =
        let read : get_or (take i texts) k d ≡ get_or texts k [] = grind (arith, common_steps) in
        (bytes_eq-Decides _ _).1 (sym ((bytes_eq-Decides _ _).0 same ∙ read))

pub numbered-next : (texts : List (List ℕ)) (i : ℕ) → IsDistinct bytes_eq texts → i < length texts → numbered (take i texts) (get_or texts i []) ≡ take (i + 1) texts
numbered-next texts i h within = cond-false _ _ _ (list_any-before texts i h within) ∙ sym (take_more texts i [] within)
