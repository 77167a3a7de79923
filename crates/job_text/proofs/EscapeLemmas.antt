-- Unescaping from the left: the bytes so far, and those of the rest.
use Rattle.std.proofs.Common.{◌≡◌, ℕ, zero, suc, ◌+◌, ◌-◌, ◌<◌, ◌≤◌, Bool, true, false, cond, nat_eq, List, [], ◌∷◌, ◌++◌, length, drop, slice_index, Option, Some, None, refl, ap, sym, subst, ◌∙◌, arith, rules, append_assoc, append-nil, add-one, drop-cons}
use Rattle.std.specs.Option.{option_map, option_and_then}
use Rattle.std.proofs.lemmas.Bool.{ne_eqb}
use Rattle.std.proofs.lemmas.List.{drop_all}
use Rattle.job_text.specs.declared.escapes.Escape.{Escape}
use Rattle.job_text.specs.Escapes.{escape_of, unescaped_after}

-- the bytes so far before those of the rest, if it has some
abbrev pub front : List ℕ → Option (List ℕ) → Option (List ℕ)
front done more = option_map (λ bytes. done ++ bytes) more

front_more : (done : List ℕ) (b : ℕ) (more : Option (List ℕ)) → front done (option_map (λ bytes. b ∷ bytes) more) ≡ front (done ++ b ∷ []) more
front_more done b None = refl
front_more done b (Some bytes) = ap Some (sym (append_assoc done (b ∷ []) bytes))

rest_at : (text : List ℕ) (i : ℕ) → i < length text → drop i text ≡ slice_index text i ∷ drop (i + 1) text
rest_at text i within = rw add-one (drop-cons text i 0 within)

pub at_end : (text done : List ℕ) (skip i : ℕ) → length text ≤ i → front done (unescaped_after skip (drop i text)) ≡ unescaped_after 0 text → Some done ≡ unescaped_after 0 text
at_end text done skip i end so_far =
    let none : drop i text ≡ [] = drop_all i text end in
    let here : front done (unescaped_after skip []) ≡ unescaped_after 0 text = subst (λ (rest : List ℕ). front done (unescaped_after skip rest) ≡ unescaped_after 0 text) none so_far in
    by skip here
  where
    by : (skip : ℕ) → front done (unescaped_after skip []) ≡ unescaped_after 0 text → Some done ≡ unescaped_after 0 text
    by zero h = ap Some (sym (append-nil done)) ∙ h
    by (suc k) h = ap Some (sym (append-nil done)) ∙ h

pub skipped : (text done : List ℕ) (skip i : ℕ) → i < length text → 0 < skip → front done (unescaped_after skip (drop i text)) ≡ unescaped_after 0 text → front done (unescaped_after (skip - 1) (drop (i + 1) text)) ≡ unescaped_after 0 text
skipped text done zero i within some so_far = absurd (omega arith)
skipped text done (suc k) i within some so_far =
    let here : front done (unescaped_after k (drop (i + 1) text)) ≡ unescaped_after 0 text = rw (rest_at text i within) at so_far in
    let less : suc k - 1 ≡ k = omega arith in
    rw less here

pub plain : (text done : List ℕ) (skip i : ℕ) → i < length text → skip ≤ 0 → (slice_index text i ≡ 92 → ⊥) → front done (unescaped_after skip (drop i text)) ≡ unescaped_after 0 text → front (done ++ slice_index text i ∷ []) (unescaped_after skip (drop (i + 1) text)) ≡ unescaped_after 0 text
plain text done zero i within none other so_far =
    let differs : nat_eq (slice_index text i) 92 ≡ false = ne_eqb _ _ other in
    let here = rw (rest_at text i within, differs) at so_far in
    sym (front_more done (slice_index text i) (unescaped_after 0 (drop (i + 1) text))) ∙ here
plain text done (suc k) i within none other so_far = absurd (omega arith)

after_backslash : (text : List ℕ) (i : ℕ) → i < length text → slice_index text i ≡ 92 → unescaped_after 0 (drop i text) ≡ option_and_then (λ x. option_map (λ more. x.byte ∷ more) (unescaped_after x.length (drop (i + 1) text))) (escape_of (drop (i + 1) text))
after_backslash text i within here = rw (rest_at text i within, here) refl

pub escaped : (text done : List ℕ) (skip i : ℕ) (e : Escape) → i < length text → skip ≤ 0 → slice_index text i ≡ 92 → escape_of (drop (i + 1) text) ≡ Some e
    → front done (unescaped_after skip (drop i text)) ≡ unescaped_after 0 text → front (done ++ e.byte ∷ []) (unescaped_after e.length (drop (i + 1) text)) ≡ unescaped_after 0 text
escaped text done zero i e within none here found so_far =
    let first = after_backslash text i within here in
    let whole : unescaped_after 0 (drop i text) ≡ option_map (λ more. e.byte ∷ more) (unescaped_after e.length (drop (i + 1) text)) = first ∙ (rw found refl) in
    sym (front_more done e.byte (unescaped_after e.length (drop (i + 1) text))) ∙ ap (front done) (sym whole) ∙ so_far
escaped text done (suc k) i e within none here found so_far = absurd (omega arith)

pub unknown : (text done : List ℕ) (skip i : ℕ) → i < length text → skip ≤ 0 → slice_index text i ≡ 92 → escape_of (drop (i + 1) text) ≡ None
    → front done (unescaped_after skip (drop i text)) ≡ unescaped_after 0 text → None ≡ unescaped_after 0 text
unknown text done zero i within none here found so_far =
    let first = after_backslash text i within here in
    let whole : unescaped_after 0 (drop i text) ≡ None = first ∙ (rw found refl) in
    ap (front done) (sym whole) ∙ so_far
unknown text done (suc k) i within none here found so_far = absurd (omega arith)
