-- The order of first need while modules are in progress.
use Rattle.std.proofs.Common.{◌≡◌, ◌∙◌, refl, sym, ap, ℕ, Bool, true, false, cond, List, [], ◌∷◌, ◌++◌, append_assoc, append-nil}
use Rattle.build_store.specs.Modules.{is_in}
use Rattle.build_store.specs.Order.{new_of, with_new}
use Rattle.build_store.proofs.ListLemmas.{cond_true, cond_false, Every, in_head, in_append_left, in_append_right}

-- what was seen is passed over
pub new_past : (seen ms more : List ℕ) → Every (λ m. is_in m seen ≡ true) ms → new_of seen (ms ++ more) ≡ new_of seen more
new_past seen [] more h = refl
new_past seen (m ∷ ms) more h =
    cond_true (is_in m seen) (new_of seen (ms ++ more)) (m ∷ new_of (seen ++ (m ∷ [])) (ms ++ more)) h.0 ∙ new_past seen ms more h.1

-- one that was not seen comes first
pub new_fresh : (seen : List ℕ) (m : ℕ) (ms : List ℕ) → is_in m seen ≡ false → new_of seen (m ∷ ms) ≡ m ∷ new_of (seen ++ (m ∷ [])) ms
new_fresh seen m ms h = cond_false (is_in m seen) (new_of seen ms) (m ∷ new_of (seen ++ (m ∷ [])) ms) h

pub new_seen : (seen : List ℕ) (m : ℕ) (ms : List ℕ) → is_in m seen ≡ true → new_of seen (m ∷ ms) ≡ new_of seen ms
new_seen seen m ms h = cond_true (is_in m seen) (new_of seen ms) (m ∷ new_of (seen ++ (m ∷ [])) ms) h

-- the new ones of one list and then of another
pub new_both : (seen ms more : List ℕ) → new_of seen (ms ++ more) ≡ new_of seen ms ++ new_of (with_new seen ms) more
new_both seen [] more = ap (λ s. new_of s more) (sym (append-nil seen))
new_both seen (m ∷ ms) more = by (is_in m seen) (new_both seen ms more) (new_both (seen ++ (m ∷ [])) ms more)
  where
    by : (b : Bool) → new_of seen (ms ++ more) ≡ new_of seen ms ++ new_of (with_new seen ms) more
        → new_of (seen ++ (m ∷ [])) (ms ++ more) ≡ new_of (seen ++ (m ∷ [])) ms ++ new_of (with_new (seen ++ (m ∷ [])) ms) more
        → cond b (new_of seen (ms ++ more)) (m ∷ new_of (seen ++ (m ∷ [])) (ms ++ more))
        ≡ cond b (new_of seen ms) (m ∷ new_of (seen ++ (m ∷ [])) ms) ++ new_of (seen ++ cond b (new_of seen ms) (m ∷ new_of (seen ++ (m ∷ [])) ms)) more
    by true one other = one
    by false one other =
        ap (λ xs. m ∷ xs) other
        ∙ ap (λ s. m ∷ (new_of (seen ++ (m ∷ [])) ms ++ new_of s more)) (append_assoc seen (m ∷ []) (new_of (seen ++ (m ∷ [])) ms))

-- When some of the new ones were begun, the others are still to come.
new_later_at : (seen : List ℕ) (m : ℕ) (ms y z : List ℕ) → is_in m seen ≡ false
    → ((s w : List ℕ) → new_of s ms ≡ w ++ z → new_of (s ++ w) ms ≡ z)
    → m ∷ new_of (seen ++ (m ∷ [])) ms ≡ y ++ z → new_of (seen ++ y) (m ∷ ms) ≡ z
new_later_at seen m ms [] z out rest e = ap (λ s. new_of s (m ∷ ms)) (append-nil seen) ∙ new_fresh seen m ms out ∙ e
new_later_at seen m ms (x ∷ y) z out rest e =
    let same : m ≡ x = cc in
    let tail : new_of (seen ++ (m ∷ [])) ms ≡ y ++ z = cc in
    let here : is_in m (seen ++ (x ∷ y)) ≡ true = ap (λ n. is_in m (seen ++ (n ∷ y))) (sym same) ∙ in_append_right m seen (m ∷ y) (in_head m y) in
    new_seen (seen ++ (x ∷ y)) m ms here
    ∙ ap (λ n. new_of (seen ++ (n ∷ y)) ms) (sym same)
    ∙ ap (λ s. new_of s ms) (sym (append_assoc seen (m ∷ []) y))
    ∙ rest (seen ++ (m ∷ [])) y tail

pub new_later : (ms seen y z : List ℕ) → new_of seen ms ≡ y ++ z → new_of (seen ++ y) ms ≡ z
new_later [] seen [] z e = e
new_later [] seen (x ∷ y) z e = absurd (cc)
new_later (m ∷ ms) seen y z e = by (is_in m seen) refl (λ s w u. new_later ms s w u) e
  where
    by : (b : Bool) → is_in m seen ≡ b → ((s w u : List ℕ) → new_of s ms ≡ w ++ u → new_of (s ++ w) ms ≡ u)
        → cond b (new_of seen ms) (m ∷ new_of (seen ++ (m ∷ [])) ms) ≡ y ++ z → new_of (seen ++ y) (m ∷ ms) ≡ z
    by true is rest h = new_seen (seen ++ y) m ms (in_append_left m seen y is) ∙ rest seen y z h
    by false is rest h = new_later_at seen m ms y z is (λ s w. rest s w z) h
