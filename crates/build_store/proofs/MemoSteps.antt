-- The steps of a build: a module is begun, and a module ends.
use Rattle.std.proofs.Common.{◌≡◌, ◌∙◌, refl, sym, ap, subst, ℕ, Bool, true, false, cond, ◌==◌, ◌||◌, inl, inr, List, [], ◌∷◌, ◌++◌, Some, None, append_assoc, append-nil, true≢false, eq-eqb, eqb-true}
use Rattle.std.proofs.lemmas.Bool.{false_from_ne_true}
use Rattle.cm_outside.specs.declared.question.Question.{Question}
use Rattle.cm_outside.specs.declared.question.Answer.{Answer}
use Rattle.cm_outside.specs.declared.question.Record.{Record}
use Rattle.cm_outside.specs.Asks.{value, asked, begun}
use Rattle.cm_outside.specs.Firsts.{firsts}
use Rattle.build_store.specs.Modules.{Plan, is_in, inside, import_in, mod_of}
use Rattle.build_store.specs.Order.{new_of, with_new}
use Rattle.build_store.specs.Outcomes.{imports, Leads}
use Rattle.build_store.specs.Needs.{answered}
use Rattle.build_store.specs.Memo.{Known, Unknown, Busy, Cyclic, Good, with_known, IsChain, Sound, NeedsNext, NeedsNone, IsEnd, Onward, Stack}
use Rattle.build_store.proofs.ListLemmas.{in_head, in_tail, in_cases, in_append, in_append_left, in_append_right}
use Rattle.build_store.proofs.MemoOrder.{new_fresh, new_seen, new_both, new_later}

module _ {B : Type 0} (p : Plan B) (t : Question → Answer) where
  -- ---- the order

  pub onward_later : (c seen y z end : List ℕ) → Onward p t seen (y ++ z) c end → Onward p t (seen ++ y) z c end
  onward_later [] seen y z end h = append_assoc seen y z ∙ h
  onward_later (m ∷ c) seen y z end h =
      let P : List ℕ → Type 0 = λ front. Onward p t seen front c end in (
        h.0,
        new_later (begun (mod_of p c m) t) seen y (z ++ h.0) (h.1 ∙ append_assoc y z h.0),
        onward_later c seen y (z ++ h.0) end (subst P (append_assoc y z h.0) h.2),
      )

  mod_begins : (chain : List ℕ) (x : ℕ) → begun (mod_of p chain x) t ≡ x ∷ begun (answered (import_in p (x ∷ chain)) (inside p x)) t
  unfolding mod_of
  mod_begins chain x = refl

  -- where a module begins, it is the first of the new ones
  begins_first : (chain seen : List ℕ) (x : ℕ) → is_in x seen ≡ false
      → new_of seen (begun (mod_of p chain x) t) ≡ x ∷ new_of (seen ++ (x ∷ [])) (begun (mod_of p chain x) t)
  begins_first chain seen x out =
      let inner = begun (answered (import_in p (x ∷ chain)) (inside p x)) t in
      let now = seen ++ (x ∷ []) in
      ap (new_of seen) (mod_begins chain x) ∙ new_fresh seen x inner out
      ∙ ap (λ ms. x ∷ ms) (sym (ap (new_of now) (mod_begins chain x) ∙ new_seen now x inner (in_append_right x seen (x ∷ []) (in_head x []))))

  pub onward_begins : (seen : List ℕ) (m : ℕ) → is_in m seen ≡ false
      → Onward p t (seen ++ (m ∷ [])) [] (m ∷ []) (with_new seen (begun (mod_of p [] m) t))
  onward_begins seen m out =
      let front = new_of (seen ++ (m ∷ [])) (begun (mod_of p [] m) t) in
      (front, refl, append_assoc seen (m ∷ []) front ∙ ap (λ ms. seen ++ ms) (sym (begins_first [] seen m out)))

  pub onward_starts : (c seen behind end : List ℕ) (m x : ℕ) → is_in x seen ≡ false
      → new_of seen (begun (mod_of p c m) t) ≡ new_of seen (begun (mod_of p (m ∷ c) x) t ++ behind)
      → Onward p t seen [] (m ∷ c) end → Onward p t (seen ++ (x ∷ [])) [] (x ∷ m ∷ c) end
  onward_starts c seen behind end m x out order h =
      let inner = begun (mod_of p (m ∷ c) x) t in
      let front = new_of (seen ++ (x ∷ [])) inner in
      let last = new_of (with_new seen inner) behind in
      let whole : new_of seen (begun (mod_of p c m) t) ≡ (x ∷ []) ++ (front ++ last) =
      order ∙ new_both seen inner behind ∙ ap (λ ms. ms ++ last) (begins_first (m ∷ c) seen x out) in
      let P : List ℕ → Type 0 = λ ms. Onward p t seen ms c end in (
        front,
        refl,
        (
          last,
          new_later (begun (mod_of p c m) t) seen (x ∷ []) (front ++ last) whole,
          onward_later c seen (x ∷ []) (front ++ last) end (subst P (sym h.1 ∙ whole) h.2),
        ),
      )

  pub onward_ends : (c seen end : List ℕ) (m : ℕ) → new_of seen (begun (mod_of p c m) t) ≡ [] → Onward p t seen [] (m ∷ c) end → Onward p t seen [] c end
  onward_ends c seen end m none h = let P : List ℕ → Type 0 = λ ms. Onward p t seen ms c end in subst P (sym h.1 ∙ none) h.2

  -- ---- a module is begun

  module _ (known : ℕ → Known B) (seen c : List ℕ) (x : ℕ) (s : Sound p t known seen c) (unknown : known x ≡ Unknown) where
    starts-good : (y : ℕ) (b : B) (rs : List Record) → with_known known x Busy y ≡ Good b rs → (value (mod_of p [] y) t ≡ Some b) × (rs ≡ firsts (asked (mod_of p [] y) t))
    starts-good y b rs = by (y == x)
      where
        by : (d : Bool) → cond d Busy (known y) ≡ Good b rs → (value (mod_of p [] y) t ≡ Some b) × (rs ≡ firsts (asked (mod_of p [] y) t))
        by true e = absurd (cc)
        by false e = s.good y b rs e

    starts-cyclic : (y : ℕ) → with_known known x Busy y ≡ Cyclic → value (mod_of p [] y) t ≡ None
    starts-cyclic y = by (y == x)
      where
        by : (d : Bool) → cond d Busy (known y) ≡ Cyclic → value (mod_of p [] y) t ≡ None
        by true e = absurd (cc)
        by false e = s.cyclic y e

    starts-busy : (y : ℕ) → is_in y (x ∷ c) ≡ true → with_known known x Busy y ≡ Busy
    starts-busy y = by (y == x)
      where
        by : (d : Bool) → (d || is_in y c) ≡ true → cond d Busy (known y) ≡ Busy
        by true e = refl
        by false e = s.busy y e

    starts-waits : (y : ℕ) → with_known known x Busy y ≡ Busy → is_in y (x ∷ c) ≡ true
    starts-waits y = by (y == x)
      where
        by : (d : Bool) → cond d Busy (known y) ≡ Busy → (d || is_in y c) ≡ true
        by true e = refl
        by false e = s.waits y e

    starts-needed : (y : ℕ) → is_in y (seen ++ (x ∷ [])) ≡ false → with_known known x Busy y ≡ Unknown
    starts-needed y out = by (y == x) refl
      where
        by : (d : Bool) → (y == x) ≡ d → cond d Busy (known y) ≡ Unknown
        by true is =
            let P : ℕ → Type 0 = λ n. is_in n (seen ++ (x ∷ [])) ≡ true in
            absurd (true≢false (sym (subst P (sym (eqb-true y x is)) (in_append_right x seen (x ∷ []) (in_head x []))) ∙ out))
        by false is = s.needed y (false_from_ne_true (is_in y seen) (λ here. true≢false (sym (in_append_left y seen (x ∷ []) here) ∙ out)))

    starts-unneeded : (y : ℕ) → with_known known x Busy y ≡ Unknown → is_in y (seen ++ (x ∷ [])) ≡ false
    starts-unneeded y = by (y == x) refl
      where
        by : (d : Bool) → (y == x) ≡ d → cond d Busy (known y) ≡ Unknown → is_in y (seen ++ (x ∷ [])) ≡ false
        by true is e = absurd (cc)
        by false is e =
            false_from_ne_true (is_in y (seen ++ (x ∷ [])))
            (λ here. elim (in_append y seen (x ∷ []) here) [
              | inl old ↦ true≢false (sym old ∙ s.unneeded y e)
              | inr new ↦ elim (in_cases y x [] new) [ inl same ↦ true≢false (sym (eq-eqb y x same) ∙ is) | inr none ↦ true≢false (sym none) ]
            ])

    starts-closed : (y z : ℕ) → is_in y (seen ++ (x ∷ [])) ≡ true → is_in y (x ∷ c) ≡ false → is_in z (imports p t y) ≡ true → is_in z (seen ++ (x ∷ [])) ≡ true
    starts-closed y z here out imported =
        elim (in_append y seen (x ∷ []) here) [
          | inl old ↦ in_append_left z seen (x ∷ []) (s.closed y z old (false_from_ne_true (is_in y c) (λ busy. true≢false (sym (in_tail y x c busy) ∙ out))) imported)
          | inr new ↦ elim (in_cases y x [] new) [
            | inl same ↦ (let P : ℕ → Type 0 = λ n. is_in n (x ∷ c) ≡ true in absurd (true≢false (sym (subst P (sym same) (in_head x c)) ∙ out)))
            | inr none ↦ absurd (true≢false (sym none))
          ]
        ]

    pub sound_starts : IsChain p t (x ∷ c) → Sound p t (with_known known x Busy) (seen ++ (x ∷ [])) (x ∷ c)
    sound_starts chain = record {
      good = starts-good;
      cyclic = starts-cyclic;
      busy = starts-busy;
      waits = starts-waits;
      needed = starts-needed;
      unneeded = starts-unneeded;
      closed = starts-closed;
      chain = chain;
      apart = (false_from_ne_true (is_in x c) (λ here. let busy = s.busy x here in absurd (cc)), s.apart);
    }

  -- ---- a module ends

  none_of : (seen c : List ℕ) (m : ℕ) (k : Known B) → IsEnd p t seen c m k → NeedsNone p t seen c m
  none_of seen c m Unknown h = absurd h
  none_of seen c m Busy h = absurd h
  none_of seen c m Cyclic h = h.none
  none_of seen c m (Good b rs) h = h.none

  chain_below : (c : List ℕ) (m : ℕ) → Leads p t c m → IsChain p t c
  chain_below [] m h = tt
  chain_below (n ∷ c) m h = h.1

  module _ (known : ℕ → Known B) (seen c : List ℕ) (m : ℕ) (s : Sound p t known seen (m ∷ c)) (k : Known B) (ends : IsEnd p t seen c m k) where
    ends-good : (y : ℕ) (b : B) (rs : List Record) → with_known known m k y ≡ Good b rs → (value (mod_of p [] y) t ≡ Some b) × (rs ≡ firsts (asked (mod_of p [] y) t))
    ends-good y b rs = by (y == m) refl
      where
        by : (d : Bool) → (y == m) ≡ d → cond d k (known y) ≡ Good b rs → (value (mod_of p [] y) t ≡ Some b) × (rs ≡ firsts (asked (mod_of p [] y) t))
        by true is e =
            let P : Known B → Type 0 = λ w. IsEnd p t seen c m w in
            let end = subst P e ends in
            let Q : ℕ → Type 0 = λ n. (value (mod_of p [] n) t ≡ Some b) × (rs ≡ firsts (asked (mod_of p [] n) t)) in
            subst Q (sym (eqb-true y m is)) (end.outcome, end.records)
        by false is e = s.good y b rs e

    ends-cyclic : (y : ℕ) → with_known known m k y ≡ Cyclic → value (mod_of p [] y) t ≡ None
    ends-cyclic y = by (y == m) refl
      where
        by : (d : Bool) → (y == m) ≡ d → cond d k (known y) ≡ Cyclic → value (mod_of p [] y) t ≡ None
        by true is e =
            let P : Known B → Type 0 = λ w. IsEnd p t seen c m w in
            let end = subst P e ends in
            let Q : ℕ → Type 0 = λ n. value (mod_of p [] n) t ≡ None in
            subst Q (sym (eqb-true y m is)) end.outcome
        by false is e = s.cyclic y e

    ends-busy : (y : ℕ) → is_in y c ≡ true → with_known known m k y ≡ Busy
    ends-busy y here = by (y == m) refl
      where
        by : (d : Bool) → (y == m) ≡ d → cond d k (known y) ≡ Busy
        by true is = let P : ℕ → Type 0 = λ n. is_in n c ≡ true in absurd (true≢false (sym (subst P (eqb-true y m is) here) ∙ s.apart.0))
        by false is = s.busy y (in_tail y m c here)

    ends-waits : (y : ℕ) → with_known known m k y ≡ Busy → is_in y c ≡ true
    ends-waits y = by (y == m) refl
      where
        by : (d : Bool) → (y == m) ≡ d → cond d k (known y) ≡ Busy → is_in y c ≡ true
        by true is e = let P : Known B → Type 0 = λ w. IsEnd p t seen c m w in absurd (subst P e ends)
        by false is e = elim (in_cases y m c (s.waits y e)) [ inl same ↦ absurd (true≢false (sym (eq-eqb y m same) ∙ is)) | inr more ↦ more ]

    ends-needed : (y : ℕ) → is_in y seen ≡ false → with_known known m k y ≡ Unknown
    ends-needed y out = by (y == m) refl
      where
        by : (d : Bool) → (y == m) ≡ d → cond d k (known y) ≡ Unknown
        by true is =
            let P : ℕ → Type 0 = λ n. is_in n seen ≡ false in
            let unknown = s.needed m (subst P (eqb-true y m is) out) in
            let busy = s.busy m (in_head m c) in
            absurd (cc)
        by false is = s.needed y out

    ends-unneeded : (y : ℕ) → with_known known m k y ≡ Unknown → is_in y seen ≡ false
    ends-unneeded y = by (y == m)
      where
        by : (d : Bool) → cond d k (known y) ≡ Unknown → is_in y seen ≡ false
        by true e = let P : Known B → Type 0 = λ w. IsEnd p t seen c m w in absurd (subst P e ends)
        by false e = s.unneeded y e

    ends-closed : (y z : ℕ) → is_in y seen ≡ true → is_in y c ≡ false → is_in z (imports p t y) ≡ true → is_in z seen ≡ true
    ends-closed y z here out imported = by (y == m) refl
      where
        by : (d : Bool) → (y == m) ≡ d → is_in z seen ≡ true
        by true is =
            let none = none_of seen c m k ends in
            let P : ℕ → Type 0 = λ n. is_in z (imports p t n) ≡ true in
            none.imported z (subst P (eqb-true y m is) imported)
        by false is =
            s.closed y z here
            (false_from_ne_true (is_in y (m ∷ c))
            (λ busy. elim (in_cases y m c busy) [ inl same ↦ true≢false (sym (eq-eqb y m same) ∙ is) | inr more ↦ true≢false (sym more ∙ out) ]))
            imported

    pub sound_ends : Sound p t (with_known known m k) seen c
    sound_ends = record {
      good = ends-good;
      cyclic = ends-cyclic;
      busy = ends-busy;
      waits = ends-waits;
      needed = ends-needed;
      unneeded = ends-unneeded;
      closed = ends-closed;
      chain = chain_below c m s.chain;
      apart = s.apart.1;
    }

  -- ---- the whole stack

  -- The first module is begun.
  pub stack_begins : (known : ℕ → Known B) (seen : List ℕ) (m : ℕ) → Sound p t known seen [] → known m ≡ Unknown
      → Stack p t (with_known known m Busy) (seen ++ (m ∷ [])) (m ∷ []) (with_new seen (begun (mod_of p [] m) t))
  stack_begins known seen m s unknown = record { sound = sound_starts known seen [] m s unknown tt; order = onward_begins seen m (s.unneeded m unknown) }

  -- The topmost module needs another one, which is begun.
  pub stack_starts : (known : ℕ → Known B) (seen c end : List ℕ) (m x : ℕ) → Stack p t known seen (m ∷ c) end → NeedsNext p t known seen c m x
      → Stack p t (with_known known x Busy) (seen ++ (x ∷ [])) (x ∷ m ∷ c) end
  stack_starts known seen c end m x k next = record {
    sound = sound_starts known seen (m ∷ c) x k.sound next.unknown (next.imported, k.sound.chain);
    order = onward_starts c seen next.behind end m x (k.sound.unneeded x next.unknown) next.order k.order;
  }

  -- The topmost module ends.
  pub stack_ends : (known : ℕ → Known B) (seen c end : List ℕ) (m : ℕ) (k : Known B) → Stack p t known seen (m ∷ c) end → IsEnd p t seen c m k
      → Stack p t (with_known known m k) seen c end
  stack_ends known seen c end m k h ends = record {
    sound = sound_ends known seen c m h.sound k ends;
    order = let none = none_of seen c m k ends in onward_ends c seen end m none.order h.order;
  }

  -- With nothing in progress those of `end` were begun.
  pub stack_done : (known : ℕ → Known B) (seen end : List ℕ) → Stack p t known seen [] end → seen ≡ end
  stack_done known seen end h = sym (append-nil seen) ∙ h.order
