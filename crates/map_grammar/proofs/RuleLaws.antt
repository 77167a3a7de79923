-- What the readers read is what the rules derive, and nothing else, rule by rule.
use Rattle.std.proofs.Common.{◌≡◌, ℕ, zero, suc, ◌+◌, ◌<◌, ◌≤◌, Bool, true, false, cond, refl, sym, ap, subst, ◌∙◌, List, [], ◌∷◌, ◌++◌, length, append_assoc, arith, Option, Some, None}
use Rattle.std.specs.Option.{option_map, option_and_then}
use Rattle.std.proofs.lemmas.List.{length-append}
use Rattle.map_grammar.specs.Rules.{IsToken, IsAfter, IsBefore, IsBoth, IsMade, IsEither, one, other, IsOptional, left_out, there, IsMany, no_more, one_more}
use Rattle.map_grammar.specs.Readers.{begins, token, after, before, both, made, either, optional, with_first, many_in, many}

-- what the rule derives stands at the front of the tokens
pub record Derived {T A : Type 0} (D : A → List T → Type 0) (ts : List T) (a : A) (us : List T) : Type 0 where
  pub front : List T
  pub derived : D a front
  pub whole : ts ≡ front ++ us

pub record Sound {T A : Type 0} (p : List T → Option (A × List T)) (D : A → List T → Type 0) : Type 0 where
  pub of : (ts : List T) (a : A) (us : List T) → p ts ≡ Some (a, us) → Derived D ts a us

-- what the rule derives of at most k tokens is read, where the tokens after it end it
pub record Complete {T A : Type 0} (p : List T → Option (A × List T)) (D : A → List T → Type 0) (k : ℕ) (ends : List T → Bool) : Type 0 where
  pub of : (a : A) (vs us : List T) → D a vs → length vs ≤ k → ends us ≡ true → p (vs ++ us) ≡ Some (a, us)

-- what the rule derives begins with a token that passes the test
pub record Starts {T A : Type 0} (D : A → List T → Type 0) (test : T → Bool) : Type 0 where
  pub of : (a : A) (vs us : List T) → D a vs → begins test (vs ++ us) ≡ true

abbrev pub anything : {T : Type 0} → List T → Bool
anything ts = true

-- ---- options

pub some_same : {A : Type 0} {x y : A} → Some x ≡ Some y → x ≡ y
some_same h = cc

pub and_then_some : {A B : Type 0} (o : Option A) (f : A → Option B) (b : B) → option_and_then f o ≡ Some b → (a : A) × (o ≡ Some a) × (f a ≡ Some b)
and_then_some None f b h = absurd (cc)
and_then_some (Some a) f b h = (a, refl, h)

pub map_some : {A B : Type 0} (o : Option A) (f : A → B) (b : B) → option_map f o ≡ Some b → (a : A) × (o ≡ Some a) × (f a ≡ b)
map_some None f b h = absurd (cc)
map_some (Some a) f b h = (a, refl, cc)

-- ---- one token

token_some : {T : Type 0} (test : T → Bool) (ts : List T) (w : T) (us : List T) → token test ts ≡ Some (w, us) → (test w ≡ true) × (ts ≡ w ∷ us)
token_some test [] w us h = absurd (cc)
token_some {T} test (v ∷ vs) w us h = by (test v) refl h
  where
    by : (b : Bool) → test v ≡ b → cond {A = Option (T × List T)} b (Some (v, vs)) None ≡ Some (w, us) → (test w ≡ true) × (v ∷ vs ≡ w ∷ us)
    by true e g =
        let same : (v, vs) ≡ (w, us) = some_same g in
        let first : v ≡ w = ap (λ (p : T × List T). p.0) same in
        (ap test (sym first) ∙ e, ap (λ (p : T × List T). p.0 ∷ p.1) same)
    by false e g = absurd (cc)

token_here : {T : Type 0} (test : T → Bool) (w : T) (us : List T) → test w ≡ true → token test (w ∷ us) ≡ Some (w, us)
token_here test w us h = rw h refl

pub sound_token : {T : Type 0} (test : T → Bool) → Sound (token test) (IsToken test)
sound_token test = record { of = λ ts a us h. let e = token_some test ts a us h in record { front = a ∷ []; derived = record { passes = e.0; whole = refl }; whole = e.1 } }

pub complete_token : {T : Type 0} (test : T → Bool) (k : ℕ) → Complete (token test) (IsToken test) k anything
complete_token test k = record { of = λ a vs us d h e. rw d.whole (token_here test a us d.passes) }

pub starts_token : {T : Type 0} (test : T → Bool) → Starts (IsToken test) test
starts_token test = record { of = λ a vs us d. rw d.whole d.passes }

-- ---- a token, and then what a rule derives

pub sound_after : {T A : Type 0} (test : T → Bool) (p : List T → Option (A × List T)) (D : A → List T → Type 0) → Sound p D → Sound (after test p) (IsAfter test D)
sound_after {T} test p D s = record {
  of = λ ts a us h.
      let q = and_then_some (token test ts) (λ (r : T × List T). p r.1) (a, us) h in
      let e = token_some test ts q.0.0 q.0.1 q.1 in
      let d = s.of q.0.1 a us q.2 in
      record {
        front = q.0.0 ∷ d.front;
        derived = record { mark = q.0.0; back = d.front; passes = e.0; derived = d.derived; whole = refl };
        whole = e.1 ∙ ap (λ vs. q.0.0 ∷ vs) d.whole;
      };
}

pub complete_after : {T A : Type 0} (test : T → Bool) (p : List T → Option (A × List T)) (D : A → List T → Type 0) (k : ℕ) (ends : List T → Bool) → Complete p D k ends → Complete (after test p) (IsAfter test D) (suc k) ends
complete_after test p D k ends c = record {
  of = λ a vs us d h e.
      let shorter : length d.back ≤ k = omega (arith, ap length d.whole) in
      rw d.whole (rw (token_here test d.mark (d.back ++ us) d.passes) (c.of a d.back us d.derived shorter e));
}

pub starts_after : {T A : Type 0} (test : T → Bool) (D : A → List T → Type 0) → Starts (IsAfter test D) test
starts_after test D = record { of = λ a vs us d. rw d.whole d.passes }

-- ---- what a rule derives, and then a token

pub sound_before : {T A : Type 0} (p : List T → Option (A × List T)) (D : A → List T → Type 0) (test : T → Bool) → Sound p D → Sound (before p test) (IsBefore D test)
sound_before {T} {A} p D test s = record {
  of = λ ts a us h.
      let q = and_then_some (p ts) (λ (r : A × List T). option_map (λ (s : T × List T). (r.0, s.1)) (token test r.1)) (a, us) h in
      let m = map_some (token test q.0.1) (λ (s : T × List T). (q.0.0, s.1)) (a, us) q.2 in
      let e = token_some test q.0.1 m.0.0 m.0.1 m.1 in
      let d = s.of ts q.0.0 q.0.1 q.1 in
      let same : q.0.0 ≡ a = ap (λ (r : A × List T). r.0) m.2 in
      let rest : m.0.1 ≡ us = ap (λ (r : A × List T). r.1) m.2 in
      let derived : D a d.front = subst (λ (x : A). D x d.front) same d.derived in
      record {
        front = d.front ++ m.0.0 ∷ [];
        derived = record { front = d.front; mark = m.0.0; derived = derived; passes = e.0; whole = refl };
        whole = d.whole ∙ ap (λ vs. d.front ++ vs) (e.1 ∙ ap (λ vs. m.0.0 ∷ vs) rest) ∙ sym (append_assoc d.front (m.0.0 ∷ []) us);
      };
}

pub complete_before : {T A : Type 0} (p : List T → Option (A × List T)) (D : A → List T → Type 0) (test : T → Bool) (k : ℕ) (ends : List T → Bool)
    → Complete p D k ends → ((w : T) (us : List T) → test w ≡ true → ends (w ∷ us) ≡ true) → Complete (before p test) (IsBefore D test) k anything
complete_before p D test k ends c ended = record {
  of = λ a vs us d h e.
      let shorter : length d.front ≤ k = omega (arith, ap length d.whole, length-append d.front (d.mark ∷ [])) in
      let read = c.of a d.front (d.mark ∷ us) d.derived shorter (ended d.mark us d.passes) in
      rw d.whole (rw (append_assoc d.front (d.mark ∷ []) us) (rw read (rw (token_here test d.mark us d.passes) refl)));
}

-- ---- what one rule derives, and then what another derives

pub sound_both : {T A B : Type 0} (p : List T → Option (A × List T)) (P : A → List T → Type 0) (q : List T → Option (B × List T)) (Q : B → List T → Type 0) → Sound p P → Sound q Q → Sound (both p q) (IsBoth P Q)
sound_both {T} {A} {B} p P q Q s t = record {
  of = λ ts c us h.
      let x = and_then_some (p ts) (λ (r : A × List T). option_map (λ (s : B × List T). ((r.0, s.0), s.1)) (q r.1)) (c, us) h in
      let y = map_some (q x.0.1) (λ (s : B × List T). ((x.0.0, s.0), s.1)) (c, us) x.2 in
      let d = s.of ts x.0.0 x.0.1 x.1 in
      let e = t.of x.0.1 y.0.0 y.0.1 y.1 in
      let first : x.0.0 ≡ c.0 = ap (λ (r : (A × B) × List T). r.0.0) y.2 in
      let second : y.0.0 ≡ c.1 = ap (λ (r : (A × B) × List T). r.0.1) y.2 in
      let rest : y.0.1 ≡ us = ap (λ (r : (A × B) × List T). r.1) y.2 in
      let left : P c.0 d.front = subst (λ (a : A). P a d.front) first d.derived in
      let right : Q c.1 e.front = subst (λ (b : B). Q b e.front) second e.derived in
      record {
        front = d.front ++ e.front;
        derived = record { front = d.front; back = e.front; first = left; second = right; whole = refl };
        whole = d.whole ∙ ap (λ vs. d.front ++ vs) (e.whole ∙ ap (λ vs. e.front ++ vs) rest) ∙ sym (append_assoc d.front e.front us);
      };
}

pub complete_both : {T A B : Type 0} (p : List T → Option (A × List T)) (P : A → List T → Type 0) (q : List T → Option (B × List T)) (Q : B → List T → Type 0) (k : ℕ) (ends after_it : List T → Bool)
    → Complete p P k ends → Complete q Q k after_it → ((b : B) (vs us : List T) → Q b vs → after_it us ≡ true → ends (vs ++ us) ≡ true) → Complete (both p q) (IsBoth P Q) k after_it
complete_both p P q Q k ends after_it c d ended = record {
  of = λ a vs us x h e.
      let long : length vs ≡ length x.front + length x.back = ap length x.whole ∙ length-append x.front x.back in
      let first = c.of a.0 x.front (x.back ++ us) x.first (omega arith) (ended a.1 x.back us x.second e) in
      let second = d.of a.1 x.back us x.second (omega arith) e in
      rw x.whole (rw (append_assoc x.front x.back us) (rw first (rw second refl)));
}

pub starts_both : {T A B : Type 0} (P : A → List T → Type 0) (Q : B → List T → Type 0) (test : T → Bool) → Starts P test → Starts (IsBoth P Q) test
starts_both P Q test s = record { of = λ a vs us x. rw x.whole (rw (append_assoc x.front x.back us) (s.of a.0 x.front (x.back ++ us) x.first)) }

-- ---- what is made

pub sound_made : {T A B : Type 0} (f : A → B) (p : List T → Option (A × List T)) (P : A → List T → Type 0) → Sound p P → Sound (made f p) (IsMade f P)
sound_made {T} {A} {B} f p P s = record {
  of = λ ts b us h.
      let m = map_some (p ts) (λ (r : A × List T). (f r.0, r.1)) (b, us) h in
      let d = s.of ts m.0.0 m.0.1 m.1 in
      let same : f m.0.0 ≡ b = ap (λ (r : B × List T). r.0) m.2 in
      let rest : m.0.1 ≡ us = ap (λ (r : B × List T). r.1) m.2 in
      record { front = d.front; derived = record { of = m.0.0; derived = d.derived; made = sym same }; whole = d.whole ∙ ap (λ vs. d.front ++ vs) rest };
}

pub complete_made : {T A B : Type 0} (f : A → B) (p : List T → Option (A × List T)) (P : A → List T → Type 0) (k : ℕ) (ends : List T → Bool) → Complete p P k ends → Complete (made f p) (IsMade f P) k ends
complete_made f p P k ends c = record { of = λ b vs us d h e. rw (c.of d.of vs us d.derived h e) (ap (λ x. Some (x, us)) (sym d.made)) }

pub starts_made : {T A B : Type 0} (f : A → B) (P : A → List T → Type 0) (test : T → Bool) → Starts P test → Starts (IsMade f P) test
starts_made f P test s = record { of = λ b vs us d. s.of d.of vs us d.derived }

-- ---- the one rule or the other

pub sound_either : {T A : Type 0} (is_one : List T → Bool) (p : List T → Option (A × List T)) (P : A → List T → Type 0) (q : List T → Option (A × List T)) (Q : A → List T → Type 0) → Sound p P → Sound q Q → Sound (either is_one p q) (IsEither P Q)
sound_either {T} {A} is_one p P q Q s t = record { of = by }
  where
    on : (b : Bool) (ts : List T) (a : A) (us : List T) → cond b (p ts) (q ts) ≡ Some (a, us) → Derived (IsEither P Q) ts a us
    on true ts a us h = let d = s.of ts a us h in record { front = d.front; derived = one a d.front d.derived; whole = d.whole }
    on false ts a us h = let d = t.of ts a us h in record { front = d.front; derived = other a d.front d.derived; whole = d.whole }

    by : (ts : List T) (a : A) (us : List T) → either is_one p q ts ≡ Some (a, us) → Derived (IsEither P Q) ts a us
    by ts a us h = on (is_one ts) ts a us h

pub complete_either : {T A : Type 0} (is_one : List T → Bool) (p : List T → Option (A × List T)) (P : A → List T → Type 0) (q : List T → Option (A × List T)) (Q : A → List T → Type 0) (k : ℕ) (ends : List T → Bool)
    → Complete p P k ends → Complete q Q k ends
    → ((a : A) (vs us : List T) → P a vs → is_one (vs ++ us) ≡ true) → ((a : A) (vs us : List T) → Q a vs → is_one (vs ++ us) ≡ false)
    → Complete (either is_one p q) (IsEither P Q) k ends
complete_either {T} {A} is_one p P q Q k ends c d opens shuts = record { of = by }
  where
    by : (a : A) (vs us : List T) → IsEither P Q a vs → length vs ≤ k → ends us ≡ true → either is_one p q (vs ++ us) ≡ Some (a, us)
    by x vs us (one a ts e) h g = rw (opens a ts us e) (c.of a ts us e h g)
    by x vs us (other a ts e) h g = rw (shuts a ts us e) (d.of a ts us e h g)

pub starts_either : {T A : Type 0} (P Q : A → List T → Type 0) (test : T → Bool) → Starts P test → Starts Q test → Starts (IsEither P Q) test
starts_either {T} {A} P Q test s t = record { of = by }
  where
    by : (a : A) (vs us : List T) → IsEither P Q a vs → begins test (vs ++ us) ≡ true
    by x vs us (one a ts e) = s.of a ts us e
    by x vs us (other a ts e) = t.of a ts us e

-- ---- what may be left out

pub sound_optional : {T A : Type 0} (is_there : List T → Bool) (a : A) (p : List T → Option (A × List T)) (P : A → List T → Type 0) → Sound p P → Sound (optional is_there a p) (IsOptional a P)
sound_optional {T} {A} is_there a p P s = record { of = by }
  where
    on : (b : Bool) (ts : List T) (x : A) (us : List T) → cond b (p ts) (Some (a, ts)) ≡ Some (x, us) → Derived (IsOptional a P) ts x us
    on true ts x us h = let d = s.of ts x us h in record { front = d.front; derived = there x d.front d.derived; whole = d.whole }
    on false ts x us h =
        let same : (a, ts) ≡ (x, us) = some_same h in
        let F : A × List T → Type 0 = λ r. Derived (IsOptional a P) ts r.0 r.1 in
        subst F same (record { front = []; derived = left_out; whole = refl })

    by : (ts : List T) (x : A) (us : List T) → optional is_there a p ts ≡ Some (x, us) → Derived (IsOptional a P) ts x us
    by ts x us h = on (is_there ts) ts x us h

pub complete_optional : {T A : Type 0} (is_there : List T → Bool) (a : A) (p : List T → Option (A × List T)) (P : A → List T → Type 0) (k : ℕ) (ends after_it : List T → Bool)
    → Complete p P k ends → ((x : A) (vs us : List T) → P x vs → is_there (vs ++ us) ≡ true)
    → ((us : List T) → after_it us ≡ true → is_there us ≡ false) → ((us : List T) → after_it us ≡ true → ends us ≡ true)
    → Complete (optional is_there a p) (IsOptional a P) k after_it
complete_optional {T} {A} is_there a p P k ends after_it c opens shuts ended = record { of = by }
  where
    by : (x : A) (vs us : List T) → IsOptional a P x vs → length vs ≤ k → after_it us ≡ true → optional is_there a p (vs ++ us) ≡ Some (x, us)
    by x vs us left_out h g = rw (shuts us g) refl
    by x vs us (there b ts e) h g = rw (opens b ts us e) (c.of b ts us e h (ended us g))

pub starts_optional : {T A B : Type 0} (a : A) (P : A → List T → Type 0) (Q : B → List T → Type 0) (test : T → Bool) → Starts P test → Starts Q test → Starts (IsBoth (IsOptional a P) Q) test
starts_optional {T} {A} {B} a P Q test s t = record { of = λ c vs us x. rw x.whole (rw (append_assoc x.front x.back us) (by c.0 x.front (x.back ++ us) x.first (t.of c.1 x.back us x.second))) }
  where
    by : (y : A) (vs us : List T) → IsOptional a P y vs → begins test us ≡ true → begins test (vs ++ us) ≡ true
    by y vs us left_out h = h
    by y vs us (there b ts e) h = s.of b ts us e

-- ---- what comes in a row

sound_many_in : {T A : Type 0} (goes_on : List T → Bool) (p : List T → Option (A × List T)) (P : A → List T → Type 0) → Sound p P → (n : ℕ) (ts : List T) (xs : List A) (us : List T) → many_in goes_on p n ts ≡ Some (xs, us) → Derived (IsMany P) ts xs us
unfolding many_in
sound_many_in {T} {A} goes_on p P s zero ts xs us h =
    let F : List A × List T → Type 0 = λ r. Derived (IsMany P) ts r.0 r.1 in
    subst F (some_same h) (record { front = []; derived = no_more; whole = refl })
sound_many_in {T} {A} goes_on p P s (suc n) ts xs us h = elim (goes_on ts) as (λ b. cond b (option_and_then (λ r. with_first r.0 (many_in goes_on p n r.1)) (p ts)) (Some ([], ts)) ≡ Some (xs, us) → Derived (IsMany P) ts xs us) [
  | true ↦ λ g.
      let q = and_then_some (p ts) (λ (r : A × List T). with_first r.0 (many_in goes_on p n r.1)) (xs, us) g in
      let m = map_some (many_in goes_on p n q.0.1) (λ (r : List A × List T). (q.0.0 ∷ r.0, r.1)) (xs, us) q.2 in
      let d = s.of ts q.0.0 q.0.1 q.1 in
      let l = sound_many_in goes_on p P s n q.0.1 m.0.0 m.0.1 m.1 in
      let F : List A × List T → Type 0 = λ r. Derived (IsMany P) ts r.0 r.1 in
      subst F m.2 (record {
        front = d.front ++ l.front;
        derived = one_more q.0.0 m.0.0 d.front l.front d.derived l.derived;
        whole = d.whole ∙ ap (λ vs. d.front ++ vs) l.whole ∙ sym (append_assoc d.front l.front m.0.1);
      })
  | false ↦ λ g.
      let F : List A × List T → Type 0 = λ r. Derived (IsMany P) ts r.0 r.1 in
      subst F (some_same g) (record { front = []; derived = no_more; whole = refl })
] h

pub sound_many : {T A : Type 0} (goes_on : List T → Bool) (p : List T → Option (A × List T)) (P : A → List T → Type 0) → Sound p P → Sound (many goes_on p) (IsMany P)
unfolding many
sound_many goes_on p P s = record { of = λ ts xs us h. sound_many_in goes_on p P s (length ts) ts xs us h }

-- what may come after things in a row
pub record Ends {T A : Type 0} (goes_on : List T → Bool) (P : A → List T → Type 0) (ends after_it : List T → Bool) : Type 0 where
  pub off : (us : List T) → after_it us ≡ true → goes_on us ≡ false
  pub last : (us : List T) → after_it us ≡ true → ends us ≡ true
  pub inner : (a : A) (vs us : List T) → P a vs → ends (vs ++ us) ≡ true
  pub empty : goes_on [] ≡ false

pub some_tokens : {T : Type 0} (goes_on : List T → Bool) (ts : List T) → goes_on [] ≡ false → ((us : List T) → goes_on (ts ++ us) ≡ true) → 0 < length ts
some_tokens goes_on [] none opens = let h = opens [] in absurd (cc)
some_tokens goes_on (t ∷ ts) none opens = omega arith

pub many_ends : {T A : Type 0} (goes_on : List T → Bool) (P : A → List T → Type 0) (ends after_it : List T → Bool) → Ends goes_on P ends after_it
    → (xs : List A) (vs us : List T) → IsMany P xs vs → after_it us ≡ true → ends (vs ++ us) ≡ true
many_ends goes_on P ends after_it e xs vs us no_more h = e.last us h
many_ends goes_on P ends after_it e xs vs us (one_more a more ts ws d l) h = rw (append_assoc ts ws us) (e.inner a ts (ws ++ us) d)

complete_many_in : {T A : Type 0} (goes_on : List T → Bool) (p : List T → Option (A × List T)) (P : A → List T → Type 0) (k : ℕ) (ends after_it : List T → Bool)
    → Complete p P k ends → ((a : A) (vs us : List T) → P a vs → goes_on (vs ++ us) ≡ true) → Ends goes_on P ends after_it
    → (n : ℕ) (xs : List A) (vs us : List T) → IsMany P xs vs → length vs ≤ k → length vs ≤ n → after_it us ≡ true → many_in goes_on p n (vs ++ us) ≡ Some (xs, us)
unfolding many_in
complete_many_in goes_on p P k ends after_it c opens e zero xs vs us no_more h m g = refl
complete_many_in goes_on p P k ends after_it c opens e (suc n) xs vs us no_more h m g = rw (e.off us g) refl
complete_many_in goes_on p P k ends after_it c opens e zero xs vs us (one_more a more ts ws d l) h m g =
    absurd (omega (arith, length-append ts ws, some_tokens goes_on ts e.empty (λ us. opens a ts us d)))
complete_many_in goes_on p P k ends after_it c opens e (suc n) xs vs us (one_more a more ts ws d l) h m g =
    let some : 0 < length ts = some_tokens goes_on ts e.empty (λ us. opens a ts us d) in
    let long : length (ts ++ ws) ≡ length ts + length ws = length-append ts ws in
    let first : p (ts ++ (ws ++ us)) ≡ Some (a, ws ++ us) = c.of a ts (ws ++ us) d (omega arith) (many_ends goes_on P ends after_it e more ws us l g) in
    let rest = complete_many_in goes_on p P k ends after_it c opens e n more ws us l (omega arith) (omega arith) g in
    rw (append_assoc ts ws us) (rw (opens a ts (ws ++ us) d) (rw first (rw rest refl)))

pub complete_many : {T A : Type 0} (goes_on : List T → Bool) (p : List T → Option (A × List T)) (P : A → List T → Type 0) (k : ℕ) (ends after_it : List T → Bool)
    → Complete p P k ends → ((a : A) (vs us : List T) → P a vs → goes_on (vs ++ us) ≡ true) → Ends goes_on P ends after_it → Complete (many goes_on p) (IsMany P) k after_it
unfolding many
complete_many goes_on p P k ends after_it c opens e = record {
  of = λ xs vs us l h g.
      complete_many_in goes_on p P k ends after_it c opens e (length (vs ++ us)) xs vs us l h (omega (arith, length-append vs us)) g;
}

-- ---- less strict

pub complete_less : {T A : Type 0} (p : List T → Option (A × List T)) (D : A → List T → Type 0) (k j : ℕ) (ends : List T → Bool) → j ≤ k → Complete p D k ends → Complete p D j ends
complete_less p D k j ends h c = record { of = λ a vs us d g e. c.of a vs us d (omega arith) e }

pub complete_ends : {T A : Type 0} (p : List T → Option (A × List T)) (D : A → List T → Type 0) (k : ℕ) (ends stricter : List T → Bool) → ((us : List T) → stricter us ≡ true → ends us ≡ true) → Complete p D k ends → Complete p D k stricter
complete_ends p D k ends stricter h c = record { of = λ a vs us d g e. c.of a vs us d g (h us e) }

pub starts_wider : {T A : Type 0} (D : A → List T → Type 0) (test wider : T → Bool) → ((w : T) → test w ≡ true → wider w ≡ true) → Starts D test → Starts D wider
starts_wider {T} {A} D test wider h s = record { of = λ a vs us d. by (vs ++ us) (s.of a vs us d) }
  where
    by : (ts : List T) → begins test ts ≡ true → begins wider ts ≡ true
    by [] g = g
    by (w ∷ ws) g = h w g
