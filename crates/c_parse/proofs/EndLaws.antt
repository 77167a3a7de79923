-- A piece ends exactly where the rule states it.
use Rattle.std.proofs.Common.{◌≡◌, ◌∙◌, refl, sym, ap, subst, ℕ, ◌+◌, ◌<◌, ◌==◌, Bool, true, false, ◌||◌, if◌then◌else◌, ◌⊎◌, inl, inr, List, [], ◌∷◌, ◌++◌, arith, true≢false}
use Rattle.std.specs.Bool.{Decides}
use Rattle.std.proofs.lemmas.Bool.{and_from, and_parts, cases_Bool, cases_lt, eq-eqb, eqb-true, eqb-false, ne_eqb, not-true, not_from_false, or_cases, or_from, or_left, or_parts, or_right}
use Rattle.c_parse.specs.declared.role.Role.{Role}
use Rattle.c_parse.specs.declared.role.Role.TheVariants.{Open, OpenBrace, CloseParen, CloseBrace, Close, Semicolon, Equals, Other}
use Rattle.c_parse.specs.Pieces.{depth, outside, is_equals, has_equals, ends, is_whole, EndsStatement, EndsBody}

-- ---- what stands outside

abbrev is_seen : Role → List Role → Bool
is_seen r before = depth before == 0 || depth (r ∷ before) == 0

not_zero : (n : ℕ) → 0 < n → (n == 0) ≡ false
not_zero n h = ne_eqb n 0 (λ e. omega (arith, e, h))

positive : (n : ℕ) → (n == 0) ≡ false → 0 < n
positive n e = elim (cases_lt 0 n) [ inl above ↦ above | inr low ↦ absurd (eqb-false n 0 e (omega (arith, low))) ]

seen : (r : Role) (before : List Role) → is_seen r before ≡ true → outside (r ∷ before) ≡ r ∷ outside before
seen r before e = ap (λ b. if b then r ∷ outside before else outside before) e

unseen : (r : Role) (before : List Role) → is_seen r before ≡ false → outside (r ∷ before) ≡ outside before
unseen r before e = ap (λ b. if b then r ∷ outside before else outside before) e

seen_before : (r : Role) (before : List Role) → depth before ≡ 0 → outside (r ∷ before) ≡ r ∷ outside before
seen_before r before e = seen r before (or_left (depth before == 0) (depth (r ∷ before) == 0) (eq-eqb (depth before) 0 e))

seen_after : (r : Role) (before : List Role) → depth (r ∷ before) ≡ 0 → outside (r ∷ before) ≡ r ∷ outside before
seen_after r before e = seen r before (or_right (depth before == 0) (depth (r ∷ before) == 0) (eq-eqb (depth (r ∷ before)) 0 e))

unseen_inside : (r : Role) (before : List Role) → 0 < depth before → 0 < depth (r ∷ before) → outside (r ∷ before) ≡ outside before
unseen_inside r before a b = unseen r before (or_from (depth before == 0) (depth (r ∷ before) == 0) (not_zero (depth before) a) (not_zero (depth (r ∷ before)) b))

equals_or : (r : Role) → (r ≡ Equals) ⊎ (is_equals r ≡ false)
equals_or Open = inr refl
equals_or OpenBrace = inr refl
equals_or CloseParen = inr refl
equals_or CloseBrace = inr refl
equals_or Close = inr refl
equals_or Semicolon = inr refl
equals_or Equals = inl refl
equals_or Other = inr refl

-- ---- what is stated ends a piece

outside_open : (inside base : List Role) → ((late early : List Role) → inside ≡ late ++ early → 0 < depth (early ++ base)) → outside (inside ++ base) ≡ outside base
outside_open [] base unclosed = refl
outside_open (r ∷ inside) base unclosed =
    unseen_inside r (inside ++ base) (unclosed (r ∷ []) inside refl) (unclosed [] (r ∷ inside) refl)
    ∙ outside_open inside base (λ late early e. unclosed (r ∷ late) early (ap (λ rs. r ∷ rs) e))

no_equals_outside : (before : List Role) → ((late early : List Role) → before ≡ late ++ Equals ∷ early → 0 < depth early) → has_equals (outside before) ≡ false
no_equals_outside [] inside = refl
no_equals_outside (r ∷ before) inside =
    let rest = no_equals_outside before (λ late early e. inside (r ∷ late) early (ap (λ rs. r ∷ rs) e)) in
    elim (equals_or r) [ inl is ↦ of_equals is rest | inr other ↦ elim (is_seen r before) as (λ b. has_equals (if b then r ∷ outside before else outside before) ≡ false) [ true ↦ or_from (is_equals r) (has_equals (outside before)) other rest | false ↦ rest ] ]
  where
    of_equals : r ≡ Equals → has_equals (outside before) ≡ false → has_equals (outside (r ∷ before)) ≡ false
    of_equals is rest =
        let deep : 0 < depth before = inside [] before (ap (λ x. x ∷ before) is) in
        let deeper : 0 < depth (r ∷ before) = subst (λ x. 0 < depth (x ∷ before)) (sym is) deep in
        ap has_equals (unseen_inside r before deep deeper) ∙ rest

statement_ends : (rs : List Role) → EndsStatement rs → is_whole rs ≡ true
statement_ends rs s =
    let whole : is_whole (Semicolon ∷ s.before) ≡ true =
    and_from (depth s.before == 0) (ends (outside (Semicolon ∷ s.before))) (eq-eqb (depth s.before) 0 s.outside) (ap ends (seen_before Semicolon s.before s.outside)) in
    ap is_whole s.parts ∙ whole

body_ends : (rs : List Role) → EndsBody rs → is_whole rs ≡ true
body_ends rs b =
    let head = CloseParen ∷ b.before in
    let base = OpenBrace ∷ head in
    let closed : depth (CloseBrace ∷ (b.inside ++ base)) ≡ 0 = ap depth (sym b.parts) ∙ b.closed in
    let view : outside (CloseBrace ∷ (b.inside ++ base)) ≡ CloseBrace ∷ OpenBrace ∷ CloseParen ∷ outside b.before =
    seen_after CloseBrace (b.inside ++ base) closed
    ∙ ap (λ xs. CloseBrace ∷ xs) (outside_open b.inside base b.unclosed)
    ∙ ap (λ xs. CloseBrace ∷ xs) (seen_before OpenBrace head b.outside)
    ∙ ap (λ xs. CloseBrace ∷ OpenBrace ∷ xs) (seen_after CloseParen b.before b.outside) in
    let last : ends (outside (CloseBrace ∷ (b.inside ++ base))) ≡ true =
    ap ends view ∙ not_from_false (has_equals (outside b.before)) (no_equals_outside b.before b.no_equals) in
    ap is_whole b.parts ∙ and_from (depth (CloseBrace ∷ (b.inside ++ base)) == 0) (ends (outside (CloseBrace ∷ (b.inside ++ base)))) (eq-eqb (depth (CloseBrace ∷ (b.inside ++ base))) 0 closed) last

-- ---- and nothing else does

-- where the last outside all brackets is a `{`, it is open
record IsOpened (rs shown : List Role) : Type 0 where
  inside : List Role
  base : List Role
  parts : rs ≡ inside ++ OpenBrace ∷ base
  shown_is : outside base ≡ shown
  free : depth base ≡ 0
  unclosed : (late early : List Role) → inside ≡ late ++ early → 0 < depth (early ++ OpenBrace ∷ base)

opened : (rs shown : List Role) → outside rs ≡ OpenBrace ∷ shown → IsOpened rs shown
opened [] shown e = absurd (cc)
opened (r ∷ rs) shown e =
    elim (cases_Bool (is_seen r rs)) [ inl counts ↦ here counts (sym (seen r rs counts) ∙ e) | inr not_so ↦ further not_so (opened rs shown (sym (unseen r rs not_so) ∙ e)) ]
  where
    up : (late early : List Role) → [] ≡ late ++ early → 0 < depth (early ++ OpenBrace ∷ rs)
    up [] [] e = omega arith
    up [] (x ∷ early) e = absurd (cc)
    up (x ∷ late) early e = absurd (cc)

    here : is_seen r rs ≡ true → r ∷ outside rs ≡ OpenBrace ∷ shown → IsOpened (r ∷ rs) shown
    here counts same =
        let is : r ≡ OpenBrace = cc in
        let rest : outside rs ≡ shown = cc in
        let raised : depth (r ∷ rs) ≡ depth rs + 1 = ap (λ x. depth (x ∷ rs)) is in
        let free : depth rs ≡ 0 = elim (or_cases (depth rs == 0) (depth (r ∷ rs) == 0) counts) [ inl e ↦ eqb-true (depth rs) 0 e | inr e ↦ absurd (omega (arith, raised, eqb-true (depth (r ∷ rs)) 0 e)) ] in
        record { inside = []; base = rs; parts = ap (λ x. x ∷ rs) is; shown_is = rest; free = free; unclosed = up }

    further : is_seen r rs ≡ false → IsOpened rs shown → IsOpened (r ∷ rs) shown
    further not_so o =
        record { inside = r ∷ o.inside; base = o.base; parts = ap (λ xs. r ∷ xs) o.parts; shown_is = o.shown_is; free = o.free; unclosed = deep }
      where
        deep : (late early : List Role) → r ∷ o.inside ≡ late ++ early → 0 < depth (early ++ OpenBrace ∷ o.base)
        deep [] early e =
            let above : 0 < depth (r ∷ rs) = positive (depth (r ∷ rs)) (or_parts (depth rs == 0) (depth (r ∷ rs) == 0) not_so).1 in
            let same : r ∷ rs ≡ early ++ OpenBrace ∷ o.base = ap (λ xs. r ∷ xs) o.parts ∙ ap (λ xs. xs ++ OpenBrace ∷ o.base) e in
            subst (λ xs. 0 < depth xs) same above
        deep (x ∷ late) early e = o.unclosed late early (cc)

-- what stands outside all brackets has no `=`
equals_inside : (late early : List Role) → has_equals (outside (late ++ Equals ∷ early)) ≡ false → 0 < depth early
equals_inside [] early none = elim (cases_lt 0 (depth early)) [ inl above ↦ above | inr low ↦ absurd (true≢false (sym (ap has_equals (seen_before Equals early (omega (arith, low)))) ∙ none)) ]
equals_inside (r ∷ late) early none =
    let rs = late ++ Equals ∷ early in
    let rest : has_equals (outside rs) ≡ false =
    elim (cases_Bool (is_seen r rs)) [ inl counts ↦ (or_parts (is_equals r) (has_equals (outside rs)) (sym (ap has_equals (seen r rs counts)) ∙ none)).1 | inr not_so ↦ sym (ap has_equals (unseen r rs not_so)) ∙ none ] in
    equals_inside late early rest

-- what the tokens outside all brackets are where they end in the `}` of a body
body_shown : (shown : List Role) → ends (CloseBrace ∷ shown) ≡ true → (first : List Role) × (shown ≡ OpenBrace ∷ CloseParen ∷ first) × (has_equals first ≡ false)
body_shown (OpenBrace ∷ CloseParen ∷ first) e = (first, refl, not-true (has_equals first) e)
body_shown shown e = absurd (true≢false (sym e))

-- the `{` of the body, and what stands before it
body_of : (before : List Role) → depth (CloseBrace ∷ before) ≡ 0 → ends (CloseBrace ∷ outside before) ≡ true → EndsBody (CloseBrace ∷ before)
body_of before closed e =
    let s = body_shown (outside before) e in
    let o = opened before (CloseParen ∷ s.0) s.1 in
    of_front o.base o.inside o.parts o.free o.unclosed o.shown_is s.2
  where
    of_front : {first : List Role} (base inside : List Role) → before ≡ inside ++ OpenBrace ∷ base → depth base ≡ 0 → ((late early : List Role) → inside ≡ late ++ early → 0 < depth (early ++ OpenBrace ∷ base)) → outside base ≡ CloseParen ∷ first → has_equals first ≡ false → EndsBody (CloseBrace ∷ before)
    of_front [] inside parts free unclosed shown none = absurd (cc)
    of_front {first = first} (r ∷ front) inside parts free unclosed shown none =
        let view : r ∷ outside front ≡ CloseParen ∷ first = sym (seen_after r front free) ∙ shown in
        let is : r ≡ CloseParen = cc in
        let rest : outside front ≡ first = cc in
        let no_equals : has_equals (outside front) ≡ false = ap has_equals rest ∙ none in
        record {
          before = front;
          inside = inside;
          parts = ap (λ xs. CloseBrace ∷ xs) parts ∙ ap (λ x. CloseBrace ∷ (inside ++ OpenBrace ∷ x ∷ front)) is;
          outside = ap (λ x. depth (x ∷ front)) (sym is) ∙ free;
          unclosed = λ late early e. subst (λ x. 0 < depth (early ++ OpenBrace ∷ x ∷ front)) is (unclosed late early e);
          closed = closed;
          no_equals = λ late early e. equals_inside late early (ap (λ xs. has_equals (outside xs)) (sym e) ∙ no_equals);
        }

stated : (rs : List Role) → is_whole rs ≡ true → EndsStatement rs ⊎ EndsBody rs
stated [] e = absurd (true≢false (sym e))
stated (r ∷ before) e =
    let parts = and_parts (depth (r ∷ before) == 0) (ends (outside (r ∷ before))) e in
    let closed = eqb-true (depth (r ∷ before)) 0 parts.0 in
    by_last r before closed (sym (ap ends (seen_after r before closed)) ∙ parts.1)
  where
    by_last : (r : Role) (before : List Role) → depth (r ∷ before) ≡ 0 → ends (r ∷ outside before) ≡ true → EndsStatement (r ∷ before) ⊎ EndsBody (r ∷ before)
    by_last Semicolon before closed e = inl (record { before = before; parts = refl; outside = closed })
    by_last CloseBrace before closed e = inr (body_of before closed e)
    by_last r before closed e = absurd (true≢false (sym e))

pub ends_decided : (rs : List Role) → Decides (is_whole rs) (EndsStatement rs ⊎ EndsBody rs)
ends_decided rs = (stated rs, λ e. elim e [ inl statement ↦ statement_ends rs statement | inr body ↦ body_ends rs body ])
