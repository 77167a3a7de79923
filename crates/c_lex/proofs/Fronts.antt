-- What the tests of `Pieces` say of each front of a text, by how far its runs reach.
use Rattle.std.proofs.Common.{◌≡◌, ℕ, zero, suc, ◌+◌, ◌≤◌, List, [], ◌∷◌, length, take, refl, sym, ◌∙◌, arith, Bool, true, false, ◌&&◌, eqb, leb, ltb, cond, Option, Some, None}
use Rattle.std.proofs.lemmas.Bool.Decides.{nat_tests}
use Rattle.c_lex.specs.Pieces.{is_nil, is_word, all_words, goes_on, is_number_rest, is_quoted, is_closed, is_unclosed, is_in_line, all_continue, is_named}
use Rattle.c_lex.specs.Runs.{word_run, number_run, line_run, continue_run, longer, quoted_run, closed_run, named_run}

leb-more : (m n : ℕ) → leb m n ≡ leb (suc m) (n + 1)
leb-more m n = grind (arith, nat_tests)

leb_zero : (n : ℕ) → leb 0 n ≡ true
leb_zero n = grind (arith, nat_tests)

leb-suc-none : (m : ℕ) → leb (suc m) 0 ≡ false
leb-suc-none m = grind (arith, nat_tests)

pub words-take : (s : List ℕ) (m : ℕ) → m ≤ length s → all_words (take m s) ≡ leb m (word_run s)
words-take s zero h = sym (leb_zero (word_run s))
words-take [] (suc m) h = absurd (omega arith)
words-take (b ∷ bs) (suc m) h =
    elim (is_word b) as (λ w. (w && all_words (take m bs)) ≡ leb (suc m) (cond w (word_run bs + 1) 0)) [
      | true ↦ words-take bs m (omega arith) ∙ leb-more m (word_run bs)
      | false ↦ sym (leb-suc-none m)
    ]

pub number-take : (s : List ℕ) (p m : ℕ) → m ≤ length s → is_number_rest p (take m s) ≡ leb m (number_run p s)
number-take s p zero h = sym (leb_zero (number_run p s))
number-take [] p (suc m) h = absurd (omega arith)
number-take (b ∷ bs) p (suc m) h =
    elim (goes_on p b) as (λ w. (w && is_number_rest b (take m bs)) ≡ leb (suc m) (cond w (number_run b bs + 1) 0)) [
      | true ↦ number-take bs b m (omega arith) ∙ leb-more m (number_run b bs)
      | false ↦ sym (leb-suc-none m)
    ]

pub line-take : (s : List ℕ) (m : ℕ) → m ≤ length s → is_in_line (take m s) ≡ leb m (line_run s)
line-take s zero h = sym (leb_zero (line_run s))
line-take [] (suc m) h = absurd (omega arith)
line-take (b ∷ bs) (suc m) h =
    elim (eqb b 10) as (λ w. cond w false (is_in_line (take m bs)) ≡ leb (suc m) (cond w 0 (line_run bs + 1))) [
      | true ↦ sym (leb-suc-none m)
      | false ↦ line-take bs m (omega arith) ∙ leb-more m (line_run bs)
    ]

pub continue-take : (s : List ℕ) (m : ℕ) → m ≤ length s → all_continue (take m s) ≡ leb m (continue_run s)
continue-take s zero h = sym (leb_zero (continue_run s))
continue-take [] (suc m) h = absurd (omega arith)
continue-take (b ∷ bs) (suc m) h =
    elim (leb 128 b && ltb b 192) as (λ w. (w && all_continue (take m bs)) ≡ leb (suc m) (cond w (continue_run bs + 1) 0)) [
      | true ↦ continue-take bs m (omega arith) ∙ leb-more m (continue_run bs)
      | false ↦ sym (leb-suc-none m)
    ]

-- a run with its end is m long; a run is longer than m
abbrev pub is_at : ℕ → Option ℕ → Bool
is_at m None = false
is_at m (Some n) = eqb m n

abbrev pub is_before : ℕ → Option ℕ → Bool
is_before m None = true
is_before m (Some n) = ltb m n

is_at-longer : (m : ℕ) (r : Option ℕ) → is_at m r ≡ is_at (suc m) (longer r)
is_at-longer m None = refl
is_at-longer m (Some n) = grind (arith, nat_tests)

is_at_zero-longer : (r : Option ℕ) → is_at 0 (longer r) ≡ false
is_at_zero-longer None = refl
is_at_zero-longer (Some n) = grind (arith, nat_tests)

is_before-longer : (m : ℕ) (r : Option ℕ) → is_before m r ≡ is_before (suc m) (longer r)
is_before-longer m None = refl
is_before-longer m (Some n) = grind (arith, nat_tests)

is_before_zero-longer : (r : Option ℕ) → is_before 0 (longer r) ≡ true
is_before_zero-longer None = refl
is_before_zero-longer (Some n) = grind (arith, nat_tests)

pub nil-take : (s : List ℕ) (m : ℕ) → m ≤ length s → is_nil (take m s) ≡ eqb (suc m) 1
nil-take s zero h = refl
nil-take [] (suc m) h = absurd (omega arith)
nil-take (b ∷ bs) (suc m) h = grind (arith, nat_tests)

pub named-take : (s : List ℕ) (q m : ℕ) → m ≤ length s → is_named q (take m s) ≡ is_at m (named_run q s)
named-take [] q zero h = refl
named-take [] q (suc m) h = absurd (omega arith)
named-take (b ∷ bs) q zero h =
    elim (eqb b 10) as (λ w. false ≡ is_at 0 (cond w None (cond (eqb b q) (Some 1) (longer (named_run q bs))))) [
      | true ↦ refl
      | false ↦ elim (eqb b q) as (λ v. false ≡ is_at 0 (cond v (Some 1) (longer (named_run q bs)))) [
        | true ↦ refl
        | false ↦ sym (is_at_zero-longer (named_run q bs))
      ]
    ]
named-take (b ∷ bs) q (suc m) h =
    elim (eqb b 10) as (λ w. cond w false (cond (eqb b q) (is_nil (take m bs)) (is_named q (take m bs))) ≡ is_at (suc m) (cond w None (cond (eqb b q) (Some 1) (longer (named_run q bs))))) [
      | true ↦ refl
      | false ↦ elim (eqb b q) as (λ v. cond v (is_nil (take m bs)) (is_named q (take m bs)) ≡ is_at (suc m) (cond v (Some 1) (longer (named_run q bs)))) [
        | true ↦ nil-take bs m (omega arith)
        | false ↦ named-take bs q m (omega arith) ∙ is_at-longer m (named_run q bs)
      ]
    ]

pub closed-take : (s : List ℕ) (p m : ℕ) → m ≤ length s → is_closed p (take m s) ≡ is_at m (closed_run p s)
closed-take [] p zero h = refl
closed-take [] p (suc m) h = absurd (omega arith)
closed-take (b ∷ bs) p zero h =
    elim (eqb p 42 && eqb b 47) as (λ w. false ≡ is_at 0 (cond w (Some 1) (longer (closed_run b bs)))) [
      | true ↦ refl
      | false ↦ sym (is_at_zero-longer (closed_run b bs))
    ]
closed-take (b ∷ bs) p (suc m) h =
    elim (eqb p 42 && eqb b 47) as (λ w. cond w (is_nil (take m bs)) (is_closed b (take m bs)) ≡ is_at (suc m) (cond w (Some 1) (longer (closed_run b bs)))) [
      | true ↦ nil-take bs m (omega arith)
      | false ↦ closed-take bs b m (omega arith) ∙ is_at-longer m (closed_run b bs)
    ]

pub unclosed-take : (s : List ℕ) (p m : ℕ) → m ≤ length s → is_unclosed p (take m s) ≡ is_before m (closed_run p s)
unclosed-take [] p zero h = refl
unclosed-take [] p (suc m) h = absurd (omega arith)
unclosed-take (b ∷ bs) p zero h =
    elim (eqb p 42 && eqb b 47) as (λ w. true ≡ is_before 0 (cond w (Some 1) (longer (closed_run b bs)))) [
      | true ↦ refl
      | false ↦ sym (is_before_zero-longer (closed_run b bs))
    ]
unclosed-take (b ∷ bs) p (suc m) h =
    elim (eqb p 42 && eqb b 47) as (λ w. cond w false (is_unclosed b (take m bs)) ≡ is_before (suc m) (cond w (Some 1) (longer (closed_run b bs)))) [
      | true ↦ grind (arith, nat_tests)
      | false ↦ unclosed-take bs b m (omega arith) ∙ is_before-longer m (closed_run b bs)
    ]

quoted_zero : (b q : ℕ) (escaped : Bool) (bs : List ℕ) → false ≡ is_at 0 (quoted_run q escaped (b ∷ bs))
quoted_zero b q escaped bs =
    elim (eqb b 10) as (λ w. false ≡ is_at 0 (cond w None (cond escaped (longer (quoted_run q false bs)) (cond (eqb b q) (Some 1) (longer (quoted_run q (eqb b 92) bs)))))) [
      | true ↦ refl
      | false ↦ elim escaped as (λ e. false ≡ is_at 0 (cond e (longer (quoted_run q false bs)) (cond (eqb b q) (Some 1) (longer (quoted_run q (eqb b 92) bs))))) [
        | true ↦ sym (is_at_zero-longer (quoted_run q false bs))
        | false ↦ elim (eqb b q) as (λ v. false ≡ is_at 0 (cond v (Some 1) (longer (quoted_run q (eqb b 92) bs)))) [
          | true ↦ refl
          | false ↦ sym (is_at_zero-longer (quoted_run q (eqb b 92) bs))
        ]
      ]
    ]

pub quoted-take : (s : List ℕ) (q : ℕ) (escaped : Bool) (m : ℕ) → m ≤ length s → is_quoted q escaped (take m s) ≡ is_at m (quoted_run q escaped s)
quoted-take [] q escaped zero h = refl
quoted-take [] q escaped (suc m) h = absurd (omega arith)
quoted-take (b ∷ bs) q escaped zero h = quoted_zero b q escaped bs
quoted-take (b ∷ bs) q escaped (suc m) h =
    elim (eqb b 10) as (λ w. cond w false (cond escaped (is_quoted q false (take m bs)) (cond (eqb b q) (is_nil (take m bs)) (is_quoted q (eqb b 92) (take m bs)))) ≡ is_at (suc m) (cond w None (cond escaped (longer (quoted_run q false bs)) (cond (eqb b q) (Some 1) (longer (quoted_run q (eqb b 92) bs)))))) [
      | true ↦ refl
      | false ↦ elim escaped as (λ e. cond e (is_quoted q false (take m bs)) (cond (eqb b q) (is_nil (take m bs)) (is_quoted q (eqb b 92) (take m bs))) ≡ is_at (suc m) (cond e (longer (quoted_run q false bs)) (cond (eqb b q) (Some 1) (longer (quoted_run q (eqb b 92) bs))))) [
        | true ↦ quoted-take bs q false m (omega arith) ∙ is_at-longer m (quoted_run q false bs)
        | false ↦ elim (eqb b q) as (λ v. cond v (is_nil (take m bs)) (is_quoted q (eqb b 92) (take m bs)) ≡ is_at (suc m) (cond v (Some 1) (longer (quoted_run q (eqb b 92) bs)))) [
          | true ↦ nil-take bs m (omega arith)
          | false ↦ quoted-take bs q (eqb b 92) m (omega arith) ∙ is_at-longer m (quoted_run q (eqb b 92) bs)
        ]
      ]
    ]
