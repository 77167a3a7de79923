-- Blanks at the ends of a text, and numbers.
use Rattle.std.proofs.Common.{◌≡◌, ◌≢◌, ℕ, zero, suc, ◌+◌, ◌-◌, ◌<◌, ◌≤◌, ◌^◌, Bool, true, false, not, ◌&&◌, ◌||◌, cond, nat_eq, eqb, nat_lt, List, [], ◌∷◌, ◌++◌, length, reverse, slice_index, position, Option, Some, None, Result, Ok, Err, MatchOption, Bor, refl, ap, sym, subst, ◌∙◌, arith, rules, length-append}
use Rattle.std.specs.List.{list_all, position_or_len}
use Rattle.std.specs.Char.{is_ascii_digit}
use Rattle.std.specs.Result.{result_ok, OkIff}
use Rattle.std.specs.Str.Parse.{digits_value, ParsesUnsigned}
use Rattle.std.proofs.lemmas.Bool.{ne_eqb}
use Rattle.std.proofs.lemmas.Bool.Decides.{nat_tests}
use Rattle.std.proofs.lemmas.Str.Parse.{IsNumeralModel, numerals_by_value, parse_digits}
use Rattle.std.proofs.lemmas.Grind.{common_steps}
use Rattle.std.proofs.lemmas.List.{reverse-append, reverse-reverse, take_all, drop_all}
use Rattle.job_text.specs.Fields.{is_blank, without_blanks, keyword_of, field_of, is_digits, is_padded, number_bound, number_of}

no_blank : (c : ℕ) → c ≢ 32 → c ≢ 9 → is_blank c ≡ false
no_blank c space tab = grind (arith, nat_tests)

stops : (text : List ℕ) → ((rest : List ℕ) → text ≢ 32 ∷ rest) → ((rest : List ℕ) → text ≢ 9 ∷ rest) → without_blanks text ≡ text
stops [] space tab = refl
stops (c ∷ cs) space tab = rw (no_blank c (λ e. space cs (ap (λ b. b ∷ cs) e)) (λ e. tab cs (ap (λ b. b ∷ cs) e))) refl

pub first_tab : (text : List ℕ) (r : Option (Bor (List ℕ))) → ((rest : List ℕ) → text ≢ 32 ∷ rest) → MatchOption r ((rest : List ℕ) → text ≢ 9 ∷ rest) (λ x. text ≡ 9 ∷ x.now)
    → MatchOption r (without_blanks text ≡ text) (λ rest. (without_blanks text ≡ without_blanks rest.now) × (length rest.now < length text))
first_tab text None space tab = stops text space tab
first_tab text (Some x) space tab = rw tab (refl, omega arith)

ends_other : (text : List ℕ) (c : ℕ) → ((front : List ℕ) → text ≢ front ++ (c ∷ [])) → (rest : List ℕ) → reverse text ≢ c ∷ rest
ends_other text c other rest e =
    let back : reverse (c ∷ rest) ≡ reverse rest ++ (c ∷ []) = reverse-append (c ∷ []) rest in
    other (reverse rest) (sym (reverse-reverse text) ∙ ap reverse e ∙ back)

pub last_tab : (text : List ℕ) (r : Option (Bor (List ℕ))) → ((front : List ℕ) → text ≢ front ++ (32 ∷ [])) → MatchOption r ((front : List ℕ) → text ≢ front ++ (9 ∷ [])) (λ x. text ≡ x.now ++ (9 ∷ []))
    → MatchOption r (without_blanks (reverse text) ≡ reverse text) (λ rest. (without_blanks (reverse text) ≡ without_blanks (reverse rest.now)) × (length rest.now < length text))
last_tab text None space tab = stops (reverse text) (ends_other text 32 space) (ends_other text 9 tab)
last_tab text (Some x) space tab =
    let turned : reverse text ≡ 9 ∷ reverse x.now = ap reverse tab ∙ reverse-append x.now (9 ∷ []) in
    (ap without_blanks turned, omega (arith, ap length tab, length-append x.now (9 ∷ [])))

pub trimmed_end : (text rest : List ℕ) → without_blanks (reverse rest) ≡ without_blanks (reverse text) → without_blanks (reverse rest) ≡ reverse rest → rest ≡ reverse (without_blanks (reverse text))
trimmed_end text rest same stop = sym (reverse-reverse rest) ∙ ap reverse (sym stop ∙ same)

own : IsNumeralModel (λ text. list_all is_ascii_digit text ≡ true) (digits_value 10)
own = numerals_by_value _ (search rules)

ok_below : (n : ℕ) → n < 2 ^ 64 → nat_lt n number_bound ≡ true
unfolding number_bound
ok_below n small = grind (arith, nat_tests)

not_below : (n : ℕ) → (n < 2 ^ 64 → ⊥) → nat_lt n number_bound ≡ false
unfolding number_bound
not_below n large = grind (arith, nat_tests)

number_read_on : {E : Type 0} (text : List ℕ) (r : Result ℕ E) → 0 < length text → OkIff r ((0 < length text) × (digits_value 10 text < 2 ^ 64)) (digits_value 10 text)
    → result_ok r ≡ cond (nat_lt (digits_value 10 text) number_bound) (Some (digits_value 10 text)) None
number_read_on text (Ok n) some h = rw (ok_below (digits_value 10 text) h.0.1) (ap Some h.1)
number_read_on text (Err e) some h = rw (not_below (digits_value 10 text) (λ small. h (some, small))) refl

digits_parts : (text : List ℕ) → is_digits text ≡ true → (0 < length text) × (list_all is_ascii_digit text ≡ true)
digits_parts [] h = absurd (cc)
digits_parts (c ∷ cs) h = by (eqb (length (c ∷ cs)) 0) (ne_eqb _ _ (λ e. omega arith)) h
  where
    by : (b : Bool) → b ≡ false → (not b && list_all is_ascii_digit (c ∷ cs)) ≡ true → (0 < length (c ∷ cs)) × (list_all is_ascii_digit (c ∷ cs) ≡ true)
    by true e g = absurd (cc)
    by false e g = (omega arith, g)

pub number_read : {E : Type 0} (text : List ℕ) (r : Result ℕ E) → ParsesUnsigned 64 10 text r → (not (is_digits text) || is_padded text) ≡ false → result_ok r ≡ number_of text
number_read text r parsed plain = by (is_digits text) refl plain
  where
    by : (b : Bool) → is_digits text ≡ b → (not b || is_padded text) ≡ false → result_ok r ≡ number_of text
    by false e p = absurd (cc)
    by true e p =
        let parts = digits_parts text e in
        let read = number_read_on text r parts.0 (parse_digits own 64 text r parsed parts.1) in
        rw plain read

-- the place of the first blank
pub blank_at : (line : List ℕ) (n : ℕ) → Some n ≡ position is_blank line → position_or_len is_blank line ≡ n
blank_at line n h = by (nat_lt (position_or_len is_blank line) (length line)) h
  where
    by : (b : Bool) → Some n ≡ cond b (Some (position_or_len is_blank line)) None → position_or_len is_blank line ≡ n
    by true g = cc
    by false g = absurd (cc)

past_end : (line : List ℕ) → None ≡ position is_blank line → length line ≤ position_or_len is_blank line
past_end line h = by (nat_lt (position_or_len is_blank line) (length line)) refl h
  where
    by : (b : Bool) → nat_lt (position_or_len is_blank line) (length line) ≡ b → None ≡ cond b (Some (position_or_len is_blank line)) None → length line ≤ position_or_len is_blank line
    by true e g = absurd (cc)
    by false e g = grind (arith, nat_tests)

pub whole_keyword : (line : List ℕ) → None ≡ position is_blank line → line ≡ keyword_of line
whole_keyword line h = sym (take_all (position_or_len is_blank line) line (past_end line h))

pub no_field : (line : List ℕ) → None ≡ position is_blank line → (let none : List ℕ = [] in none) ≡ field_of line
no_field line h = ap without_blanks (sym (drop_all (position_or_len is_blank line) line (past_end line h)))
