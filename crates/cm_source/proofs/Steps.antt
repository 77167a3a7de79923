-- What one step through a file gives to its text.
use Rattle.std.proofs.Common.{◌≡◌, ℕ, zero, suc, ◌+◌, ◌<◌, ◌≤◌, List, [], ◌∷◌, ◌++◌, length, get_or, take, drop, refl, sym, ap, ◌∙◌, arith, length-drop, length-take-le, append_assoc, Bool, true, false, ◌&&◌, eqb, cond, Option, Some, None, ◌⊎◌, inl, inr, eqb-true}
use Rattle.std.proofs.lemmas.Bool.Decides.{nat_tests}
use Rattle.std.specs.Str.{IsUtf8, IsAscii}
use Rattle.std.proofs.lemmas.Str.{IsAscii-append}
use Rattle.std.proofs.Math.Seq.{take-add}
use Rattle.std.proofs.lemmas.List.{append-nil, take-append-drop, drop-drop}
use Rattle.cm_source.specs.declared.position.Position.{Position}
use Rattle.cm_source.specs.declared.step.First.{First}
use Rattle.cm_source.specs.Places.{next, after}
use Rattle.cm_source.specs.LogicalText.{Mark, placed, trigraph_meaning, trigraph, trigraphs, begins, line_ends, splices}
use Rattle.cm_source.specs.Steps.{unspliced, phases, IsFirst, IsLineEnd, IsStep}
use Rattle.cm_source.proofs.Ascii.{all_below, two_ascii, three_ascii, ascii_for_ascii, without_ascii}

-- a trigraph is of ASCII, and stands for ASCII that ends no line
pub meaning_facts : (c m : ℕ) → trigraph_meaning c ≡ Some m → (c < 128) × (m < 128) × (m ≡ 10 → ⊥) × (m ≡ 13 → ⊥)
unfolding trigraph_meaning
meaning_facts c m h = grind (arith, nat_tests)

pub trigraphs_plain : (a : ℕ) (rest : List ℕ) (p : Position) → trigraph a (get_or rest 0 0) (get_or rest 1 0) ≡ None → trigraphs (placed p (a ∷ rest)) ≡ record { byte = a; place = p } ∷ trigraphs (placed (next p a) rest)
trigraphs_plain a [] p h = refl
trigraphs_plain a (b ∷ []) p h = refl
trigraphs_plain a (b ∷ c ∷ rest) p h = rw (h, trigraphs) refl

pub trigraphs_three : (c m : ℕ) (rest : List ℕ) (p : Position) → trigraph_meaning c ≡ Some m → trigraphs (placed p (63 ∷ 63 ∷ c ∷ rest)) ≡ record { byte = m; place = p } ∷ trigraphs (placed (after p (63 ∷ 63 ∷ c ∷ [])) rest)
trigraphs_three c m rest p h = rw (h, trigraphs) refl

-- a byte that begins no trigraph
pub first_plain : (a : ℕ) (rest : List ℕ) → trigraph a (get_or rest 0 0) (get_or rest 1 0) ≡ None → IsFirst (a ∷ rest) (record { byte = a; length = 1 })
first_plain a rest h = record {
  some = omega arith;
  within = omega arith;
  marks = λ p. trigraphs_plain a rest p h;
  ascii = λ below. all_below a below;
  utf8 = λ front utf8. utf8;
}

-- a trigraph
pub first_three : (c m : ℕ) (rest : List ℕ) → trigraph_meaning c ≡ Some m → IsFirst (63 ∷ 63 ∷ c ∷ rest) (record { byte = m; length = 3 })
first_three c m rest h =
    let facts = meaning_facts c m h in
    record {
      some = omega arith;
      within = omega arith;
      marks = λ p. trigraphs_three c m rest p h;
      ascii = λ _. three_ascii c facts.0;
      utf8 = λ front utf8. ascii_for_ascii front (63 ∷ 63 ∷ c ∷ []) rest m (omega arith) (three_ascii c facts.0) facts.1 utf8;
    }

trigraph_parts : (a b c m : ℕ) → trigraph a b c ≡ Some m → (a ≡ 63) × (b ≡ 63) × (trigraph_meaning c ≡ Some m)
trigraph_parts a b c m h =
    elim (eqb a 63) as (λ x. eqb a 63 ≡ x → cond (x && eqb b 63) (trigraph_meaning c) None ≡ Some m → (a ≡ 63) × (b ≡ 63) × (trigraph_meaning c ≡ Some m)) [
      | false ↦ λ e w. cc
      | true ↦ λ e w. elim (eqb b 63) as (λ y. eqb b 63 ≡ y → cond y (trigraph_meaning c) None ≡ Some m → (a ≡ 63) × (b ≡ 63) × (trigraph_meaning c ≡ Some m)) [
        | false ↦ λ g v. cc
        | true ↦ λ g v. (eqb-true a 63 e, eqb-true b 63 g, v)
      ] refl w
    ] refl h

not_none : (m : ℕ) → trigraph_meaning 0 ≡ Some m → ⊥
unfolding trigraph_meaning
not_none m h = cc

first_by : (a : ℕ) (rest : List ℕ) (t : Option ℕ) → trigraph a (get_or rest 0 0) (get_or rest 1 0) ≡ t → IsFirst (a ∷ rest) (record { byte = a; length = 1 }) ⊎ ((m : ℕ) × (a ≡ 63) × (m ≡ 10 → ⊥) × (m ≡ 13 → ⊥) × IsFirst (a ∷ rest) (record { byte = m; length = 3 }))
first_by a rest None e = inl (first_plain a rest e)
first_by a [] (Some m) e = absurd (let second = (trigraph_parts a 0 0 m e).1 in omega arith)
first_by a (b ∷ []) (Some m) e = absurd (not_none m (trigraph_parts a b 0 m e).2)
first_by a (b ∷ c ∷ rest) (Some m) e =
    let parts = trigraph_parts a b c m e in
    let facts = meaning_facts c m parts.2 in
    inr (m, parts.0, facts.2, facts.3, rw (parts.0, parts.1) (first_three c m rest parts.2))

-- the first byte after phase 1, of bytes that are not none
pub first_cases : (a : ℕ) (rest : List ℕ) → IsFirst (a ∷ rest) (record { byte = a; length = 1 }) ⊎ ((m : ℕ) × (a ≡ 63) × (m ≡ 10 → ⊥) × (m ≡ 13 → ⊥) × IsFirst (a ∷ rest) (record { byte = m; length = 3 }))
first_cases a rest = first_by a rest (trigraph a (get_or rest 0 0) (get_or rest 1 0)) refl

no_line_feed : (a m : ℕ) → a ≡ 63 → (m ≡ 10 → ⊥) → eqb m 10 ≡ eqb a 10
no_line_feed a m is line = grind (arith, nat_tests)

-- phase 1 makes no line feed
pub begins-trigraphs : (rest : List ℕ) (p : Position) → begins 10 (trigraphs (placed p rest)) ≡ eqb (get_or rest 0 0) 10
begins-trigraphs [] p = refl
begins-trigraphs (a ∷ rest) p = elim (first_cases a rest) [
  | inl plain ↦ ap (begins 10) (plain.marks p)
  | inr (m, is, line, ret, three) ↦ ap (begins 10) (three.marks p) ∙ no_line_feed a m is line
]

not_byte : (a b : ℕ) → (a ≡ b → ⊥) → eqb a b ≡ false
not_byte a b differs = grind (arith, nat_tests)

not_thirteen : (m : ℕ) (b : Bool) → (m ≡ 13 → ⊥) → (eqb m 13 && b) ≡ false
not_thirteen m b differs = rw (not_byte m 13 differs) refl

not_dropped : (a : ℕ) (b : Bool) (next : ℕ) → b ≡ eqb next 10 → (a ≡ 13 → next ≡ 10 → ⊥) → (eqb a 13 && b) ≡ false
not_dropped a b next is differs =
    elim (eqb a 13) as (λ x. eqb a 13 ≡ x → (x && b) ≡ false) [
      | false ↦ λ e. refl
      | true ↦ λ e. is ∙ not_byte next 10 (differs (eqb-true a 13 e))
    ] refl

-- what the next mark says of one mark
pub kept_mark : (x : Mark) (xs : List Mark) → (eqb x.byte 13 && begins 10 xs) ≡ false → line_ends (x ∷ xs) ≡ x ∷ line_ends xs
kept_mark x xs h = rw (h, line_ends) refl

pub dropped_mark : (x : Mark) (xs : List Mark) → x.byte ≡ 13 → begins 10 xs ≡ true → line_ends (x ∷ xs) ≡ line_ends xs
dropped_mark x xs is h = rw (is, h, line_ends) refl

pub unspliced_mark : (x : Mark) (xs : List Mark) → (eqb x.byte 92 && begins 10 xs) ≡ false → splices (x ∷ xs) ≡ x ∷ splices xs
unspliced_mark x [] h = refl
unspliced_mark x (y ∷ ys) h = rw (h, splices) refl

pub spliced_marks : (x y : Mark) (xs : List Mark) → x.byte ≡ 92 → y.byte ≡ 10 → splices (x ∷ y ∷ xs) ≡ splices xs
spliced_marks x y xs back line = rw (back, line, splices) refl

begins-unspliced : (rest : List ℕ) (p : Position) → (get_or rest 0 0 ≡ 10 → ⊥) → (get_or rest 0 0 ≡ 13 → get_or rest 1 0 ≡ 10 → ⊥) → begins 10 (unspliced p rest) ≡ false
begins-unspliced [] p line return_line = refl
begins-unspliced (a ∷ rest) p line return_line = elim (first_cases a rest) [
  | inl plain ↦
      let more = trigraphs (placed (next p a) rest) in
      let kept = kept_mark (record { byte = a; place = p }) more (not_dropped a (begins 10 more) (get_or rest 0 0) (begins-trigraphs rest (next p a)) return_line) in
      ap (λ t. begins 10 (line_ends t)) (plain.marks p) ∙ ap (begins 10) kept ∙ not_byte a 10 line
  | inr (m, is, no_line, no_return, three) ↦
      let more = trigraphs (placed (after p (take 3 (a ∷ rest))) (drop 3 (a ∷ rest))) in
      let kept = kept_mark (record { byte = m; place = p }) more (not_thirteen m (begins 10 more) no_return) in
      ap (λ t. begins 10 (line_ends t)) (three.marks p) ∙ ap (begins 10) kept ∙ not_byte m 10 no_line
]

-- a line feed
pub line_end_one : (rest : List ℕ) → IsLineEnd (10 ∷ rest) 1
line_end_one rest = record {
  within = omega arith;
  none = λ e. absurd (omega arith);
  some = λ _ p. (p, ap line_ends (trigraphs_plain 10 rest p refl));
  ascii = all_below 10 (omega arith);
}

-- a carriage return and a line feed
pub line_end_two : (rest : List ℕ) → IsLineEnd (13 ∷ 10 ∷ rest) 2
line_end_two rest = record {
  within = omega arith;
  none = λ e. absurd (omega arith);
  some = λ _ p. (next p 13, ap line_ends (trigraphs_plain 13 (10 ∷ rest) p refl ∙ ap (λ t. record { byte = 13; place = p } ∷ t) (trigraphs_plain 10 rest (next p 13) refl)));
  ascii = two_ascii;
}

-- neither
pub line_end_none : (rest : List ℕ) → (get_or rest 0 0 ≡ 10 → ⊥) → (get_or rest 0 0 ≡ 13 → get_or rest 1 0 ≡ 10 → ⊥) → IsLineEnd rest 0
line_end_none rest line return_line = record {
  within = omega arith;
  none = λ _ p. begins-unspliced rest p line return_line;
  some = λ e. absurd (omega arith);
  ascii = λ i. omega arith;
}

nothing : (n : ℕ) → (0 < n → ⊥) → n ≡ 0
nothing zero h = refl
nothing (suc n) h = absurd (h (omega arith))

not_spliced : (a : ℕ) (b : Bool) (n : ℕ) → (n ≡ 0 → b ≡ false) → (a ≡ 92 → 0 < n → ⊥) → (eqb a 92 && b) ≡ false
not_spliced a b n none differs =
    elim (eqb a 92) as (λ x. eqb a 92 ≡ x → (x && b) ≡ false) [
      | false ↦ λ e. refl
      | true ↦ λ e. none (nothing n (differs (eqb-true a 92 e)))
    ] refl

pub after-append : (p : Position) (xs ys : List ℕ) → after p (xs ++ ys) ≡ after (after p xs) ys
after-append p [] ys = refl
after-append p (x ∷ xs) ys = after-append (next p x) xs ys

after-take : (p : Position) (n m : ℕ) (xs : List ℕ) → after p (take (n + m) xs) ≡ after (after p (take n xs)) (take m (drop n xs))
after-take p n m xs = ap (after p) (take-add n m xs) ∙ after-append p (take n xs) (take m (drop n xs))

-- a step over ASCII that gives nothing keeps a text UTF-8
utf8_left_out : (front rest : List ℕ) (n : ℕ) → 0 < n → n ≤ length rest → IsAscii (take n rest) → IsUtf8 (front ++ rest) → IsUtf8 ((front ++ []) ++ drop n rest)
utf8_left_out front rest n some within ascii utf8 =
    let split : take n rest ++ drop n rest ≡ rest = take-append-drop n rest in
    let utf8_split = rw (← split) at utf8 in
    rw append-nil (without_ascii front (take n rest) (drop n rest) (rw (length-take-le n rest within) some) ascii utf8_split)

pub step_dropped : (rest : List ℕ) (f : First) → IsFirst rest f → f.byte ≡ 13 → get_or (drop f.length rest) 0 0 ≡ 10 → IsStep rest (record { byte = None; length = f.length })
unfolding phases
step_dropped rest f first is line = record {
  some = first.some;
  within = first.within;
  marks = λ p.
      let more = trigraphs (placed (after p (take f.length rest)) (drop f.length rest)) in
      let begins_line : begins 10 more ≡ true = begins-trigraphs (drop f.length rest) (after p (take f.length rest)) ∙ ap (λ b. eqb b 10) line in
      ap (λ t. splices (line_ends t)) (first.marks p) ∙ ap splices (dropped_mark (record { byte = f.byte; place = p }) more is begins_line);
  utf8 = λ front utf8. utf8_left_out front rest f.length first.some first.within (first.ascii (omega arith)) utf8;
}

pub step_spliced : (rest : List ℕ) (f : First) (n : ℕ) → IsFirst rest f → f.byte ≡ 92 → IsLineEnd (drop f.length rest) n → 0 < n → IsStep rest (record { byte = None; length = f.length + n })
unfolding phases
step_spliced rest f n first is line some = record {
  some = omega (arith, first.some);
  within = omega (arith, first.within, line.within, length-drop f.length rest);
  marks = λ p.
      let q = after p (take f.length rest) in
      let more = trigraphs (placed q (drop f.length rest)) in
      let x : Mark = record { byte = f.byte; place = p } in
      let not_return : (eqb f.byte 13 && begins 10 more) ≡ false = not_thirteen f.byte (begins 10 more) (λ e. omega arith) in
      let end = line.some some q in
      let behind = unspliced (after q (take n (drop f.length rest))) (drop n (drop f.length rest)) in
      ap (λ t. splices (line_ends t)) (first.marks p)
      ∙ ap splices (kept_mark x more not_return ∙ ap (λ t. x ∷ t) end.1)
      ∙ spliced_marks x (record { byte = 10; place = end.0 }) behind is refl
      ∙ ap (λ (q' : Position). splices (unspliced q' (drop n (drop f.length rest)))) (sym (after-take p f.length n rest))
      ∙ ap (λ bytes. splices (unspliced (after p (take (f.length + n) rest)) bytes)) (drop-drop n f.length rest);
  utf8 = λ front utf8. utf8_left_out front rest (f.length + n) (omega (arith, first.some)) (omega (arith, first.within, line.within, length-drop f.length rest))
      (rw take-add (IsAscii-append _ _ (first.ascii (omega arith)) line.ascii)) utf8;
}

pub step_kept : (rest : List ℕ) (f : First) (n : ℕ) → IsFirst rest f → IsLineEnd (drop f.length rest) n → (f.byte ≡ 13 → get_or (drop f.length rest) 0 0 ≡ 10 → ⊥) → (f.byte ≡ 92 → 0 < n → ⊥) → IsStep rest (record { byte = Some f.byte; length = f.length })
unfolding phases
step_kept rest f n first line not_return not_splice = record {
  some = first.some;
  within = first.within;
  marks = λ p.
      let q = after p (take f.length rest) in
      let more = trigraphs (placed q (drop f.length rest)) in
      let x : Mark = record { byte = f.byte; place = p } in
      ap (λ t. splices (line_ends t)) (first.marks p)
      ∙ ap splices (kept_mark x more (not_dropped f.byte (begins 10 more) (get_or (drop f.length rest) 0 0) (begins-trigraphs (drop f.length rest) q) not_return))
      ∙ unspliced_mark x (line_ends more) (not_spliced f.byte (begins 10 (line_ends more)) n (λ e. line.none e q) not_splice);
  utf8 = λ front utf8. rw append_assoc (first.utf8 front utf8);
}

-- the first byte after phase 1, by whether three bytes are a trigraph
pub first_trigraph : (rest : List ℕ) (m : ℕ) → trigraph (get_or rest 0 0) (get_or rest 1 0) (get_or rest 2 0) ≡ Some m → IsFirst rest (record { byte = m; length = 3 })
first_trigraph [] m h = absurd (let first = (trigraph_parts 0 0 0 m h).0 in omega arith)
first_trigraph (a ∷ []) m h = absurd (let second = (trigraph_parts a 0 0 m h).1 in omega arith)
first_trigraph (a ∷ b ∷ []) m h = absurd (not_none m (trigraph_parts a b 0 m h).2)
first_trigraph (a ∷ b ∷ c ∷ rest) m h =
    let parts = trigraph_parts a b c m h in
    rw (parts.0, parts.1) (first_three c m rest parts.2)

pub first_other : (rest : List ℕ) → 0 < length rest → trigraph (get_or rest 0 0) (get_or rest 1 0) (get_or rest 2 0) ≡ None → IsFirst rest (record { byte = get_or rest 0 0; length = 1 })
first_other [] some h = absurd (omega arith)
first_other (a ∷ rest) some h = first_plain a rest h

-- the three ways through `line_end_length`
pub line_end_feed : (rest : List ℕ) → get_or rest 0 0 ≡ 10 → IsLineEnd rest 1
line_end_feed [] first = absurd (let h : 0 ≡ 10 = first in omega arith)
line_end_feed (a ∷ rest) first = rw first (line_end_one rest)

pub line_end_return : (rest : List ℕ) → get_or rest 0 0 ≡ 13 → get_or rest 1 0 ≡ 10 → IsLineEnd rest 2
line_end_return [] first second = absurd (let h : 0 ≡ 13 = first in omega arith)
line_end_return (a ∷ []) first second = absurd (let h : 0 ≡ 10 = second in omega arith)
line_end_return (a ∷ b ∷ rest) first second = rw (first, second) (line_end_two rest)
