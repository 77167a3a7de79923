-- Which bytes punctuators are made of, and what is the longest.
use Rattle.std.proofs.Common.{◌≡◌, ℕ, zero, suc, ◌<◌, ◌≤◌, List, [], ◌∷◌, length, get_or, take, refl, sym, ap, ◌∙◌, arith, Bool, true, false, ◌&&◌, ◌||◌, eqb, ltb, eqb-true, ltb-true, ◌⊎◌, inl, inr, codes}
use Rattle.std.specs.List.{list_any, list_all}
use Rattle.c_lex.specs.Pieces.{is_mark, pairs, is_pair, is_triple, is_quadruple, is_punctuator}
use Rattle.c_lex.specs.Punctuators.{IsPunctuatorLength}

pub both : (x y : Bool) → (x && y) ≡ true → (x ≡ true) × (y ≡ true)
both true y h = (refl, h)
both false y h = cc

below_all : (a : ℕ) (xs : List ℕ) → list_all (λ b. ltb b 128) xs ≡ true → list_any (λ b. eqb b a) xs ≡ true → a < 128
below_all a [] all any = cc
below_all a (x ∷ xs) all any =
    let parts = both (ltb x 128) (list_all (λ b. ltb b 128) xs) all in
    elim (eqb x a) as (λ w. eqb x a ≡ w → (w || list_any (λ b. eqb b a) xs) ≡ true → a < 128) [
      | true ↦ λ e _. let same = eqb-true x a e in let below = ltb-true x 128 parts.0 in omega arith
      | false ↦ λ _ later. below_all a xs parts.1 later
    ] refl any

pub mark_ascii : (a : ℕ) → is_mark a ≡ true → a < 128
unfolding is_mark
mark_ascii a h = below_all a (codes "[](){}.&*+-~!/%<>^|?:;=,#") refl h

second_of_all : (a b : ℕ) (ps : List (ℕ × ℕ)) → list_all (λ p. is_mark p.1) ps ≡ true → list_any (λ p. eqb p.0 a && eqb p.1 b) ps ≡ true → is_mark b ≡ true
second_of_all a b [] all any = cc
second_of_all a b (p ∷ ps) all any =
    let parts = both (is_mark p.1) (list_all (λ q. is_mark q.1) ps) all in
    elim (eqb p.0 a && eqb p.1 b) as (λ w. (eqb p.0 a && eqb p.1 b) ≡ w → (w || list_any (λ q. eqb q.0 a && eqb q.1 b) ps) ≡ true → is_mark b ≡ true) [
      | true ↦ λ e _. let same = eqb-true p.1 b (both (eqb p.0 a) (eqb p.1 b) e).1 in ap is_mark (sym same) ∙ parts.0
      | false ↦ λ _ later. second_of_all a b ps parts.1 later
    ] refl any

pub pair_second : (a b : ℕ) → is_pair a b ≡ true → is_mark b ≡ true
unfolding is_pair is_mark
pair_second a b h = second_of_all a b pairs refl h

pub either : (x y : Bool) → (x || y) ≡ true → (x ≡ true) ⊎ (y ≡ true)
either true y h = inl refl
either false y h = inr h

three_bytes : (a b c x y z : ℕ) → (eqb a x && eqb b y && eqb c z) ≡ true → (b ≡ y) × (c ≡ z)
three_bytes a b c x y z h =
    let outer = both (eqb a x && eqb b y) (eqb c z) h in
    (eqb-true b y (both (eqb a x) (eqb b y) outer.0).1, eqb-true c z outer.1)

dot_is_mark : is_mark 46 ≡ true
unfolding is_mark
dot_is_mark = refl

less_is_mark : is_mark 60 ≡ true
unfolding is_mark
less_is_mark = refl

greater_is_mark : is_mark 62 ≡ true
unfolding is_mark
greater_is_mark = refl

equals_is_mark : is_mark 61 ≡ true
unfolding is_mark
equals_is_mark = refl

pub colon_is_mark : is_mark 58 ≡ true
unfolding is_mark
colon_is_mark = refl

zero_is_no_mark : is_mark 0 ≡ false
unfolding is_mark
zero_is_no_mark = refl

pub triple_marks : (a b c : ℕ) → is_triple a b c ≡ true → (is_mark b ≡ true) × (is_mark c ≡ true)
unfolding is_triple
triple_marks a b c h = elim (either _ _ h) [
  | inl first ↦ elim (either _ _ first) [
    | inl dots ↦ let parts = three_bytes a b c 46 46 46 dots in (rw parts.0 dot_is_mark, rw parts.1 dot_is_mark)
    | inr less ↦ let parts = three_bytes a b c 60 60 61 less in (rw parts.0 less_is_mark, rw parts.1 equals_is_mark)
  ]
  | inr greater ↦ let parts = three_bytes a b c 62 62 61 greater in (rw parts.0 greater_is_mark, rw parts.1 equals_is_mark)
]

pub quadruple_bytes : (a b c d : ℕ) → is_quadruple a b c d ≡ true → (b ≡ 58) × (d ≡ 58)
unfolding is_quadruple
quadruple_bytes a b c d h =
    let last = both (eqb a 37 && eqb b 58 && eqb c 37) (eqb d 58) h in
    let middle = both (eqb a 37 && eqb b 58) (eqb c 37) last.0 in
    (eqb-true b 58 (both (eqb a 37) (eqb b 58) middle.0).1, eqb-true d 58 last.1)

-- a punctuator of the byte a and m more, in tests of single bytes
test : ℕ → ℕ → ℕ → ℕ → ℕ → Bool
test zero a b c d = is_mark a
test (suc zero) a b c d = is_pair a b
test (suc (suc zero)) a b c d = is_triple a b c
test (suc (suc (suc zero))) a b c d = is_quadruple a b c d
test (suc (suc (suc (suc m)))) a b c d = false

punctuator-take : (rest : List ℕ) (a m : ℕ) → m ≤ length rest → is_punctuator (a ∷ take m rest) ≡ test m a (get_or rest 0 0) (get_or rest 1 0) (get_or rest 2 0)
unfolding test
punctuator-take rest a zero h = refl
punctuator-take [] a (suc m) h = absurd (omega arith)
punctuator-take (b ∷ rest) a (suc zero) h = refl
punctuator-take (b ∷ []) a (suc (suc m)) h = absurd (omega arith)
punctuator-take (b ∷ c ∷ rest) a (suc (suc zero)) h = refl
punctuator-take (b ∷ c ∷ []) a (suc (suc (suc m))) h = absurd (omega arith)
punctuator-take (b ∷ c ∷ d ∷ rest) a (suc (suc (suc zero))) h = refl
punctuator-take (b ∷ c ∷ d ∷ []) a (suc (suc (suc (suc m)))) h = absurd (omega arith)
punctuator-take (b ∷ c ∷ d ∷ e ∷ rest) a (suc (suc (suc (suc m)))) h = refl

-- a byte that isn't 0 stands in the list
pub stands : (xs : List ℕ) (i : ℕ) → (get_or xs i 0 ≡ 0 → ⊥) → i < length xs
stands [] i h = absurd (h refl)
stands (x ∷ xs) zero h = omega arith
stands (x ∷ xs) (suc i) h = let more = stands xs i h in omega arith

mark_stands : (xs : List ℕ) (i : ℕ) → is_mark (get_or xs i 0) ≡ true → i < length xs
mark_stands xs i h = stands xs i (λ none. let no = sym (ap is_mark none ∙ zero_is_no_mark) ∙ h in cc)

pub true_or_false : (x : Bool) → (x ≡ true → ⊥) → x ≡ false
true_or_false true h = absurd (h refl)
true_or_false false h = refl

clash : (x : Bool) → x ≡ false → x ≡ true → ⊥
clash x f t = let e = sym f ∙ t in cc

beyond_one : (a b c d : ℕ) → is_pair a b ≡ false → is_triple a b c ≡ false → is_quadruple a b c d ≡ false → (m : ℕ) → 1 ≤ m → test m a b c d ≡ false
unfolding test
beyond_one a b c d p t q zero h = absurd (omega arith)
beyond_one a b c d p t q (suc zero) h = p
beyond_one a b c d p t q (suc (suc zero)) h = t
beyond_one a b c d p t q (suc (suc (suc zero))) h = q
beyond_one a b c d p t q (suc (suc (suc (suc m)))) h = refl

beyond_two : (a b c d : ℕ) → is_triple a b c ≡ false → is_quadruple a b c d ≡ false → (m : ℕ) → 2 ≤ m → test m a b c d ≡ false
unfolding test
beyond_two a b c d t q zero h = absurd (omega arith)
beyond_two a b c d t q (suc zero) h = absurd (omega arith)
beyond_two a b c d t q (suc (suc zero)) h = t
beyond_two a b c d t q (suc (suc (suc zero))) h = q
beyond_two a b c d t q (suc (suc (suc (suc m)))) h = refl

beyond_three : (a b c d : ℕ) → is_quadruple a b c d ≡ false → (m : ℕ) → 3 ≤ m → test m a b c d ≡ false
unfolding test
beyond_three a b c d q zero h = absurd (omega arith)
beyond_three a b c d q (suc zero) h = absurd (omega arith)
beyond_three a b c d q (suc (suc zero)) h = absurd (omega arith)
beyond_three a b c d q (suc (suc (suc zero))) h = q
beyond_three a b c d q (suc (suc (suc (suc m)))) h = refl

beyond_four : (a b c d : ℕ) (m : ℕ) → 4 ≤ m → test m a b c d ≡ false
unfolding test
beyond_four a b c d zero h = absurd (omega arith)
beyond_four a b c d (suc zero) h = absurd (omega arith)
beyond_four a b c d (suc (suc zero)) h = absurd (omega arith)
beyond_four a b c d (suc (suc (suc zero))) h = absurd (omega arith)
beyond_four a b c d (suc (suc (suc (suc m)))) h = refl

-- one byte, whose next one is no mark
pub one_alone : (a : ℕ) (rest : List ℕ) → is_mark a ≡ true → is_mark (get_or rest 0 0) ≡ false → IsPunctuatorLength a rest 1
one_alone a rest mark next =
    let p : is_pair a (get_or rest 0 0) ≡ false = true_or_false _ (λ t. clash _ next (pair_second a _ t)) in
    let t : is_triple a (get_or rest 0 0) (get_or rest 1 0) ≡ false = true_or_false _ (λ t. clash _ next (triple_marks a _ _ t).0) in
    let q : is_quadruple a (get_or rest 0 0) (get_or rest 1 0) (get_or rest 2 0) ≡ false =
    true_or_false _ (λ t. clash _ next (ap is_mark (quadruple_bytes a _ _ _ t).0 ∙ colon_is_mark)) in
    record {
      some = omega arith;
      within = omega arith;
      here = mark;
      beyond = λ m from within. punctuator-take rest a m within ∙ beyond_one a _ _ _ p t q m from;
      ascii = mark_ascii a mark;
    }

pub one_only : (a : ℕ) (rest : List ℕ) → is_mark a ≡ true → is_pair a (get_or rest 0 0) ≡ false → is_triple a (get_or rest 0 0) (get_or rest 1 0) ≡ false → is_quadruple a (get_or rest 0 0) (get_or rest 1 0) (get_or rest 2 0) ≡ false → IsPunctuatorLength a rest 1
one_only a rest mark p t q = record {
  some = omega arith;
  within = omega arith;
  here = mark;
  beyond = λ m from within. punctuator-take rest a m within ∙ beyond_one a _ _ _ p t q m from;
  ascii = mark_ascii a mark;
}

pub two_only : (a : ℕ) (rest : List ℕ) → is_pair a (get_or rest 0 0) ≡ true → is_triple a (get_or rest 0 0) (get_or rest 1 0) ≡ false → is_quadruple a (get_or rest 0 0) (get_or rest 1 0) (get_or rest 2 0) ≡ false → IsPunctuatorLength a rest 2
unfolding test
two_only a rest p t q =
    let second = pair_second a _ p in
    let in_list = mark_stands rest 0 second in
    record {
      some = omega arith;
      within = omega arith;
      here = punctuator-take rest a 1 (omega arith) ∙ p;
      beyond = λ m from within. punctuator-take rest a m within ∙ beyond_two a _ _ _ t q m from;
      ascii = mark_ascii _ second;
    }

pub three_only : (a : ℕ) (rest : List ℕ) → is_triple a (get_or rest 0 0) (get_or rest 1 0) ≡ true → is_quadruple a (get_or rest 0 0) (get_or rest 1 0) (get_or rest 2 0) ≡ false → IsPunctuatorLength a rest 3
unfolding test
three_only a rest t q =
    let third = (triple_marks a _ _ t).1 in
    let in_list = mark_stands rest 1 third in
    record {
      some = omega arith;
      within = omega arith;
      here = punctuator-take rest a 2 (omega arith) ∙ t;
      beyond = λ m from within. punctuator-take rest a m within ∙ beyond_three a _ _ _ q m from;
      ascii = mark_ascii _ third;
    }

pub four_only : (a : ℕ) (rest : List ℕ) → is_quadruple a (get_or rest 0 0) (get_or rest 1 0) (get_or rest 2 0) ≡ true → IsPunctuatorLength a rest 4
unfolding test
four_only a rest q =
    let fourth = ap is_mark (quadruple_bytes a _ _ _ q).1 ∙ colon_is_mark in
    let in_list = mark_stands rest 2 fourth in
    record {
      some = omega arith;
      within = omega arith;
      here = punctuator-take rest a 3 (omega arith) ∙ q;
      beyond = λ m from within. punctuator-take rest a m within ∙ beyond_four a _ _ _ m from;
      ascii = mark_ascii _ fourth;
    }
