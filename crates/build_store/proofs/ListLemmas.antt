-- Lists of numbers, what holds of each of them, and how many are left.
use Rattle.std.proofs.Common.{◌≡◌, ◌∙◌, refl, sym, ap, subst, ℕ, ◌<◌, ◌≤◌, Bool, true, false, not, cond, ◌||◌, ◌==◌, ◌⊎◌, inl, inr, List, [], ◌∷◌, ◌++◌, length, map, Option, Some, None, arith, true≢false, eq-eqb, eqb-true}
use Rattle.std.specs.List.{filter}
use Rattle.std.proofs.lemmas.Bool.{or_cases, or_left, or_right, and_from, and_left, and_right, and_parts, cases_eq}
use Rattle.build_store.specs.Modules.{is_in, is_free, left}

-- ---- options

pub some≢none : {B : Type 0} {b : B} → Some b ≡ None → ⊥
some≢none e = cc

pub same_some : {B : Type 0} {u : Option B} {b c : B} → u ≡ Some b → u ≡ Some c → b ≡ c
same_some e f = cc

-- two that are Some alike are the same
pub same_options : {B : Type 0} → (u v : Option B) → ((b : B) → u ≡ Some b → v ≡ Some b) → ((b : B) → v ≡ Some b → u ≡ Some b) → u ≡ v
same_options None None to back = refl
same_options None (Some b) to back = back b refl
same_options (Some b) v to back = sym (to b refl)

pub none_unless : {B : Type 0} → (u : Option B) → ((b : B) → u ≡ Some b → ⊥) → u ≡ None
none_unless None never = refl
none_unless (Some b) never = absurd (never b refl)

pub cond_some : {B : Type 0} → (c : Bool) (u : Option B) (b : B) → cond c u None ≡ Some b → (c ≡ true) × (u ≡ Some b)
cond_some true u b e = (refl, e)
cond_some false u b e = absurd (cc)

pub cond_true : {A : Type 0} → (c : Bool) (u v : A) → c ≡ true → cond c u v ≡ u
cond_true true u v e = refl
cond_true false u v e = absurd (true≢false (sym e))

pub cond_false : {A : Type 0} → (c : Bool) (u v : A) → c ≡ false → cond c u v ≡ v
cond_false true u v e = absurd (true≢false e)
cond_false false u v e = refl

-- ---- what holds of each

abbrev pub Every : {X : Type 0} → (X → Type 0) → List X → Type 0
Every P [] = Unit {0}
Every P (x ∷ xs) = P x × Every P xs

pub every_map : {X : Type 0} (P Q : X → Type 0) → ((x : X) → P x → Q x) → (xs : List X) → Every P xs → Every Q xs
every_map P Q more [] h = tt
every_map P Q more (x ∷ xs) h = (more x h.0, every_map P Q more xs h.1)

pub every_all : {X : Type 0} (P : X → Type 0) → ((x : X) → P x) → (xs : List X) → Every P xs
every_all P all [] = tt
every_all P all (x ∷ xs) = (all x, every_all P all xs)

pub every_of_map : {X Y : Type 0} (P : Y → Type 0) (f : X → Y) → (xs : List X) → Every P (map f xs) → Every (λ x. P (f x)) xs
every_of_map P f [] h = tt
every_of_map P f (x ∷ xs) h = (h.0, every_of_map P f xs h.1)

pub every_to_map : {X Y : Type 0} (P : Y → Type 0) (f : X → Y) → (xs : List X) → Every (λ x. P (f x)) xs → Every P (map f xs)
every_to_map P f [] h = tt
every_to_map P f (x ∷ xs) h = (h.0, every_to_map P f xs h.1)

pub every_append : {X : Type 0} (P : X → Type 0) → (xs ys : List X) → Every P xs → Every P ys → Every P (xs ++ ys)
every_append P [] ys h g = g
every_append P (x ∷ xs) ys h g = (h.0, every_append P xs ys h.1 g)

pub every_at : (P : ℕ → Type 0) → (xs : List ℕ) → Every P xs → (x : ℕ) → is_in x xs ≡ true → P x
every_at P [] h x e = absurd (true≢false (sym e))
every_at P (y ∷ ys) h x e =
    elim (or_cases (x == y) (is_in x ys) e) [ inl same ↦ subst P (sym (eqb-true x y same)) h.0 | inr more ↦ every_at P ys h.1 x more ]

pub every_in : (P : ℕ → Type 0) → (xs : List ℕ) → ((x : ℕ) → is_in x xs ≡ true → P x) → Every P xs
every_in P [] h = tt
every_in P (y ∷ ys) h = (h y (or_left (y == y) (is_in y ys) (eq-eqb y y refl)), every_in P ys (λ x e. h x (or_right (x == y) (is_in x ys) e)))

-- ---- members

pub in_head : (x : ℕ) (xs : List ℕ) → is_in x (x ∷ xs) ≡ true
in_head x xs = or_left (x == x) (is_in x xs) (eq-eqb x x refl)

pub in_tail : (x y : ℕ) (xs : List ℕ) → is_in x xs ≡ true → is_in x (y ∷ xs) ≡ true
in_tail x y xs e = or_right (x == y) (is_in x xs) e

pub in_cases : (x y : ℕ) (xs : List ℕ) → is_in x (y ∷ xs) ≡ true → (x ≡ y) ⊎ (is_in x xs ≡ true)
in_cases x y xs e = elim (or_cases (x == y) (is_in x xs) e) [ inl same ↦ inl (eqb-true x y same) | inr more ↦ inr more ]

pub in_append_left : (x : ℕ) (xs ys : List ℕ) → is_in x xs ≡ true → is_in x (xs ++ ys) ≡ true
in_append_left x [] ys e = absurd (true≢false (sym e))
in_append_left x (y ∷ xs) ys e =
    elim (or_cases (x == y) (is_in x xs) e) [ inl same ↦ or_left (x == y) (is_in x (xs ++ ys)) same | inr more ↦ or_right (x == y) (is_in x (xs ++ ys)) (in_append_left x xs ys more) ]

pub in_append_right : (x : ℕ) (xs ys : List ℕ) → is_in x ys ≡ true → is_in x (xs ++ ys) ≡ true
in_append_right x [] ys e = e
in_append_right x (y ∷ xs) ys e = or_right (x == y) (is_in x (xs ++ ys)) (in_append_right x xs ys e)

pub in_append : (x : ℕ) (xs ys : List ℕ) → is_in x (xs ++ ys) ≡ true → (is_in x xs ≡ true) ⊎ (is_in x ys ≡ true)
in_append x [] ys e = inr e
in_append x (y ∷ xs) ys e =
    elim (or_cases (x == y) (is_in x (xs ++ ys)) e) [
      | inl same ↦ inl (or_left (x == y) (is_in x xs) same)
      | inr more ↦ elim (in_append x xs ys more) [ inl here ↦ inl (or_right (x == y) (is_in x xs) here) | inr there ↦ inr there ]
    ]

-- a member of a filtered list is a member that passes
in_filter_at : (test : ℕ → Bool) (x y : ℕ) (ys kept : List ℕ) → (is_in x kept ≡ true → (is_in x ys ≡ true) × (test x ≡ true))
    → (b : Bool) → test y ≡ b → is_in x (cond b (y ∷ kept) kept) ≡ true → (is_in x (y ∷ ys) ≡ true) × (test x ≡ true)
in_filter_at test x y ys kept rest true is h =
    elim (in_cases x y kept h) [ inl same ↦ (or_left (x == y) (is_in x ys) (eq-eqb x y same), ap test same ∙ is) | inr more ↦ (in_tail x y ys (rest more).0, (rest more).1) ]
in_filter_at test x y ys kept rest false is h = (in_tail x y ys (rest h).0, (rest h).1)

pub in_filter : (test : ℕ → Bool) (x : ℕ) (xs : List ℕ) → is_in x (filter test xs) ≡ true → (is_in x xs ≡ true) × (test x ≡ true)
in_filter test x [] e = absurd (true≢false (sym e))
in_filter test x (y ∷ ys) e = in_filter_at test x y ys (filter test ys) (in_filter test x ys) (test y) refl e

in_filter_of_at : (test : ℕ → Bool) (x y : ℕ) (ys kept : List ℕ) → (is_in x ys ≡ true → is_in x kept ≡ true) → test x ≡ true
    → (b : Bool) → test y ≡ b → (x ≡ y) ⊎ (is_in x ys ≡ true) → is_in x (cond b (y ∷ kept) kept) ≡ true
in_filter_of_at test x y ys kept rest pass true is (inl same) = or_left (x == y) (is_in x kept) (eq-eqb x y same)
in_filter_of_at test x y ys kept rest pass true is (inr more) = in_tail x y kept (rest more)
in_filter_of_at test x y ys kept rest pass false is (inl same) = absurd (true≢false (sym pass ∙ ap test same ∙ is))
in_filter_of_at test x y ys kept rest pass false is (inr more) = rest more

pub in_filter_of : (test : ℕ → Bool) (x : ℕ) (xs : List ℕ) → is_in x xs ≡ true → test x ≡ true → is_in x (filter test xs) ≡ true
in_filter_of test x [] e pass = e
in_filter_of test x (y ∷ ys) e pass = in_filter_of_at test x y ys (filter test ys) (λ more. in_filter_of test x ys more pass) pass (test y) refl (in_cases x y ys e)

-- ---- what is left

pub free_parts : (known busy : List ℕ) (m : ℕ) → is_free known busy m ≡ true → (is_in m known ≡ true) × (is_in m busy ≡ false)
free_parts known busy m e = let parts = and_parts (is_in m known) (not (is_in m busy)) e in (parts.0, unnot (is_in m busy) parts.1)
  where
    unnot : (b : Bool) → not b ≡ true → b ≡ false
    unnot true h = sym h
    unnot false h = refl

pub free_from : (known busy : List ℕ) (m : ℕ) → is_in m known ≡ true → is_in m busy ≡ false → is_free known busy m ≡ true
free_from known busy m e f = and_from (is_in m known) (not (is_in m busy)) e (ap not f)

pub not_free : (known busy : List ℕ) (m : ℕ) → is_in m busy ≡ true → is_free known busy m ≡ false
not_free known busy m e = and_right (is_in m known) (not (is_in m busy)) (ap not e)

pub unknown_free : (known busy : List ℕ) (m : ℕ) → is_in m known ≡ false → is_free known busy m ≡ false
unknown_free known busy m e = and_left (is_in m known) (not (is_in m busy)) e

pub left_none_less : (known busy : List ℕ) (m : ℕ) → left known (m ∷ busy) ≤ left known busy
unfolding left
left_none_less [] busy m = omega arith
left_none_less (x ∷ xs) busy m = by (x == m) (is_in x busy) (left_none_less xs busy m)
  where
    by : (b c : Bool) → length (filter (λ y. not (is_in y (m ∷ busy))) xs) ≤ length (filter (λ y. not (is_in y busy)) xs)
        → length (cond (not (b || c)) (x ∷ filter (λ y. not (is_in y (m ∷ busy))) xs) (filter (λ y. not (is_in y (m ∷ busy))) xs))
        ≤ length (cond (not c) (x ∷ filter (λ y. not (is_in y busy)) xs) (filter (λ y. not (is_in y busy)) xs))
    by true true h = h
    by false true h = h
    by true false h = omega arith
    by false false h = omega arith

-- where a free one is in progress fewer are left
pub left_less : (known busy : List ℕ) (m : ℕ) → is_in m known ≡ true → is_in m busy ≡ false → left known (m ∷ busy) < left known busy
unfolding left
left_less [] busy m e f = absurd (true≢false (sym e))
left_less (x ∷ xs) busy m e f = by (λ more. left_less xs busy m more f) (cases_eq m x)
  where
    here : (b c : Bool) → b ≡ true → c ≡ false → length (filter (λ y. not (is_in y (m ∷ busy))) xs) ≤ length (filter (λ y. not (is_in y busy)) xs)
        → length (cond (not (b || c)) (x ∷ filter (λ y. not (is_in y (m ∷ busy))) xs) (filter (λ y. not (is_in y (m ∷ busy))) xs))
        < length (cond (not c) (x ∷ filter (λ y. not (is_in y busy)) xs) (filter (λ y. not (is_in y busy)) xs))
    here true false eb ec h = omega arith
    here true true eb ec h = absurd (true≢false ec)
    here false c eb ec h = absurd (true≢false (sym eb))

    there : (b c : Bool) → length (filter (λ y. not (is_in y (m ∷ busy))) xs) < length (filter (λ y. not (is_in y busy)) xs)
        → length (cond (not (b || c)) (x ∷ filter (λ y. not (is_in y (m ∷ busy))) xs) (filter (λ y. not (is_in y (m ∷ busy))) xs))
        < length (cond (not c) (x ∷ filter (λ y. not (is_in y busy)) xs) (filter (λ y. not (is_in y busy)) xs))
    there true true h = h
    there false true h = h
    there true false h = omega arith
    there false false h = omega arith

    by : (is_in m xs ≡ true → length (filter (λ y. not (is_in y (m ∷ busy))) xs) < length (filter (λ y. not (is_in y busy)) xs))
        → (m ≡ x) ⊎ (m ≡ x → ⊥) → length (cond (not (is_in x (m ∷ busy))) (x ∷ filter (λ y. not (is_in y (m ∷ busy))) xs) (filter (λ y. not (is_in y (m ∷ busy))) xs))
        < length (cond (not (is_in x busy)) (x ∷ filter (λ y. not (is_in y busy)) xs) (filter (λ y. not (is_in y busy)) xs))
    by rest (inl same) = here (x == m) (is_in x busy) (eq-eqb x m (sym same)) (ap (λ y. is_in y busy) (sym same) ∙ f) (left_none_less xs busy m)
    by rest (inr other) = there (x == m) (is_in x busy) (rest (elim (in_cases m x xs e) [ inl same ↦ absurd (other same) | inr more ↦ more ]))
