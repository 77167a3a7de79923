-- The readers one step at a time, as the code's loops take them.
use Rattle.std.proofs.Common.{◌≡◌, ℕ, zero, suc, ◌+◌, ◌-◌, ◌<◌, ◌≤◌, true, false, refl, sym, ◌∙◌, ap, List, [], ◌∷◌, ◌++◌, length, drop, take, get_or, arith, Option, Some, None}
use Rattle.std.specs.Option.{option_map, option_and_then}
use Rattle.std.proofs.lemmas.List.{length-append}
use Rattle.pp_cond.specs.declared.symbol.Infix.{Infix}
use Rattle.pp_cond.specs.declared.symbol.Symbol.{Symbol}
use Rattle.pp_cond.specs.declared.symbol.Symbol.TheVariants.{Operand, Open, Question, Colon}
use Rattle.pp_cond.specs.declared.outcome.Outcome.{Outcome}
use Rattle.pp_cond.specs.declared.choices.Choices.{Choices}
use Rattle.pp_cond.specs.declared.choices.Choices.TheVariants.{Nothing}
use Rattle.pp_cond.specs.Choices.{ending_in, followed_by}
use Rattle.pp_cond.proofs.ChoiceLaws.{ending_in-followed_by}
use Rattle.pp_cond.specs.Grammar.{Expr, prefix_of}
use Rattle.pp_cond.specs.Outcomes.{choice_outcome}
use Rattle.pp_cond.specs.Readers.{Algebra, Reader, outcomes, read_unary, read_primary, prefix_count, after_close, front_operand, is_open, link, with_prefix, with_prefixes, operator_at, front_operator, is_question, is_colon, if_some, read_rest, read_chain, read_up_to, read_choices, read_conditional, read_expression, after_colon}
use Rattle.pp_cond.proofs.GrammarLaws.{some_same, Sound, sound_up_to}

pub shorter : {A : Type 0} (alg : Algebra A) (p : Reader A) (D : Expr → List Symbol → Type 0) → Sound alg p D → (ts : List Symbol) (a : A) (us : List Symbol) → p ts ≡ Some (a, us) → length us ≤ length ts
shorter alg p D sp ts a us h =
    let f = sp ts (a, us) h in
    let l : length ts ≡ length (f.front ++ us) = ap length f.whole in
    omega (arith, length-append f.front us)

-- more iterations than there are symbols read the same
rest_fuel : {A : Type 0} (alg : Algebra A) (k : ℕ) (p : Reader A) (D : Expr → List Symbol → Type 0) → Sound alg p D → (m n : ℕ) (a : A) (ts : List Symbol) → length ts ≤ m → length ts ≤ n → read_rest alg k p m a ts ≡ read_rest alg k p n a ts
unfolding read_rest
rest_fuel alg k p D sp zero zero a ts h g = refl
rest_fuel alg k p D sp zero (suc n) a [] h g = refl
rest_fuel alg k p D sp zero (suc n) a (s ∷ ts) h g = absurd (omega arith)
rest_fuel alg k p D sp (suc m) zero a [] h g = refl
rest_fuel alg k p D sp (suc m) zero a (s ∷ ts) h g = absurd (omega arith)
rest_fuel alg k p D sp (suc m) (suc n) a [] h g = refl
rest_fuel {A} alg k p D sp (suc m) (suc n) a (s ∷ ts) h g = elim (operator_at k s) as (λ o. if_some o (Some (a, s ∷ ts)) (λ o. option_and_then (λ r. read_rest alg k p m (alg.infixed o a r.0) r.1) (p ts)) ≡ if_some o (Some (a, s ∷ ts)) (λ o. option_and_then (λ r. read_rest alg k p n (alg.infixed o a r.0) r.1) (p ts))) [
  | None ↦ refl
  | Some o ↦ elim (p ts) as (λ (q : Option (A × List Symbol)). p ts ≡ q → option_and_then (λ r. read_rest alg k p m (alg.infixed o a r.0) r.1) q ≡ option_and_then (λ r. read_rest alg k p n (alg.infixed o a r.0) r.1) q) [
    | None ↦ λ e. refl
    | Some r ↦ λ e. let l = shorter alg p D sp ts r.0 r.1 e in rest_fuel alg k p D sp m n (alg.infixed o a r.0) r.1 (omega arith) (omega arith)
  ] refl
]

pub no_operator : {A : Type 0} (alg : Algebra A) (k : ℕ) (p : Reader A) (a : A) (ts : List Symbol) → front_operator k ts ≡ None → read_rest alg k p (length ts) a ts ≡ Some (a, ts)
unfolding read_rest
no_operator alg k p a [] h = refl
no_operator alg k p a (s ∷ ts) h = rw h refl

pub no_operand : {A : Type 0} (alg : Algebra A) (k : ℕ) (p : Reader A) (a : A) (ts : List Symbol) (o : Infix) → front_operator k ts ≡ Some o → p (drop 1 ts) ≡ None → read_rest alg k p (length ts) a ts ≡ None
unfolding read_rest
no_operand alg k p a [] o h g = absurd (cc)
no_operand alg k p a (s ∷ ts) o h g = rw (h, g) refl

pub next_operand : {A : Type 0} (alg : Algebra A) (k : ℕ) (p : Reader A) (D : Expr → List Symbol → Type 0) → Sound alg p D → (a : A) (ts : List Symbol) (o : Infix) (b : A) (us : List Symbol) → front_operator k ts ≡ Some o → p (drop 1 ts) ≡ Some (b, us) → (read_rest alg k p (length ts) a ts ≡ read_rest alg k p (length us) (alg.infixed o a b) us) × (length us < length ts)
unfolding read_rest
next_operand alg k p D sp a [] o b us h g = absurd (cc)
next_operand alg k p D sp a (s ∷ ts) o b us h g =
    let l = shorter alg p D sp ts b us g in
    (rw (h, g) (rest_fuel alg k p D sp (length ts) (length us) (alg.infixed o a b) us l (omega arith)), omega arith)

pub operator_front : (k : ℕ) (ts : List Symbol) (o : Infix) → front_operator k ts ≡ Some o → 0 < length ts
operator_front k [] o h = absurd (cc)
operator_front k (s ∷ ts) o h = omega arith

-- ---- conditional expressions

abbrev pub ending_all : Choices → Option (Outcome × List Symbol) → Option (Outcome × List Symbol)
ending_all p read = option_map {T = Outcome × List Symbol} {U = Outcome × List Symbol} (λ r. (ending_in p r.0, r.1)) read

pub nothing_ends : (r : Option (Outcome × List Symbol)) → ending_all Nothing r ≡ r
unfolding ending_in
nothing_ends None = refl
nothing_ends (Some r) = refl

colon_same : {A : Type 0} (f : A × List Symbol → A × List Symbol) (q r : Reader A) (ts : List Symbol) → ((us : List Symbol) → length us < length ts → q us ≡ r us) → after_colon ts (λ us. option_map f (q us)) ≡ after_colon ts (λ us. option_map f (r us))
colon_same f q r [] same = refl
colon_same f q r (Colon ∷ us) same = ap (option_map f) (same us (omega arith))
colon_same f q r (s ∷ us) same = refl

link_same : {A : Type 0} (alg : Algebra A) (inner : Reader A) (I : Expr → List Symbol → Type 0) → Sound alg inner I → (q r : Reader A) (c : A) (ts : List Symbol) → ((us : List Symbol) → length us < length ts → q us ≡ r us) → link alg inner q (c, ts) ≡ link alg inner r (c, ts)
link_same alg inner I si q r c [] same = refl
link_same {A} alg inner I si q r c (Question ∷ ts) same =
    let after : Reader A → A × List Symbol → Option (A × List Symbol) = λ w a. after_colon a.1 (λ vs. option_map {T = A × List Symbol} {U = A × List Symbol} (λ b. (alg.choice c a.0 b.0, b.1)) (w vs)) in
    elim (inner ts) as (λ (x : Option (A × List Symbol)). inner ts ≡ x → option_and_then (after q) x ≡ option_and_then (after r) x) [
      | None ↦ λ e. refl
      | Some a ↦ λ e. let l = shorter alg inner I si ts a.0 a.1 e in
          colon_same (λ b. (alg.choice c a.0 b.0, b.1)) q r a.1 (λ us h. same us (omega arith))
    ] refl
link_same alg inner I si q r c (s ∷ ts) same = refl

-- more links than there are symbols read the same
choices_fuel : {A : Type 0} (alg : Algebra A) (inner : Reader A) (I : Expr → List Symbol → Type 0) → Sound alg inner I → (m n : ℕ) (ts : List Symbol) → length ts < m → length ts < n → read_choices alg inner m ts ≡ read_choices alg inner n ts
unfolding read_choices
choices_fuel alg inner I si zero n ts h g = absurd (omega arith)
choices_fuel alg inner I si (suc m) zero ts h g = absurd (omega arith)
choices_fuel {A} alg inner I si (suc m) (suc n) ts h g =
    elim (read_up_to alg inner 10 ts) as (λ (x : Option (A × List Symbol)). read_up_to alg inner 10 ts ≡ x → option_and_then (link alg inner (read_choices alg inner m)) x ≡ option_and_then (link alg inner (read_choices alg inner n)) x) [
      | None ↦ λ e. refl
      | Some c ↦ λ e. let l = shorter alg (read_up_to alg inner 10) _ (sound_up_to alg inner I si 10) ts c.0 c.1 e in
          link_same alg inner I si (read_choices alg inner m) (read_choices alg inner n) c.0 c.1
          (λ us k. choices_fuel alg inner I si m n us (omega arith) (omega arith))
    ] refl

ending_followed : (p : Choices) (c a : Outcome) (r : Option (Outcome × List Symbol)) → ending_all (followed_by p c a) r ≡ ending_all p (option_map {T = Outcome × List Symbol} {U = Outcome × List Symbol} (λ b. (choice_outcome c a b.0, b.1)) r)
ending_followed p c a None = refl
ending_followed p c a (Some r) = ap (λ (v : Outcome). Some (v, r.1)) (ending_in-followed_by p c a r.0)

-- one turn of the loop: a condition, a ? and an operand, and a colon
pub next_choice : (inner : Reader Outcome) (I : Expr → List Symbol → Type 0) → Sound outcomes inner I → (ts : List Symbol) (c : Outcome) (us : List Symbol) (a : Outcome) (vs : List Symbol) (p : Choices) → read_up_to outcomes inner 10 ts ≡ Some (c, us) → is_question us ≡ true → inner (drop 1 us) ≡ Some (a, vs) → is_colon vs ≡ true → (ending_all (followed_by p c a) (read_conditional outcomes inner (drop 1 vs)) ≡ ending_all p (read_conditional outcomes inner ts)) × (length (drop 1 vs) < length ts)
unfolding read_conditional read_choices
next_choice inner I si ts c [] a vs p h q g k = absurd (cc)
next_choice inner I si ts c (Question ∷ ws) a [] p h q g k = absurd (cc)
next_choice inner I si ts c (Question ∷ ws) a (Colon ∷ zs) p h q g k =
    let l = shorter outcomes (read_up_to outcomes inner 10) _ (sound_up_to outcomes inner I si 10) ts c (Question ∷ ws) h in
    let m = shorter outcomes inner I si ws a (Colon ∷ zs) g in
    let less : length zs < length ts = omega arith in
    let whole : read_conditional outcomes inner ts ≡ option_map {T = Outcome × List Symbol} {U = Outcome × List Symbol} (λ b. (choice_outcome c a b.0, b.1)) (read_choices outcomes inner (length ts) zs) = rw (h, g) refl in
    let fuel : read_choices outcomes inner (length ts) zs ≡ read_choices outcomes inner (suc (length zs)) zs = choices_fuel outcomes inner I si (length ts) (suc (length zs)) zs less (omega arith) in (
      ending_followed p c a (read_choices outcomes inner (suc (length zs)) zs)
          ∙ sym (ap (ending_all p) (whole ∙ ap (option_map {T = Outcome × List Symbol} {U = Outcome × List Symbol} (λ b. (choice_outcome c a b.0, b.1))) fuel)),
      less,
    )
next_choice inner I si ts c (Question ∷ ws) a (s ∷ zs) p h q g k = absurd (cc)
next_choice inner I si ts c (s ∷ ws) a vs p h q g k = absurd (cc)

pub last_choice : (inner : Reader Outcome) (ts : List Symbol) (c : Outcome) (us : List Symbol) (p : Choices) → read_up_to outcomes inner 10 ts ≡ Some (c, us) → is_question us ≡ false → Some (ending_in p c, us) ≡ ending_all p (read_conditional outcomes inner ts)
unfolding read_conditional read_choices
last_choice inner ts c [] p h q = rw h refl
last_choice inner ts c (Question ∷ us) p h q = absurd (cc)
last_choice inner ts c (s ∷ us) p h q = rw h refl

pub no_condition : (inner : Reader Outcome) (ts : List Symbol) (p : Choices) → read_up_to outcomes inner 10 ts ≡ None → None ≡ ending_all p (read_conditional outcomes inner ts)
unfolding read_conditional read_choices
no_condition inner ts p h = rw h refl

pub no_choice : (inner : Reader Outcome) (ts : List Symbol) (c : Outcome) (us : List Symbol) (p : Choices) → read_up_to outcomes inner 10 ts ≡ Some (c, us) → is_question us ≡ true → inner (drop 1 us) ≡ None → None ≡ ending_all p (read_conditional outcomes inner ts)
unfolding read_conditional read_choices
no_choice inner ts c [] p h q g = absurd (cc)
no_choice inner ts c (Question ∷ us) p h q g = rw (h, g) refl
no_choice inner ts c (s ∷ us) p h q g = absurd (cc)

pub no_colon : (inner : Reader Outcome) (ts : List Symbol) (c : Outcome) (us : List Symbol) (a : Outcome) (vs : List Symbol) (p : Choices) → read_up_to outcomes inner 10 ts ≡ Some (c, us) → is_question us ≡ true → inner (drop 1 us) ≡ Some (a, vs) → is_colon vs ≡ false → None ≡ ending_all p (read_conditional outcomes inner ts)
unfolding read_conditional read_choices
no_colon inner ts c [] a vs p h q g k = absurd (cc)
no_colon inner ts c (Question ∷ us) a [] p h q g k = rw (h, g) refl
no_colon inner ts c (Question ∷ us) a (Colon ∷ vs) p h q g k = absurd (cc)
no_colon inner ts c (Question ∷ us) a (s ∷ vs) p h q g k = rw (h, g) refl
no_colon inner ts c (s ∷ us) a vs p h q g k = absurd (cc)

pub question_front : (ts : List Symbol) → is_question ts ≡ true → 0 < length ts
question_front [] h = absurd (cc)
question_front (s ∷ ts) h = omega arith

pub colon_front : (ts : List Symbol) → is_colon ts ≡ true → 0 < length ts
colon_front [] h = absurd (cc)
colon_front (s ∷ ts) h = omega arith

with_prefixes_take : (ts : List Symbol) (m : ℕ) (a : Outcome) (d : Symbol) → m < length ts → with_prefixes outcomes (take (suc m) ts) a ≡ with_prefixes outcomes (take m ts) (with_prefix outcomes (prefix_of (get_or ts m d)) a)
with_prefixes_take [] m a d h = absurd (omega arith)
with_prefixes_take (t ∷ ts) zero a d h = refl
with_prefixes_take (t ∷ ts) (suc m) a d h = ap (with_prefix outcomes (prefix_of t)) (with_prefixes_take ts m a d (omega arith))

pub with_prefixes_step : (ts : List Symbol) (n : ℕ) (a : Outcome) (d : Symbol) → 0 < n → n ≤ length ts → with_prefixes outcomes (take n ts) a ≡ with_prefixes outcomes (take (n - 1) ts) (with_prefix outcomes (prefix_of (get_or ts (n - 1) d)) a)
with_prefixes_step ts zero a d h g = absurd (omega arith)
with_prefixes_step ts (suc m) a d h g = let e : suc m - 1 ≡ m = omega arith in rw e (with_prefixes_take ts m a d (omega arith))

-- ---- expressions of a depth

pub expression_is : (n : ℕ) (ts : List Symbol) → 0 < n → read_expression outcomes n ts ≡ read_chain outcomes 17 (read_conditional outcomes (read_expression outcomes (n - 1))) ts
unfolding read_expression
expression_is zero ts h = absurd (omega arith)
expression_is (suc n) ts h = let e : suc n - 1 ≡ n = omega arith in rw e refl

pub no_depth : (n : ℕ) (ts : List Symbol) → n ≡ 0 → read_expression outcomes n ts ≡ None
unfolding read_expression
no_depth n ts h = rw h refl

pub up_to_is : (inner : Reader Outcome) (n : ℕ) (ts : List Symbol) → 0 < n → read_up_to outcomes inner n ts ≡ read_chain outcomes (n + 4) (read_up_to outcomes inner (n - 1)) ts
unfolding read_up_to
up_to_is inner zero ts h = absurd (omega arith)
up_to_is inner (suc n) ts h = let e : suc n - 1 ≡ n = omega arith in let f : suc n + 4 ≡ n + 5 = omega arith in rw (e, f) refl

pub up_to_unary : (inner : Reader Outcome) (n : ℕ) (ts : List Symbol) → n ≡ 0 → read_up_to outcomes inner n ts ≡ read_unary outcomes inner ts
unfolding read_up_to
up_to_unary inner n ts h = rw h refl

pub chain_starts : (k : ℕ) (p : Reader Outcome) (ts : List Symbol) (a : Outcome) (us : List Symbol) → p ts ≡ Some (a, us) → read_chain outcomes k p ts ≡ read_rest outcomes k p (length us) a us
unfolding read_chain
chain_starts k p ts a us h = rw h refl

pub chain_fails : (k : ℕ) (p : Reader Outcome) (ts : List Symbol) → p ts ≡ None → read_chain outcomes k p ts ≡ None
unfolding read_chain
chain_fails k p ts h = rw h refl

-- ---- primary and unary expressions

pub primary_operand : (inner : Reader Outcome) (ts : List Symbol) (v : Outcome) → front_operand ts ≡ Some v → Some (v, drop 1 ts) ≡ read_primary outcomes inner ts
unfolding read_primary
primary_operand inner [] v h = absurd (cc)
primary_operand inner (Operand w ∷ ts) v h = ap (λ (x : Outcome). Some (x, ts)) (sym (some_same h))
primary_operand inner (s ∷ ts) v h = absurd (cc)

pub operand_front : (ts : List Symbol) (v : Outcome) → front_operand ts ≡ Some v → 0 < length ts
operand_front [] v h = absurd (cc)
operand_front (s ∷ ts) v h = omega arith

pub open_front : (ts : List Symbol) → is_open ts ≡ true → 0 < length ts
open_front [] h = absurd (cc)
open_front (s ∷ ts) h = omega arith

pub no_primary : (inner : Reader Outcome) (ts : List Symbol) → front_operand ts ≡ None → is_open ts ≡ false → None ≡ read_primary outcomes inner ts
unfolding read_primary
no_primary inner [] h g = refl
no_primary inner (Operand v ∷ ts) h g = absurd (cc)
no_primary inner (Open ∷ ts) h g = absurd (cc)
no_primary inner (s ∷ ts) h g = refl

pub primary_open : (inner : Reader Outcome) (ts : List Symbol) → is_open ts ≡ true → option_and_then {T = Outcome × List Symbol} (λ r. after_close r.0 r.1) (inner (drop 1 ts)) ≡ read_primary outcomes inner ts
unfolding read_primary
primary_open inner [] g = absurd (cc)
primary_open inner (Open ∷ ts) g = refl
primary_open inner (s ∷ ts) g = absurd (cc)

pub and_then_map : {A B C : Type 0} (f : B → Option C) (g : A → B) (o : Option A) → option_and_then (λ a. f (g a)) o ≡ option_and_then f (option_map g o)
and_then_map f g None = refl
and_then_map f g (Some a) = refl

pub unary_fails : (inner : Reader Outcome) (ts : List Symbol) → read_primary outcomes inner (drop (prefix_count ts) ts) ≡ None → None ≡ read_unary outcomes inner ts
unfolding read_unary
unary_fails inner ts h = rw h refl

pub unary_is : (inner : Reader Outcome) (ts : List Symbol) (v : Outcome) (us : List Symbol) → read_primary outcomes inner (drop (prefix_count ts) ts) ≡ Some (v, us) → Some (with_prefixes outcomes (take (prefix_count ts) ts) v, us) ≡ read_unary outcomes inner ts
unfolding read_unary
unary_is inner ts v us h = rw h refl
