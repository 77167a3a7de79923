-- Reading symbols from the left: what stands at their front, and the symbols after it, by the productions
-- of the grammar. Own: no public promise cites this, and the laws join it to the grammar. An algebra says
-- what is made of what is read: an outcome, or a tree.
use Rattle.std.specs.Prelude.{ℕ, zero, suc, ◌+◌, Bool, true, false, List, [], ◌∷◌, length, take, drop, Option, Some, None, ◌==◌, is_some, cond}
use Rattle.std.specs.Option.{option_map, option_and_then}
use Rattle.cm_core.specs.declared.integers.UnOp.{UnOp}
use Rattle.pp_cond.specs.declared.outcome.Outcome.{Outcome}
use Rattle.pp_cond.specs.declared.symbol.Infix.{Infix}
use Rattle.pp_cond.specs.declared.symbol.Symbol.{Symbol}
use Rattle.pp_cond.specs.declared.symbol.Symbol.TheVariants.{Operand, Operator, Open, Close, Question, Colon}
use Rattle.pp_cond.specs.Outcomes.{unary_outcome, choice_outcome, value_of, is_nonzero}
use Rattle.pp_cond.specs.Grammar.{Expr, Leaf, Unary, Infixed, Choice, level, prefix_of, infix_outcome, nesting_limit}

pub record Algebra (A : Type 0) : Type 0 where
  pub leaf : Outcome → A
  pub unary : UnOp → A → A
  pub infixed : Infix → A → A → A
  pub choice : A → A → A → A

abbrev pub outcomes : Algebra Outcome
outcomes = record { leaf = λ v. v; unary = unary_outcome; infixed = infix_outcome; choice = choice_outcome }

abbrev pub trees : Algebra Expr
trees = record { leaf = Leaf; unary = Unary; infixed = Infixed; choice = Choice }

abbrev pub Reader : Type 0 → Type 0
Reader A = List Symbol → Option (A × List Symbol)

abbrev pub after_close : {A : Type 0} → A → List Symbol → Option (A × List Symbol)
after_close a (Close ∷ ts) = Some (a, ts)
after_close a ts = None

unfoldable pub read_primary : {A : Type 0} → Algebra A → Reader A → Reader A
read_primary alg inner (Operand v ∷ ts) = Some (alg.leaf v, ts)
read_primary alg inner (Open ∷ ts) = option_and_then (λ r. after_close r.0 r.1) (inner ts)
read_primary alg inner ts = None

abbrev pub is_prefix : Symbol → Bool
is_prefix s = is_some (prefix_of s)

-- the operators, of which the last stands next to the operand
abbrev pub with_prefix : {A : Type 0} → Algebra A → Option UnOp → A → A
with_prefix alg None a = a
with_prefix alg (Some o) a = alg.unary o a

abbrev pub with_prefixes : {A : Type 0} → Algebra A → List Symbol → A → A
with_prefixes alg [] a = a
with_prefixes alg (s ∷ ts) a = with_prefix alg (prefix_of s) (with_prefixes alg ts a)

-- how many prefixes stand at the front
abbrev pub prefix_count : List Symbol → ℕ
prefix_count [] = 0
prefix_count (s ∷ ts) = cond (is_prefix s) (suc (prefix_count ts)) 0

unfoldable pub read_unary : {A : Type 0} → Algebra A → Reader A → Reader A
read_unary alg inner ts =
    let n = prefix_count ts in
    option_map (λ r. (with_prefixes alg (take n ts) r.0, r.1)) (read_primary alg inner (drop n ts))

abbrev pub operator_at : ℕ → Symbol → Option Infix
operator_at k (Operator o) = cond (level o == k) (Some o) None
operator_at k s = None

abbrev pub front_operator : ℕ → List Symbol → Option Infix
front_operator k [] = None
front_operator k (s ∷ ts) = operator_at k s

abbrev pub front_operand : List Symbol → Option Outcome
front_operand (Operand v ∷ ts) = Some v
front_operand ts = None

abbrev pub is_open : List Symbol → Bool
is_open (Open ∷ ts) = true
is_open ts = false

abbrev pub is_question : List Symbol → Bool
is_question (Question ∷ ts) = true
is_question ts = false

abbrev pub is_colon : List Symbol → Bool
is_colon (Colon ∷ ts) = true
is_colon ts = false

abbrev pub if_some : {A B : Type 0} → Option A → B → (A → B) → B
if_some None b f = b
if_some (Some a) b f = f a

-- operators of one level and their operands, after a first operand; the number bounds how many
unfoldable pub read_rest : {A : Type 0} → Algebra A → ℕ → Reader A → ℕ → A → List Symbol → Option (A × List Symbol)
read_rest alg k operand zero a ts = Some (a, ts)
read_rest alg k operand (suc n) a [] = Some (a, [])
read_rest alg k operand (suc n) a (s ∷ ts) =
    if_some (operator_at k s) (Some (a, s ∷ ts))
    (λ o. option_and_then (λ r. read_rest alg k operand n (alg.infixed o a r.0) r.1) (operand ts))

unfoldable pub read_chain : {A : Type 0} → Algebra A → ℕ → Reader A → Reader A
read_chain alg k operand ts = option_and_then (λ r. read_rest alg k operand (length r.1) r.0 r.1) (operand ts)

unfoldable pub read_up_to : {A : Type 0} → Algebra A → Reader A → ℕ → Reader A
read_up_to alg inner zero = read_unary alg inner
read_up_to alg inner (suc n) = read_chain alg (n + 5) (read_up_to alg inner n)

abbrev pub after_colon : {X : Type 0} → List Symbol → (List Symbol → Option X) → Option X
after_colon (Colon ∷ ts) go = go ts
after_colon ts go = None

abbrev pub after_question : {X : Type 0} → List Symbol → Option X → (List Symbol → Option X) → Option X
after_question (Question ∷ ts) other go = go ts
after_question ts other go = other

-- what follows a condition, if a ? does; then goes on after the colon
abbrev pub link : {A : Type 0} → Algebra A → Reader A → Reader A → A × List Symbol → Option (A × List Symbol)
link alg inner last c =
    after_question c.1 (Some c) (λ us.
    option_and_then (λ a. after_colon a.1 (λ vs.
    option_map (λ b. (alg.choice c.0 a.0 b.0, b.1)) (last vs))) (inner us))

-- the number bounds how many ? stand after one another
unfoldable pub read_choices : {A : Type 0} → Algebra A → Reader A → ℕ → Reader A
read_choices alg inner zero ts = None
read_choices alg inner (suc n) ts = option_and_then (link alg inner (read_choices alg inner n)) (read_up_to alg inner 10 ts)

unfoldable pub read_conditional : {A : Type 0} → Algebra A → Reader A → Reader A
read_conditional alg inner ts = read_choices alg inner (suc (length ts)) ts

unfoldable pub read_expression : {A : Type 0} → Algebra A → ℕ → Reader A
read_expression alg zero ts = None
read_expression alg (suc n) ts = read_chain alg 17 (read_conditional alg (read_expression alg n)) ts

-- the truth of a whole condition
abbrev pub truth_at_end : Outcome → List Symbol → Option Bool
truth_at_end v [] = option_map is_nonzero (value_of v)
truth_at_end v (s ∷ ts) = None

unfoldable pub judged : List Symbol → Option Bool
judged ts = option_and_then (λ r. truth_at_end r.0 r.1) (read_conditional outcomes (read_expression outcomes nesting_limit) ts)
