-- The expressions of a condition: C11 6.5.1 and 6.5.3 to 6.5.17 as far as 6.6 and 6.10.1 leave them. What
-- nests, in brackets and between ? and :, is counted by the rule for what stands inside.
use Rattle.std.specs.Prelude.{ℕ, zero, suc, ◌+◌, ◌≡◌, List, [], ◌∷◌, ◌++◌, Option, Some, None}
use Rattle.cm_core.specs.declared.integers.BinOp.{BinOp}
use Rattle.cm_core.specs.declared.integers.BinOp.TheVariants.{Mul, Div, Rem, Add, Sub, Shl, Shr, Lt, Gt, Le, Ge, Eq, Ne, And, Xor, Or}
use Rattle.cm_core.specs.declared.integers.UnOp.{UnOp}
use Rattle.cm_core.specs.declared.integers.UnOp.TheVariants.{Plus, Minus}
use Rattle.pp_cond.specs.declared.outcome.Outcome.{Outcome}
use Rattle.pp_cond.specs.declared.symbol.Infix.{Infix}
use Rattle.pp_cond.specs.declared.symbol.Infix.TheVariants.{Binary, LogicalAnd, LogicalOr, Comma}
use Rattle.pp_cond.specs.declared.symbol.Symbol.{Symbol}
use Rattle.pp_cond.specs.declared.symbol.Symbol.TheVariants.{Operand, Operator, Prefix, Open, Close, Question, Colon}
use Rattle.pp_cond.specs.Outcomes.{unary_outcome, binary_outcome, and_outcome, or_outcome, choice_outcome, comma_outcome}

pub data Expr : Type 0 where
  Leaf : Outcome → Expr
  Unary : UnOp → Expr → Expr
  Infixed : Infix → Expr → Expr → Expr
  Choice : Expr → Expr → Expr → Expr

-- ---- the operators

-- the section of 6.5 in which the operator stands: the lower it is, the closer the operator binds
abbrev pub binary_level : BinOp → ℕ
binary_level Mul = 5
binary_level Div = 5
binary_level Rem = 5
binary_level Add = 6
binary_level Sub = 6
binary_level Shl = 7
binary_level Shr = 7
binary_level Lt = 8
binary_level Gt = 8
binary_level Le = 8
binary_level Ge = 8
binary_level Eq = 9
binary_level Ne = 9
binary_level And = 10
binary_level Xor = 11
binary_level Or = 12

abbrev pub level : Infix → ℕ
level (Binary o) = binary_level o
level LogicalAnd = 13
level LogicalOr = 14
level Comma = 17

abbrev pub binary_prefix : BinOp → Option UnOp
binary_prefix Add = Some Plus
binary_prefix Sub = Some Minus
binary_prefix o = None

abbrev pub infix_prefix : Infix → Option UnOp
infix_prefix (Binary o) = binary_prefix o
infix_prefix o = None

abbrev pub prefix_of : Symbol → Option UnOp
prefix_of (Prefix o) = Some o
prefix_of (Operator o) = infix_prefix o
prefix_of s = None

-- ---- the productions: an expression and the symbols that spell it. Inside brackets, and between ? and :,
-- stands what the rule Inner allows

abbrev pub Rule : Type 1
Rule = Expr → List Symbol → Type 0

-- 6.5.1
pub data IsPrimary (Inner : Expr → List Symbol → Type 0) : Expr → List Symbol → Type 0 where
  constant : (v : Outcome) → IsPrimary Inner (Leaf v) (Operand v ∷ [])
  bracketed : (e : Expr) (ts : List Symbol) → Inner e ts → IsPrimary Inner e (Open ∷ (ts ++ (Close ∷ [])))

-- 6.5.3
pub data IsUnary (Inner : Expr → List Symbol → Type 0) : Expr → List Symbol → Type 0 where
  primary : (e : Expr) (ts : List Symbol) → IsPrimary Inner e ts → IsUnary Inner e ts
  prefixed : (o : UnOp) (s : Symbol) (e : Expr) (ts : List Symbol) → prefix_of s ≡ Some o → IsUnary Inner e ts → IsUnary Inner (Unary o e) (s ∷ ts)

-- 6.5.5 to 6.5.14 and 6.5.17: operands between operators of one level, taken from the left
pub data IsRest (k : ℕ) (Operands : Expr → List Symbol → Type 0) : Expr → Expr → List Symbol → Type 0 where
  ended : (a : Expr) → IsRest k Operands a a []
  more : (o : Infix) (a b e : Expr) (ts us : List Symbol) → level o ≡ k → Operands b ts → IsRest k Operands (Infixed o a b) e us → IsRest k Operands a e (Operator o ∷ (ts ++ us))

pub record IsChain (k : ℕ) (Operands : Expr → List Symbol → Type 0) (e : Expr) (ts : List Symbol) : Type 0 where
  pub first : Expr
  pub front : List Symbol
  pub back : List Symbol
  pub operand : Operands first front
  pub rest : IsRest k Operands first e back
  pub whole : ts ≡ front ++ back

-- the operators up to level n + 4
abbrev pub IsUpTo : (Expr → List Symbol → Type 0) → ℕ → Expr → List Symbol → Type 0
IsUpTo Inner zero = IsUnary Inner
IsUpTo Inner (suc n) = IsChain (n + 5) (IsUpTo Inner n)

-- 6.5.15
pub data IsConditional (Inner : Expr → List Symbol → Type 0) : Expr → List Symbol → Type 0 where
  plain : (e : Expr) (ts : List Symbol) → IsUpTo Inner 10 e ts → IsConditional Inner e ts
  choice : (c a b : Expr) (ts us vs : List Symbol) → IsUpTo Inner 10 c ts → Inner a us → IsConditional Inner b vs → IsConditional Inner (Choice c a b) (ts ++ (Question ∷ (us ++ (Colon ∷ vs))))

-- 6.5.17, with fewer than n brackets and ? open in it at one place
abbrev pub IsExpression : ℕ → Expr → List Symbol → Type 0
IsExpression zero = λ e ts. ⊥
IsExpression (suc n) = IsChain 17 (IsConditional (IsExpression n))

-- how deep brackets and open ? may nest (own)
unfoldable pub nesting_limit : ℕ
nesting_limit = 256

-- 6.6: a constant expression is a conditional one
abbrev pub IsCondition : Expr → List Symbol → Type 0
IsCondition = IsConditional (IsExpression nesting_limit)

-- ---- what an expression comes to

abbrev pub infix_outcome : Infix → Outcome → Outcome → Outcome
infix_outcome (Binary o) a b = binary_outcome o a b
infix_outcome LogicalAnd a b = and_outcome a b
infix_outcome LogicalOr a b = or_outcome a b
infix_outcome Comma a b = comma_outcome a b

abbrev pub outcome_of : Expr → Outcome
outcome_of (Leaf v) = v
outcome_of (Unary o a) = unary_outcome o (outcome_of a)
outcome_of (Infixed o a b) = infix_outcome o (outcome_of a) (outcome_of b)
outcome_of (Choice c a b) = choice_outcome (outcome_of c) (outcome_of a) (outcome_of b)
