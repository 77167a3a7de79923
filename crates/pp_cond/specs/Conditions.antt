-- The condition of #if and #elif: C11 6.10.1. Its macros are replaced, and so is `defined` by its caller;
-- one that is left over makes the condition bad (own, where 6.10.1p4 leaves the behaviour undefined).
use Rattle.std.specs.Prelude.{◌≡◌, ℕ, Bool, List, [], ◌∷◌, map, Option, Some, None, ◌==◌, ◌&&◌, pos, codes, slice_get, unwrap_or, if◌then◌else◌}
use Rattle.std.specs.Option.{option_map}
use Rattle.std.specs.Str.{bytes_eq}
use Rattle.cm_core.specs.declared.token.Token.{Token}
use Rattle.cm_core.specs.declared.token.TokenKind.{TokenKind}
use Rattle.cm_core.specs.declared.token.TokenKind.TheVariants.{Ident, Number, CharConst, Punct}
use Rattle.cm_core.specs.declared.integers.BinOp.TheVariants.{Mul, Div, Rem, Add, Sub, Shl, Shr, Lt, Gt, Le, Ge, Eq, Ne, And, Xor, Or}
use Rattle.cm_core.specs.declared.integers.UnOp.TheVariants.{Flip, Not}
use Rattle.pp_cond.specs.declared.outcome.Outcome.{Outcome}
use Rattle.pp_cond.specs.declared.outcome.Outcome.TheVariants.{Signed}
use Rattle.pp_cond.specs.declared.symbol.Infix.TheVariants.{Binary, LogicalAnd, LogicalOr, Comma}
use Rattle.pp_cond.specs.declared.symbol.Symbol.{Symbol}
use Rattle.pp_cond.specs.declared.symbol.Symbol.TheVariants.{Operand, Operator, Prefix, Open, Close, Question, Colon, Stray}
use Rattle.pp_cond.specs.Outcomes.{value_of, is_nonzero}
use Rattle.pp_cond.specs.Numbers.{integer_of}
use Rattle.pp_cond.specs.Characters.{character_of}
use Rattle.pp_cond.specs.Grammar.{Expr, IsCondition, outcome_of}

-- ---- what a token is to a condition

abbrev pub operand_of : Option Outcome → Symbol
operand_of None = Stray
operand_of (Some v) = Operand v

-- an identifier, a keyword too, is 0 (6.10.1p4)
abbrev pub identifier_of : List ℕ → Symbol
identifier_of text = if bytes_eq text (codes "defined") then Stray else Operand (Signed (Some (pos 0)))

-- the punctuators of one character, and of two
abbrev pub singles : List (ℕ × Symbol)
singles =
    (40, Open) ∷ (41, Close) ∷ (63, Question) ∷ (58, Colon) ∷ (44, Operator Comma) ∷ (33, Prefix Not) ∷ (126, Prefix Flip)
    ∷ (42, Operator (Binary Mul)) ∷ (47, Operator (Binary Div)) ∷ (37, Operator (Binary Rem)) ∷ (43, Operator (Binary Add)) ∷ (45, Operator (Binary Sub))
    ∷ (60, Operator (Binary Lt)) ∷ (62, Operator (Binary Gt)) ∷ (38, Operator (Binary And)) ∷ (94, Operator (Binary Xor)) ∷ (124, Operator (Binary Or)) ∷ []

abbrev pub doubles : List (ℕ × ℕ × Symbol)
doubles =
    (60, 60, Operator (Binary Shl)) ∷ (62, 62, Operator (Binary Shr)) ∷ (60, 61, Operator (Binary Le)) ∷ (62, 61, Operator (Binary Ge))
    ∷ (61, 61, Operator (Binary Eq)) ∷ (33, 61, Operator (Binary Ne)) ∷ (38, 38, Operator LogicalAnd) ∷ (124, 124, Operator LogicalOr) ∷ []

abbrev pub single_in : ℕ → List (ℕ × Symbol) → Symbol
single_in a [] = Stray
single_in a (r ∷ rs) = if a == r.0 then r.1 else single_in a rs

abbrev pub double_in : ℕ → ℕ → List (ℕ × ℕ × Symbol) → Symbol
double_in a b [] = Stray
double_in a b (r ∷ rs) = if a == r.0 && b == r.1 then r.2 else double_in a b rs

unfoldable pub punctuator_of : List ℕ → Symbol
punctuator_of (a ∷ []) = single_in a singles
punctuator_of (a ∷ b ∷ []) = double_in a b doubles
punctuator_of text = Stray

unfoldable pub symbol_of : TokenKind → List ℕ → Symbol
symbol_of Ident text = identifier_of text
symbol_of Number text = operand_of (integer_of text)
symbol_of CharConst text = operand_of (character_of text)
symbol_of Punct text = punctuator_of text
symbol_of kind text = Stray

abbrev pub token_symbol : List (List ℕ) → Token → Symbol
token_symbol names t = symbol_of t.kind (unwrap_or (slice_get names t.name.index) [])

abbrev pub symbols_of : List (List ℕ) → List Token → List Symbol
symbols_of names tokens = map (token_symbol names) tokens

-- ---- the value

-- whether the expression is not 0, if it has a value
abbrev pub truth_of : Expr → Option Bool
truth_of e = option_map is_nonzero (value_of (outcome_of e))

-- the symbols spell one expression, and this is its truth
pub record HasTruth (ts : List Symbol) (b : Bool) : Type 0 where
  pub tree : Expr
  pub spelled : IsCondition tree ts
  pub one : (other : Expr) → IsCondition other ts → other ≡ tree
  pub truth : truth_of tree ≡ Some b

-- they spell none, or one without a value
abbrev pub HasNoTruth : List Symbol → Type 0
HasNoTruth ts = (e : Expr) → IsCondition e ts → truth_of e ≡ None
