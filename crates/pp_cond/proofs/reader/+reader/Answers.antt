use Rattle.std.proofs.Common.{◌≡◌, ℕ, ◌+◌, ◌-◌, ◌<◌, true, false, sym, ◌∙◌, ap, length, take, drop, arith, Option, Some, None, List}
use Rattle.std.specs.Option.{option_and_then}
use Rattle.pp_cond.specs.declared.outcome.Outcome.{Outcome}
use Rattle.pp_cond.specs.declared.reader.Reading.{Reading}
use Rattle.pp_cond.specs.declared.symbol.Symbol.{Symbol}
use Rattle.pp_cond.specs.Readers.{outcomes, after_close, is_question, is_colon, prefix_count, with_prefixes, read_primary, read_rest, read_up_to, read_conditional, read_expression}
use Rattle.pp_cond.specs.Grammar.{IsConditional, IsExpression, IsUpTo}
use Rattle.pp_cond.proofs.GrammarLaws.{sound_conditional, sound_expression, sound_up_to}
use Rattle.pp_cond.proofs.ReaderSteps.{no_operator, no_operand, next_operand, ending_all, nothing_ends, next_choice, last_choice, no_condition, no_choice, no_colon, expression_is, no_depth, up_to_is, up_to_unary, chain_starts, chain_fails, primary_operand, no_primary, primary_open, and_then_map, unary_fails, unary_is}
use Rattle.pp_cond.proofs.reader.+reader.Goals as goal

pub expression-returns-then-depth-eq0 : goal.expression-returns-then-depth-eq0
expression-returns-then-depth-eq0 t c = sym (no_depth c.args.depth c.args.symbols.now c.if-depth-eq0.true)

pub expression-returns-in_default : goal.expression-returns-in_default
expression-returns-in_default t c =
    let nonzero = c.if-depth-eq0.false in
    sym (expression_is c.args.depth c.args.symbols.now (omega arith) ∙ chain_fails 17 _ c.args.symbols.now (sym (c.in_default.ensures)))

pub expression-loop-operator-init : goal.expression-loop-operator-init
expression-loop-operator-init t c =
    let nonzero = c.if-depth-eq0.false in
    let positive : 0 < c.args.depth = omega arith in
    (positive, sym (expression_is c.args.depth c.args.symbols.now positive ∙ chain_starts 17 _ c.args.symbols.now _ _ (sym (c.in-Some.ensures))))

pub expression-returns-in_default-conditional : goal.expression-returns-in_default-conditional
expression-returns-in_default-conditional t c =
    let next : read_conditional outcomes (read_expression outcomes (c.args.depth - 1)) (drop 1 c.loop-operator.rest.now) ≡ None =
    ap (read_conditional outcomes (read_expression outcomes (c.args.depth - 1))) (sym c.after_first.ensures) ∙ sym (c.in_default-conditional.ensures) in
    sym (sym c.loop-operator.invariant.1 ∙ no_operand outcomes 17 _ c.loop-operator.outcome c.loop-operator.rest.now c.in-Some-operator_at.operator (sym (c.in-Some-operator_at.ensures)) next)

expression_next : (t : ℕ) (c : goal.expression-After-rest-in-Some-operator_at-1 t) → (read_rest outcomes 17 (read_conditional outcomes (read_expression outcomes (c.args.depth - 1))) (length c.loop-operator.rest.now) c.loop-operator.outcome c.loop-operator.rest.now ≡ read_rest outcomes 17 (read_conditional outcomes (read_expression outcomes (c.args.depth - 1))) (length c.in-Some-conditional.next.rest.now) c.infix-outcome.result c.in-Some-conditional.next.rest.now) × (length c.in-Some-conditional.next.rest.now < length c.loop-operator.rest.now)
expression_next t c =
    let next : read_conditional outcomes (read_expression outcomes (c.args.depth - 1)) (drop 1 c.loop-operator.rest.now) ≡ Some (c.in-Some-conditional.next.outcome, c.in-Some-conditional.next.rest.now) =
    ap (read_conditional outcomes (read_expression outcomes (c.args.depth - 1))) (sym c.after_first.ensures) ∙ sym (c.in-Some-conditional.ensures) in
    let step = next_operand outcomes 17 (read_conditional outcomes (read_expression outcomes (c.args.depth - 1))) (IsConditional (IsExpression (c.args.depth - 1)))
    (sound_conditional outcomes (read_expression outcomes (c.args.depth - 1)) (IsExpression (c.args.depth - 1)) (sound_expression outcomes (c.args.depth - 1)))
    c.loop-operator.outcome c.loop-operator.rest.now c.in-Some-operator_at.operator c.in-Some-conditional.next.outcome c.in-Some-conditional.next.rest.now (sym (c.in-Some-operator_at.ensures)) next in
    (step.0 ∙ ap (λ v. read_rest outcomes 17 (read_conditional outcomes (read_expression outcomes (c.args.depth - 1))) (length c.in-Some-conditional.next.rest.now) v c.in-Some-conditional.next.rest.now) (sym c.infix-outcome.ensures), step.1)

pub expression-loop-operator-smaller : goal.expression-loop-operator-smaller
expression-loop-operator-smaller t c = (expression_next t c).1

pub expression-loop-operator-preserved : goal.expression-loop-operator-preserved
expression-loop-operator-preserved t c = (c.loop-operator.invariant.0, sym (expression_next t c).0 ∙ c.loop-operator.invariant.1)

pub expression-returns : goal.expression-returns
expression-returns t c = sym (no_operator outcomes 17 _ c.loop-operator.outcome c.loop-operator.rest.now (sym (c.in_default-operator_at.ensures))) ∙ c.loop-operator.invariant.1

pub up_to-returns-then-n-eq0 : goal.up_to-returns-then-n-eq0
up_to-returns-then-n-eq0 t c = c.unary.ensures ∙ sym (up_to_unary (read_expression outcomes c.args.depth) c.args.n c.args.symbols.now c.if-n-eq0.true)

pub up_to-returns-in_default : goal.up_to-returns-in_default
up_to-returns-in_default t c =
    let nonzero = c.if-n-eq0.false in
    sym (up_to_is (read_expression outcomes c.args.depth) c.args.n c.args.symbols.now (omega arith) ∙ chain_fails (c.args.n + 4) _ c.args.symbols.now (sym (c.in_default.ensures)))

pub up_to-loop-operator-init : goal.up_to-loop-operator-init
up_to-loop-operator-init t c =
    let nonzero = c.if-n-eq0.false in
    let positive : 0 < c.args.n = omega arith in
    (positive, c.requires, sym (up_to_is (read_expression outcomes c.args.depth) c.args.n c.args.symbols.now positive ∙ chain_starts (c.args.n + 4) _ c.args.symbols.now _ _ (sym (c.in-Some.ensures))))

pub up_to-returns-in_default-up_to : goal.up_to-returns-in_default-up_to
up_to-returns-in_default-up_to t c =
    let p = read_up_to outcomes (read_expression outcomes c.args.depth) (c.args.n - 1) in
    let next : p (drop 1 c.loop-operator.rest.now) ≡ None = ap p (sym c.after_first.ensures) ∙ sym (c.in_default-up_to.ensures) in
    sym (sym c.loop-operator.invariant.2 ∙ no_operand outcomes (c.args.n + 4) p c.loop-operator.outcome c.loop-operator.rest.now c.in-Some-operator_at.operator (sym (c.in-Some-operator_at.ensures)) next)

up_to_next : (t : ℕ) (c : goal.up_to-After-rest-in-Some-operator_at-1 t) → (read_rest outcomes (c.args.n + 4) (read_up_to outcomes (read_expression outcomes c.args.depth) (c.args.n - 1)) (length c.loop-operator.rest.now) c.loop-operator.outcome c.loop-operator.rest.now ≡ read_rest outcomes (c.args.n + 4) (read_up_to outcomes (read_expression outcomes c.args.depth) (c.args.n - 1)) (length c.in-Some-up_to.next.rest.now) c.infix-outcome.result c.in-Some-up_to.next.rest.now) × (length c.in-Some-up_to.next.rest.now < length c.loop-operator.rest.now)
up_to_next t c =
    let p = read_up_to outcomes (read_expression outcomes c.args.depth) (c.args.n - 1) in
    let next : p (drop 1 c.loop-operator.rest.now) ≡ Some (c.in-Some-up_to.next.outcome, c.in-Some-up_to.next.rest.now) =
    ap p (sym c.after_first.ensures) ∙ sym (c.in-Some-up_to.ensures) in
    let step = next_operand outcomes (c.args.n + 4) p (IsUpTo (IsExpression c.args.depth) (c.args.n - 1))
    (sound_up_to outcomes (read_expression outcomes c.args.depth) (IsExpression c.args.depth) (sound_expression outcomes c.args.depth) (c.args.n - 1))
    c.loop-operator.outcome c.loop-operator.rest.now c.in-Some-operator_at.operator c.in-Some-up_to.next.outcome c.in-Some-up_to.next.rest.now (sym (c.in-Some-operator_at.ensures)) next in
    (step.0 ∙ ap (λ v. read_rest outcomes (c.args.n + 4) p (length c.in-Some-up_to.next.rest.now) v c.in-Some-up_to.next.rest.now) (sym c.infix-outcome.ensures), step.1)

pub up_to-loop-operator-smaller : goal.up_to-loop-operator-smaller
up_to-loop-operator-smaller t c = (up_to_next t c).1

pub up_to-loop-operator-preserved : goal.up_to-loop-operator-preserved
up_to-loop-operator-preserved t c = (c.loop-operator.invariant.0, c.loop-operator.invariant.1, sym (up_to_next t c).0 ∙ c.loop-operator.invariant.2)

pub up_to-returns : goal.up_to-returns
up_to-returns t c = sym (no_operator outcomes (c.args.n + 4) _ c.loop-operator.outcome c.loop-operator.rest.now (sym (c.in_default-operator_at.ensures))) ∙ c.loop-operator.invariant.2

pub unary-returns-in_default : goal.unary-returns-in_default
unary-returns-in_default t c =
    let p = read_primary outcomes (read_expression outcomes c.args.depth) in
    let read : p (drop (prefix_count c.args.symbols.now) c.args.symbols.now) ≡ None =
    ap p (ap (λ n. drop n c.args.symbols.now) (sym c.prefix_count-count.ensures.value) ∙ sym c.back.ensures) ∙ sym (c.in_default.ensures) in
    unary_fails (read_expression outcomes c.args.depth) c.args.symbols.now read

pub unary-returns : goal.unary-returns
unary-returns t c =
    let p = read_primary outcomes (read_expression outcomes c.args.depth) in
    let read : p (drop (prefix_count c.args.symbols.now) c.args.symbols.now) ≡ Some (c.in-Some.operand.outcome, c.in-Some.operand.rest.now) =
    ap p (ap (λ n. drop n c.args.symbols.now) (sym c.prefix_count-count.ensures.value) ∙ sym c.back.ensures) ∙ sym (c.in-Some.ensures) in
    let prefixes : c.with_prefixes.result ≡ with_prefixes outcomes (take (prefix_count c.args.symbols.now) c.args.symbols.now) c.in-Some.operand.outcome =
    c.with_prefixes.ensures ∙ ap (λ ts. with_prefixes outcomes ts c.in-Some.operand.outcome) (c.front.ensures ∙ ap (λ n. take n c.args.symbols.now) c.prefix_count-count.ensures.value) in
    ap (λ v. Some (v, c.in-Some.operand.rest.now)) prefixes ∙ unary_is (read_expression outcomes c.args.depth) c.args.symbols.now c.in-Some.operand.outcome c.in-Some.operand.rest.now read

pub conditional-loop-condition-init : goal.conditional-loop-condition-init
conditional-loop-condition-init t c = nothing_ends (read_conditional outcomes (read_expression outcomes c.args.depth) c.args.symbols.now)

pub conditional-returns-in_default : goal.conditional-returns-in_default
conditional-returns-in_default t c = no_condition (read_expression outcomes c.args.depth) c.loop-condition.rest.now c.loop-condition.choices (sym (c.in_default.ensures)) ∙ c.loop-condition.invariant

pub conditional-returns-then-not-is_question : goal.conditional-returns-then-not-is_question
conditional-returns-then-not-is_question t c =
    let question : is_question c.in-Some.condition.rest.now ≡ false = sym c.is_question.ensures ∙ c.if-not-is_question.true in
    ap (λ v. Some (v, c.in-Some.condition.rest.now)) c.ending_in.ensures
    ∙ last_choice (read_expression outcomes c.args.depth) c.loop-condition.rest.now c.in-Some.condition.outcome c.in-Some.condition.rest.now c.loop-condition.choices (sym (c.in-Some.ensures)) question
    ∙ c.loop-condition.invariant

pub conditional-returns-in_default-expression : goal.conditional-returns-in_default-expression
conditional-returns-in_default-expression t c =
    let question : is_question c.in-Some.condition.rest.now ≡ true = sym c.is_question.ensures ∙ c.if-not-is_question.false in
    let p = read_expression outcomes c.args.depth in
    let read : p (drop 1 c.in-Some.condition.rest.now) ≡ None = ap p (sym c.after_first.ensures) ∙ sym (c.in_default-expression.ensures) in
    no_choice p c.loop-condition.rest.now c.in-Some.condition.outcome c.in-Some.condition.rest.now c.loop-condition.choices (sym (c.in-Some.ensures)) question read
    ∙ c.loop-condition.invariant

pub conditional-returns-then-not-is_colon : goal.conditional-returns-then-not-is_colon
conditional-returns-then-not-is_colon t c =
    let question : is_question c.in-Some.condition.rest.now ≡ true = sym c.is_question.ensures ∙ c.if-not-is_question.false in
    let colon : is_colon c.in-Some-expression.chosen.rest.now ≡ false = sym c.is_colon.ensures ∙ c.if-not-is_colon.true in
    let p = read_expression outcomes c.args.depth in
    let read : p (drop 1 c.in-Some.condition.rest.now) ≡ Some (c.in-Some-expression.chosen.outcome, c.in-Some-expression.chosen.rest.now) = ap p (sym c.after_first.ensures) ∙ sym (c.in-Some-expression.ensures) in
    no_colon p c.loop-condition.rest.now c.in-Some.condition.outcome c.in-Some.condition.rest.now c.in-Some-expression.chosen.outcome c.in-Some-expression.chosen.rest.now c.loop-condition.choices (sym (c.in-Some.ensures)) question read colon
    ∙ c.loop-condition.invariant

conditional_next : (t : ℕ) (c : goal.conditional-After-after_first-rest t) → (ending_all c.followed_by-choices.result (read_conditional outcomes (read_expression outcomes c.args.depth) c.after_first-rest.result.now) ≡ ending_all c.loop-condition.choices (read_conditional outcomes (read_expression outcomes c.args.depth) c.loop-condition.rest.now)) × (length c.after_first-rest.result.now < length c.loop-condition.rest.now)
conditional_next t c =
    let question : is_question c.in-Some.condition.rest.now ≡ true = sym c.is_question.ensures ∙ c.if-not-is_question.false in
    let colon : is_colon c.in-Some-expression.chosen.rest.now ≡ true = sym c.is_colon.ensures ∙ c.if-not-is_colon.false in
    let p = read_expression outcomes c.args.depth in
    let read : p (drop 1 c.in-Some.condition.rest.now) ≡ Some (c.in-Some-expression.chosen.outcome, c.in-Some-expression.chosen.rest.now) = ap p (sym c.after_first.ensures) ∙ sym (c.in-Some-expression.ensures) in
    let step = next_choice p (IsExpression c.args.depth) (sound_expression outcomes c.args.depth) c.loop-condition.rest.now c.in-Some.condition.outcome c.in-Some.condition.rest.now c.in-Some-expression.chosen.outcome c.in-Some-expression.chosen.rest.now c.loop-condition.choices (sym (c.in-Some.ensures)) question read colon in
    let rest = c.after_first-rest.ensures in
    (rw (c.followed_by-choices.ensures, rest) step.0, rw rest step.1)

pub conditional-loop-condition-smaller : goal.conditional-loop-condition-smaller
conditional-loop-condition-smaller t c = (conditional_next t c).1

pub conditional-loop-condition-preserved : goal.conditional-loop-condition-preserved
conditional-loop-condition-preserved t c = (conditional_next t c).0 ∙ c.loop-condition.invariant

pub primary-returns-in-Some : goal.primary-returns-in-Some
primary-returns-in-Some t c =
    ap (λ (ts : List Symbol). Some (c.in-Some.outcome, ts)) c.after_first-rest.ensures
    ∙ primary_operand (read_expression outcomes c.args.depth) c.args.symbols.now c.in-Some.outcome (sym (c.in-Some.ensures))

pub primary-returns-then-not-is_open : goal.primary-returns-then-not-is_open
primary-returns-then-not-is_open t c =
    no_primary (read_expression outcomes c.args.depth) c.args.symbols.now (sym (c.in_default.ensures)) (sym c.is_open.ensures ∙ c.if-not-is_open.true)

pub primary-returns : goal.primary-returns
primary-returns t c =
    let p = read_expression outcomes c.args.depth in
    let f : Outcome × List Symbol → Option (Outcome × List Symbol) = λ r. after_close r.0 r.1 in
    let g : Reading → Outcome × List Symbol = λ r. (r.outcome, r.rest.now) in
    c.after_close.ensures
    ∙ and_then_map f g c.expression.result
    ∙ ap (option_and_then f) (c.expression.ensures ∙ ap p c.after_first.ensures)
    ∙ primary_open p c.args.symbols.now (sym c.is_open.ensures ∙ c.if-not-is_open.false)
