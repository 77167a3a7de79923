-- Each reading of the lexer tells the next token, or that there is none.
use Rattle.std.proofs.Common.{◌≡◌, length, Option, Ok, Err, subst, sym, ap, ◌∙◌, arith}
use Rattle.std.proofs.lemmas.Option.{slice_get_within}
use Rattle.std.proofs.lemmas.Result.{err_from_is_err_and}
use Rattle.cm_core.specs.declared.token.Token.{Token}
use Rattle.cm_source.specs.LogicalText.{Logical}
use Rattle.c_lex.specs.Lexemes.{lexemes_of}
use Rattle.c_lex.proofs.Lexemes.{Tells, tells}
use Rattle.job_text.specs.Bodies.{cut_body, no_file}
use Rattle.job_text.proofs.BodyLemmas.{cut_start, cut_line_end, cut_token, cut_ends, cut_fails}
use Rattle.job_text.proofs.body.cut_body.Goals as goal

pub loop-tokens-init : goal.loop-tokens-init
loop-tokens-init c = rw c.new-tokens.ensures (cut_start c.args.text.now c.new-lexer.result c.new-lexer.ensures)

pub returns-in_err-token : goal.returns-in_err-token
returns-in_err-token c =
    let t = tells c.loop-tokens.lexer c.next.new.self c.loop-tokens.names c.next.new.names (Err c.in_err-token.field-0.0) c.loop-tokens.invariant.fresh c.in_err-token.ensures.read in
    let fails = cut_fails (cut_body (lexemes_of c.args.text.now no_file)) c.loop-tokens.tokens c.loop-tokens.lexer c.next.new.self c.next.new.names c.in_err-token.field-0.0 c.loop-tokens.invariant t in
    let p = err_from_is_err_and c.from_residual.result c.from_residual.ensures.1 in
    rw (p.1, p.2) fails

pub push_token-requires : goal.push_token-requires
push_token-requires c =
    let P : Option Token → Type 0 = λ o. Tells c.loop-tokens.lexer c.next.new.self c.next.new.names (Ok o) in
    let n = subst P c.in-Some.is (tells c.loop-tokens.lexer c.next.new.self c.loop-tokens.names c.next.new.names (Ok c.in_ok-token.field-0) c.loop-tokens.invariant.fresh c.in_ok-token.ensures.read) in
    slice_get_within _ _ _ n.given

pub loop-tokens-smaller : goal.loop-tokens-smaller
loop-tokens-smaller c =
    let P : Option Token → Type 0 = λ o. Tells c.loop-tokens.lexer c.next.new.self c.next.new.names (Ok o) in
    let n = subst P c.in-Some.is (tells c.loop-tokens.lexer c.next.new.self c.loop-tokens.names c.next.new.names (Ok c.in_ok-token.field-0) c.loop-tokens.invariant.fresh c.in_ok-token.ensures.read) in
    let same : length c.next.new.self.text.bytes ≡ length c.loop-tokens.lexer.text.bytes = ap (λ (x : Logical). length x.bytes) c.in_ok-token.ensures.text in
    omega (arith, n.ahead, n.inside, same)

pub loop-tokens-preserved : goal.loop-tokens-preserved
loop-tokens-preserved c =
    let P : Option Token → Type 0 = λ o. Tells c.loop-tokens.lexer c.next.new.self c.next.new.names (Ok o) in
    let n = subst P c.in-Some.is (tells c.loop-tokens.lexer c.next.new.self c.loop-tokens.names c.next.new.names (Ok c.in_ok-token.field-0) c.loop-tokens.invariant.fresh c.in_ok-token.ensures.read) in
    cut_token (cut_body (lexemes_of c.args.text.now no_file)) c.loop-tokens.tokens c.push_token.new.tokens c.loop-tokens.lexer c.next.new.self c.next.new.names c.in-Some.token c.loop-tokens.invariant n
    (sym c.is_line_end.ensures ∙ c.if-is_line_end.false) c.in_ok-push_token.ensures

pub loop-tokens-smaller-then-is_line_end : goal.loop-tokens-smaller-then-is_line_end
loop-tokens-smaller-then-is_line_end c =
    let P : Option Token → Type 0 = λ o. Tells c.loop-tokens.lexer c.next.new.self c.next.new.names (Ok o) in
    let n = subst P c.in-Some.is (tells c.loop-tokens.lexer c.next.new.self c.loop-tokens.names c.next.new.names (Ok c.in_ok-token.field-0) c.loop-tokens.invariant.fresh c.in_ok-token.ensures.read) in
    let same : length c.next.new.self.text.bytes ≡ length c.loop-tokens.lexer.text.bytes = ap (λ (x : Logical). length x.bytes) c.in_ok-token.ensures.text in
    omega (arith, n.ahead, n.inside, same)

pub loop-tokens-preserved-then-is_line_end : goal.loop-tokens-preserved-then-is_line_end
loop-tokens-preserved-then-is_line_end c =
    let P : Option Token → Type 0 = λ o. Tells c.loop-tokens.lexer c.next.new.self c.next.new.names (Ok o) in
    let n = subst P c.in-Some.is (tells c.loop-tokens.lexer c.next.new.self c.loop-tokens.names c.next.new.names (Ok c.in_ok-token.field-0) c.loop-tokens.invariant.fresh c.in_ok-token.ensures.read) in
    cut_line_end (cut_body (lexemes_of c.args.text.now no_file)) c.loop-tokens.tokens c.loop-tokens.lexer c.next.new.self c.next.new.names c.in-Some.token c.loop-tokens.invariant n (sym c.is_line_end.ensures ∙ c.if-is_line_end.true)

pub returns : goal.returns
returns c =
    let P : Option Token → Type 0 = λ o. Tells c.loop-tokens.lexer c.next.new.self c.next.new.names (Ok o) in
    let t = subst P c.in_default.is (tells c.loop-tokens.lexer c.next.new.self c.loop-tokens.names c.next.new.names (Ok c.in_ok-token.field-0) c.loop-tokens.invariant.fresh c.in_ok-token.ensures.read) in
    cut_ends (cut_body (lexemes_of c.args.text.now no_file)) c.loop-tokens.tokens c.loop-tokens.lexer c.next.new.self c.next.new.names c.loop-tokens.invariant t
