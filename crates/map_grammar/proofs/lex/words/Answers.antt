use Rattle.std.proofs.Common.{◌<◌, length, Option, Ok, Err, sym, subst, ◌∙◌, arith}
use Rattle.std.proofs.lemmas.Option.{slice_get_within}
use Rattle.std.proofs.lemmas.Result.{err_from_is_err_and}
use Rattle.cm_core.specs.declared.token.Token.{Token}
use Rattle.cm_source.specs.LogicalText.{Logical}
use Rattle.c_lex.proofs.Lexemes.{Tells, tells}
use Rattle.map_grammar.proofs.Words.{lex_start, lex_line_end, lex_word, lex_ends, lex_fails}
use Rattle.map_grammar.proofs.lex.words.Goals as goal

pub loop-words-init : goal.loop-words-init
loop-words-init c = rw c.new-words.ensures.items (lex_start c.args.text.now c.args.file c.new-lexer.result c.new-lexer.ensures)

pub returns-in_err-token-clause-err : goal.returns-in_err-token-clause-err
returns-in_err-token-clause-err c =
    let t = tells c.loop-words.lexer c.next.new.self c.loop-words.names c.next.new.names (Err c.in_err-token.field-0.0) c.loop-words.invariant.fresh c.in_err-token.ensures.read in
    let fails = lex_fails c.args.text.now c.args.file c.loop-words.words.items c.loop-words.lexer c.next.new.self c.next.new.names c.in_err-token.field-0.0 c.loop-words.invariant t in
    let p = err_from_is_err_and c.from_residual.result c.from_residual.ensures.1 in
    rw (p.1, p.2) fails

pub word-requires : goal.word-requires
word-requires c =
    let P : Option Token → Type 0 = λ o. Tells c.loop-words.lexer c.next.new.self c.next.new.names (Ok o) in
    let n = subst P c.in-Some.is (tells c.loop-words.lexer c.next.new.self c.loop-words.names c.next.new.names (Ok c.in_ok-token.field-0) c.loop-words.invariant.fresh c.in_ok-token.ensures.read) in
    slice_get_within _ _ _ n.given

pub loop-words-smaller-in_ok-push : goal.loop-words-smaller-in_ok-push
loop-words-smaller-in_ok-push c =
    let P : Option Token → Type 0 = λ o. Tells c.loop-words.lexer c.next.new.self c.next.new.names (Ok o) in
    let n = subst P c.in-Some.is (tells c.loop-words.lexer c.next.new.self c.loop-words.names c.next.new.names (Ok c.in_ok-token.field-0) c.loop-words.invariant.fresh c.in_ok-token.ensures.read) in
    let inside : c.loop-words.lexer.at < length c.args.text.now.bytes = subst (λ (x : Logical). c.loop-words.lexer.at < length x.bytes) c.loop-words.invariant.same_text n.inside in
    omega (arith, n.ahead, inside)

pub loop-words-smaller : goal.loop-words-smaller
loop-words-smaller c =
    let P : Option Token → Type 0 = λ o. Tells c.loop-words.lexer c.next.new.self c.next.new.names (Ok o) in
    let n = subst P c.in-Some.is (tells c.loop-words.lexer c.next.new.self c.loop-words.names c.next.new.names (Ok c.in_ok-token.field-0) c.loop-words.invariant.fresh c.in_ok-token.ensures.read) in
    let inside : c.loop-words.lexer.at < length c.args.text.now.bytes = subst (λ (x : Logical). c.loop-words.lexer.at < length x.bytes) c.loop-words.invariant.same_text n.inside in
    omega (arith, n.ahead, inside)

pub loop-words-preserved-in_ok-push : goal.loop-words-preserved-in_ok-push
loop-words-preserved-in_ok-push c =
    let P : Option Token → Type 0 = λ o. Tells c.loop-words.lexer c.next.new.self c.next.new.names (Ok o) in
    let n = subst P c.in-Some.is (tells c.loop-words.lexer c.next.new.self c.loop-words.names c.next.new.names (Ok c.in_ok-token.field-0) c.loop-words.invariant.fresh c.in_ok-token.ensures.read) in
    rw c.in_ok-push.ensures.items
    (lex_word c.args.text.now c.args.file c.loop-words.words.items c.loop-words.lexer c.next.new.self c.next.new.names c.in-Some.token c.in_ok-word.field-0 c.loop-words.invariant n
    (sym c.is_line_end.ensures ∙ c.if-not-is_line_end.true) c.in_ok-word.ensures.text c.in_ok-word.ensures.place)

pub loop-words-preserved : goal.loop-words-preserved
loop-words-preserved c =
    let P : Option Token → Type 0 = λ o. Tells c.loop-words.lexer c.next.new.self c.next.new.names (Ok o) in
    let n = subst P c.in-Some.is (tells c.loop-words.lexer c.next.new.self c.loop-words.names c.next.new.names (Ok c.in_ok-token.field-0) c.loop-words.invariant.fresh c.in_ok-token.ensures.read) in
    lex_line_end c.args.text.now c.args.file c.loop-words.words.items c.loop-words.lexer c.next.new.self c.next.new.names c.in-Some.token c.loop-words.invariant n (sym c.is_line_end.ensures ∙ c.if-not-is_line_end.false)

pub returns-clause-ok : goal.returns-clause-ok
returns-clause-ok c =
    let P : Option Token → Type 0 = λ o. Tells c.loop-words.lexer c.next.new.self c.next.new.names (Ok o) in
    let t = subst P c.in_default.is (tells c.loop-words.lexer c.next.new.self c.loop-words.names c.next.new.names (Ok c.in_ok-token.field-0) c.loop-words.invariant.fresh c.in_ok-token.ensures.read) in
    lex_ends c.args.text.now c.args.file c.loop-words.words.items c.loop-words.lexer c.next.new.self c.next.new.names c.loop-words.invariant t
