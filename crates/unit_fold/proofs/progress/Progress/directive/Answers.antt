use Rattle.std.proofs.Common.{true, sym, ap, ◌∙◌, []}
use Rattle.cm_source.specs.LogicalText.{Logical}
use Rattle.unit_fold.specs.Owners.{include_line}
use Rattle.unit_fold.specs.Told.{told}
use Rattle.unit_fold.specs.declared.lexed.Taken.TheVariants.{End}
use Rattle.unit_fold.proofs.ReadLemmas.{if_ok, token_moved, directive_moved}
use Rattle.unit_fold.proofs.DirectiveLemmas.{inside, word_include, word_other, word_otherwise}
use Rattle.unit_fold.proofs.progress.Progress.directive.Goals as goal

pub returns-then-has_tokens-clause-step : goal.returns-then-has_tokens-clause-step
returns-then-has_tokens-clause-step c =
    if_ok c.stop.result _ _ (λ step follow more. inside c.args.lexer.now.text (told c.args.self.now) (told c.args.self.now) c.args.lexer.now.at c.args.lexer.now.at [] End c.args.hash more _ (sym c.if-has_tokens.ensures) (follow c.args.lexer.now.at more)) c.stop.ensures.step

pub returns-then-is_word-clause-step : goal.returns-then-is_word-clause-step
returns-then-is_word-clause-step c =
    let goes = token_moved c.args.lexer.now c.next.new.lexer c.in_ok-taken.taken c.in-Token.word c.in_ok-taken.ensures.moves c.in-Token.is in
    if_ok c.include_line.result _ _
    (λ step follow more.
    word_include c.args.lexer.now.text (told c.args.self.now) (told c.next.new.self) c.args.lexer.now.at c.next.new.lexer.at c.next.new.self.piece.names c.in_ok-taken.taken c.args.hash more _ c.in-Token.word
    (sym c.if-has_tokens.ensures) c.in_ok-taken.ensures.taken c.in-Token.is (sym c.if-is_word.ensures)
    (ap (λ (x : Logical). include_line x (told c.next.new.self) c.args.hash c.next.new.lexer.at (more true)) (sym goes.text) ∙ follow more))
    c.include_line.ensures.step

pub returns-then-is_word-clause-moves : goal.returns-then-is_word-clause-moves
returns-then-is_word-clause-moves c =
    let goes = token_moved c.args.lexer.now c.next.new.lexer c.in_ok-taken.taken c.in-Token.word c.in_ok-taken.ensures.moves c.in-Token.is in
    if_ok c.include_line.result _ _ (λ step follow. directive_moved c.args.lexer.now c.next.new.lexer step goes follow) c.include_line.ensures.moves

pub returns-else-is_word-clause-step : goal.returns-else-is_word-clause-step
returns-else-is_word-clause-step c =
    if_ok c.stop-else-is_word.result _ _
    (λ step follow more.
    word_other c.args.lexer.now.text (told c.args.self.now) (told c.next.new.self) c.args.lexer.now.at c.next.new.lexer.at c.next.new.self.piece.names c.in_ok-taken.taken c.args.hash more _ c.in-Token.word
    (sym c.if-has_tokens.ensures) c.in_ok-taken.ensures.taken c.in-Token.is (sym c.if-is_word.ensures) (follow c.next.new.lexer.at more))
    c.stop-else-is_word.ensures.step

pub returns-in_default-clause-step : goal.returns-in_default-clause-step
returns-in_default-clause-step c =
    if_ok c.otherwise.result _ _
    (λ step follow more.
    word_otherwise c.args.lexer.now.text (told c.args.self.now) (told c.next.new.self) c.args.lexer.now.at c.next.new.lexer.at c.next.new.self.piece.names c.in_ok-taken.taken c.args.hash more _
    (sym c.if-has_tokens.ensures) c.in_ok-taken.ensures.taken c.in_default.not-Token (follow c.next.new.lexer.at c.next.new.lexer.at c.next.new.self.piece.names more))
    c.otherwise.ensures.step

pub include_line-requires : goal.include_line-requires
include_line-requires c = (token_moved c.args.lexer.now c.next.new.lexer c.in_ok-taken.taken c.in-Token.word c.in_ok-taken.ensures.moves c.in-Token.is).fresh
