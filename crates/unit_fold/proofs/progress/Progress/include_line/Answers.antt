use Rattle.std.proofs.Common.{true, Some, None, sym, ap, ◌∙◌}
use Rattle.cm_source.specs.LogicalText.{Logical}
use Rattle.unit_fold.specs.Owners.{include_end}
use Rattle.unit_fold.specs.Told.{told}
use Rattle.unit_fold.proofs.ReadLemmas.{if_ok, token_moved, directive_moved}
use Rattle.unit_fold.proofs.DirectiveLemmas.{name_taken, name_otherwise}
use Rattle.unit_fold.proofs.progress.Progress.include_line.Goals as goal

pub include_end-requires : goal.include_end-requires
include_end-requires c = (token_moved c.args.lexer.now c.next.new.lexer c.in_ok-taken.taken c.in-Token.token c.in_ok-taken.ensures.moves c.in-Token.is).fresh

pub returns-in_ok-name-in-Some-clause-step : goal.returns-in_ok-name-in-Some-clause-step
returns-in_ok-name-in-Some-clause-step c =
    let goes = token_moved c.args.lexer.now c.next.new.lexer c.in_ok-taken.taken c.in-Token.token c.in_ok-taken.ensures.moves c.in-Token.is in
    if_ok c.include_end.result _ _
    (λ step follow more.
    name_taken c.args.lexer.now.text (told c.args.self.now) (told c.next.new.self) c.args.lexer.now.at c.next.new.lexer.at c.next.new.self.piece.names c.in_ok-taken.taken c.args.hash more _ c.in-Token.token (Some c.in_ok-name-in-Some.name)
    c.in_ok-taken.ensures.taken c.in-Token.is (sym c.in-Some.ensures ∙ ap Some (sym c.in_ok-name-in-Some.ensures))
    (ap (λ (x : Logical). include_end x (told c.next.new.self) c.args.hash c.in_ok-name-in-Some.name c.next.new.lexer.at (more true)) (sym goes.text) ∙ follow more))
    c.include_end.ensures.step

pub returns-in_ok-name-in-Some-clause-moves : goal.returns-in_ok-name-in-Some-clause-moves
returns-in_ok-name-in-Some-clause-moves c =
    let goes = token_moved c.args.lexer.now c.next.new.lexer c.in_ok-taken.taken c.in-Token.token c.in_ok-taken.ensures.moves c.in-Token.is in
    if_ok c.include_end.result _ _ (λ step follow. directive_moved c.args.lexer.now c.next.new.lexer step goes follow) c.include_end.ensures.moves

pub returns-in-None-clause-step : goal.returns-in-None-clause-step
returns-in-None-clause-step c =
    if_ok c.stop.result _ _
    (λ step follow more.
    name_taken c.args.lexer.now.text (told c.args.self.now) (told c.next.new.self) c.args.lexer.now.at c.next.new.lexer.at c.next.new.self.piece.names c.in_ok-taken.taken c.args.hash more _ c.in-Token.token None
    c.in_ok-taken.ensures.taken c.in-Token.is (sym c.in-None.ensures) (follow c.next.new.lexer.at more))
    c.stop.ensures.step

pub returns-in_default-clause-step : goal.returns-in_default-clause-step
returns-in_default-clause-step c =
    if_ok c.otherwise.result _ _
    (λ step follow more.
    name_otherwise c.args.lexer.now.text (told c.args.self.now) (told c.next.new.self) c.args.lexer.now.at c.next.new.lexer.at c.next.new.self.piece.names c.in_ok-taken.taken c.args.hash more _
    c.in_ok-taken.ensures.taken c.in_default.not-Token (follow c.next.new.lexer.at c.next.new.lexer.at c.next.new.self.piece.names more))
    c.otherwise.ensures.step
