use Rattle.std.proofs.Common.{true, false, sym, subst, ap, ◌∙◌, refl}
use Rattle.cm_source.specs.LogicalText.{Logical}
use Rattle.unit_fold.specs.Tokens.{place_at}
use Rattle.unit_fold.specs.Owners.{SoFar, directive, start}
use Rattle.unit_fold.specs.Reads.{TakenFits}
use Rattle.unit_fold.specs.declared.at.At.{At}
use Rattle.unit_fold.specs.Told.{told}
use Rattle.unit_fold.specs.declared.lexed.Taken.TheVariants.{End, FileEnds, OwnerEnds, LineEnd}
use Rattle.unit_fold.proofs.ReadLemmas.{if_ok, token_moved, line_moved, step_moved}
use Rattle.unit_fold.proofs.DirectiveLemmas.{step_taken, step_hash, step_other}
use Rattle.unit_fold.proofs.progress.Progress.token.Goals as goal

pub returns-in-End-clause-step : goal.returns-in-End-clause-step
returns-in-End-clause-step c more =
    step_taken c.args.lexer.now.text (told c.args.self.now) (told c.next.new.self) c.args.lexer.now.at c.next.new.lexer.at c.next.new.self.piece.names c.in_ok-next.field-0 start more _ c.args.owner c.args.is_first End
    c.in_ok-next.ensures.taken c.in-End.is refl

pub returns-in-FileEnds-clause-step : goal.returns-in-FileEnds-clause-step
returns-in-FileEnds-clause-step c more =
    step_taken c.args.lexer.now.text (told c.args.self.now) (told c.next.new.self) c.args.lexer.now.at c.next.new.lexer.at c.next.new.self.piece.names c.in_ok-next.field-0 start more _ c.args.owner c.args.is_first FileEnds
    c.in_ok-next.ensures.taken c.in-FileEnds.is refl

pub returns-in-OwnerEnds-clause-step : goal.returns-in-OwnerEnds-clause-step
returns-in-OwnerEnds-clause-step c more =
    step_taken c.args.lexer.now.text (told c.args.self.now) (told c.next.new.self) c.args.lexer.now.at c.next.new.lexer.at c.next.new.self.piece.names c.in_ok-next.field-0 start more _ c.args.owner c.args.is_first OwnerEnds
    c.in_ok-next.ensures.taken c.in-OwnerEnds.is refl

pub returns-in-LineEnd-clause-step : goal.returns-in-LineEnd-clause-step
returns-in-LineEnd-clause-step c more =
    step_taken c.args.lexer.now.text (told c.args.self.now) (told c.next.new.self) c.args.lexer.now.at c.next.new.lexer.at c.next.new.self.piece.names c.in_ok-next.field-0 start more _ c.args.owner c.args.is_first LineEnd
    c.in_ok-next.ensures.taken c.in-LineEnd.is refl

pub returns-in-LineEnd-clause-moves : goal.returns-in-LineEnd-clause-moves
returns-in-LineEnd-clause-moves c = line_moved c.args.lexer.now c.next.new.lexer c.in_ok-next.field-0 c.in_ok-next.ensures.moves c.in-LineEnd.is

pub directive-requires : goal.directive-requires
directive-requires c = (token_moved c.args.lexer.now c.next.new.lexer c.in_ok-next.field-0 c.in-Token.token c.in_ok-next.ensures.moves c.in-Token.is).fresh

pub returns-then-begins_directive-clause-step : goal.returns-then-begins_directive-clause-step
returns-then-begins_directive-clause-step c =
    let goes = token_moved c.args.lexer.now c.next.new.lexer c.in_ok-next.field-0 c.in-Token.token c.in_ok-next.ensures.moves c.in-Token.is in
    let q = told c.next.new.self in
    let to = c.next.new.lexer.at in
    if_ok c.directive.result _ _
    (λ step follow more.
    step_hash c.args.lexer.now.text (told c.args.self.now) q c.args.lexer.now.at to c.next.new.self.piece.names c.in_ok-next.field-0 start more _ c.args.owner c.args.is_first c.in-Token.token c.in_ok-next.ensures.taken c.in-Token.is
    (sym c.if-begins_directive.ensures)
    (ap (λ (x : Logical). directive x q (place_at c.in-Token.token.place) to (more true)) (sym goes.text) ∙ ap (λ (a : At). directive c.next.new.lexer.text q a to (more true)) (sym c.of.ensures) ∙ follow more))
    c.directive.ensures.step

pub returns-then-begins_directive-clause-moves : goal.returns-then-begins_directive-clause-moves
returns-then-begins_directive-clause-moves c =
    let goes = token_moved c.args.lexer.now c.next.new.lexer c.in_ok-next.field-0 c.in-Token.token c.in_ok-next.ensures.moves c.in-Token.is in
    if_ok c.directive.result _ _ (λ step follow. step_moved c.args.lexer.now c.next.new.lexer c.directive.new.lexer step goes follow) c.directive.ensures.moves

pub take-requires-clause-numbered : goal.take-requires-clause-numbered
take-requires-clause-numbered c = (subst (TakenFits c.next.new.self.piece) c.in-Token.is c.in_ok-next.ensures.fits).0

pub take-requires-clause-counted : goal.take-requires-clause-counted
take-requires-clause-counted c = (subst (TakenFits c.next.new.self.piece) c.in-Token.is c.in_ok-next.ensures.fits).1

pub returns-in_ok-take-in-Token-clause-step : goal.returns-in_ok-take-in-Token-clause-step
returns-in_ok-take-in-Token-clause-step c more =
    step_other c.args.lexer.now.text (told c.args.self.now) (told c.next.new.self) c.args.lexer.now.at c.next.new.lexer.at c.next.new.self.piece.names c.in_ok-next.field-0 start more _ c.args.owner c.args.is_first c.in-Token.token
    c.in_ok-next.ensures.taken c.in-Token.is (sym c.if-begins_directive.ensures) (ap (λ (x : SoFar). more false x c.next.new.lexer.at) (sym c.in_ok-take-in-Token.ensures))

pub returns-in_ok-take-in-Token-clause-moves : goal.returns-in_ok-take-in-Token-clause-moves
returns-in_ok-take-in-Token-clause-moves c = token_moved c.args.lexer.now c.next.new.lexer c.in_ok-next.field-0 c.in-Token.token c.in_ok-next.ensures.moves c.in-Token.is
