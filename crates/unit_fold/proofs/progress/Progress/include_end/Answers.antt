use Rattle.std.proofs.Common.{◌≡◌, ℕ, sym, ap, ◌∙◌}
use Rattle.c_lex.specs.Readings.{LexerState}
use Rattle.unit_fold.specs.Owners.{SoFar, includes}
use Rattle.unit_fold.specs.Told.{told}
use Rattle.unit_fold.proofs.ReadLemmas.{if_ok, end_moved}
use Rattle.unit_fold.proofs.DirectiveLemmas.{end_at_end, end_at_line, end_otherwise}
use Rattle.unit_fold.proofs.progress.Progress.include_end.Goals as goal

pub returns-in-End-clause-step : goal.returns-in-End-clause-step
returns-in-End-clause-step c more =
    let same = end_moved c.args.lexer.now c.next.new.lexer c.in_ok-taken.taken c.in_ok-taken.ensures.moves c.in-End.is in
    let at : c.at.result ≡ c.args.lexer.now.at = c.at.ensures.at ∙ ap (λ (x : LexerState). x.at) same in
    end_at_end c.args.lexer.now.text (told c.args.self.now) (told c.next.new.self) c.args.lexer.now.at c.next.new.lexer.at c.next.new.self.piece.names c.in_ok-taken.taken c.args.hash more _ c.args.name
    c.in_ok-taken.ensures.taken c.in-End.is (ap (λ (n : ℕ). includes (told c.next.new.self) c.args.hash c.args.name (λ (s : SoFar). more _ s n)) (sym at))

pub returns-in-LineEnd-clause-step : goal.returns-in-LineEnd-clause-step
returns-in-LineEnd-clause-step c more =
    end_at_line c.args.lexer.now.text (told c.args.self.now) (told c.next.new.self) c.args.lexer.now.at c.next.new.lexer.at c.next.new.self.piece.names c.in_ok-taken.taken c.args.hash more _ c.args.name
    c.in_ok-taken.ensures.taken c.in-LineEnd.is (ap (λ (n : ℕ). includes (told c.next.new.self) c.args.hash c.args.name (λ (s : SoFar). more _ s n)) (sym c.at-in-LineEnd.ensures.at))

pub returns-in_default-clause-step : goal.returns-in_default-clause-step
returns-in_default-clause-step c =
    if_ok c.otherwise.result _ _
    (λ step follow more.
    end_otherwise c.args.lexer.now.text (told c.args.self.now) (told c.next.new.self) c.args.lexer.now.at c.next.new.lexer.at c.next.new.self.piece.names c.in_ok-taken.taken c.args.hash more _ c.args.name
    c.in_ok-taken.ensures.taken c.in_default.not-End c.in_default.not-LineEnd (follow c.next.new.lexer.at c.next.new.lexer.at c.next.new.self.piece.names more))
    c.otherwise.ensures.step
