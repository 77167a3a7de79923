use Rattle.std.proofs.Common.{true, sym, ap, ◌∙◌}
use Rattle.unit_fold.specs.Tokens.{place_at}
use Rattle.unit_fold.specs.declared.at.At.{At}
use Rattle.unit_fold.specs.declared.item.FaultKind.TheVariants.{ManyTokens}
use Rattle.unit_fold.specs.Opened.{Opened, token_in}
use Rattle.unit_fold.specs.Owners.{Ends, ended}
use Rattle.unit_fold.specs.Told.{told}
use Rattle.unit_fold.proofs.NextLemmas.{reads_counted, reads_past}
use Rattle.unit_fold.proofs.progress.Progress.count.Goals as goal

pub returns-then-count-clause-taken : goal.returns-then-count-clause-taken
returns-then-count-clause-taken c at none line more =
    reads_counted (told c.args.self.now) (token_in c.args.self.now.piece.names c.args.token) at none line more c.if-count.ensures.counted
    ∙ ap (λ (o : Opened). more (told (record c.args.self.now { piece = o })) (token_in o.names c.args.token) at) (sym c.if-count.ensures.piece)

pub returns-clause-taken : goal.returns-clause-taken
returns-clause-taken c at none line more =
    reads_past (told c.args.self.now) (token_in c.args.self.now.piece.names c.args.token) at none line more c.if-count.ensures.counted
    ∙ ap (λ (o : Opened). Ends true (ended (told (record c.args.self.now { piece = o })) (place_at c.args.token.place) ManyTokens)) (sym c.if-count.ensures.piece)
    ∙ ap (λ (a : At). Ends true (ended (told (record c.args.self.now { piece = c.count.new.self })) a ManyTokens)) (sym c.of.ensures)
    ∙ ap (Ends true) (sym c.in_ok-end.ensures)
