use Rattle.std.proofs.Common.{◌∙◌, List, [], sym, ap, subst}
use Rattle.cm_core.specs.declared.token.Token.{Token}
use Rattle.unit_fold.specs.Opened.{Opened, AreNumbered, tokens_in}
use Rattle.unit_fold.specs.Owners.{with_piece}
use Rattle.unit_fold.specs.Told.{told}
use Rattle.unit_fold.proofs.ReadLemmas.{on_ok}
use Rattle.unit_fold.proofs.progress.Progress.close.Goals as goal

pub read_piece-requires : goal.read_piece-requires
read_piece-requires c =
    let numbered = subst (AreNumbered c.args.self.now.piece.names) (sym c.items.ensures) c.close-tokens.ensures.numbered in
    subst (λ (o : Opened). AreNumbered o.names c.items.result.now) (sym c.close-tokens.ensures.piece) numbered

pub returns : goal.returns
returns c =
    let names = c.args.self.now.piece.names in
    on_ok c.read_piece.result _ _
    (λ follow.
    follow
    ∙ ap (λ (o : Opened). with_piece c.args.owner (told (record c.args.self.now { piece = o })) (tokens_in o.names c.items.result.now)) c.close-tokens.ensures.piece
    ∙ ap (λ (ts : List Token). with_piece c.args.owner (told (record c.args.self.now { piece = record c.args.self.now.piece { tokens = [] } })) (tokens_in names ts)) (c.items.ensures ∙ c.close-tokens.ensures.tokens))
    c.read_piece.ensures
