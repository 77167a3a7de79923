use Rattle.std.proofs.Common.{◌∙◌, [], ◌∷◌, ◌++◌, sym, ap, subst}
use Rattle.unit_fold.specs.Opened.{AreNumbered, token_in, tokens_in}
use Rattle.unit_fold.specs.Reads.{Takes}
use Rattle.unit_fold.specs.Told.{told}
use Rattle.unit_fold.proofs.ReadLemmas.{on_ok}
use Rattle.unit_fold.proofs.StepLemmas.{held_anew, take_whole, token_open}
use Rattle.unit_fold.proofs.progress.Progress.take.Goals as goal

pub read_piece-requires : goal.read_piece-requires
read_piece-requires c =
    let o = c.args.self.now.piece in
    let takes = subst (Takes (tokens_in o.names o.tokens ++ token_in o.names c.args.token ∷ []) c.take.new.self) c.in-Some.is c.in_ok-tokens.ensures.piece in
    subst (AreNumbered c.take.new.self.names) (sym c.items.ensures) takes.2

pub returns-in-Some : goal.returns-in-Some
returns-in-Some c =
    let o = c.args.self.now.piece in
    let p = told c.args.self.now in
    let new = c.take.new.self in
    let takes = subst (Takes (tokens_in o.names o.tokens ++ token_in o.names c.args.token ∷ []) new) c.in-Some.is c.in_ok-tokens.ensures.piece in
    on_ok c.read_piece.result _ _
    (λ follow.
    take_whole c.args.owner p (told (record c.args.self.now { piece = new })) (told c.read_piece.new.self) (token_in o.names c.args.token) (tokens_in new.names c.items.result.now) takes.0
    (held_anew p new.taken (tokens_in new.names new.tokens) [] c.take.ensures.taken (ap (tokens_in new.names) takes.3)) (ap (tokens_in new.names) c.items.ensures ∙ takes.1) follow)
    c.read_piece.ensures

pub returns-in-None : goal.returns-in-None
returns-in-None c =
    let o = c.args.self.now.piece in
    let p = told c.args.self.now in
    let new = c.take.new.self in
    let piece = tokens_in o.names o.tokens ++ token_in o.names c.args.token ∷ [] in
    let takes = subst (Takes piece new) c.in-None.is c.in_ok-tokens.ensures.piece in
    sym (token_open c.args.owner p (token_in o.names c.args.token) (told (record c.args.self.now { piece = new })) takes.0
    (held_anew p new.taken (tokens_in new.names new.tokens) piece c.take.ensures.taken takes.1))
