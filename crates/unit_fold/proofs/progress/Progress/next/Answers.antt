use Rattle.std.proofs.Common.{◌∙◌, false, sym, ap, subst}
use Rattle.unit_fold.specs.Opened.{tokens_in}
use Rattle.unit_fold.specs.Owners.{Ends}
use Rattle.unit_fold.specs.Reads.{LexedIsNumbered, LexedMoves, next_by}
use Rattle.unit_fold.specs.Told.{told}
use Rattle.unit_fold.specs.declared.lexed.Lexed.TheVariants.{End, Fault, LineEnd, Token}
use Rattle.unit_fold.proofs.NextLemmas.{reads_as, same_so_far}
use Rattle.unit_fold.proofs.ReadLemmas.{if_ok}
use Rattle.unit_fold.proofs.progress.Progress.next.Goals as goal

pub returns-in-End-clause-taken : goal.returns-in-End-clause-taken
returns-in-End-clause-taken c none line more =
    let o = c.read.new.self in
    let p = told c.args.self.now in
    reads_as p _ (next_by c.args.is_header c.args.lexer.now.text c.args.lexer.now.at) o.names c.read.new.lexer.at c.in_ok-read.field-0 End none line more
    (same_so_far p o.taken (tokens_in o.names o.tokens) c.read.ensures.taken c.read.ensures.piece) c.in_ok-read.ensures.read c.in-End.is

pub returns-in_ok-add-in-Fault-clause-taken : goal.returns-in_ok-add-in-Fault-clause-taken
returns-in_ok-add-in-Fault-clause-taken c none line more =
    let o = c.read.new.self in
    let p = told c.args.self.now in
    reads_as p _ (next_by c.args.is_header c.args.lexer.now.text c.args.lexer.now.at) o.names c.read.new.lexer.at c.in_ok-read.field-0 (Fault c.in-Fault.fault) none line more
    (same_so_far p o.taken (tokens_in o.names o.tokens) c.read.ensures.taken c.read.ensures.piece) c.in_ok-read.ensures.read c.in-Fault.is
    ∙ ap (Ends false) (sym c.in_ok-add-in-Fault.ensures.told)

pub returns-in-LineEnd-clause-taken : goal.returns-in-LineEnd-clause-taken
returns-in-LineEnd-clause-taken c none line more =
    let o = c.read.new.self in
    let p = told c.args.self.now in
    reads_as p _ (next_by c.args.is_header c.args.lexer.now.text c.args.lexer.now.at) o.names c.read.new.lexer.at c.in_ok-read.field-0 LineEnd none line more
    (same_so_far p o.taken (tokens_in o.names o.tokens) c.read.ensures.taken c.read.ensures.piece) c.in_ok-read.ensures.read c.in-LineEnd.is

pub returns-in-Token-clause-taken : goal.returns-in-Token-clause-taken
returns-in-Token-clause-taken c =
    let o = c.read.new.self in
    let p = told c.args.self.now in
    if_ok c.count.result _ _
    (λ taken follow none line more.
    reads_as p _ (next_by c.args.is_header c.args.lexer.now.text c.args.lexer.now.at) o.names c.read.new.lexer.at c.in_ok-read.field-0 (Token c.in-Token.token) none line more
    (same_so_far p o.taken (tokens_in o.names o.tokens) c.read.ensures.taken c.read.ensures.piece) c.in_ok-read.ensures.read c.in-Token.is
    ∙ follow c.read.new.lexer.at none line more)
    c.count.ensures.taken

pub returns-in-Token-clause-moves : goal.returns-in-Token-clause-moves
returns-in-Token-clause-moves c =
    if_ok c.count.result _ _ (λ taken follow. follow c.args.lexer.now c.read.new.lexer (subst (LexedMoves c.args.lexer.now c.read.new.lexer) c.in-Token.is c.in_ok-read.ensures.moves)) c.count.ensures.moves

pub count-requires-clause-numbered : goal.count-requires-clause-numbered
count-requires-clause-numbered c = subst (LexedIsNumbered c.read.new.self.names) c.in-Token.is c.in_ok-read.ensures.numbered
