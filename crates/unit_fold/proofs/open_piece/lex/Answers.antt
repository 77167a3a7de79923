use Rattle.c_lex.proofs.Nexts.{gives_header, gives_next}
use Rattle.unit_fold.proofs.LexLemmas.{header_given, plain_given}
use Rattle.unit_fold.proofs.open_piece.lex.Goals as goal

pub returns-then-is_header-clause-gives : goal.returns-then-is_header-clause-gives
returns-then-is_header-clause-gives c =
    let s = c.args.lexer.now in
    let both = gives_header s c.next_header.new.self c.args.names.now c.next_header.new.names c.next_header.result c.requires.unspent c.next_header.ensures.read in
    header_given s c.next_header.new.self c.next_header.new.names c.next_header.result c.args.is_header c.requires c.if-is_header.true both.0

pub returns-then-is_header-clause-names : goal.returns-then-is_header-clause-names
returns-then-is_header-clause-names c =
    (gives_header c.args.lexer.now c.next_header.new.self c.args.names.now c.next_header.new.names c.next_header.result c.requires.unspent c.next_header.ensures.read).1

pub returns-else-is_header-clause-gives : goal.returns-else-is_header-clause-gives
returns-else-is_header-clause-gives c =
    let s = c.args.lexer.now in
    let both = gives_next s c.next.new.self c.args.names.now c.next.new.names c.next.result c.requires.unspent c.next.ensures.read in
    plain_given s c.next.new.self c.next.new.names c.next.result c.args.is_header c.requires c.if-is_header.false both.0

pub returns-else-is_header-clause-names : goal.returns-else-is_header-clause-names
returns-else-is_header-clause-names c = (gives_next c.args.lexer.now c.next.new.self c.args.names.now c.next.new.names c.next.result c.requires.unspent c.next.ensures.read).1
