use Rattle.std.proofs.Common.{◌∙◌, Ok, Option, subst, ap}
use Rattle.cm_core.specs.declared.token.Token.{Token}
use Rattle.c_lex.specs.Nexts.{GivesNext}
use Rattle.unit_fold.specs.Opened.{Opened, tokens_in}
use Rattle.unit_fold.specs.Reads.{lexeme_by}
use Rattle.unit_fold.proofs.OpenLemmas.{given_numbered, goes_on, same_tokens, still_sound}
use Rattle.unit_fold.proofs.open_piece.OpenPiece.read.Goals as goal
use Rattle.unit_fold.proofs.open_piece.OpenPiece.read.Goals.{in-Ok-None, in-Ok-Some, in-Err+in_ok-fault-in-Err}

pub invariant_of-self : goal.invariant_of-self
invariant_of-self c = still_sound c.self.inside.names c.lex.new.names c.self.inside.tokens c.self.inside.cut c.self.inside.taken c.lex.ensures.names c.self.invariant

pub returns-in_err-fault-in-Err-clause-piece : goal.returns-in_err-fault-in-Err-clause-piece
returns-in_err-fault-in-Err-clause-piece c =
    same_tokens c.self.inside.names c.lex.new.names c.self.inside.tokens c.lex.ensures.names c.self.invariant.numbered ∙ ap (λ (o : Opened). tokens_in o.names o.tokens) c.self.view_is

pub invariant_of-self-2 : goal.invariant_of-self-2
invariant_of-self-2 c = still_sound c.self.inside.names c.lex.new.names c.self.inside.tokens c.self.inside.cut c.self.inside.taken c.lex.ensures.names c.self.invariant

pub returns-clause-piece : goal.returns-clause-piece
returns-clause-piece c =
    same_tokens c.self.inside.names c.lex.new.names c.self.inside.tokens c.lex.ensures.names c.self.invariant.numbered ∙ ap (λ (o : Opened). tokens_in o.names o.tokens) c.self.view_is

pub returns-clause-numbered : goal.returns-clause-numbered
returns-clause-numbered c = elim c.match-lex.branch [
  | in-Ok-None w ↦ rw w.result-is tt
  | in-Ok-Some w ↦
      let found = lexeme_by c.args.is_header c.args.lexer.now.text c.args.lexer.now.at in
      let given = subst (λ (o : Option Token). GivesNext found c.args.lexer.now c.lex.new.lexer c.lex.new.names (Ok o)) w.in-Ok-Some.field-0-is
      (subst (GivesNext found c.args.lexer.now c.lex.new.lexer c.lex.new.names) w.in-Ok-Some.is c.lex.ensures.gives) in
      rw w.result-is (w.lexed.ensures.numbered c.lex.new.names (given_numbered found c.args.lexer.now c.lex.new.lexer c.lex.new.names w.in-Ok-Some.token given))
  | in-Err+in_ok-fault-in-Err w ↦ rw w.result-is tt
]

pub returns-clause-moves : goal.returns-clause-moves
returns-clause-moves c = elim c.match-lex.branch [
  | in-Ok-None w ↦
      let found = lexeme_by c.args.is_header c.args.lexer.now.text c.args.lexer.now.at in
      let given = subst (λ (o : Option Token). GivesNext found c.args.lexer.now c.lex.new.lexer c.lex.new.names (Ok o)) w.in-Ok-None.field-0-is
      (subst (GivesNext found c.args.lexer.now c.lex.new.lexer c.lex.new.names) w.in-Ok-None.is c.lex.ensures.gives) in
      rw w.result-is given.1
  | in-Ok-Some w ↦
      let found = lexeme_by c.args.is_header c.args.lexer.now.text c.args.lexer.now.at in
      let given = subst (λ (o : Option Token). GivesNext found c.args.lexer.now c.lex.new.lexer c.lex.new.names (Ok o)) w.in-Ok-Some.field-0-is
      (subst (GivesNext found c.args.lexer.now c.lex.new.lexer c.lex.new.names) w.in-Ok-Some.is c.lex.ensures.gives) in
      rw w.result-is (w.lexed.ensures.moves c.args.lexer.now c.lex.new.lexer (goes_on found c.args.lexer.now c.lex.new.lexer c.lex.new.names w.in-Ok-Some.token c.requires given))
  | in-Err+in_ok-fault-in-Err w ↦ rw w.result-is tt
]
