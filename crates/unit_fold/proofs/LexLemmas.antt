-- What a call of a lexer gives, with a header name first where that is wanted.
use Rattle.std.proofs.Common.{◌≡◌, ℕ, Bool, true, false, List, Option, Result, sym, subst}
use Rattle.cm_core.specs.declared.numbers.FileNo.{FileNo}
use Rattle.cm_core.specs.declared.token.Token.{Token}
use Rattle.c_lex.specs.declared.lexer.LexFault.{LexFault}
use Rattle.c_lex.specs.Readings.{LexerState}
use Rattle.c_lex.specs.Nexts.{GivesNext, next_header, next_lexeme}
use Rattle.unit_fold.specs.Reads.{IsFresh, lexeme_by}

module _ (s s' : LexerState) (names : List (List ℕ)) (r : Result (Option Token) LexFault) (is_header : Bool) (fresh : IsFresh s) where
  pub header_given : is_header ≡ true → GivesNext (next_header s.text s.file s.at) s s' names r → GivesNext (lexeme_by is_header s.text s.at) s s' names r
  header_given is given =
      let there = subst (λ (f : FileNo). GivesNext (next_header s.text f s.at) s s' names r) fresh.file given in
      subst (λ (b : Bool). GivesNext (lexeme_by b s.text s.at) s s' names r) (sym is) there

  pub plain_given : is_header ≡ false → GivesNext (next_lexeme s.text s.file s.at) s s' names r → GivesNext (lexeme_by is_header s.text s.at) s s' names r
  plain_given is given =
      let there = subst (λ (f : FileNo). GivesNext (next_lexeme s.text f s.at) s s' names r) fresh.file given in
      subst (λ (b : Bool). GivesNext (lexeme_by b s.text s.at) s s' names r) (sym is) there
