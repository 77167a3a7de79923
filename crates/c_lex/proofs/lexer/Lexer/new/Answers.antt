use Rattle.std.proofs.lemmas.Str.{IsCharBoundary-start}
use Rattle.c_lex.proofs.lexer.Lexer.new.Goals as goal

pub invariant_of-result : goal.invariant_of-result
invariant_of-result c = λ utf8. IsCharBoundary-start _ utf8
