use Rattle.std.proofs.Common.{◌-◌, length}
use Rattle.map_grammar.proofs.Words.{Lexing}
use Rattle.map_grammar.proofs.lex.words.Given as goal

abbrev pub invariant-loop-words : goal.invariant-loop-words
invariant-loop-words l = Lexing l.fn.text l.fn.file l.words.items l.lexer

abbrev pub decreases-loop-words : goal.decreases-loop-words
decreases-loop-words l = length l.fn.text.bytes - l.lexer.at
