use Rattle.std.proofs.Common.{◌-◌, length}
use Rattle.c_lex.specs.Lexemes.{lexemes_of}
use Rattle.job_text.specs.Bodies.{cut_body, no_file}
use Rattle.job_text.proofs.BodyLemmas.{Cutting}
use Rattle.job_text.proofs.body.cut_body.Given as goal

abbrev pub invariant-loop-tokens : goal.invariant-loop-tokens
invariant-loop-tokens l = Cutting (cut_body (lexemes_of l.fn.text no_file)) l.tokens l.lexer

abbrev pub decreases-loop-tokens : goal.decreases-loop-tokens
decreases-loop-tokens l = length l.lexer.text.bytes - l.lexer.at
