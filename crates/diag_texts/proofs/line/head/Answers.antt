-- The format's pieces stand one after another, the number with its zeros.
use Rattle.std.proofs.Common.{arith}
use Rattle.std.proofs.lemmas.List.{append-nil}
use Rattle.diag_texts.proofs.Digits.{three_places}
use Rattle.diag_texts.proofs.line.head.Goals as goal

pub returns : goal.returns
returns c = grind (arith, three_places, append-nil, c.in_ok-head.ensures.ok, c.laid_out.ensures)
