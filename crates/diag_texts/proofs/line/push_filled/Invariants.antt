-- What is left of the text, filled with the arguments that are left, completes what is to be added.
use Rattle.std.proofs.Common.{◌≡◌, ◌++◌, drop}
use Rattle.diag_texts.specs.Lines.{filled}
use Rattle.diag_texts.proofs.line.push_filled.Given as goal

abbrev pub invariant-loop-byte : goal.invariant-loop-byte
invariant-loop-byte l =
    l.line.items ++ filled (drop l.byte-index l.text) l.rest.rest.now ≡ l.initial.line.items ++ filled l.text l.args
