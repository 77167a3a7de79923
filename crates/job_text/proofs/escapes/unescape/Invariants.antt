-- The bytes so far and those of the rest are those of the text.
use Rattle.std.proofs.Common.{◌≡◌, drop}
use Rattle.job_text.specs.Escapes.{unescaped_after}
use Rattle.job_text.proofs.EscapeLemmas.{front}
use Rattle.job_text.proofs.escapes.unescape.Given as goal

abbrev pub invariant-loop-index : goal.invariant-loop-index
invariant-loop-index l = front l.bytes (unescaped_after l.skip (drop l.index l.text)) ≡ unescaped_after 0 l.text
