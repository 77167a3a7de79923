use Rattle.std.proofs.Common.{◌≡◌, ◌≤◌, ◌-◌, true, length}
use Rattle.unit_fold.specs.Owners.{read_on}
use Rattle.unit_fold.specs.Reads.{IsFresh}
use Rattle.unit_fold.specs.Told.{told}
use Rattle.unit_fold.proofs.progress.Progress.read_tokens.Given as goal

abbrev pub invariant-loop-begins_line : goal.invariant-loop-begins_line
invariant-loop-begins_line l = record {
  text : l.lexer.text ≡ l.fn.text;
  fresh : IsFresh l.lexer;
  later : l.fn.next ≤ l.lexer.at;
  so_far : read_on l.fn.owner l.fn.text true (told l.fn.self) l.fn.next ≡ read_on l.fn.owner l.fn.text l.is_first (told l.self) l.lexer.at;
}

abbrev pub decreases-loop-begins_line : goal.decreases-loop-begins_line
decreases-loop-begins_line l = length l.fn.text.bytes - l.lexer.at
