-- What the code holds of an owner, in the words of its definition. own
use Rattle.unit_fold.specs.Owners.{SoFar}
use Rattle.unit_fold.specs.Opened.{tokens_in}
use Rattle.unit_fold.specs.declared.progress.Progress.{Progress}

abbrev pub told : Progress → SoFar
told p = record {
  items = p.items;
  pointers = p.pointers;
  brought = p.brought;
  entered = p.entered;
  taken = p.piece.taken;
  piece = tokens_in p.piece.names p.piece.tokens;
}
