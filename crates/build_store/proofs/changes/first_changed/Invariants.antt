use Rattle.std.proofs.Common.{◌≡◌, Some, None, map, take, drop, slice_get}
use Rattle.cm_outside.specs.Asks.{Agrees}
use Rattle.cm_outside.specs.declared.question.Question.{Question}
use Rattle.cm_outside.specs.declared.question.Answer.{Answer}
use Rattle.build_store.specs.Changes.{Went, changed}
use Rattle.build_store.proofs.changes.first_changed.Given as goal

abbrev pub invariant-loop-kept : goal.invariant-loop-kept
invariant-loop-kept g l = record {
  went : Went g.T.Tree g.K.Keeper l.initial.tree l.tree None;
  so_far : (f : Question → Answer) → Agrees f (g.K.Keeper.records l.tree.kept) → changed f l.records ≡ changed f (drop l.kept-index l.records);
  numbered : map (slice_get (g.K.Keeper.records l.tree.kept)) l.numbers ≡ map Some (take l.kept-index l.records);
}
