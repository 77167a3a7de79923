use Rattle.std.proofs.Common.{◌≡◌, None}
use Rattle.cm_outside.specs.Asks.{Agrees}
use Rattle.cm_outside.specs.declared.question.Question.{Question}
use Rattle.cm_outside.specs.declared.question.Answer.{Answer}
use Rattle.unit_fold.specs.Owners.{Reading}
use Rattle.unit_fold.specs.Steps.{IsHead, StandsAt, WaitsFor}
use Rattle.build_store.specs.Changes.{Went}
use Rattle.build_store.specs.Owners.{owner_with}
use Rattle.build_store.specs.Parts.{Fragment}
use Rattle.build_store.specs.Walks.{AreTrue, WalksAll, far_of, stage_left}
use Rattle.build_store.proofs.walk.walk_on.Given as goal

abbrev pub invariant-loop-event : goal.invariant-loop-event
invariant-loop-event g l = record {
  went : Went g.T.Tree g.K.Keeper l.initial.tree l.tree None;
  waits : WaitsFor l.event l.fold.stage;
  stands : StandsAt l.event l.fold.stage;
  owner : l.fold.owner ≡ owner_with l.own;
  comes : (reading : Reading) → IsHead reading l.initial.event l.initial.fold
      → (later : Reading) × IsHead later l.event l.fold
      × ((t : Question → Answer) (parts : Fragment) → Agrees t (g.K.Keeper.records l.tree.kept) → AreTrue (g.K.Keeper.records l.initial.tree.kept) l.held t
      → (more : Fragment) × WalksAll (g.K.Keeper.records l.tree.kept) l.held t l.initial.numbers l.numbers
      (far_of l.held t l.own l.file parts reading) (far_of l.held t l.own l.file more later));
}

abbrev pub decreases-loop-event : goal.decreases-loop-event
decreases-loop-event g l = stage_left l.fold.stage
