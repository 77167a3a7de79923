-- Between two turns nothing is in progress, the fold of the unit waits at an import or has not begun, and each module that the unit needed leaves fewer of which nothing is known.
use Rattle.cm_outside.specs.Asks.{Agrees}
use Rattle.cm_outside.specs.declared.question.Question.{Question}
use Rattle.cm_outside.specs.declared.question.Answer.{Answer}
use Rattle.build_store.specs.Turning.{IsTrusted, Rests, unknowns}
use Rattle.build_store.specs.Walks.{IsReady}
use Rattle.build_store.proofs.MemoUnits.{UnitGoing}
use Rattle.build_store.proofs.memo.unit.Given as goal

abbrev pub invariant-loop-paused : goal.invariant-loop-paused
invariant-loop-paused g l = record {
  going : UnitGoing g.H.Turns.state g.H.Turns.well g.H.Turns.same g.H.Turns.leaves g.H.Turns.went g.H.Turns.tells g.H.Turns.behind l.path (l.fn.held, l.fn.tree, l.fn.cache, l.fn.steps) (l.held, l.tree, l.cache, l.steps);
  ready : IsReady l.paused;
  waits : (t : Question → Answer) → Agrees t (g.H.Turns.state (l.held, l.tree, l.cache, l.steps)).records → IsTrusted (g.H.Turns.state (l.fn.held, l.fn.tree, l.fn.cache, l.fn.steps)) (g.H.Turns.state (l.held, l.tree, l.cache, l.steps))
      → Rests (g.H.Turns.state (l.fn.held, l.fn.tree, l.fn.cache, l.fn.steps)) t → g.H.Turns.paused_at t (l.held, l.tree, l.cache, l.steps) l.path l.paused;
}

abbrev pub decreases-loop-paused : goal.decreases-loop-paused
decreases-loop-paused g l = unknowns (g.H.Turns.state (l.held, l.tree, l.cache, l.steps)).slots
