-- The modules in progress are those that wait and the one on top, and the run goes on until they have ended.
use Rattle.std.proofs.Common.{◌+◌, ◌*◌, ◌<◌, reverse, [], vec_len}
use Rattle.cm_outside.specs.Asks.{begun}
use Rattle.build_store.specs.Modules.{mod_of}
use Rattle.build_store.specs.Order.{with_new}
use Rattle.build_store.specs.Turning.{unknowns}
use Rattle.build_store.proofs.MemoGoing.{Going}
use Rattle.build_store.proofs.memo.interpret.Given as goal

abbrev pub invariant-loop-top : goal.invariant-loop-top
invariant-loop-top g l =
    Going g.H.Turns.state g.H.Turns.well g.H.Turns.same g.H.Turns.leaves g.H.Turns.went g.H.Turns.tells g.H.Turns.behind (l.fn.held, l.fn.tree, l.fn.cache, l.fn.steps) (l.held, l.tree, l.cache, l.steps) (reverse l.importers.items)
    (λ t. with_new (g.H.Turns.state (l.fn.held, l.fn.tree, l.fn.cache, l.fn.steps)).noted (begun (mod_of (g.H.Turns.state (l.fn.held, l.fn.tree, l.fn.cache, l.fn.steps)).plan [] l.number) t))
    × (2 * unknowns (g.H.Turns.state (l.held, l.tree, l.cache, l.steps)).slots + vec_len l.importers < 2 * unknowns (g.H.Turns.state (l.fn.held, l.fn.tree, l.fn.cache, l.fn.steps)).slots)

abbrev pub decreases-loop-top : goal.decreases-loop-top
decreases-loop-top g l = 2 * unknowns (g.H.Turns.state (l.held, l.tree, l.cache, l.steps)).slots + vec_len l.importers
