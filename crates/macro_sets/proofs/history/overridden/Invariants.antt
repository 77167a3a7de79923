-- The references of the visible directives, and those of the owner so far.
use Rattle.std.proofs.Common.{◌≡◌, ◌++◌, map, take}
use Rattle.macro_sets.specs.ActiveMacros.{visible}
use Rattle.macro_sets.proofs.history.overridden.Given as goal

abbrev pub invariant-loop-node : goal.invariant-loop-node
invariant-loop-node g l = l.refs ≡ map (λ node. node.at) (visible (g.S.Sees.seen l.seen) l.before ++ take l.node-index l.own)
