-- An empty list more holds nothing new.
use Rattle.std.proofs.Common.{◌∙◌, rules}
use Rattle.export_closure.proofs.FoundLemmas.{list_more}
use Rattle.export_closure.proofs.children.grow.Goals as goal

pub loop-alloc-preserved : goal.loop-alloc-preserved
loop-alloc-preserved c = (search rules, λ p. search (rules, list_more) ∙ c.loop-alloc.invariant.1 p)
