use Rattle.std.proofs.Common.{length}
use Rattle.cm_source.specs.Drafts.{IsFront}
use Rattle.cm_source.proofs.text.draft_of.Given as goal

abbrev pub invariant-loop-rest : goal.invariant-loop-rest
invariant-loop-rest l = IsFront l.file l.draft l.place l.rest

abbrev pub decreases-loop-rest : goal.decreases-loop-rest
decreases-loop-rest l = length l.rest
