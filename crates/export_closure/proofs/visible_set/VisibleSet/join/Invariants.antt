-- The words so far are joined.
use Rattle.std.proofs.Common.{◌≡◌}
use Rattle.export_closure.proofs.BitLemmas.{AreJoined}
use Rattle.export_closure.proofs.visible_set.VisibleSet.join.Given as goal

abbrev pub invariant-loop-at : goal.invariant-loop-at
invariant-loop-at l =
    AreJoined l.initial.self-inside.words.items l.word-items l.self-inside.words.items l.at × (l.self-inside.size ≡ l.initial.self-inside.size)
