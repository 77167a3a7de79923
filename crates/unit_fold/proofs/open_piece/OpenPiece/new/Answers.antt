use Rattle.unit_fold.proofs.OpenLemmas.{sound_new}
use Rattle.unit_fold.proofs.open_piece.OpenPiece.new.Goals as goal

pub invariant_of-result : goal.invariant_of-result
invariant_of-result c = sound_new c.new.result c.new-2.result c.new-3.result 0 c.new-2.ensures (c.new-3.ensures c.new.result)
