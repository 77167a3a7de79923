use Rattle.std.proofs.Common.{◌∙◌}
use Rattle.unit_fold.proofs.OpenLemmas.{sound_new}
use Rattle.unit_fold.proofs.open_piece.OpenPiece.close.Goals as goal

pub invariant_of-self : goal.invariant_of-self
invariant_of-self c =
    sound_new c.self.inside.names c.replace.new.dest c.new-self-inside.result c.self.inside.taken (c.replace.ensures.after ∙ c.new.ensures) (c.new-self-inside.ensures c.self.inside.names)
