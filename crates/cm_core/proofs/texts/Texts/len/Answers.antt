-- The set keeps its texts apart, and so their bytes.
use Rattle.std.proofs.Common.{string_bytes}
use Rattle.cm_core.proofs.TextLemmas.{IsDistinct-map}
use Rattle.cm_core.proofs.texts.Texts.len.Goals as goal

pub returns-clause-distinct : goal.returns-clause-distinct
returns-clause-distinct c = rw (← c.self.view_is) (IsDistinct-map string_bytes _ c.self.invariant)
