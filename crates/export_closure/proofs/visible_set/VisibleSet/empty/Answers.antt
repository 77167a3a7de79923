-- Words of no bits are no flags.
use Rattle.std.proofs.Common.{◌∙◌, ap}
use Rattle.export_closure.specs.Bits.{flags_of}
use Rattle.export_closure.proofs.BitLemmas.{flags_of_zeros}
use Rattle.export_closure.proofs.visible_set.VisibleSet.empty.Goals as goal

pub returns : goal.returns
returns c = ap (λ words. flags_of words c.args.n) (c.in_ok-from_elem.ensures.items_if_clones_equal (λ y same. same)) ∙ flags_of_zeros _ c.args.n
