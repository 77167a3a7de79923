-- The bit of a submodule is its flag.
use Rattle.std.proofs.Common.{◌∙◌, ◌/◌, ◌<◌, ap, true, length, set, arith}
use Rattle.std.proofs.lemmas.List.{get_or_read}
use Rattle.export_closure.proofs.BitLemmas.{length_flags_of, flags_of_put, word_there}
use Rattle.export_closure.proofs.visible_set.VisibleSet.put.Goals as goal

pub index_mut-requires : goal.index_mut-requires
index_mut-requires c =
    let words = c.self.inside.words.items in
    let within : c.args.sub.index < c.self.inside.size = omega (arith, c.requires, ap length c.self.view_is, length_flags_of words c.self.inside.size) in
    let there = word_there words c.self.inside.size c.args.sub.index c.self.invariant within in
    omega (arith, there, c.self.inside.words.ok.0)

pub returns : goal.returns
returns c =
    let words = c.self.inside.words.items in
    let at = c.args.sub.index in
    let within : at < c.self.inside.size = omega (arith, c.requires, ap length c.self.view_is, length_flags_of words c.self.inside.size) in
    let there : at / 64 < length words = word_there words c.self.inside.size at c.self.invariant within in
    flags_of_put words c.self.inside.size at c.index_mut.result.now within there (get_or_read words (at / 64) c.index_mut.result.now there c.index_mut.ensures.value 0)
    ∙ ap (λ flags. set flags at true) c.self.view_is
