-- The bit of a submodule is its flag, and past the last submodule there is none.
use Rattle.std.proofs.Common.{◌∙◌, ◌/◌, ◌<◌, ◌≤◌, sym, ap, length, arith}
use Rattle.std.proofs.lemmas.List.{get_or_read}
use Rattle.export_closure.specs.Flags.{has}
use Rattle.export_closure.proofs.BitLemmas.{has_past, has_shifted, word_there}
use Rattle.export_closure.proofs.visible_set.VisibleSet.has.Goals as goal

pub returns-then-sub-self : goal.returns-then-sub-self
returns-then-sub-self c =
    let past : c.self.inside.size ≤ c.args.sub.index = omega (arith, c.if-sub-self.true) in
    sym (has_past c.self.inside.words.items c.self.inside.size c.args.sub.index past) ∙ ap (λ set. has set c.args.sub.index) c.self.view_is

pub returns : goal.returns
returns c =
    let words = c.self.inside.words.items in
    let at = c.args.sub.index in
    let within : at < c.self.inside.size = omega (arith, c.if-sub-self.false) in
    let there : at / 64 < length words = word_there words c.self.inside.size at c.self.invariant within in
    has_shifted words c.self.inside.size at c.index-word.result.now within (get_or_read words (at / 64) c.index-word.result.now there c.index-word.ensures 0)
    ∙ ap (λ set. has set at) c.self.view_is
