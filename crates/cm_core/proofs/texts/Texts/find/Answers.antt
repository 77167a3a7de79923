-- The place of the text in the set is its place among the bytes.
use Rattle.std.proofs.Common.{string_bytes, ◌∙◌, sym}
use Rattle.std.specs.Str.{bytes_eq}
use Rattle.cm_core.proofs.TableLemmas.{position-given}
use Rattle.cm_core.proofs.TextLemmas.{position-map}
use Rattle.cm_core.proofs.texts.Texts.find.Goals as goal

pub returns-in_err-at-clause-number : goal.returns-in_err-at-clause-number
returns-in_err-at-clause-number c =
    let same = position-map string_bytes (bytes_eq c.args.text.now) c.self.inside.set.keys in
    rw (← c.self.view_is) (c.from_residual.ensures ∙ c.in_err-at.ensures.index ∙ sym same)

pub returns-clause-number : goal.returns-clause-number
returns-clause-number c =
    let same = position-map string_bytes (bytes_eq c.args.text.now) c.self.inside.set.keys in
    rw (← c.self.view_is) (c.in_ok-at.ensures.index ∙ sym same)

pub returns-clause-given : goal.returns-clause-given
returns-clause-given c = position-given c.args.self.now c.args.text.now _ (sym (returns-clause-number c))
