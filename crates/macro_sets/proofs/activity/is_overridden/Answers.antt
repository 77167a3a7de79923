-- A search from the last on finds what one from the first on does.
use Rattle.std.proofs.Common.{reverse, ◌∙◌, sym}
use Rattle.std.proofs.lemmas.List.Sorted.{list_any-IsPermutation, IsPermutation-reverse}
use Rattle.macro_sets.proofs.activity.is_overridden.Goals as goal

pub returns : goal.returns
returns g c =
    c.is_overridden_from_last.ensures ∙ sym (list_any-IsPermutation _ c.args.nodes.now (reverse c.args.nodes.now) (IsPermutation-reverse c.args.nodes.now))
