-- The list of the submodule and the imports of its row are within the rows, and are what it shows.
use Rattle.std.proofs.Common.{◌≡◌, ◌∙◌, ℕ, ap, refl, length, arith}
use Rattle.std.specs.Prelude.{Some, slice_get}
use Rattle.std.proofs.lemmas.Option.{slice_get_read}
use Rattle.export_closure.specs.Closure.{is_open_child}
use Rattle.export_closure.specs.Found.{is_found}
use Rattle.export_closure.proofs.FoundLemmas.{children_within, imports_within, adds_shown}
use Rattle.export_closure.proofs.members.Members.add_shown.Goals as goal

pub add_all-requires-clause-within : goal.add_all-requires-clause-within
add_all-requires-clause-within c k d within =
    let sub = c.args.sub.index in
    let same : (at : ℕ) → is_found c.children_of.result.now at ≡ is_open_child c.args.rows.now sub at =
    λ at. ap (λ l. is_found l at) c.children_of.ensures ∙ c.requires.children at in
    let below = children_within c.args.rows.now sub c.children_of.result.now same k d within in
    omega (arith, below, c.requires.size)

pub add_exported-requires-clause-within : goal.add_exported-requires-clause-within
add_exported-requires-clause-within c =
    imports_within c.args.rows.now c.requires.rows c.args.sub.index c.index-rows-at.result
    (slice_get_read c.args.rows.now (length c.args.rows.now) c.args.sub.index c.index-rows-at.result refl c.requires.within c.index-rows-at.is)

pub returns-clause-adds : goal.returns-clause-adds
returns-clause-adds c =
    let sub = c.args.sub.index in
    let same : (at : ℕ) → is_found c.children_of.result.now at ≡ is_open_child c.args.rows.now sub at =
    λ at. ap (λ l. is_found l at) c.children_of.ensures ∙ c.requires.children at in
    let is_row : slice_get c.args.rows.now sub ≡ Some c.index-rows-at.result =
    slice_get_read c.args.rows.now (length c.args.rows.now) sub c.index-rows-at.result refl c.requires.within c.index-rows-at.is in
    adds_shown c.args.rows.now sub c.index-rows-at.result c.children_of.result.now c.args.self.now c.add_all.new.self c.add_exported.new.self is_row same
    c.in_ok-add_all.ensures.adds c.in_ok-add_exported.ensures.adds
