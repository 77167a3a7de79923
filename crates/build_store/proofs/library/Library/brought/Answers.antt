use Rattle.std.proofs.Common.{◌≡◌, ◌∙◌, ◌<◌, List, ap, arith, get_or, length, refl, subst}
use Rattle.std.specs.List.{range_with_len}
use Rattle.std.proofs.lemmas.Option.{slice_get_read}
use Rattle.std.proofs.lemmas.Result.{IfOk-weaker}
use Rattle.export_closure.specs.Closure.{closure}
use Rattle.export_closure.specs.declared.rows.ExportRow.{ExportRow}
use Rattle.build_store.specs.Libraries.{part_at}
use Rattle.build_store.specs.Parts.{declared_in}
use Rattle.build_store.proofs.RowAlone.{brought_alone}
use Rattle.build_store.proofs.RowLemmas.{brought_is}
use Rattle.build_store.proofs.library.Library.brought.Goals as goal

pub returns-then-exports_nothing : goal.returns-then-exports_nothing
returns-then-exports_nothing c table of =
    let library = c.args.self.now in
    let row = c.index-items-x.result in
    let here : row ≡ get_or library.rows c.args.x row = subst (λ (rows : List ExportRow). row ≡ get_or rows c.args.x row) c.items.ensures c.index-items-x.is in
    let within : c.args.x < length library.rows = omega (arith, c.requires.within, c.requires.whole.places) in
    IfOk-weaker c.names_of.result _ _
    (λ names h.
    brought_alone table library c.args.x row names of c.requires.within
    (slice_get_read library.rows (length library.rows) c.args.x row refl within here)
    (c.exports_nothing.ensures c.if-exports_nothing.true) h)
    c.names_of.ensures

pub returns : goal.returns
returns c table of =
    let set = c.in_ok-set.set in
    IfOk-weaker c.declared_in.result _ _
    (λ names h.
    brought_is table c.args.self.now c.args.x set names of
    (c.in_ok-set.ensures ∙ (λ i. closure (c.items-2.ensures i) (c.sub_no.ensures i).index))
    (h ∙ ap (λ ps. declared_in (part_at ps) set (range_with_len 0 (length ps))) c.items-3.ensures))
    c.declared_in.ensures
