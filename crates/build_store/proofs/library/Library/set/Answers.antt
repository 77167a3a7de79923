use Rattle.std.proofs.Common.{◌∙◌, ap}
use Rattle.build_store.specs.Parts.{no_part, row_of}
use Rattle.build_store.proofs.RowLemmas.{is_of_put}
use Rattle.build_store.proofs.library.Library.set.Goals as goal

pub returns-clause-of : goal.returns-clause-of
returns-clause-of c =
    is_of_put c.args.table.now c.args.self.now (record { rows = c.replace.new.self; parts = c.replace-2.new.self }) c.args.x c.items.result.now c.index-items-x.result c.args.part c.in_ok-row.row
    c.requires.of c.requires.within c.items.ensures c.index-items-x.is
    (c.in_ok-row.ensures ∙ ap (λ names. row_of c.args.table.now c.index-items-x.result.export (record no_part { imports = names })) c.items-2.ensures)
    c.replace.ensures.after c.replace-2.ensures.after
