use Rattle.std.proofs.Common.{◌∙◌, ap, replicate, None}
use Rattle.build_store.proofs.RowLemmas.{is_of_new}
use Rattle.build_store.proofs.library.Library.new.Goals as goal

pub returns-clause-of : goal.returns-clause-of
returns-clause-of c =
    is_of_new c.args.table.now (record { rows = c.in_ok-rows.rows; parts = c.in_ok-parts.parts }) c.in_ok-rows.ensures (c.in_ok-parts.ensures ∙ ap (λ n. replicate n None) c.len.ensures)
