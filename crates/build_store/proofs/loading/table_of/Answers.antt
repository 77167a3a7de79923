use Rattle.std.proofs.Common.{ap, ◌∙◌}
use Rattle.build_store.specs.Tables.{settled}
use Rattle.build_store.proofs.TableRead.{table_made}
use Rattle.build_store.proofs.loading.table_of.Goals as goal

pub returns-clause-came : goal.returns-clause-came
returns-clause-came g c =
    table_made (g.K.Keeper.records c.read_maps.new.tree.kept) c.args.numbers.now c.read_maps.new.numbers c.args.maps.now c.in_ok-read.read c.in_ok-settle.field-0 c.in_ok-read.ensures.came (c.in_ok-settle.ensures ∙ ap settled c.items.ensures)
