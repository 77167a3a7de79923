use Rattle.build_store.proofs.RowAlone.{none_exported, none_imported}
use Rattle.build_store.proofs.library.exports_nothing.Goals as goal

pub returns-then-is_empty : goal.returns-then-is_empty
returns-then-is_empty c is = none_exported c.args.row.now (c.is_empty.ensures.0 c.if-is_empty.true)

pub returns-else-is_empty : goal.returns-else-is_empty
returns-else-is_empty c is = none_imported c.args.row.now (c.is_empty-else-is_empty.ensures.0 is)
