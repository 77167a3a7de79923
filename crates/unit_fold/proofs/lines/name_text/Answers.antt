use Rattle.std.proofs.Common.{sym}
use Rattle.unit_fold.proofs.NameLemmas.{utf8_name}
use Rattle.unit_fold.proofs.lines.name_text.Goals as goal

pub unreachable-requires : goal.unreachable-requires
unreachable-requires c = c.in-Err.ensures.cases.0 (utf8_name c.args.name.now (sym c.if-not-is_name.ensures))
