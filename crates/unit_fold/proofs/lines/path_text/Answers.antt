use Rattle.std.proofs.Common.{sym}
use Rattle.unit_fold.proofs.NameLemmas.{utf8_path_text}
use Rattle.unit_fold.proofs.lines.path_text.Goals as goal

pub unreachable-requires : goal.unreachable-requires
unreachable-requires c = c.in-Err.ensures.cases.0 (utf8_path_text c.args.text.now (sym c.if-not-is_path_text.ensures))
