-- The rows that are left have the text of all rows.
use Rattle.std.proofs.Common.{◌≡◌, map, drop}
use Rattle.diag_texts.specs.Rows.{row_of, text_in}
use Rattle.diag_texts.proofs.rows.text_in.Given as goal

abbrev pub invariant-loop-row : goal.invariant-loop-row
invariant-loop-row l = text_in (map row_of (drop l.row-index l.rows)) l.number ≡ text_in (map row_of l.rows) l.number
