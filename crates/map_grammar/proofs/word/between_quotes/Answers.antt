use Rattle.std.proofs.Common.{arith}
use Rattle.std.proofs.lemmas.Str.{IsCharBoundary-after_ascii, IsCharBoundary-before_ascii}
use Rattle.map_grammar.proofs.Strings.{string_bounds}
use Rattle.map_grammar.proofs.word.between_quotes.Goals as goal

pub overflow_sub-text : goal.overflow_sub-text
overflow_sub-text c = let b = string_bounds c.args.text.now c.requires in omega arith

pub range-requires-clause-start_le_end : goal.range-requires-clause-start_le_end
range-requires-clause-start_le_end c = let b = string_bounds c.args.text.now c.requires in omega arith

pub range-requires-clause-start_boundary : goal.range-requires-clause-start_boundary
range-requires-clause-start_boundary c _ =
    let b = string_bounds c.args.text.now c.requires in
    IsCharBoundary-after_ascii c.args.text.now 0 c.utf8.text (omega arith) (omega arith)

pub range-requires-clause-end_boundary : goal.range-requires-clause-end_boundary
range-requires-clause-end_boundary c =
    let b = string_bounds c.args.text.now c.requires in
    IsCharBoundary-before_ascii c.args.text.now _ (omega arith) (omega arith)
