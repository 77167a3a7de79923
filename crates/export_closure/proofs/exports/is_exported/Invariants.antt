-- No pattern so far matches.
use Rattle.std.proofs.Common.{◌≡◌, false, take}
use Rattle.std.specs.List.{list_any}
use Rattle.export_closure.specs.Closure.{matches}
use Rattle.export_closure.proofs.exports.is_exported.Given as goal

abbrev pub invariant-loop-pattern : goal.invariant-loop-pattern
invariant-loop-pattern l = list_any (matches l.rows l.sub.index) (take l.pattern-index l.pattern-items) ≡ false
