use Rattle.std.proofs.Common.{◌≡◌, ◌++◌, take, drop}
use Rattle.cm_outside.specs.Trees.{with_path}
use Rattle.cm_outside.proofs.cached_files.place_of.Given as goal

abbrev pub invariant-loop-at : goal.invariant-loop-at
invariant-loop-at l = with_path l.name l.names ≡ take l.at l.names ++ with_path l.name (drop l.at l.names)
