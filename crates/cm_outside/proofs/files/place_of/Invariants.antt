use Rattle.std.proofs.Common.{◌≡◌, ◌++◌, take, drop}
use Rattle.cm_outside.specs.Trees.{with_path}
use Rattle.cm_outside.proofs.files.place_of.Given as goal

abbrev pub invariant-loop-at : goal.invariant-loop-at
invariant-loop-at l = with_path l.path l.paths ≡ take l.at l.paths ++ with_path l.path (drop l.at l.paths)
