use Rattle.std.proofs.Common.{◌≡◌, drop}
use Rattle.cm_outside.specs.Trees.{headers_in, headers_onto}
use Rattle.cm_outside.proofs.files.headers_in.Given as goal

abbrev pub invariant-loop-path : goal.invariant-loop-path
invariant-loop-path l = headers_in l.folder l.files ≡ headers_onto l.folder l.paths.items (drop l.path-index l.files)
