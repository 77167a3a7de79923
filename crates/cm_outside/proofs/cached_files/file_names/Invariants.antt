use Rattle.std.proofs.Common.{◌≡◌, drop}
use Rattle.cm_outside.specs.Caches.{names_in, names_onto}
use Rattle.cm_outside.proofs.cached_files.file_names.Given as goal

abbrev pub invariant-loop-name : goal.invariant-loop-name
invariant-loop-name l = names_in l.files ≡ names_onto l.names.items (drop l.name-index l.files)
