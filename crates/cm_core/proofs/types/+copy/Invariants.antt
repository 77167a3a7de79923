-- Each type so far has been copied.
use Rattle.std.proofs.Common.{◌≡◌, take}
use Rattle.cm_core.proofs.types.+copy.Given as goal

abbrev pub invariant-copy_all-loop-ty : goal.invariant-copy_all-loop-ty
invariant-copy_all-loop-ty l = l.copied ≡ take l.ty-index l.types
