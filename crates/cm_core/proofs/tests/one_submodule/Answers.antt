-- One name differs from no other.
use Rattle.std.specs.List.{IsDistinct}
use Rattle.cm_core.proofs.tests.one_submodule.Goals as goal

pub new-requires : goal.new-requires
unfolding IsDistinct
new-requires c = rw (c.in_ok-push.ensures.ok, c.new-names.ensures) (tt, tt)
