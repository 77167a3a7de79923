-- The names so far are numbered.
use Rattle.std.proofs.Common.{◌≡◌, take}
use Rattle.cm_core.proofs.sub_list.SubList.new.Given as goal

abbrev pub invariant-loop-name : goal.invariant-loop-name
invariant-loop-name l = l.texts ≡ take l.name-index l.name-items
