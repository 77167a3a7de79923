use Rattle.std.proofs.Common.{◌≡◌, ◌++◌, take}
use Rattle.std.specs.List.{flat_map, AllByRecursion}
use Rattle.module_file.proofs.form.put_list.Given as goal

abbrev pub invariant-loop-item : goal.invariant-loop-item
invariant-loop-item g l =
    (l.out.items ≡ l.initial.out.items ++ flat_map g.T.Form.spell (take l.item-index l.items))
    × (AllByRecursion g.T.Form.sure (take l.item-index l.items) → AllByRecursion g.T.Form.fits (take l.item-index l.items))
