use Rattle.std.proofs.Common.{◌≡◌, ◌-◌, length, take, drop, arith, length-drop, take_all, refl}
use Rattle.module_file.proofs.head.is_sealed.Goals as goal

pub returns : goal.returns
returns c =
    let head = c.args.head.now in
    let behind : take (length head - 24) (drop 24 head) ≡ drop 24 head = take_all _ _ (omega (arith, length-drop 24 head)) in
    rw (c.eq.ensures, behind, c.as_slice.ensures, c.seal_of.ensures) refl
