-- What calls leave of a cache, one after another.
use Rattle.std.proofs.Common.{◌≡◌, inl, inr, refl, sym, ◌∙◌, subst, ℕ, List, Option, Some, None}
use Rattle.cm_outside.specs.Trees.{Files, Path}
use Rattle.module_file.specs.ModuleFile.{spelling}
use Rattle.build_store.specs.Left.{IsFrontOf, IsLeftAt, Leaves}

pub leaves_same : (files : Option Files) → Leaves files files
leaves_same None = refl
leaves_same (Some files) = (files, refl, λ name. inl refl)

pub leaves_as : (old new : Option Files) → new ≡ old → Leaves old new
leaves_as None new e = e
leaves_as (Some files) new e = (files, e, λ name. inl refl)

left_then : (name : Path) (a b c : Files) → IsLeftAt name a b → IsLeftAt name b c → IsLeftAt name a c
left_then name a b c (inl e) (inl f) = inl (f ∙ e)
left_then name a b c (inr h) (inl f) = inr (h.0, h.1, h.2, (let P : Option (List ℕ) → Type 0 = λ o. IsFrontOf (spelling h.0) o in subst P (sym f) h.3))
left_then name a b c h (inr k) = inr k

pub leaves_then : (a b c : Option Files) → Leaves a b → Leaves b c → Leaves a c
leaves_then None b c h k = by b h k
  where
    by : (b : Option Files) → b ≡ None → Leaves b c → c ≡ None
    by None e k = k
    by (Some y) e k = absurd (cc)
leaves_then (Some x) None c h k = let e : None ≡ Some h.0 = h.1 in absurd (cc)
leaves_then (Some x) (Some y) c h k =
    let e : Some y ≡ Some h.0 = h.1 in
    let same : h.0 ≡ y = cc in
    (k.0, k.1, λ name. left_then name x y k.0 (let P : Files → Type 0 = λ f. IsLeftAt name x f in subst P same (h.2 name)) (k.2 name))
