-- What keeping a file leaves in a cache.
use Rattle.std.proofs.Common.{◌≡◌, inl, inr, ℕ, List, Option, Some, None, Result, Ok, Err, refl, ap, subst, ◌∙◌}
use Rattle.cm_outside.specs.Trees.{Files, Path}
use Rattle.cm_outside.specs.Caches.{Tells, Replaced, with_file}
use Rattle.module_file.specs.ModuleFile.{IsWellFormed, spelling, file_name_of}
use Rattle.module_file.specs.declared.index.Index.{Index}
use Rattle.build_store.specs.Kept.{IsPut, LeavesKept}

pub leaves_same : (i : Index) (files now : Option Files) → now ≡ files → LeavesKept i files now
leaves_same i None now is = is
leaves_same i (Some old) now is = (old, is, inl refl)

put_by : {A E : Type 0} → (r : Result A E) (name : Path) (file : List ℕ) (old new : Files) → Replaced name file old new r → IsPut name file old new
put_by (Ok x) name file old new h = inl h
put_by (Err e) name file old new h = inr h

leaves_put : {A E : Type 0} → (r : Result A E) (i : Index) → IsWellFormed i → (old new : Option Files)
    → Tells (λ o n. Replaced (file_name_of i.key) (spelling i) o n r) old new → LeavesKept i old new
leaves_put r i well None new tells = tells
leaves_put r i well (Some old) None tells = absurd tells
leaves_put r i well (Some old) (Some new) tells = (new, refl, inr (well, put_by r (file_name_of i.key) (spelling i) old new tells))

-- where its file is replaced by the one that says this, only that is left
pub leaves_replaced : {A E : Type 0} → (r : Result A E) (i : Index) (name : Path) (bytes : List ℕ) → IsWellFormed i → name ≡ file_name_of i.key → bytes ≡ spelling i → (old new : Option Files)
    → Tells (λ o n. Replaced name bytes o n r) old new → LeavesKept i old new
leaves_replaced r i name bytes well name_is bytes_are old new tells =
    let P : Path → Type 0 = λ p. Tells (λ o n. Replaced p bytes o n r) old new in
    let Q : List ℕ → Type 0 = λ b. Tells (λ o n. Replaced (file_name_of i.key) b o n r) old new in
    leaves_put r i well old new (subst Q bytes_are (subst P name_is tells))

-- a call that was answered put the file there
pub put_there : {A E : Type 0} → (r : Result A E) (x : A) (name own : Path) (bytes file : List ℕ) (fs : Files) (old new : Option Files) → r ≡ Ok x → old ≡ Some fs
    → name ≡ own → bytes ≡ file → Tells (λ o n. Replaced name bytes o n r) old new → new ≡ Some (with_file own file fs)
put_there {A = A} {E = E} r x name own bytes file fs old new is told name_is bytes_are tells =
    let P : Result A E → Type 0 = λ q. Tells (λ o n. Replaced name bytes o n q) old new in
    let Q : Option Files → Type 0 = λ o. Tells (λ o n. n ≡ with_file name bytes o) o new in
    by new (subst Q told (subst P is tells)) ∙ ap (λ n. Some (with_file n bytes fs)) name_is ∙ ap (λ b. Some (with_file own b fs)) bytes_are
  where
    by : (new : Option Files) → Tells (λ o n. n ≡ with_file name bytes o) (Some fs) new → new ≡ Some (with_file name bytes fs)
    by None h = absurd h
    by (Some n) h = ap (λ f. Some f) h
