-- Laws of what calls leave behind: nothing changes where nothing is built, and what they leave together, one after another. own
use Rattle.std.proofs.Common.{◌≡◌, inr, refl, sym, ap, ◌∙◌, subst, ℕ, ◌<◌, ◌≤◌, Bool, true, false, not, ◌&&◌, ◌||◌, ◌==◌, List, [], ◌∷◌, ◌++◌, length, take, Option, Some, None, arith, true≢false, length-append}
use Rattle.cm_outside.specs.Trees.{Files, file_at}
use Rattle.cm_outside.specs.declared.question.Question.{Question}
use Rattle.cm_outside.specs.declared.question.Answer.{Answer}
use Rattle.module_file.specs.ModuleFile.{file_name_of}
use Rattle.build_store.specs.Images.{key_of}
use Rattle.build_store.specs.Left.{IsFrontOf}
use Rattle.build_store.specs.LeftBehind.{Behind, BehindOf, IsBroken, IsFileBehind, file_built, has_built, kept_image}
use Rattle.build_store.specs.Modules.{is_in}
use Rattle.build_store.specs.Report.{HasOwnFiles}
use Rattle.build_store.specs.Targets.{HasOwnNames, name_of}
use Rattle.build_store.specs.declared.held.Held.{Held}
use Rattle.build_store.specs.declared.job.Job.{Job}
use Rattle.build_store.specs.declared.table.Table.{Table}

-- ---- one module

full_front : (bytes : List ℕ) → take (length bytes) bytes ≡ bytes
full_front [] = refl
full_front (b ∷ bytes) = ap (λ bs. b ∷ bs) (full_front bytes)

-- a file that was put is a front of itself
pub put_broken : (image before now : Option (List ℕ)) → now ≡ file_built image before → IsBroken image before now
put_broken None before now e = e
put_broken (Some bytes) before now e = let P : Option (List ℕ) → Type 0 = IsFrontOf bytes in inr (subst P (sym e) (length bytes, sym (full_front bytes)))

pub may_be_broken : (built broken : Bool) (image before now : Option (List ℕ)) → IsFileBehind built broken image before now → IsFileBehind built true image before now
may_be_broken false broken image before now h = h
may_be_broken true false image before now h = put_broken image before now h
may_be_broken true true image before now h = h

-- with more that may be broken
pub more_broken : (built broken more : Bool) (image before now : Option (List ℕ)) → IsFileBehind built broken image before now → IsFileBehind built (broken || more) image before now
more_broken built true more image before now h = h
more_broken built false false image before now h = h
more_broken built false true image before now h = may_be_broken built false image before now h

pub or_broken : (built broken more : Bool) (image before now : Option (List ℕ)) → IsFileBehind built more image before now → IsFileBehind built (broken || more) image before now
or_broken built false more image before now h = h
or_broken built true more image before now h = may_be_broken built more image before now h

pub unbuilt : (built : Bool) → not built && built ≡ false
unbuilt false = refl
unbuilt true = refl

-- nothing changes of a module that is as it was
pub still_behind : (was built broken : Bool) (image before now : Option (List ℕ)) → built ≡ was → now ≡ before → IsFileBehind (not was && built) broken image before now
still_behind was built broken image before now same e =
    let P : Bool → Type 0 = λ b. IsFileBehind b broken image before now in
    subst P (sym (ap (λ b. not was && b) same ∙ unbuilt was)) e

-- before, in the middle and now
file_then : (was half built broken more : Bool) (image a b c : Option (List ℕ)) → (was ≡ true → half ≡ true) → (half ≡ true → built ≡ true)
    → IsFileBehind (not was && half) broken image a b → IsFileBehind (not half && built) more image b c → IsFileBehind (not was && built) (broken || more) image a c
file_then true true built broken more image a b c f g h k = k ∙ h
file_then true false built broken more image a b c f g h k = absurd (true≢false (sym (f refl)))
file_then false true true broken more image a b c f g h k =
    let P : Option (List ℕ) → Type 0 = λ o. IsFileBehind true broken image a o in more_broken true broken more image a c (subst P (sym k) h)
file_then false true false broken more image a b c f g h k = absurd (true≢false (sym (g refl)))
file_then false false true broken more image a b c f g h k =
    let P : Option (List ℕ) → Type 0 = λ o. IsFileBehind true more image o c in or_broken true broken more image a c (subst P h k)
file_then false false false broken more image a b c f g h k = k ∙ h

in_both : (x : ℕ) (xs ys : List ℕ) → is_in x (xs ++ ys) ≡ (is_in x xs || is_in x ys)
in_both x [] ys = refl
in_both x (y ∷ xs) ys = by (x == y) (in_both x xs ys)
  where
    by : (b : Bool) → is_in x (xs ++ ys) ≡ (is_in x xs || is_in x ys) → (b || is_in x (xs ++ ys)) ≡ ((b || is_in x xs) || is_in x ys)
    by true rest = refl
    by false rest = rest

-- ---- all modules

-- no module is built
pub behind_still : (fs now : Option Files) (old new : Held) (t : Question → Answer) (k0 k1 : ℕ) → now ≡ fs → new.job ≡ old.job → new.table ≡ old.table → ((m : ℕ) → has_built new m ≡ has_built old m) → k0 ≤ k1
    → Behind fs now old new t k0 k1
behind_still None now old new t k0 k1 e job table same later = tt
behind_still (Some files) None old new t k0 k1 e job table same later = absurd (cc)
behind_still (Some files) (Some after) old new t k0 k1 e job table same later = λ own names.
    let alike : after ≡ files = cc in (
      job,
      table,
      record {
        broken = [];
        few = omega (arith, later);
        later = later;
        stays = λ m is. same m ∙ is;
        each = λ m within.
            (let name = file_name_of (key_of old.job (name_of old.table m)) in
            still_behind (has_built old m) (has_built new m) false (kept_image old.job old.table t m) (file_at name files) (file_at name after) (same m) (ap (file_at name) alike));
      },
    )

pub behind_same : (fs : Option Files) (h : Held) (t : Question → Answer) (k : ℕ) → Behind fs fs h h t k k
behind_same fs h t k = behind_still fs fs h h t k k refl refl refl (λ m. refl) (omega arith)

module _ (x y z : Files) (a b c : Held) (t : Question → Answer) (k0 k1 k2 : ℕ) (job : b.job ≡ a.job) (table : b.table ≡ a.table) (h : BehindOf x y a b t k0 k1) (k : BehindOf y z b c t k1 k2) where
  -- what the later calls left, of the same job
  each_later : (m : ℕ) → m < length a.table.targets
      → IsFileBehind (not (has_built b m) && has_built c m) (is_in m k.broken) (kept_image a.job a.table t m) (file_at (file_name_of (key_of a.job (name_of a.table m))) y) (file_at (file_name_of (key_of a.job (name_of a.table m))) z)
  each_later m within =
      let P : Job × Table → Type 0 = λ j. m < length j.1.targets
      → IsFileBehind (not (has_built b m) && has_built c m) (is_in m k.broken) (kept_image j.0 j.1 t m) (file_at (file_name_of (key_of j.0 (name_of j.1 m))) y) (file_at (file_name_of (key_of j.0 (name_of j.1 m))) z) in
      subst P (λ i. (job i, table i)) (k.each m) within

  behind_both : BehindOf x z a c t k0 k2
  behind_both = record {
    broken = h.broken ++ k.broken;
    few = (let whole = length-append h.broken k.broken in omega (arith, whole, h.few, k.few, h.later, k.later));
    later = omega (arith, h.later, k.later);
    stays = λ m is. k.stays m (h.stays m is);
    each = λ m within.
        (let name = file_name_of (key_of a.job (name_of a.table m)) in
        let P : Bool → Type 0 = λ broken. IsFileBehind (not (has_built a m) && has_built c m) broken (kept_image a.job a.table t m) (file_at name x) (file_at name z) in
        subst P (sym (in_both m h.broken k.broken))
        (file_then (has_built a m) (has_built b m) (has_built c m) (is_in m h.broken) (is_in m k.broken) (kept_image a.job a.table t m) (file_at name x) (file_at name y) (file_at name z)
        (h.stays m) (k.stays m) (h.each m within) (each_later m within)));
  }

pub behind_then : (fa fb fc : Option Files) (a b c : Held) (t : Question → Answer) (k0 k1 k2 : ℕ) → Behind fa fb a b t k0 k1 → Behind fb fc b c t k1 k2 → Behind fa fc a c t k0 k2
behind_then None fb fc a b c t k0 k1 k2 h k = tt
behind_then (Some x) None fc a b c t k0 k1 k2 h k = absurd h
behind_then (Some x) (Some y) None a b c t k0 k1 k2 h k = k
behind_then (Some x) (Some y) (Some z) a b c t k0 k1 k2 h k = λ own names.
    let first = h own names in
    let F : Job × Table → Type 0 = λ j. HasOwnFiles j.0 j.1 in
    let second = k (subst F (λ i. (sym first.0 i, sym first.1 i)) own) (subst (λ (j : Table). HasOwnNames j) (sym first.1) names) in
    (second.0 ∙ first.0, second.1 ∙ first.1, behind_both x y z a b c t k0 k1 k2 first.0 first.1 first.2 second.2)
