-- Kept answers that grew, over more than one question.
use Rattle.std.proofs.Common.{◌≡◌, ℕ, ◌<◌, ◌≤◌, suc, List, [], ◌∷◌, ◌++◌, length, map, drop, slice_get, Some, refl, ap, ◌∙◌, arith}
use Rattle.std.proofs.lemmas.Option.{slice_get_within}
use Rattle.cm_outside.specs.Keeping.{Grew}
use Rattle.cm_outside.specs.declared.question.Record.{Record}

pub Grew-same : (kept : List Record) → Grew kept kept
Grew-same kept = record { longer = omega arith; same = λ at h. refl }

pub Grew-after : (old mid new : List Record) → Grew old mid → Grew mid new → Grew old new
Grew-after old mid new a b = record { longer = omega (arith, a.longer, b.longer); same = λ at h. b.same at (omega (arith, a.longer)) ∙ a.same at h }

-- the records of numbers stay
pub numbered_after : (old new : List Record) (numbers : List ℕ) (records : List Record) → Grew old new
    → map (slice_get old) numbers ≡ map Some records → map (slice_get new) numbers ≡ map Some records
numbered_after old new [] rs grew h = h
numbered_after old new (n ∷ ns) [] grew h = absurd (cc)
numbered_after old new (n ∷ ns) (r ∷ rs) grew h =
    let first : slice_get old n ≡ Some r = cc in
    let rest : map (slice_get old) ns ≡ map Some rs = cc in
    let head : slice_get new n ≡ Some r = grew.same n (slice_get_within old n r first) ∙ first in
    let tail = numbered_after old new ns rs grew rest in
    cc

-- what was kept stands in front
front_of : (old new : List Record) → length old ≤ length new → ((at : ℕ) → at < length old → slice_get new at ≡ slice_get old at) → new ≡ old ++ drop (length old) new
front_of [] new longer same = refl
front_of (x ∷ xs) [] longer same = absurd (omega arith)
front_of (x ∷ xs) (y ∷ ys) longer same =
    let first : Some y ≡ Some x = same 0 (omega arith) in
    let head : y ≡ x = cc in
    let tail = front_of xs ys (omega arith) (λ at h. same (suc at) (omega arith)) in
    ap (λ z. z ∷ ys) head ∙ ap (λ l. x ∷ l) tail

pub Grew-front : (old new : List Record) → Grew old new → new ≡ old ++ drop (length old) new
Grew-front old new grew = front_of old new grew.longer grew.same
