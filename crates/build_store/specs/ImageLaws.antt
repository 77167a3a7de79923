-- Laws of images: an image is true, and so is each strict front of one; a file whose records the present answers
-- agree with says what they say. own
use Rattle.std.proofs.Common.{◌≡◌, ℕ, ◌<◌, List, length, take, Option, Some, None, refl, sym, ap, subst, ◌∙◌}
use Rattle.std.specs.Option.{option_map}
use Rattle.cm_outside.specs.declared.question.Question.{Question}
use Rattle.cm_outside.specs.declared.question.Answer.{Answer}
use Rattle.cm_outside.specs.declared.question.Record.{Record}
use Rattle.cm_outside.specs.Asks.{value, asked, begun, Agrees, frame_value, frame_asked, frame_begun}
use Rattle.cm_outside.specs.Firsts.{firsts}
use Rattle.cm_outside.proofs.Firsts.{agrees_own, agrees_firsts, agrees_all}
use Rattle.module_file.specs.ModuleFile.{spelling, IsWellFormed}
use Rattle.module_file.specs.Whole.{spelling_injective, no_front}
use Rattle.module_file.specs.declared.index.Index.{Index}
use Rattle.module_file.specs.declared.index.Key.{Key}
use Rattle.build_store.specs.Images.{IsImage, IsTrueFile, Outcome, index_of, index_by, interpreted}
use Rattle.build_store.specs.Origins.{IsSealed}

-- an index has the records of its interpretation
pub records_are : (k : Key) (t : Question → Answer) (i : Index) → index_of k t ≡ Some i → i.records ≡ firsts (asked (interpreted k) t)
records_are k t i is = by (value (interpreted k) t) is
  where
    by : (v : Option Outcome) → option_map (index_by k (asked (interpreted k) t) (begun (interpreted k) t)) v ≡ Some i → i.records ≡ firsts (asked (interpreted k) t)
    by None h = absurd (cc)
    by (Some o) h = let at : index_by k (asked (interpreted k) t) (begun (interpreted k) t) o ≡ i = cc in ap (λ (j : Index). j.records) (sym at)

pub image_is_true : (file : List ℕ) → IsImage file → IsTrueFile file
image_is_true file image index is_sealed =
    let same : image.0 ≡ index = spelling_injective image.0 index image.1.well_formed is_sealed.well_formed (sym image.1.spelled ∙ is_sealed.spelled) in
    let P : Index → Type 0 = λ i. (t : Question → Answer) × Agrees t i.records × (index_of i.key t ≡ Some i) in
    let t = image.2.0 in
    let Q : List Record → Type 0 = Agrees t in
    subst P same (t, subst Q (sym (records_are image.0.key t image.0 image.2.1)) (agrees_firsts t _ (agrees_own (interpreted image.0.key) t)), image.2.1)

-- a strict front of an image is not sealed
pub front_is_not_sealed : (file : List ℕ) (n : ℕ) → IsImage file → n < length file → IsSealed (take n file) → ⊥
front_is_not_sealed file n image less sealed =
    let P : List ℕ → Type 0 = λ f. n < length f in
    no_front image.0 sealed.0 n image.1.well_formed sealed.1.well_formed (subst P image.1.spelled less)
    (ap (take n) (sym image.1.spelled) ∙ sealed.1.spelled)

pub front_is_true : (file : List ℕ) (n : ℕ) → IsImage file → n < length file → IsTrueFile (take n file)
front_is_true file n image less index is_sealed = absurd (front_is_not_sealed file n image less (index, is_sealed))

-- The frame law of images: answers that agree with the records of an image have the same image.
pub frame_index : (i : Index) (old t : Question → Answer) → index_of i.key old ≡ Some i → Agrees t i.records → index_of i.key t ≡ Some i
frame_index i old t is agrees =
    let P : List Record → Type 0 = Agrees t in
    let asked_alike : Agrees t (asked (interpreted i.key) old) =
    agrees_all old t (asked (interpreted i.key) old) (agrees_own (interpreted i.key) old) (subst P (records_are i.key old i is) agrees) in
    let same_value : value (interpreted i.key) t ≡ value (interpreted i.key) old = frame_value (interpreted i.key) old t asked_alike in
    let same_records : asked (interpreted i.key) t ≡ asked (interpreted i.key) old = frame_asked (interpreted i.key) old t asked_alike in
    let same_begun : begun (interpreted i.key) t ≡ begun (interpreted i.key) old = frame_begun (interpreted i.key) old t asked_alike in
    (λ j. option_map (index_by i.key (same_records j) (same_begun j)) (same_value j)) ∙ is

-- what a true file says that the present answers agree with is what interpreting its key over them says
pub current_index : (i : Index) (t : Question → Answer) → IsWellFormed i → IsTrueFile (spelling i) → Agrees t i.records → index_of i.key t ≡ Some i
current_index i t well truth agrees =
    let s = truth i (record { well_formed = well; spelled = refl }) in
    frame_index i s.0 t s.2 agrees
