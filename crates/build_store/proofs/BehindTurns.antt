-- What beginning a module and a turn leave behind.
use Rattle.std.proofs.Common.{◌≡◌, ◌≢◌, ◌⊎◌, inl, inr, refl, sym, ap, ◌∙◌, subst, ℕ, ◌+◌, ◌-◌, ◌^◌, ◌<◌, ◌≤◌, min, nat_le, Bool, true, false, not, ◌&&◌, ◌||◌, ◌==◌, List, [], ◌∷◌, length, Option, Some, None, Result, Ok, Err, OnOk, OnErr, arith, eq-eqb, eqb-true}
use Rattle.std.specs.Prelude.{if◌then◌else◌}
use Rattle.std.proofs.lemmas.Bool.{leb-true, leb-false}
use Rattle.std.proofs.lemmas.List.{get_or-set_other, get_or-set_same}
use Rattle.cm_outside.specs.Caches.{with_file}
use Rattle.cm_outside.specs.Faults.{Rose}
use Rattle.cm_outside.specs.Trees.{Files, Path, file_at}
use Rattle.cm_outside.specs.declared.question.Question.{Question}
use Rattle.cm_outside.specs.declared.question.Answer.{Answer}
use Rattle.module_file.specs.ModuleFile.{IsWellFormed, file_name_of, spelling}
use Rattle.module_file.specs.declared.index.Index.{Index}
use Rattle.module_file.specs.declared.index.Key.{Key}
use Rattle.build_store.specs.Held.{HasPlaces, IsEnded, choice_at, key_held, noted_as, without_choice}
use Rattle.build_store.specs.Images.{index_of, key_of}
use Rattle.build_store.specs.Kept.{IsPut, LeavesKept, largest_kept}
use Rattle.build_store.specs.Left.{LeavesOthers}
use Rattle.build_store.specs.LeftBehind.{Behind, BehindOf, FileBehind, IsBroken, IsFileBehind, ModuleBehind, has_built, has_ended, is_good, kept_image, kept_of}
use Rattle.build_store.specs.LeftBehindLaws.{behind_still, still_behind}
use Rattle.build_store.specs.Loads.{IsLoaded, part_by}
use Rattle.build_store.specs.Modules.{is_in}
use Rattle.build_store.specs.Report.{HasOwnFiles}
use Rattle.build_store.specs.Targets.{HasOwnNames, name_of}
use Rattle.build_store.specs.Telling.{AreBegun, built_in, is_sources}
use Rattle.build_store.specs.TellingLaws.{apart}
use Rattle.build_store.specs.Turning.{slot_at, slots_after}
use Rattle.build_store.specs.declared.decide.Choice.{Choice}
use Rattle.build_store.specs.declared.decide.Choice.TheVariants.{Sources, File}
use Rattle.build_store.specs.declared.decide.Decision.{Decision}
use Rattle.build_store.specs.declared.held.Found.{Found}
use Rattle.build_store.specs.declared.held.Held.{Held}
use Rattle.build_store.specs.declared.held.Noted.{Noted}
use Rattle.build_store.specs.declared.part.Part.{Part}
use Rattle.build_store.specs.declared.slot.Slot.{Slot}
use Rattle.build_store.specs.declared.slot.Slot.TheVariants.{Unknown as IsUnknown, Busy as IsBusy, Cyclic as IsCyclic, Good as IsGood}
use Rattle.build_store.specs.declared.slot.Turn.{Turn}
use Rattle.build_store.specs.declared.slot.Turn.TheVariants.{Needs as NeedsFirst, Cyclic as ComesBack, Good as HasEnded}
use Rattle.build_store.proofs.BehindNoted.{built_other}
use Rattle.build_store.proofs.HeaderKeeps.{left_own, put_at}

and_false : (b : Bool) → b && false ≡ false
and_false false = refl
and_false true = refl

and_true : (b : Bool) → b && true ≡ b
and_true false = refl
and_true true = refl

-- ---- the file of a module

-- no call has changed it
pub file_still : (name : Path) (image : Option (List ℕ)) (old new : Option Files) (failed : Type 0) → new ≡ old → FileBehind name false image old new failed
file_still name image None new failed e = tt
file_still name image (Some x) None failed e = absurd (cc)
file_still name image (Some x) (Some y) failed e = let same : y ≡ x = cc in inl (ap (file_at name) same)

pub still_of : (h : Held) (m : ℕ) (t : Question → Answer) (files : Option Files) (failed : Type 0) → ModuleBehind h m false t files files failed
still_of h m t files failed = file_still (file_name_of (key_held h m)) (kept_image h.job h.table t m) files files failed refl

-- a module that is loaded
pub file_behind : (h : Held) (m : ℕ) (i : Index) (numbers : List ℕ) (built : Bool) (t : Question → Answer) (files : Option Files) (failed : Type 0) → choice_at h m ≡ File i numbers
    → ModuleBehind h m (is_sources (choice_at h m) && built) t files files failed
file_behind h m i numbers built t files failed is =
    let P : Choice → Type 0 = λ c. ModuleBehind h m (is_sources c && built) t files files failed in subst P (sym is) (still_of h m t files failed)

-- and one that is interpreted from its header
pub sources_behind : (h : Held) (m : ℕ) (built : Bool) (t : Question → Answer) (files now : Option Files) (failed : Type 0) → choice_at h m ≡ Sources → ModuleBehind h m built t files now failed
    → ModuleBehind h m (is_sources (choice_at h m) && built) t files now failed
sources_behind h m built t files now failed is at =
    let P : Choice → Type 0 = λ c. ModuleBehind h m (is_sources c && built) t files now failed in subst P (sym is) at

-- keeping the file of an index
module _ (i : Index) (k0 k1 : ℕ) where
  put_in : (x y : Files) → (y ≡ x) ⊎ (IsWellFormed i × IsPut (file_name_of i.key) (spelling i) x y)
      → IsBroken (Some (spelling i)) (file_at (file_name_of i.key) x) (file_at (file_name_of i.key) y)
  put_in x y (inl same) = inl (ap (file_at (file_name_of i.key)) same)
  put_in x y (inr put) = left_own i x y put.1

  kept_in : (old new : Option Files) → LeavesKept i old new
      → ((fs : Files) → old ≡ Some fs → length (spelling i) ≤ largest_kept → (new ≡ Some (with_file (file_name_of i.key) (spelling i) fs)) ⊎ Rose k0 k1)
      → (largest_kept < length (spelling i) → new ≡ old)
      → FileBehind (file_name_of i.key) true (kept_of (Some i)) old new (Rose k0 k1)
  kept_in None new left put large = tt
  kept_in (Some x) None left put large = let e : None ≡ Some left.0 = left.1 in absurd (cc)
  kept_in (Some x) (Some y) left put large = by (nat_le (length (spelling i)) largest_kept) refl
    where
      name : Path
      name = file_name_of i.key

      same : left.0 ≡ y
      same = let e : Some y ≡ Some left.0 = left.1 in cc

      own : IsBroken (Some (spelling i)) (file_at name x) (file_at name y)
      own =
          let P : Files → Type 0 = λ f. (f ≡ x) ⊎ (IsWellFormed i × IsPut name (spelling i) x f) in
          put_in x y (subst P same left.2)

      at : (Some y ≡ Some (with_file name (spelling i) x)) ⊎ Rose k0 k1
          → (file_at name y ≡ Some (spelling i)) ⊎ (Rose k0 k1 × IsBroken (Some (spelling i)) (file_at name x) (file_at name y))
      at (inl is) = let put : y ≡ with_file name (spelling i) x = cc in inl (ap (file_at name) put ∙ put_at name (spelling i) x)
      at (inr rose) = inr (rose, own)

      by : (b : Bool) → nat_le (length (spelling i)) largest_kept ≡ b
          → FileBehind name true (kept_of (Some i)) (Some x) (Some y) (Rose k0 k1)
      by true small =
          let P : Option (List ℕ) → Type 0 = λ image. FileBehind name true image (Some x) (Some y) (Rose k0 k1) in
          let is : kept_of (Some i) ≡ Some (spelling i) = ap (λ b. if b then Some (spelling i) else None) small in
          subst P (sym is) (at (put x refl (leb-true (length (spelling i)) largest_kept small)))
      by false big =
          let P : Option (List ℕ) → Type 0 = λ image. FileBehind name true image (Some x) (Some y) (Rose k0 k1) in
          let is : kept_of (Some i) ≡ None = ap (λ b. if b then Some (spelling i) else None) big in
          let e : Some y ≡ Some x = large (leb-false (length (spelling i)) largest_kept big) in
          let alike : y ≡ x = cc in
          subst P (sym is) (inl (ap (file_at name) alike))

  pub kept_behind : (key : Key) (t : Question → Answer) (old new : Option Files) → i.key ≡ key → index_of i.key t ≡ Some i → LeavesKept i old new
      → ((fs : Files) → old ≡ Some fs → length (spelling i) ≤ largest_kept → (new ≡ Some (with_file (file_name_of i.key) (spelling i) fs)) ⊎ Rose k0 k1)
      → (largest_kept < length (spelling i) → new ≡ old)
      → FileBehind (file_name_of key) true (kept_of (index_of key t)) old new (Rose k0 k1)
  kept_behind key t old new is image left put large =
      let P : Key → Type 0 = λ k. FileBehind (file_name_of k) true (kept_of (index_of k t)) old new (Rose k0 k1) in
      let Q : Option Index → Type 0 = λ o. FileBehind (file_name_of i.key) true (kept_of o) old new (Rose k0 k1) in
      subst P is (subst Q (sym image) (kept_in old new left put large))

-- ---- how modules are interpreted

pub end_choices : {X E : Type 0} (r : Result X E) (h g : Held) (n : ℕ) (part : Part) (found : Found) → OnOk r (IsEnded h g n part found) → OnErr r (g ≡ h) → g.choices ≡ h.choices
end_choices (Ok x) h g n part found ok err = ok.choices
end_choices (Err e) h g n part found ok err = ap (λ (k : Held). k.choices) err

pub choices_same : (h g : Held) → g.choices ≡ h.choices → (m : ℕ) → slot_at g.slots m ≡ IsBusy → choice_at g m ≡ choice_at h m
choices_same h g same m busy = ap (λ (cs : List Choice). choice_at (record h { choices = cs }) m) same

-- a module that was loaded isn't in progress
pub choices_loaded : (h g : Held) (n : ℕ) (part : Part) (found : Found) → n < length h.slots → IsEnded (without_choice h n) g n part found → (m : ℕ) → slot_at g.slots m ≡ IsBusy → choice_at g m ≡ choice_at h m
choices_loaded h g n part found within ended m busy =
    let other : m ≢ n = λ e. (
    let good : slot_at g.slots n ≡ IsGood = ap (λ s. slot_at s n) ended.slots ∙ get_or-set_same {A = Slot} h.slots n IsGood IsUnknown within in
    let f : IsBusy ≡ IsGood = sym busy ∙ ap (λ k. slot_at g.slots k) e ∙ good in absurd (cc)
    ) in
    ap (λ (cs : List Choice). choice_at (record h { choices = cs }) m) ended.choices ∙ get_or-set_other {A = Choice} h.choices n m Sources Sources other

pub choices_of : (h g : Held) (n : ℕ) (needs : List ℕ) → HasPlaces h → n < length h.table.targets → (c : Choice) → IsLoaded h g n needs c → (m : ℕ) → slot_at g.slots m ≡ IsBusy → choice_at g m ≡ choice_at h m
choices_of h g n needs places within Sources loaded m busy = absurd loaded
choices_of h g n needs places within (File i numbers) loaded m busy =
    choices_loaded h g n (part_by i) (record { asked = numbers; needs = needs }) (omega (arith, places.slots, within)) loaded m busy

-- ---- a module is begun

module _ (old : Held) (number : ℕ) (d : Decision) (unknown : slot_at old.slots number ≡ IsUnknown) where
  unbuilt_begun : (within : number < length old.slots) (m : ℕ) → has_built (noted_as old number d) m ≡ has_built old m
  unbuilt_begun within m = by (m == number) refl
    where
      now : Held
      now = noted_as old number d

      one : Noted
      one = record { number = number; origin = d.origin }

      here : has_built now number ≡ has_built old number
      here =
          let busy : slot_at now.slots number ≡ IsBusy = get_or-set_same {A = Slot} old.slots number IsBusy IsUnknown within in
          ap (λ s. is_good s && built_in now.noted number) busy ∙ sym (ap (λ s. is_good s && built_in old.noted number) unknown)

      there : m ≢ number → has_built now m ≡ has_built old m
      there other =
          let slot : slot_at now.slots m ≡ slot_at old.slots m = get_or-set_other {A = Slot} old.slots number m IsBusy IsUnknown other in
          λ i. is_good (slot i) && built_other old.noted one m other i

      by : (b : Bool) → m == number ≡ b → has_built now m ≡ has_built old m
      by true is = let P : ℕ → Type 0 = λ k. has_built now k ≡ has_built old k in subst P (sym (eqb-true m number is)) here
      by false is = there (λ e. let yes : m == number ≡ true = eq-eqb m number e in absurd (cc))

pub behind_begun : (old new : Held) (number : ℕ) (d : Decision) (fs now : Option Files) (t : Question → Answer) (k0 k1 : ℕ) → new ≡ noted_as old number d → slot_at old.slots number ≡ IsUnknown → number < length old.slots
    → now ≡ fs → k0 ≤ k1 → Behind fs now old new t k0 k1
behind_begun old new number d fs now t k0 k1 held unknown within same later =
    let P : Held → Type 0 = λ h. Behind fs now old h t k0 k1 in
    subst P (sym held) (behind_still fs now old (noted_as old number d) t k0 k1 same refl refl (unbuilt_begun old number d unknown within) later)

-- ---- a turn

module _ (old new : Held) (number : ℕ) (begun : AreBegun old) (noted : new.noted ≡ old.noted) (busy : slot_at old.slots number ≡ IsBusy) (within : number < length old.slots) where
  not_before : has_built old number ≡ false
  not_before = ap (λ s. is_good s && built_in old.noted number) busy

  built_now : (turn : Turn) → new.slots ≡ slots_after turn number old.slots → has_built new number ≡ is_sources (choice_at old number) && has_ended turn
  built_now (NeedsFirst x) slots =
      ap (λ s. is_good s && built_in new.noted number) (ap (λ s. slot_at s number) slots ∙ busy) ∙ sym (and_false (is_sources (choice_at old number)))
  built_now ComesBack slots =
      let slot : slot_at new.slots number ≡ IsCyclic = ap (λ s. slot_at s number) slots ∙ get_or-set_same {A = Slot} old.slots number IsCyclic IsUnknown within in
      ap (λ s. is_good s && built_in new.noted number) slot ∙ sym (and_false (is_sources (choice_at old number)))
  built_now HasEnded slots =
      let slot : slot_at new.slots number ≡ IsGood = ap (λ s. slot_at s number) slots ∙ get_or-set_same {A = Slot} old.slots number IsGood IsUnknown within in
      ap (λ s. is_good s && built_in new.noted number) slot ∙ ap (λ ns. built_in ns number) noted ∙ sym (begun.chosen number busy) ∙ sym (and_true (is_sources (choice_at old number)))

  built_else : (turn : Turn) → new.slots ≡ slots_after turn number old.slots → (m : ℕ) → m ≢ number → has_built new m ≡ has_built old m
  built_else turn slots m other = λ i. is_good ((ap (λ s. slot_at s m) slots ∙ slot turn) i) && built_in (noted i) m
    where
      slot : (turn : Turn) → slot_at (slots_after turn number old.slots) m ≡ slot_at old.slots m
      slot (NeedsFirst x) = refl
      slot ComesBack = get_or-set_other {A = Slot} old.slots number m IsCyclic IsUnknown other
      slot HasEnded = get_or-set_other {A = Slot} old.slots number m IsGood IsUnknown other

  module _ (turn : Turn) (slots : new.slots ≡ slots_after turn number old.slots) (x y : Files) (t : Question → Answer) (k0 k1 : ℕ) (later : k0 ≤ k1) (own : HasOwnFiles old.job old.table) (names : HasOwnNames old.table)
      (place : number < length old.table.targets) (others : (other : Path) → other ≢ file_name_of (key_held old number) → file_at other y ≡ file_at other x) where
    stays_built : (m : ℕ) → has_built old m ≡ true → has_built new m ≡ true
    stays_built m is =
        let other : m ≢ number = λ e. (let f : has_built old m ≡ false = ap (has_built old) e ∙ not_before in absurd (cc)) in
        built_else turn slots m other ∙ is

    -- whether its file may be broken, and what it is then
    turned : (broken : List ℕ) → min (k0 + length broken) (2 ^ 64 - 1) ≤ k1
        → IsFileBehind (is_sources (choice_at old number) && has_ended turn) (is_in number broken) (kept_image old.job old.table t number) (file_at (file_name_of (key_held old number)) x) (file_at (file_name_of (key_held old number)) y)
        → BehindOf x y old new t k0 k1
    turned broken few here = record { broken = broken; few = few; later = later; stays = stays_built; each = λ m there. at m there (m == number) refl }
      where
        IsAt : ℕ → Type 0
        IsAt m = IsFileBehind (not (has_built old m) && has_built new m) (is_in m broken) (kept_image old.job old.table t m) (file_at (file_name_of (key_of old.job (name_of old.table m))) x) (file_at (file_name_of (key_of old.job (name_of old.table m))) y)

        at_number : IsAt number
        at_number =
            let P : Bool → Type 0 = λ b. IsFileBehind b (is_in number broken) (kept_image old.job old.table t number) (file_at (file_name_of (key_held old number)) x) (file_at (file_name_of (key_held old number)) y) in
            let is : not (has_built old number) && has_built new number ≡ is_sources (choice_at old number) && has_ended turn = ap (λ b. not b && has_built new number) not_before ∙ built_now turn slots in
            subst P (sym is) here

        at_other : (m : ℕ) → m < length old.table.targets → m ≢ number → IsAt m
        at_other m there other =
            let name = file_name_of (key_of old.job (name_of old.table m)) in
            let apart_name : name ≢ file_name_of (key_held old number) = λ e. other (apart old.table names m number there place (own m number there place e)) in
            still_behind (has_built old m) (has_built new m) (is_in m broken) (kept_image old.job old.table t m) (file_at name x) (file_at name y) (built_else turn slots m other) (others name apart_name)

        at : (m : ℕ) → m < length old.table.targets → (b : Bool) → m == number ≡ b → IsAt m
        at m there true is = subst (λ (k : ℕ). IsAt k) (sym (eqb-true m number is)) at_number
        at m there false is = at_other m there (λ e. let yes : m == number ≡ true = eq-eqb m number e in absurd (cc))

    turned_by : FileBehind (file_name_of (key_held old number)) (is_sources (choice_at old number) && has_ended turn) (kept_image old.job old.table t number) (Some x) (Some y) (Rose k0 k1) → BehindOf x y old new t k0 k1
    turned_by (inl whole) = turned [] (omega (arith, later)) whole
    turned_by (inr (rose, broken)) =
        let one : is_in number (number ∷ []) ≡ true = ap (λ b. b || false) (eq-eqb number number refl) in
        let P : Bool → Type 0 = λ b. IsFileBehind (is_sources (choice_at old number) && has_ended turn) b (kept_image old.job old.table t number) (file_at (file_name_of (key_held old number)) x) (file_at (file_name_of (key_held old number)) y) in
        turned (number ∷ []) (omega (arith, rose)) (subst P (sym one) broken)

  pub behind_turned : (turn : Turn) (fs now : Option Files) (t : Question → Answer) (k0 k1 : ℕ) → new.job ≡ old.job → new.table ≡ old.table → new.slots ≡ slots_after turn number old.slots → number < length old.table.targets → k0 ≤ k1
      → LeavesOthers (file_name_of (key_held old number)) fs now → ModuleBehind old number (is_sources (choice_at old number) && has_ended turn) t fs now (Rose k0 k1) → Behind fs now old new t k0 k1
  behind_turned turn None now t k0 k1 job table slots place later others here = tt
  behind_turned turn (Some x) None t k0 k1 job table slots place later others here = absurd here
  behind_turned turn (Some x) (Some y) t k0 k1 job table slots place later others here = λ own names.
      let e : Some y ≡ Some others.0 = others.1 in
      let same : y ≡ others.0 = cc in
      (job, table, turned_by turn slots x y t k0 k1 later own names place (λ name other. ap (file_at name) same ∙ others.2 name other) here)
