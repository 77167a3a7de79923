-- What beginning a module and a turn report.
use Rattle.std.proofs.Common.{◌≡◌, inl, inr, refl, sym, ap, ◌∙◌, subst, ℕ, ◌+◌, ◌-◌, ◌^◌, ◌<◌, ◌≤◌, min, Bool, true, false, List, [], ◌∷◌, length, Option, Some, None, arith}
use Rattle.std.proofs.lemmas.List.{append-nil}
use Rattle.cm_outside.specs.Asks.{Agrees}
use Rattle.cm_outside.specs.Faults.{Rose}
use Rattle.cm_outside.specs.Trees.{Files, file_at}
use Rattle.cm_outside.specs.declared.question.Question.{Question}
use Rattle.cm_outside.specs.declared.question.Answer.{Answer}
use Rattle.cm_outside.specs.declared.question.Record.{Record}
use Rattle.module_file.specs.ModuleFile.{file_name_of}
use Rattle.module_file.specs.declared.index.Index.{Index}
use Rattle.module_file.specs.declared.index.Key.{Key}
use Rattle.build_store.specs.Decisions.{IsChoice, IsNumberedChoice}
use Rattle.build_store.specs.Held.{key_held, noted_as}
use Rattle.build_store.specs.declared.decide.Decision.{Decision}
use Rattle.build_store.specs.Images.{key_of}
use Rattle.build_store.specs.Left.{LeavesOthers}
use Rattle.build_store.specs.Modules.{is_in}
use Rattle.build_store.specs.Origins.{IsOrigin}
use Rattle.build_store.specs.Report.{AreFaults, fits, one_if_built}
use Rattle.build_store.specs.Targets.{name_of}
use Rattle.build_store.specs.Telling.{AreBegun, HasBegun, Tells, is_built, is_sources, numbers_of_noted}
use Rattle.build_store.specs.Turning.{slot_at}
use Rattle.build_store.specs.declared.held.Held.{Held}
use Rattle.build_store.specs.declared.origin.Origin.{Origin}
use Rattle.build_store.specs.declared.origin.Origin.TheVariants.{Loaded, Built}
use Rattle.build_store.specs.declared.origin.Reason.TheVariants.{Missing, Unreadable, OtherVersion, Damaged, OtherKey, Outdated}
use Rattle.build_store.specs.declared.slot.Slot.TheVariants.{Unknown as IsUnknown}
use Rattle.build_store.proofs.ListLemmas.{in_cases}

-- ---- a module is begun

faults_of : (fits_in : Index → Bool) (key : Key) (t : Question → Answer) (file : Option (List ℕ)) (k0 k1 : ℕ) (o : Origin) → IsOrigin fits_in (Rose k0 k1) key t file o → k0 ≤ k1 → AreFaults k0 k1 (o ∷ [])
faults_of fits_in key t file k0 k1 Loaded h later = omega arith
faults_of fits_in key t file k0 k1 (Built Missing) h later = omega arith
faults_of fits_in key t file k0 k1 (Built Unreadable) h later = omega arith
faults_of fits_in key t file k0 k1 (Built OtherVersion) h later = omega arith
faults_of fits_in key t file k0 k1 (Built Damaged) h later = omega arith
faults_of fits_in key t file k0 k1 (Built OtherKey) h later = omega arith
faults_of fits_in key t file k0 k1 (Built (Outdated path)) h later = omega arith

is_same : (x y : ℕ) → is_in x (y ∷ []) ≡ true → x ≡ y
is_same x y e = elim (in_cases x y [] e) [ inl h ↦ h | inr h ↦ absurd (cc) ]

pub begun_by : (kept : List Record) (old new : Held) (number : ℕ) (files : Option Files) (honest failed : Type 0) (c0 c1 : ℕ) (key : Key) (d : Decision) → key ≡ key_held old number → new ≡ noted_as old number d
    → ((t : Question → Answer) → Agrees t kept → IsChoice old.table key honest t d.choice) → IsNumberedChoice kept d.choice → is_sources d.choice ≡ is_built d.origin
    → ((told : Files) → files ≡ Some told → (t : Question → Answer) → Agrees t kept → IsOrigin (fits old.table) failed key t (file_at (file_name_of key) told) d.origin)
    → (c0 < 2 ^ 64 → c1 ≡ min (c0 + one_if_built d.origin) (2 ^ 64 - 1))
    → HasBegun kept old new number files honest failed c0 c1
begun_by kept old new number files honest failed c0 c1 key d is held choice numbered chosen origin compiles =
    let C : Key → Type 0 = λ k. (t : Question → Answer) → Agrees t kept → IsChoice old.table k honest t d.choice in
    let O : Key → Type 0 = λ k. (told : Files) → files ≡ Some told → (t : Question → Answer) → Agrees t kept → IsOrigin (fits old.table) failed k t (file_at (file_name_of k) told) d.origin in
    record { decision = d; held = held; choice = subst C is choice; numbered = numbered; chosen = chosen; origin = subst O is origin; compiles = compiles }

module _ (kept : List Record) (old new : Held) (number : ℕ) (honest : Type 0) (t : Question → Answer) (agrees : Agrees t kept) (begun : AreBegun old) (unknown : slot_at old.slots number ≡ IsUnknown)
    (within : number < length old.table.targets) (c0 c1 k0 k1 : ℕ) (later : k0 ≤ k1) where
  not_noted : (v : Bool) → is_in number (numbers_of_noted old.noted) ≡ v → is_in number (numbers_of_noted old.noted) ≡ false
  not_noted false e = e
  not_noted true e = absurd (begun.known number e unknown)

  pub tells_begun : (fs now : Option Files) → now ≡ fs → HasBegun kept old new number fs honest (Rose k0 k1) c0 c1 → Tells fs now old new t c0 c1 k0 k1
  tells_begun None now e h = tt
  tells_begun (Some x) None e h = absurd (cc)
  tells_begun (Some x) (Some y) e h = λ own names.
      let d = h.decision in
      let origin = h.origin x refl t agrees in
      let same : y ≡ x = cc in
      let absent : is_in number (numbers_of_noted old.noted) ≡ false = not_noted (is_in number (numbers_of_noted old.noted)) refl in (
        ap (λ (g : Held). g.job) h.held,
        ap (λ (g : Held). g.table) h.held,
        record {
          more = record { number = number; origin = d.origin } ∷ [];
          noted = ap (λ (g : Held). g.noted) h.held;
          numbers = λ m i. subst (λ (v : ℕ). v < length old.table.targets) (sym (is_same m number i)) within;
          fresh = λ m i. ap (λ v. is_in v (numbers_of_noted old.noted)) (is_same m number i) ∙ absent;
          come_from = (origin, tt);
          compiles = λ below. (let c = h.compiles below in omega (arith, c));
          faults = faults_of (fits old.table) (key_of old.job (name_of old.table number)) t (file_at (file_name_of (key_of old.job (name_of old.table number))) x) k0 k1 d.origin origin later;
          later = later;
          others = λ name other. ap (file_at name) same;
        },
      )

-- ---- a turn, which changes the file of its module at most

pub tells_turned : (fs now : Option Files) (old new : Held) (number : ℕ) (t : Question → Answer) (c k0 k1 : ℕ) → new.job ≡ old.job → new.table ≡ old.table → new.noted ≡ old.noted → number < length old.table.targets
    → is_in number (numbers_of_noted old.noted) ≡ true → k0 ≤ k1 → LeavesOthers (file_name_of (key_of old.job (name_of old.table number))) fs now → Tells fs now old new t c c k0 k1
tells_turned None now old new number t c k0 k1 job table noted within there later others = tt
tells_turned (Some x) None old new number t c k0 k1 job table noted within there later others = let e : None ≡ Some others.0 = others.1 in absurd (cc)
tells_turned (Some x) (Some y) old new number t c k0 k1 job table noted within there later others = λ own names.
    let e : Some y ≡ Some others.0 = others.1 in
    let same : y ≡ others.0 = cc in (
      job,
      table,
      record {
        more = [];
        noted = noted ∙ sym (append-nil old.noted);
        numbers = λ m i. absurd (cc);
        fresh = λ m i. absurd (cc);
        come_from = tt;
        compiles = λ below. omega arith;
        faults = omega arith;
        later = later;
        others = λ name other. ap (file_at name) same ∙ others.2 name (λ is. other (number, ap (λ ns. is_in number (numbers_of_noted ns)) noted ∙ there, within, is));
      },
    )
