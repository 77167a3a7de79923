-- What a turn leaves whose walk over the header has ended.
use Rattle.std.proofs.Common.{◌≡◌, ◌∙◌, sym, ap, subst, ℕ, ◌<◌, List, [], ◌∷◌, length, Result, Ok, Err, OnOk, OnErr}
use Rattle.std.specs.List.{AllByRecursion, flat_map}
use Rattle.cm_outside.specs.declared.question.Question.{Question}
use Rattle.cm_outside.specs.declared.question.Answer.{Answer}
use Rattle.cm_outside.specs.declared.question.Record.{Record}
use Rattle.cm_outside.specs.Asks.{Agrees}
use Rattle.cm_outside.specs.Keeping.{AreKept, Grew}
use Rattle.module_file.specs.ModuleFile.{IsWellFormed, spelling}
use Rattle.module_file.specs.declared.index.Index.{Index}
use Rattle.build_store.specs.Headers.{HasWalked, IsFresh, needs_found}
use Rattle.build_store.specs.Held.{AreNumbersOf, HasPlaces, HeldOn, HeldRuns, IsEnded, IsHeldTurn, IsTableOf, key_held, setting_of_held, state_held}
use Rattle.build_store.specs.Images.{IsImage, index_with}
use Rattle.build_store.specs.Order.{new_of}
use Rattle.build_store.specs.Turning.{IsNew, slot_at, slots_after}
use Rattle.build_store.specs.Walks.{AreTrue, IsOpen, IsWalk}
use Rattle.build_store.specs.declared.held.Found.{Found}
use Rattle.build_store.specs.declared.held.Held.{Held}
use Rattle.build_store.specs.declared.part.Part.{Part}
use Rattle.build_store.specs.declared.slot.Slot.TheVariants.{Busy}
use Rattle.build_store.specs.declared.slot.Turn.TheVariants.{Good as HasEnded}
use Rattle.build_store.specs.declared.walk.Walk.{Walk}
use Rattle.build_store.specs.declared.walk.Walk.TheVariants.{Done as IsRead}
use Rattle.build_store.proofs.HeaderKeeps.{image_of, same_on, grown_runs, grown_table}
use Rattle.build_store.proofs.HeaderTurns.{fresh_of, fresh_turn}
use Rattle.build_store.proofs.HeldLemmas.{ended_on, unknown_part}
use Rattle.build_store.proofs.PlanLemmas.{top_of}

-- ---- a module that has ended, where there was memory for it

pub end_on : {X E : Type 0} (r : Result X E) (kept : List Record) (h g : Held) (n : ℕ) (part : Part) (found : Found) → HasPlaces h → slot_at h.slots n ≡ Busy
    → OnOk r (IsEnded h g n part found) → OnErr r (g ≡ h) → HeldOn kept kept h g
end_on (Ok x) kept h g n part found places busy ok err = ended_on kept h g n part found (unknown_part h n places busy) ok
end_on (Err e) kept h g n part found places busy ok err = let P : Held → Type 0 = λ k. HeldOn kept kept h k in subst P (sym err) (same_on kept h)

pub end_noted : {X E : Type 0} (r : Result X E) (h g : Held) (n : ℕ) (part : Part) (found : Found) → OnOk r (IsEnded h g n part found) → OnErr r (g ≡ h) → g.noted ≡ h.noted
end_noted (Ok x) h g n part found ok err = ok.noted
end_noted (Err e) h g n part found ok err = ap (λ (k : Held). k.noted) err

pub on_end : {X E : Type 0} (r : Result X E) (Q : Type 0) → Q → OnOk r Q
on_end (Ok x) Q q = q
on_end (Err e) Q q = tt

pub end_slots : {X E : Type 0} (r : Result X E) (h g : Held) (n : ℕ) (part : Part) (found : Found) → OnOk r (IsEnded h g n part found) → OnOk r (g.slots ≡ slots_after HasEnded n h.slots)
end_slots (Ok x) h g n part found ok = ok.slots
end_slots (Err e) h g n part found ok = tt

pub end_turn : {X E : Type 0} (r : Result X E) (kept : List Record) (h g : Held) (n : ℕ) (part : Part) (index : Index) (found : Found) (numbers : List ℕ) → HasPlaces h → n < length h.table.targets
    → ((t : Question → Answer) (chain end : List ℕ) → HasWalked kept h t chain end n (IsRead part) numbers → IsFresh kept h t chain n part index found)
    → OnOk r (IsEnded h g n part found)
    → OnOk r ((t : Question → Answer) (chain end : List ℕ) → HasWalked kept h t chain end n (IsRead part) numbers → IsHeldTurn kept h g t chain n HasEnded)
end_turn (Ok x) kept h g n part index found numbers places within made ok =
    λ t chain end walked. fresh_turn kept h g t chain n part index found places within (made t chain end walked) ok
end_turn (Err e) kept h g n part index found numbers places within made ok = tt

pub fresh_image : (kept : List Record) (h : Held) (t : Question → Answer) (chain : List ℕ) (n : ℕ) (part : Part) (index : Index) (found : Found)
    → IsFresh kept h t chain n part index found → IsWellFormed index → IsImage (spelling index)
fresh_image kept h t chain n part index found f well = image_of index t f.image well

-- ---- a walk that stands at a module

pub open_is_new : (kept : List Record) (h : Held) (x : ℕ) → IsOpen h x → IsNew (state_held kept h) x
unfolding state_held
open_is_new kept h x unknown = record { top = top_of (setting_of_held h) x unknown.1; unknown = unknown.0 }

-- ---- a walk over more answers

pub run_true : (kept : List Record) (h : Held) (t : Question → Answer) (chain end : List ℕ) → HeldRuns kept h t chain end → AreTrue kept h t
run_true kept h t chain end runs = runs.known

pub has_walked : (before after : List Record) (h : Held) (t : Question → Answer) (chain end : List ℕ) (m : ℕ) (walk : Walk) (maps numbers now : List ℕ)
    → Grew before after → ((u : Question → Answer) → Agrees u after → Agrees u before) → maps ≡ h.maps → now ≡ numbers
    → (Agrees t after → IsTableOf before h → AreTrue before h t → IsWalk after h t m maps numbers walk)
    → Agrees t after → IsTableOf before h → HeldRuns before h t (m ∷ chain) end → HasWalked after h t chain end m walk now
has_walked before after h t chain end m walk maps numbers now grew back is same walks agrees table runs =
    let P : List ℕ → List ℕ → Type 0 = λ xs ys. IsWalk after h t m xs ys walk in
    let W : IsWalk after h t m maps numbers walk = walks agrees table (run_true before h t (m ∷ chain) end runs) in
    record {
      agrees = agrees;
      table = grown_table before after grew h back table;
      runs = grown_runs before after grew h t (m ∷ chain) end runs;
      walk_is = subst (λ xs. P xs now) is (subst (λ ys. P maps ys) (sym same) W);
    }

-- ---- what is found of a module, as its steps give it

pub fresh_by : (kept : List Record) (h : Held) (m : ℕ) (part : Part) (numbers : List ℕ) → m < length h.table.targets → AreKept kept
    → (size room : ℕ) (once all needs once_items all_items needs_items : List ℕ) (names : List (List ℕ)) (records : List Record) (index : Index)
    → size ≡ length kept → room ≡ length h.table.targets → names ≡ part.imports → once_items ≡ once → all_items ≡ all → needs_items ≡ needs
    → (AllByRecursion (λ x. x < size) numbers → once ≡ new_of [] numbers)
    → all ≡ flat_map (needs_found h) names
    → (AllByRecursion (λ x. x < room) all_items → needs ≡ new_of [] all_items)
    → (AllByRecursion (λ x. x < length kept) once_items → AreNumbersOf kept once_items records)
    → index ≡ index_with (key_held h m) h.table m records needs_items part
    → (t : Question → Answer) (chain end : List ℕ) → HasWalked kept h t chain end m (IsRead part) numbers → IsFresh kept h t chain m part index (record { asked = once; needs = needs })
fresh_by kept h m part numbers within are size room once all needs once_items all_items needs_items names records index size_is room_is names_are once_are all_are needs_are is_once is_all is_needs is_records is_index t chain end walked =
    fresh_of kept h t chain end m part numbers within are once all needs records index
    (λ below. is_once (subst (λ (k : ℕ). AllByRecursion (λ x. x < k) numbers) (sym size_is) below))
    (is_all ∙ ap (flat_map (needs_found h)) names_are)
    (λ below. is_needs (subst (λ (k : ℕ). AllByRecursion (λ x. x < k) all_items) (sym room_is) (subst (λ (xs : List ℕ). AllByRecursion (λ x. x < length h.table.targets) xs) (sym all_are) below))
    ∙ ap (new_of []) all_are)
    (λ below. subst (λ (xs : List ℕ). AreNumbersOf kept xs records) once_are (is_records (subst (λ (xs : List ℕ). AllByRecursion (λ x. x < length kept) xs) (sym once_are) below)))
    (is_index ∙ ap (λ xs. index_with (key_held h m) h.table m records xs part) needs_are)
    walked
