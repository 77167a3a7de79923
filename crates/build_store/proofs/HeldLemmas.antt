-- What is held stays true where a choice is taken and where a module ends.
use Rattle.std.proofs.Common.{◌≡◌, ◌≢◌, ◌∙◌, refl, sym, ap, subst, ℕ, zero, suc, true, cond, ne_eqb, List, [], ◌∷◌, get_or, set, drop, Option, Some, None, Result, Ok, Err, OnOk, OnErr, ◌⊎◌, inl, inr}
use Rattle.std.proofs.Math.Path.{fun_ext}
use Rattle.std.specs.Option.{is_some}
use Rattle.std.proofs.lemmas.List.{get_or-set_other}
use Rattle.cm_outside.specs.Asks.{value, asked}
use Rattle.cm_outside.specs.Firsts.{firsts}
use Rattle.cm_outside.specs.declared.question.Question.{Question}
use Rattle.cm_outside.specs.declared.question.Answer.{Answer}
use Rattle.cm_outside.specs.declared.question.Record.{Record}
use Rattle.build_store.specs.Decisions.{IsNumberedChoice, IsTrueChoice, IsOfKey}
use Rattle.build_store.specs.Held.{plan_held, key_held, choice_at, found_at, AreNumbersOf, HasPlaces, IsDecided, Holds, HeldOn, IsEnded, without_choice}
use Rattle.build_store.specs.Images.{interpreted, key_of}
use Rattle.build_store.specs.Libraries.{IsBroughtBy, parts_at, with_part}
use Rattle.build_store.specs.Modules.{mod_of}
use Rattle.build_store.specs.Order.{needs_of}
use Rattle.build_store.specs.Owners.{plan_of}
use Rattle.build_store.specs.Parts.{Fragment, part_in}
use Rattle.build_store.specs.Targets.{name_of}
use Rattle.build_store.specs.Turning.{slot_at}
use Rattle.build_store.specs.declared.decide.Choice.{Choice}
use Rattle.build_store.specs.declared.decide.Choice.TheVariants.{Sources}
use Rattle.build_store.specs.declared.held.Found.{Found}
use Rattle.build_store.specs.declared.held.Held.{Held}
use Rattle.build_store.specs.declared.job.Job.{Job}
use Rattle.build_store.specs.declared.part.Part.{Part}
use Rattle.build_store.specs.declared.slot.Slot.TheVariants.{Busy, Good}
use Rattle.build_store.specs.declared.table.Table.{Table}

-- ---- choices

set_or : {X : Type 0} (xs : List X) (n m : ℕ) (d : X) → (get_or (set xs n d) m d ≡ get_or xs m d) ⊎ (get_or (set xs n d) m d ≡ d)
set_or [] n m d = inl refl
set_or (x ∷ xs) zero zero d = inr refl
set_or (x ∷ xs) zero (suc m) d = inl refl
set_or (x ∷ xs) (suc n) zero d = inl refl
set_or (x ∷ xs) (suc n) (suc m) d = set_or xs n m d

-- where a choice is taken, each choice is as it was, or none
choice_without : (h : Held) (n m : ℕ) → (choice_at (without_choice h n) m ≡ choice_at h m) ⊎ (choice_at (without_choice h n) m ≡ Sources)
choice_without h n m = set_or h.choices n m Sources

-- what was decided of a module, by its choice
decided_by : (kept : List Record) (h : Held) (t : Question → Answer) (m : ℕ) (c : Choice) → choice_at h m ≡ c
    → IsNumberedChoice kept c → IsOfKey h.table (key_held h m) c → IsTrueChoice t c → IsDecided kept h t m
decided_by kept h t m c is numbered of_key is_true =
    let N : Choice → Type 0 = λ d. IsNumberedChoice kept d in
    let K : Choice → Type 0 = λ d. IsOfKey h.table (key_held h m) d in
    let T : Choice → Type 0 = λ d. IsTrueChoice t d in
    record { numbered = subst N (sym is) numbered; of_key = subst K (sym is) of_key; is_true = subst T (sym is) is_true }

decided_without : (kept : List Record) (h : Held) (n : ℕ) (t : Question → Answer) (m : ℕ) → IsDecided kept h t m → IsDecided kept (without_choice h n) t m
decided_without kept h n t m d =
    elim (choice_without h n m) [
      | inl same ↦ decided_by kept (without_choice h n) t m (choice_at h m) same d.numbered d.of_key d.is_true
      | inr none ↦ decided_by kept (without_choice h n) t m Sources none tt tt tt
    ]

-- a choice that is taken leaves what was decided and what is kept true
pub taken_on : (kept : List Record) (h : Held) (n : ℕ) → HeldOn kept kept h (without_choice h n)
taken_on kept h n = record {
  job = refl;
  table = refl;
  maps = refl;
  decided = λ t m agrees d. decided_without kept h n t m d;
  holds = λ t m agrees k. record { parts = k.parts; found = k.found; outcome = k.outcome; brought = k.brought; is_found = k.is_found; questions = k.questions; needs = k.needs };
}

-- ---- what stays true of other things held

-- what was decided hangs on the job, the table and the choices
pub decided_as : (kept : List Record) (h g : Held) (t : Question → Answer) (m : ℕ) → g.job ≡ h.job → g.table ≡ h.table → g.choices ≡ h.choices → IsDecided kept h t m → IsDecided kept g t m
decided_as kept h g t m job table choices d =
    let K : Job × Table → Type 0 = λ x. IsOfKey x.1 (key_of x.0 (name_of x.1 m)) (choice_at h m) in
    decided_by kept g t m (choice_at h m) (ap (λ cs. get_or cs m Sources) choices) d.numbered (subst K (λ i. (sym job i, sym table i)) d.of_key) d.is_true

-- what is kept hangs on the job, the table, what was found and the parts
pub holds_by : (kept : List Record) (h g : Held) (t : Question → Answer) (m : ℕ) (parts : Fragment) (found : Found) → g.job ≡ h.job → g.table ≡ h.table
    → value (mod_of (plan_held h) [] m) t ≡ Some parts → IsBroughtBy h.table (parts_at g.library) m parts → found_at g m ≡ Some found
    → AreNumbersOf kept found.asked (firsts (asked (interpreted (key_held h m)) t)) → found.needs ≡ drop 1 (needs_of (plan_held h) t m) → Holds kept g t m
holds_by kept h g t m parts found job table outcome brought is_found questions needs =
    let both : (h.job, h.table) ≡ (g.job, g.table) = λ i. (sym job i, sym table i) in
    let O : Job × Table → Type 0 = λ x. value (mod_of (plan_of (record { table = x.1; includes = x.0.includes })) [] m) t ≡ Some parts in
    let B : Table → Type 0 = λ x. IsBroughtBy x (parts_at g.library) m parts in
    let Q : Job × Table → Type 0 = λ x. AreNumbersOf kept found.asked (firsts (asked (interpreted (key_of x.0 (name_of x.1 m))) t)) in
    let N : Job × Table → Type 0 = λ x. found.needs ≡ drop 1 (needs_of (plan_of (record { table = x.1; includes = x.0.includes })) t m) in
    record {
      parts = parts;
      found = found;
      outcome = subst O both outcome;
      brought = subst B (sym table) brought;
      is_found = is_found;
      questions = subst Q both questions;
      needs = subst N both needs;
    }

pub holds_as : (kept : List Record) (h g : Held) (t : Question → Answer) (m : ℕ) → g.job ≡ h.job → g.table ≡ h.table → (k : Holds kept h t m) → found_at g m ≡ Some k.found
    → IsBroughtBy h.table (parts_at g.library) m k.parts → Holds kept g t m
holds_as kept h g t m job table k is_found brought = holds_by kept h g t m k.parts k.found job table k.outcome brought is_found k.questions k.needs

pub held_on_after : (kept : List Record) (a b c : Held) → HeldOn kept kept a b → HeldOn kept kept b c → HeldOn kept kept a c
held_on_after kept a b c f g = record {
  job = g.job ∙ f.job;
  table = g.table ∙ f.table;
  maps = g.maps ∙ f.maps;
  decided = λ t m agrees d. g.decided t m agrees (f.decided t m agrees d);
  holds = λ t m agrees k. g.holds t m agrees (f.holds t m agrees k);
}

-- ---- a module ends

-- what a module brings stays so when the part of another one becomes known
still_brought : (table : Table) (parts : ℕ → Option Part) (x m : ℕ) (part : Part) (b : Fragment) → parts x ≡ None → IsBroughtBy table parts m b → IsBroughtBy table (with_part parts x part) m b
still_brought table parts x m part b unknown brought = record {
  own = brought.own;
  known = λ z q e. (let apart : z ≡ x → ⊥ = λ same. (let so = brought.known z q e in let none = ap parts same ∙ unknown in cc) in
      ap (λ test. cond test (Some part) (parts z)) (ne_eqb z x apart) ∙ brought.known z q e);
  closed = brought.closed;
}

-- nothing is kept of a module whose part is not known
not_kept : (kept : List Record) (h : Held) (t : Question → Answer) (n m : ℕ) → parts_at h.library n ≡ None → Holds kept h t m → m ≢ n
not_kept kept h t n m unknown k same = by (part_in k.parts m) refl
  where
    by : (o : Option Part) → part_in k.parts m ≡ o → ⊥
    by None is = let own : is_some (part_in k.parts m) ≡ true = k.brought.own in let none = ap is_some is in absurd (cc)
    by (Some part) is = let known = k.brought.known m part is in let at = ap (parts_at h.library) same in absurd (cc)

-- a module that ends leaves what was decided and what is kept of the others true
pub ended_on : (kept : List Record) (h g : Held) (n : ℕ) (part : Part) (found : Found) → parts_at h.library n ≡ None → IsEnded h g n part found → HeldOn kept kept h g
ended_on kept h g n part found unknown e = record {
  job = e.job;
  table = e.table;
  maps = e.maps;
  decided = λ t m agrees d. decided_as kept h g t m e.job e.table e.choices d;
  holds = λ t m agrees k. kept_on t m k (not_kept kept h t n m unknown k);
}
  where
    kept_on : (t : Question → Answer) (m : ℕ) → Holds kept h t m → m ≢ n → Holds kept g t m
    kept_on t m k apart =
        let P : (ℕ → Option Part) → Type 0 = λ parts. IsBroughtBy h.table parts m k.parts in
        let known : with_part (parts_at h.library) n part ≡ parts_at g.library = sym (fun_ext e.parts) in
        holds_as kept h g t m e.job e.table k
        (ap (λ fs. get_or fs m None) e.found_of ∙ get_or-set_other h.found n m (Some found) None apart ∙ k.is_found)
        (subst P known (still_brought h.table (parts_at h.library) n m part k.parts unknown k.brought))

-- a module in progress has no part
pub unknown_part : (h : Held) (n : ℕ) → HasPlaces h → slot_at h.slots n ≡ Busy → parts_at h.library n ≡ None
unknown_part h n places busy = places.unended n (λ good. let no : Busy ≡ Good = sym busy ∙ good in absurd (cc))

-- what ending a module in progress leaves, whose choice was taken
pub loaded_on : {X E : Type 0} (kept : List Record) (h mid g : Held) (n : ℕ) (part : Part) (found : Found) (r : Result X E) → HasPlaces h → slot_at h.slots n ≡ Busy → mid ≡ without_choice h n
    → OnOk r (IsEnded mid g n part found) → OnErr r (g ≡ mid) → HeldOn kept kept h g
loaded_on kept h mid g n part found (Ok x) places busy taken ok err =
    let P : Held → Type 0 = λ m. IsEnded m g n part found in
    held_on_after kept h (without_choice h n) g (taken_on kept h n) (ended_on kept (without_choice h n) g n part found (unknown_part h n places busy) (subst P taken ok))
loaded_on kept h mid g n part found (Err x) places busy taken ok err =
    let P : Held → Type 0 = λ m. HeldOn kept kept h m in
    subst P (sym (err ∙ taken)) (taken_on kept h n)
