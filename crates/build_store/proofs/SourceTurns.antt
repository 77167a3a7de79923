-- What is held, with the cache and the tree, over turns.
use Rattle.std.proofs.Common.{◌≡◌, ◌≢◌, ◌⊎◌, inl, inr, refl, sym, ap, ◌∙◌, subst, ℕ, zero, suc, ◌<◌, ◌≤◌, ◌&&◌, Bool, true, false, List, [], ◌∷◌, ◌++◌, length, map, Option, Some, None, is_some, Result, Ok, Err, OnOk, OnErr, IfOk, arith, length-append}
use Rattle.std.proofs.lemmas.List.{get_or-set_other, get_or-set_same, map-append}
use Rattle.cm_outside.proofs.Grown.{numbered_after}
use Rattle.cm_outside.specs.Asks.{Agrees, value, asked}
use Rattle.cm_outside.specs.Keeping.{AreKept, Grew}
use Rattle.cm_outside.specs.Trees.{Files, Path}
use Rattle.cm_outside.specs.declared.tree.TreeFault.{TreeFault}
use Rattle.cm_outside.specs.declared.question.Question.{Question}
use Rattle.cm_outside.specs.declared.question.Answer.{Answer}
use Rattle.cm_outside.specs.declared.question.Record.{Record}
use Rattle.module_file.specs.ModuleFile.{file_name_of}
use Rattle.module_file.specs.declared.index.Key.{Key}
use Rattle.unit_fold.specs.declared.item.Item.{Item}
use Rattle.build_store.specs.Decisions.{IsChoice, IsNumberedChoice, IsOfKey, IsTrueChoice}
use Rattle.build_store.specs.Held.{AreNumbersOf, HasPlaces, HeldOn, HeldRests, HeldRuns, Holds, IsDecided, IsHeldTurn, IsTableOf, choice_at, key_held, noted_as, numbers_noted, setting_of_held, state_held}
use Rattle.build_store.specs.Memo.{AreApart, Tried, Ended, Stands, tried}
use Rattle.build_store.specs.ImageLaws.{current_index}
use Rattle.build_store.specs.Modules.{Plan, is_in}
use Rattle.build_store.specs.Owners.{plan_of, unit_needs}
use Rattle.build_store.specs.Walks.{IsUnitWalk, IsUnitWalkTo, UnitOpensUnknown, known_held}
use Rattle.build_store.specs.Parts.{Fragment}
use Rattle.build_store.specs.Left.{LeavesOthers}
use Rattle.build_store.specs.LeftBehind.{Behind, ModuleBehind, has_ended}
use Rattle.build_store.specs.Stores.{HasSlots, IsStore}
use Rattle.build_store.specs.Tables.{table_of}
use Rattle.cm_outside.specs.Faults.{Rose}
use Rattle.build_store.specs.Telling.{AreBegun, HasBegun, Tells, built_in, is_built, is_sources, state_of}
use Rattle.build_store.specs.Turning.{AreKnown, IsTurn, IsTrusted, IsUnitTurn, Moved, NeedsNew, UnitNeedsNew, Rests, Runs, State, Trusts, slot_at, slots_after, with_slot}
use Rattle.build_store.specs.declared.decide.Choice.{Choice}
use Rattle.build_store.specs.declared.decide.Choice.TheVariants.{Sources, File}
use Rattle.build_store.specs.declared.decide.Decision.{Decision}
use Rattle.build_store.specs.declared.held.Held.{Held}
use Rattle.build_store.specs.declared.held.Noted.{Noted}
use Rattle.build_store.specs.declared.job.Job.{Job}
use Rattle.build_store.specs.declared.slot.Slot.{Slot}
use Rattle.build_store.specs.declared.slot.Slot.TheVariants.{Unknown as IsUnknown, Busy as IsBusy, Cyclic as IsCyclic, Good as IsGood}
use Rattle.build_store.specs.declared.slot.Turn.{Turn}
use Rattle.build_store.specs.declared.slot.Turn.TheVariants.{Needs as NeedsFirst, Cyclic as ComesBack, Good as HasEnded}
use Rattle.build_store.specs.declared.slot.UnitTurn.{UnitTurn}
use Rattle.build_store.specs.declared.slot.UnitTurn.TheVariants.{Needs as UnitNeedsFirst, Done}
use Rattle.build_store.specs.declared.table.Table.{Table}
use Rattle.build_store.proofs.MemoSeam.{seam_unit_needs, seam_unit_done}
use Rattle.build_store.proofs.SourceLaws.{slots_of, unit_fold_named}
use Rattle.build_store.proofs.PlanLemmas.{top_of}
use Rattle.build_store.proofs.BehindNoted.{absent_unless, apart_more, built_here, built_other}
use Rattle.build_store.proofs.BehindTurns.{behind_begun, behind_turned}
use Rattle.build_store.proofs.TellingLemmas.{tells_begun}
use Rattle.build_store.proofs.ListLemmas.{in_append, in_append_left, in_append_right, in_cases, in_head}

-- ---- what is held, as turns over a cache see it

module _ (kept : List Record) (h : Held) (told : Bool) (honest : Type 0) (faults : ℕ) (t : Question → Answer) where
  pub runs_held : (chain end : List ℕ) → Runs (state_of kept h told honest faults) t chain end → HeldRuns kept h t chain end
  unfolding state_held
  runs_held chain end r = record { stack = r.stack; known = record { good = r.known.good; holds = r.known.holds }; decided = λ m e. (r.decided m e).1 }

  pub known_held_of : AreKnown (state_of kept h told honest faults) t → AreKnown (state_held kept h) t
  unfolding state_held
  known_held_of k = record { good = k.good; holds = k.holds }

  pub rests_held : Rests (state_of kept h told honest faults) t → HeldRests kept h t
  unfolding state_held
  rests_held r = record { sound = r.sound; known = record { good = r.known.good; holds = r.known.holds } }

  pub rests_of : HeldRests kept h t → Rests (state_of kept h told honest faults) t
  unfolding state_held
  rests_of r = record { sound = r.sound; known = record { good = r.known.good; holds = r.known.holds } }

  pub turn_of : (new : Held) (chain : List ℕ) (m : ℕ) (turn : Turn) (after : List Record) → IsHeldTurn after h new t chain m turn
      → IsTurn (state_of kept h told honest faults) t chain m (Holds after new t m) turn
  unfolding state_held
  turn_of new chain m (NeedsFirst x) after i = i
  turn_of new chain m ComesBack after i = i
  turn_of new chain m HasEnded after i = i

-- ---- slots

slot_with : (slots : List Slot) (m : ℕ) (v : Slot) (n : ℕ) → (slot_at (with_slot slots m v) n ≡ slot_at slots n) ⊎ ((n ≡ m) × (slot_at (with_slot slots m v) n ≡ v))
slot_with [] m v n = inl refl
slot_with (x ∷ xs) zero v zero = inr (refl, refl)
slot_with (x ∷ xs) zero v (suc n) = inl refl
slot_with (x ∷ xs) (suc m) v zero = inl refl
slot_with (x ∷ xs) (suc m) v (suc n) = elim (slot_with xs m v n) [ inl same ↦ inl same | inr at ↦ inr (ap (λ k. suc k) at.0, at.1) ]

not_unknown : (slots more : List Slot) (n : ℕ) → slot_at more n ≡ slot_at slots n → slot_at slots n ≢ IsUnknown → slot_at more n ≢ IsUnknown
not_unknown slots more n same other e = other (sym same ∙ e)

-- what was noted is noted still
apart_on : (h new : Held) → AreBegun h → new.noted ≡ h.noted → AreApart (numbers_noted new)
apart_on h new begun noted = let P : List Noted → Type 0 = λ ns. AreApart (map (λ (x : Noted). x.number) ns) in subst P (sym noted) begun.apart

chosen_at : (h new : Held) (n : ℕ) → AreBegun h → new.noted ≡ h.noted → choice_at new n ≡ choice_at h n → slot_at h.slots n ≡ IsBusy → is_sources (choice_at new n) ≡ built_in new.noted n
chosen_at h new n begun noted choice busy = ap is_sources choice ∙ begun.chosen n busy ∙ ap (λ ns. built_in ns n) (sym noted)

-- a slot that was known, and is known as well
begun_with : (h new : Held) (m : ℕ) (v : Slot) → AreBegun h → new.noted ≡ h.noted → slot_at h.slots m ≡ IsBusy → v ≢ IsUnknown → v ≢ IsBusy → new.slots ≡ with_slot h.slots m v
    → ((n : ℕ) → slot_at new.slots n ≡ IsBusy → choice_at new n ≡ choice_at h n) → AreBegun new
begun_with h new m v begun noted busy known ended slots choices = record {
  known = λ n e. known_at n (ap (λ ns. is_in n (map (λ (x : Noted). x.number) ns)) (sym noted) ∙ e) (slot_with h.slots m v n);
  noted = λ n other. ap (λ ns. is_in n (map (λ (x : Noted). x.number) ns)) noted ∙ noted_at n other (slot_with h.slots m v n);
  apart = apart_on h new begun noted;
  chosen = λ n is. chosen_at h new n begun noted (choices n is) (busy_at n is (slot_with h.slots m v n));
}
  where
    at : (n : ℕ) → slot_at new.slots n ≡ slot_at (with_slot h.slots m v) n
    at n = ap (λ s. slot_at s n) slots

    known_at : (n : ℕ) → is_in n (numbers_noted h) ≡ true → (slot_at (with_slot h.slots m v) n ≡ slot_at h.slots n) ⊎ ((n ≡ m) × (slot_at (with_slot h.slots m v) n ≡ v)) → slot_at new.slots n ≢ IsUnknown
    known_at n e (inl same) u = begun.known n e (sym same ∙ sym (at n) ∙ u)
    known_at n e (inr is) u = known (sym is.1 ∙ sym (at n) ∙ u)

    busy_at : (n : ℕ) → slot_at new.slots n ≡ IsBusy → (slot_at (with_slot h.slots m v) n ≡ slot_at h.slots n) ⊎ ((n ≡ m) × (slot_at (with_slot h.slots m v) n ≡ v)) → slot_at h.slots n ≡ IsBusy
    busy_at n is (inl same) = sym same ∙ sym (at n) ∙ is
    busy_at n is (inr here) = absurd (ended (sym here.1 ∙ sym (at n) ∙ is))

    busy_noted : is_in m (numbers_noted h) ≡ true
    busy_noted = begun.noted m (λ u. absurd (let e : IsBusy ≡ IsUnknown = sym busy ∙ u in cc))

    noted_at : (n : ℕ) → slot_at new.slots n ≢ IsUnknown → (slot_at (with_slot h.slots m v) n ≡ slot_at h.slots n) ⊎ ((n ≡ m) × (slot_at (with_slot h.slots m v) n ≡ v)) → is_in n (numbers_noted h) ≡ true
    noted_at n other (inl same) = begun.noted n (λ u. other (at n ∙ same ∙ u))
    noted_at n other (inr is) = ap (λ k. is_in k (numbers_noted h)) is.0 ∙ busy_noted

pub busy_begun : (h : Held) (m : ℕ) → AreBegun h → slot_at h.slots m ≡ IsBusy → is_in m (numbers_noted h) ≡ true
busy_begun h m begun busy = begun.noted m (λ u. absurd (let e : IsBusy ≡ IsUnknown = sym busy ∙ u in cc))

pub begun_turned : (h new : Held) (m : ℕ) (turn : Turn) → AreBegun h → new.noted ≡ h.noted → slot_at h.slots m ≡ IsBusy → new.slots ≡ slots_after turn m h.slots
    → ((n : ℕ) → slot_at new.slots n ≡ IsBusy → choice_at new n ≡ choice_at h n) → AreBegun new
begun_turned h new m (NeedsFirst x) begun noted busy slots choices = record {
  known = λ n e u. begun.known n (ap (λ ns. is_in n (map (λ (x : Noted). x.number) ns)) (sym noted) ∙ e) (ap (λ s. slot_at s n) (sym slots) ∙ u);
  noted = λ n other. ap (λ ns. is_in n (map (λ (x : Noted). x.number) ns)) noted ∙ begun.noted n (λ u. other (ap (λ s. slot_at s n) slots ∙ u));
  apart = apart_on h new begun noted;
  chosen = λ n is. chosen_at h new n begun noted (choices n is) (ap (λ s. slot_at s n) (sym slots) ∙ is);
}
begun_turned h new m ComesBack begun noted busy slots choices = begun_with h new m IsCyclic begun noted busy (λ e. absurd (cc)) (λ e. absurd (cc)) slots choices
begun_turned h new m HasEnded begun noted busy slots choices = begun_with h new m IsGood begun noted busy (λ e. absurd (cc)) (λ e. absurd (cc)) slots choices

-- ---- a module that was begun

module _ (h : Held) (number : ℕ) (d : Decision) (begun : AreBegun h) (unknown : slot_at h.slots number ≡ IsUnknown) where
  numbers_now : numbers_noted (noted_as h number d) ≡ numbers_noted h ++ number ∷ []
  numbers_now = map-append (λ (n : Noted). n.number) h.noted (record { number = number; origin = d.origin } ∷ [])

  pub absent_now : is_in number (numbers_noted h) ≡ false
  absent_now = absent_unless number (numbers_noted h) (λ e. begun.known number e unknown)

  pub begun_noted : number < length h.slots → number < length h.choices → is_sources d.choice ≡ is_built d.origin → AreBegun (noted_as h number d)
  begun_noted within place chosen = record {
    known = λ n e. elim (in_append n (numbers_noted h) (number ∷ []) (ap (is_in n) (sym numbers_now) ∙ e)) [
      | inl old ↦ known_at n old (slot_with h.slots number IsBusy n)
      | inr new ↦ λ u. now (ap (λ k. slot_at (with_slot h.slots number IsBusy) k) (sym (only n new)) ∙ u)
    ];
    noted = λ n other. ap (is_in n) numbers_now ∙ noted_at n other (slot_with h.slots number IsBusy n);
    apart = (let P : List ℕ → Type 0 = λ ns. AreApart ns in subst P (sym numbers_now) (apart_more (numbers_noted h) number begun.apart absent_now));
    chosen = λ n is. chosen_now n is (slot_with h.slots number IsBusy n);
  }
    where
      known_at : (n : ℕ) → is_in n (numbers_noted h) ≡ true → (slot_at (with_slot h.slots number IsBusy) n ≡ slot_at h.slots n) ⊎ ((n ≡ number) × (slot_at (with_slot h.slots number IsBusy) n ≡ IsBusy))
          → slot_at (with_slot h.slots number IsBusy) n ≢ IsUnknown
      known_at n e (inl same) u = begun.known n e (sym same ∙ u)
      known_at n e (inr is) u = absurd (let f : IsBusy ≡ IsUnknown = sym is.1 ∙ u in cc)

      one : Noted
      one = record { number = number; origin = d.origin }

      chosen_here : is_sources (choice_at (noted_as h number d) number) ≡ built_in (noted_as h number d).noted number
      chosen_here = ap is_sources (get_or-set_same {A = Choice} h.choices number d.choice Sources place) ∙ chosen ∙ sym (built_here h.noted one absent_now)

      chosen_now : (n : ℕ) → slot_at (with_slot h.slots number IsBusy) n ≡ IsBusy → (slot_at (with_slot h.slots number IsBusy) n ≡ slot_at h.slots n) ⊎ ((n ≡ number) × (slot_at (with_slot h.slots number IsBusy) n ≡ IsBusy))
          → is_sources (choice_at (noted_as h number d) n) ≡ built_in (noted_as h number d).noted n
      chosen_now n is (inl same) =
          let busy : slot_at h.slots n ≡ IsBusy = sym same ∙ is in
          let other : n ≢ number = λ e. (let f : IsBusy ≡ IsUnknown = sym busy ∙ ap (λ k. slot_at h.slots k) e ∙ unknown in absurd (cc)) in
          ap is_sources (get_or-set_other {A = Choice} h.choices number n d.choice Sources other) ∙ begun.chosen n busy ∙ sym (built_other h.noted one n other)
      chosen_now n is (inr here) =
          let P : ℕ → Type 0 = λ k. is_sources (choice_at (noted_as h number d) k) ≡ built_in (noted_as h number d).noted k in
          subst P (sym here.0) chosen_here

      only : (n : ℕ) → is_in n (number ∷ []) ≡ true → n ≡ number
      only n e = elim (in_cases n number [] e) [ inl same ↦ same | inr none ↦ absurd (cc) ]

      now : slot_at (with_slot h.slots number IsBusy) number ≡ IsUnknown → ⊥
      now u = let f : slot_at (with_slot h.slots number IsBusy) number ≡ IsBusy = get_or-set_same {A = Slot} h.slots number IsBusy IsUnknown within in absurd (cc)

      noted_at : (n : ℕ) → slot_at (with_slot h.slots number IsBusy) n ≢ IsUnknown → (slot_at (with_slot h.slots number IsBusy) n ≡ slot_at h.slots n) ⊎ ((n ≡ number) × (slot_at (with_slot h.slots number IsBusy) n ≡ IsBusy))
          → is_in n (numbers_noted h ++ number ∷ []) ≡ true
      noted_at n other (inl same) = in_append_left n (numbers_noted h) (number ∷ []) (begun.noted n (λ u. other (same ∙ u)))
      noted_at n other (inr is) = in_append_right n (numbers_noted h) (number ∷ []) (ap (λ k. is_in k (number ∷ [])) is.0 ∙ in_head number [])

-- ---- what stays true

numbered_on : (before after : List Record) (c : Choice) → Grew before after → IsNumberedChoice before c → IsNumberedChoice after c
numbered_on before after Sources grew h = tt
numbered_on before after (File i numbers) grew h = numbered_after before after numbers i.records grew h

decided_by : (kept : List Record) (h : Held) (t : Question → Answer) (m : ℕ) (c : Choice) → choice_at h m ≡ c
    → IsNumberedChoice kept c → IsOfKey h.table (key_held h m) c → IsTrueChoice t c → IsDecided kept h t m
decided_by kept h t m c is numbered of_key is_true =
    let N : Choice → Type 0 = λ d. IsNumberedChoice kept d in
    let K : Choice → Type 0 = λ d. IsOfKey h.table (key_held h m) d in
    let T : Choice → Type 0 = λ d. IsTrueChoice t d in
    record { numbered = subst N (sym is) numbered; of_key = subst K (sym is) of_key; is_true = subst T (sym is) is_true }

pub held_on : (before after : List Record) (h : Held) → Grew before after → HeldOn before after h h
held_on before after h grew = record {
  job = refl;
  table = refl;
  maps = refl;
  decided = λ t m agrees d. record { numbered = numbered_on before after (choice_at h m) grew d.numbered; of_key = d.of_key; is_true = d.is_true };
  holds = λ t m agrees k. record { parts = k.parts; found = k.found; outcome = k.outcome; brought = k.brought; is_found = k.is_found; questions = numbered_after before after k.found.asked _ grew k.questions; needs = k.needs };
}

pub table_on : (before after : List Record) (old new : Held) → Grew before after → ((t : Question → Answer) → Agrees t after → Agrees t before) → new.job ≡ old.job → new.table ≡ old.table → new.maps ≡ old.maps
    → IsTableOf before old → IsTableOf after new
table_on before after old new grew back job table maps is = record {
  table = λ t agrees. ap (λ (j : Job). value (table_of j.maps) t) job ∙ is.table t (back t agrees) ∙ sym table;
  maps = λ t agrees.
      (let first = numbered_after before after old.maps (asked (table_of old.job.maps) t) grew (is.maps t (back t agrees)) in
      let M : List ℕ × Job → Type 0 = λ x. AreNumbersOf after x.0 (asked (table_of x.1.maps) t) in
      subst M (λ i. (sym maps i, sym job i)) first);
}

-- ---- what calls keep, as turns see it

module _ (before after : List Record) (told now : Bool) (honest trust : Type 0) (faults more : ℕ) (back : (t : Question → Answer) → Agrees t after → Agrees t before) (same : now ≡ told) (trusted : told ≡ false → trust → honest)
    (later : faults ≤ more) where
  pub moved_turn : (old new : Held) → HeldOn before after old new → new.noted ≡ old.noted → Moved (state_of before old told honest faults) (state_of after new now trust more)
  moved_turn old new on noted = record {
    plan = λ i. plan_held_by (on.job i) (on.table i);
    unit_fold = λ i. λ unit. unit_needs (record { table = on.table i; includes = (on.job i).includes }) unit;
    back = back;
    decided = λ t m agrees d. (ap (λ ns. is_in m (map (λ (x : Noted). x.number) ns)) noted ∙ d.0, on.decided t m agrees d.1);
    holds = λ t m agrees k. on.holds t m agrees k;
    told = same;
    trusted = trusted;
    later = later;
  }
    where
      plan_held_by : Job → Table → Plan Fragment
      plan_held_by job table = plan_of (record { table = table; includes = job.includes })

  pub moved_begun : (old : Held) (number : ℕ) (d : Decision) → Grew before after → AreBegun old → slot_at old.slots number ≡ IsUnknown
      → Moved (state_of before old told honest faults) (state_of after (noted_as old number d) now trust more)
  moved_begun old number d grew begun unknown = record {
    plan = refl;
    unit_fold = refl;
    back = back;
    decided = λ t m agrees s. decided_on t m s;
    holds = λ t m agrees k. record { parts = k.parts; found = k.found; outcome = k.outcome; brought = k.brought; is_found = k.is_found; questions = numbered_after before after k.found.asked _ grew k.questions; needs = k.needs };
    told = same;
    trusted = trusted;
    later = later;
  }
    where
      decided_on : (t : Question → Answer) (m : ℕ) → (is_in m (numbers_noted old) ≡ true) × IsDecided before old t m
          → (is_in m (numbers_noted (noted_as old number d)) ≡ true) × IsDecided after (noted_as old number d) t m
      decided_on t m s =
          let other : m ≢ number = λ e. begun.known m s.0 (ap (λ k. slot_at old.slots k) e ∙ unknown) in
          let choice : choice_at (noted_as old number d) m ≡ choice_at old m = get_or-set_other {A = Choice} old.choices number m d.choice Sources other in (
            ap (is_in m) (numbers_now old number d begun unknown) ∙ in_append_left m (numbers_noted old) (number ∷ []) s.0,
            decided_by after (noted_as old number d) t m (choice_at old m) choice (numbered_on before after (choice_at old m) grew s.1.numbered) s.1.of_key s.1.is_true,
          )

-- what was decided of the module that was begun
choice_true : (table : Table) (key : Key) (honest : Type 0) (t : Question → Answer) (c : Choice) → honest → IsChoice table key honest t c → IsOfKey table key c × IsTrueChoice t c
choice_true table key honest t Sources trusts is = (tt, tt)
choice_true table key honest t (File i numbers) trusts is = ((is.1, is.2), current_index i t is.0 (is.4 trusts) is.3)

pub decided_begun : (after : List Record) (old : Held) (number : ℕ) (d : Decision) (honest : Type 0) (t : Question → Answer) → AreBegun old → slot_at old.slots number ≡ IsUnknown → number < length old.choices → honest
    → IsChoice old.table (key_held old number) honest t d.choice → IsNumberedChoice after d.choice
    → (is_in number (numbers_noted (noted_as old number d)) ≡ true) × IsDecided after (noted_as old number d) t number
decided_begun after old number d honest t begun unknown within trusts is numbered =
    let so = choice_true old.table (key_held old number) honest t d.choice trusts is in (
      ap (is_in number) (numbers_now old number d begun unknown) ∙ in_append_right number (numbers_noted old) (number ∷ []) (in_head number []),
      decided_by after (noted_as old number d) t number d.choice (get_or-set_same {A = Choice} old.choices number d.choice Sources within) numbered so.0 so.1,
    )

-- ---- trust

pub trusts_now : (told : Bool) (before after : Type 0) → (told ≡ true → before → after) → Trusts told before after → after
trusts_now true before after stays h = stays refl h
trusts_now false before after stays h = h

-- ---- modules of which nothing is known

pub needs_new : (kept : List Record) (h : Held) (told : Bool) (honest : Type 0) (faults : ℕ) (turn : Turn) → NeedsNew (state_held kept h) turn → NeedsNew (state_of kept h told honest faults) turn
unfolding state_held
needs_new kept h told honest faults (NeedsFirst x) n = record { top = n.top; unknown = n.unknown }
needs_new kept h told honest faults ComesBack n = tt
needs_new kept h told honest faults HasEnded n = tt

pub unit_needs_new : (kept : List Record) (h : Held) (told : Bool) (honest : Type 0) (faults : ℕ) (turn : UnitTurn) → UnitOpensUnknown h turn → UnitNeedsNew (state_of kept h told honest faults) turn
unit_needs_new kept h told honest faults (UnitNeedsFirst x) n = record { top = top_of (setting_of_held h) x n.1; unknown = n.0 }
unit_needs_new kept h told honest faults (Done items) n = tt

-- ---- units

pub unit_turn_of : (kept : List Record) (h : Held) (told : Bool) (honest : Type 0) (faults : ℕ) (t : Question → Answer) (unit : List ℕ) (turn : UnitTurn) → Rests (state_of kept h told honest faults) t
    → IsUnitWalk h t unit turn → IsUnitTurn (state_of kept h told honest faults) t (unit_needs (setting_of_held h) unit) turn
unfolding plan_of
unit_turn_of kept h told honest faults t unit turn rests walk = by turn (tried (known_held h t) (unit_needs (setting_of_held h) unit) t) refl walk
  where
    s : State
    s = state_of kept h told honest faults

    by : (turn : UnitTurn) (far : Tried (List Item)) → tried (known_held h t) (unit_needs (setting_of_held h) unit) t ≡ far → IsUnitWalkTo turn far → IsUnitTurn s t (unit_needs (setting_of_held h) unit) turn
    by (UnitNeedsFirst x) (Stands y) e is =
        subst (λ (n : ℕ). IsUnitTurn s t (unit_needs (setting_of_held h) unit) (UnitNeedsFirst n)) (sym is) (seam_unit_needs s t (unit_needs (setting_of_held h) unit) rests (unit_fold_named (setting_of_held h) unit) y e)
    by (UnitNeedsFirst x) (Ended found records) e is = absurd is
    by (Done items) (Stands y) e is = absurd is
    by (Done items) (Ended found records) e is =
        subst (λ (l : List Item). IsUnitTurn s t (unit_needs (setting_of_held h) unit) (Done l)) (sym is) (seam_unit_done s t (unit_needs (setting_of_held h) unit) rests (unit_fold_named (setting_of_held h) unit) found records e)

-- ---- results

pub on_ok : {A : Type 0} (r : Result A TreeFault) (P Q : Type 0) → (P → Q) → OnOk r P → OnOk r Q
on_ok (Ok a) P Q f h = f h
on_ok (Err e) P Q f h = tt

pub on_any : {A : Type 0} (r : Result A TreeFault) (Q : Type 0) → Q → OnOk r Q
on_any (Ok a) Q q = q
on_any (Err e) Q q = tt

pub if_ok : {A : Type 0} (r : Result A TreeFault) (P Q : A → Type 0) → ((a : A) → P a → Q a) → IfOk r P → IfOk r Q
if_ok (Ok a) P Q f h = f a h
if_ok (Err e) P Q f h = tt

-- the numbers of the modules that were begun, and one more
pub numbers_begun : (old new : Held) (number : ℕ) (d : Decision) → new ≡ noted_as old number d → numbers_noted new ≡ numbers_noted old ++ number ∷ []
numbers_begun old new number d held = ap (λ (h : Held). numbers_noted h) held ∙ map-append (λ (n : Noted). n.number) old.noted (record { number = number; origin = d.origin } ∷ [])

pub decided_begin : (after : List Record) (old new : Held) (number : ℕ) (files : Option Files) (honest failed : Type 0) (c0 c1 : ℕ) (t : Question → Answer) → HasBegun after old new number files honest failed c0 c1 → AreBegun old
    → slot_at old.slots number ≡ IsUnknown → number < length old.choices → Agrees t after → honest → (is_in number (numbers_noted new) ≡ true) × IsDecided after new t number
decided_begin after old new number files honest failed c0 c1 t b begun unknown within agrees trusts =
    subst (λ (h : Held). (is_in number (numbers_noted h) ≡ true) × IsDecided after h t number) (sym b.held)
    (decided_begun after old number b.decision honest t begun unknown within trusts (b.choice t agrees) b.numbered)

-- ---- what is held stays as calls leave it

pub store_on : (before after : List Record) (old new : Held) → IsStore before old → Grew before after → ((t : Question → Answer) → Agrees t after → Agrees t before) → (AreKept before → AreKept after)
    → new.job ≡ old.job → new.table ≡ old.table → new.maps ≡ old.maps → HasPlaces new → AreBegun new → IsStore after new × HasSlots new
store_on before after old new store grew back once job table maps places begun =
    (record { places = places; table = table_on before after old new grew back job table maps store.table; begun = begun; once = once store.once }, slots_of new places)

module _ (before after : List Record) (old new : Held) (number : ℕ) (store : IsStore before old) (grew : Grew before after) (back : (t : Question → Answer) → Agrees t after → Agrees t before) (once : AreKept before → AreKept after) where
  pub store_begun : (d : Decision) → new ≡ noted_as old number d → is_sources d.choice ≡ is_built d.origin → slot_at old.slots number ≡ IsUnknown → number < length old.table.targets → HasPlaces new → IsStore after new × HasSlots new
  store_begun d held chosen unknown within places =
      let had = store.places in
      let slots : number < length old.slots = omega (arith, had.slots, within) in
      let choices : number < length old.choices = omega (arith, had.choices, within) in
      store_on before after old new store grew back once (ap (λ (h : Held). h.job) held) (ap (λ (h : Held). h.table) held) (ap (λ (h : Held). h.maps) held) places
      (subst (λ (h : Held). AreBegun h) (sym held) (begun_noted old number d store.begun unknown slots choices chosen))

  pub store_turned : (r : Result Turn TreeFault) → HeldOn before after old new → new.noted ≡ old.noted → slot_at old.slots number ≡ IsBusy → OnOk r (HasPlaces new) → IfOk r (λ turn. new.slots ≡ slots_after turn number old.slots)
      → OnOk r ((m : ℕ) → slot_at new.slots m ≡ IsBusy → choice_at new m ≡ choice_at old m) → OnOk r (IsStore after new × HasSlots new)
  store_turned (Ok turn) on noted busy places slots choices =
      store_on before after old new store grew back once on.job on.table on.maps places (begun_turned old new number turn store.begun noted busy slots choices)
  store_turned (Err fault) on noted busy places slots choices = tt

  module _ (files : Option Files) (honest : Type 0) (c0 c1 k0 k1 : ℕ) (r : Result (Unit {0}) TreeFault) (begun : OnOk r (HasBegun after old new number files honest (Rose k0 k1) c0 c1)) (err : OnErr r (new ≡ old)) (unknown : slot_at old.slots number ≡ IsUnknown) where
    -- what is said of a module that was begun
    said : (Q : Type 0) → (HasBegun after old new number files honest (Rose k0 k1) c0 c1 → Q) → OnOk r Q
    said Q f = on_ok r (HasBegun after old new number files honest (Rose k0 k1) c0 c1) Q f begun

    pub store_begin : number < length old.table.targets → HasPlaces new → OnOk r (IsStore after new × HasSlots new)
    store_begin within places = said (IsStore after new × HasSlots new) (λ b. store_begun b.decision b.held b.chosen unknown within places)

    pub slots_begin : OnOk r (new.slots ≡ with_slot old.slots number IsBusy)
    slots_begin = said (new.slots ≡ with_slot old.slots number IsBusy) (λ b. ap (λ (h : Held). h.slots) b.held)

    pub noted_begin : OnOk r (numbers_noted new ≡ numbers_noted old ++ number ∷ [])
    noted_begin = said (numbers_noted new ≡ numbers_noted old ++ number ∷ []) (λ b. numbers_begun old new number b.decision b.held)

    pub decided_ok : (told : Bool) (was : Type 0) → (told ≡ true → was → honest) → number < length old.table.targets
        → OnOk r ((t : Question → Answer) → Agrees t after → Trusts told was honest → (is_in number (numbers_noted new) ≡ true) × IsDecided after new t number)
    decided_ok told was stays within =
        let had = store.places in
        let choices : number < length old.choices = omega (arith, had.choices, within) in
        said ((t : Question → Answer) → Agrees t after → Trusts told was honest → (is_in number (numbers_noted new) ≡ true) × IsDecided after new t number)
        (λ b t agrees trusts. decided_begin after old new number files honest (Rose k0 k1) c0 c1 t b store.begun unknown choices agrees (trusts_now told was honest stays trusts))

    pub tells_ok : (now : Option Files) → now ≡ files → k0 ≤ k1 → number < length old.table.targets → OnOk r ((t : Question → Answer) → Agrees t after → Tells files now old new t c0 c1 k0 k1)
    tells_ok now same later within =
        said ((t : Question → Answer) → Agrees t after → Tells files now old new t c0 c1 k0 k1)
        (λ b t agrees. tells_begun after old new number honest t agrees store.begun unknown within c0 c1 k0 k1 later files now same b)

    pub behind_ok : (now : Option Files) → now ≡ files → k0 ≤ k1 → number < length old.table.targets → OnOk r ((t : Question → Answer) → Agrees t after → Behind files now old new t k0 k1)
    behind_ok now same later within =
        let had = store.places in
        let slots : number < length old.slots = omega (arith, had.slots, within) in
        said ((t : Question → Answer) → Agrees t after → Behind files now old new t k0 k1) (λ b t agrees. behind_begun old new number b.decision files now t k0 k1 b.held unknown slots same later)

    pub same_begin : (new.job ≡ old.job) × (new.table ≡ old.table) × (length old.noted ≤ length new.noted)
    same_begin = by r begun err
      where
        by : (r : Result (Unit {0}) TreeFault) → OnOk r (HasBegun after old new number files honest (Rose k0 k1) c0 c1) → OnErr r (new ≡ old) → (new.job ≡ old.job) × (new.table ≡ old.table) × (length old.noted ≤ length new.noted)
        by (Ok a) b e =
            let longer = ap (λ (h : Held). length h.noted) b.held in
            let one = length-append old.noted (record { number = number; origin = b.decision.origin } ∷ []) in
            (ap (λ (h : Held). h.job) b.held, ap (λ (h : Held). h.table) b.held, omega (arith, longer, one))
        by (Err f) b e = let same = ap (λ (h : Held). length h.noted) e in (ap (λ (h : Held). h.job) e, ap (λ (h : Held). h.table) e, omega (arith, same))

    pub moved_begin : (told now : Bool) (was trust : Type 0) (faults more : ℕ) → now ≡ told → (told ≡ false → trust → was) → faults ≤ more → Moved (state_of before old told was faults) (state_of after new now trust more)
    moved_begin told now was trust faults more same trusted later = by r begun err
      where
        by : (r : Result (Unit {0}) TreeFault) → OnOk r (HasBegun after old new number files honest (Rose k0 k1) c0 c1) → OnErr r (new ≡ old) → Moved (state_of before old told was faults) (state_of after new now trust more)
        by (Ok a) b e =
            subst (λ (h : Held). Moved (state_of before old told was faults) (state_of after h now trust more)) (sym b.held)
            (moved_begun before after told now was trust faults more back same trusted later old number b.decision grew store.begun unknown)
        by (Err f) b e =
            subst (λ (h : Held). Moved (state_of before old told was faults) (state_of after h now trust more)) (sym e)
            (moved_turn before after told now was trust faults more back same trusted later old old (held_on before after old grew) refl)

-- a cache tells its files where it told them before
pub told_others : (name : Path) (old new : Option Files) → LeavesOthers name old new → is_some new ≡ is_some old
told_others name None new e = ap is_some e
told_others name (Some files) new h = ap is_some h.1

-- what a turn leaves behind
module _ (before after : List Record) (told : Bool) (honest : Type 0) (faults : ℕ) (next : State) (old new : Held) (number : ℕ) (store : IsStore before old) (on : HeldOn before after old new) (noted : new.noted ≡ old.noted)
    (busy : slot_at old.slots number ≡ IsBusy) (within : number < length old.table.targets) (files now : Option Files) (k0 k1 : ℕ) (later : k0 ≤ k1) (others : LeavesOthers (file_name_of (key_held old number)) files now) where
  pub behind_turn : (r : Result Turn TreeFault) → IfOk r (λ turn. new.slots ≡ slots_after turn number old.slots)
      → IfOk r (λ turn. (t : Question → Answer) (chain end : List ℕ) → Agrees t after → IsTableOf before old → HeldRuns before old t (number ∷ chain) end
      → ModuleBehind old number (is_sources (choice_at old number) && has_ended turn) t files now (Rose k0 k1))
      → OnOk r ((t : Question → Answer) (chain end : List ℕ) → Agrees t after → IsTrusted (state_of before old told honest faults) next → Runs (state_of before old told honest faults) t (number ∷ chain) end → Behind files now old new t k0 k1)
  behind_turn (Ok turn) slots turned = λ t chain end agrees trusted runs.
      let had = store.places in
      let place : number < length old.slots = omega (arith, had.slots, within) in
      behind_turned old new number store.begun noted busy place turn files now t k0 k1 on.job on.table slots within later others
      (turned t chain end agrees store.table (runs_held before old told honest faults t (number ∷ chain) end runs))
  behind_turn (Err fault) slots turned = tt
