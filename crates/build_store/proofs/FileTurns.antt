-- A turn of a module that is loaded from its kept file.
use Rattle.std.proofs.Common.{◌≡◌, ◌≢◌, ◌∙◌, refl, sym, ap, subst, ℕ, zero, suc, ◌<◌, Bool, true, false, cond, List, [], ◌∷◌, ◌++◌, length, map, get_or, drop, Option, Some, None, arith, true≢false, eq-eqb}
use Rattle.std.proofs.Math.Path.{fun_ext}
use Rattle.std.specs.Prelude.{slice_get}
use Rattle.std.specs.Option.{is_some}
use Rattle.std.proofs.lemmas.List.{get_or-set_same}
use Rattle.std.proofs.lemmas.Option.{slice_get-get_or}
use Rattle.cm_outside.specs.declared.question.Question.{Question}
use Rattle.cm_outside.specs.declared.question.Answer.{Answer}
use Rattle.cm_outside.specs.declared.question.Record.{Record}
use Rattle.cm_outside.specs.Asks.{value, asked, Agrees}
use Rattle.cm_outside.specs.Firsts.{firsts}
use Rattle.module_file.specs.declared.index.Index.{Index}
use Rattle.build_store.specs.Decisions.{IsNumberedChoice, IsTrueChoice, IsOfKey}
use Rattle.build_store.specs.Held.{setting_of_held, plan_held, key_held, choice_at, numbers_noted, HasPlaces, IsTableOf, Holds, IsEnded, HeldRuns, state_held, without_choice}
use Rattle.build_store.specs.Images.{index_of, interpreted}
use Rattle.build_store.specs.Libraries.{IsBroughtBy, parts_at, with_part}
use Rattle.build_store.specs.Loads.{IsFile, IsLoaded, or_nothing, needs_by, needs_of_choice, is_new, first_new, part_by}
use Rattle.build_store.specs.Memo.{Unknown, Busy, first_unknown, is_unknown, Sound, NeedsNext, NeedsNone, EndsGood}
use Rattle.build_store.specs.Modules.{Plan, is_in, inside, mod_of}
use Rattle.build_store.specs.Needs.{end_of, met}
use Rattle.build_store.specs.Order.{needs_of}
use Rattle.build_store.specs.Outcomes.{brought, imports}
use Rattle.build_store.specs.Owners.{Setting, plan_of, module_needs}
use Rattle.build_store.specs.Report.{fits}
use Rattle.build_store.specs.Parts.{Fragment, part_in, part_or, part_or_none}
use Rattle.build_store.specs.Tables.{table_of}
use Rattle.build_store.specs.Targets.{name_of, HasOwnNames}
use Rattle.build_store.specs.Turning.{IsNew, known_as, known_of, slot_at}
use Rattle.build_store.specs.declared.decide.Choice.{Choice}
use Rattle.build_store.specs.declared.decide.Choice.TheVariants.{Sources, File}
use Rattle.build_store.specs.declared.held.Found.{Found}
use Rattle.build_store.specs.declared.held.Held.{Held}
use Rattle.build_store.specs.declared.part.Part.{Part}
use Rattle.build_store.specs.declared.slot.Slot.{Slot}
use Rattle.build_store.specs.declared.slot.Slot.TheVariants.{Unknown as IsUnknown, Busy as IsBusy, Cyclic as IsCyclic, Good as IsGood}
use Rattle.build_store.specs.declared.table.Table.{Table}
use Rattle.build_store.proofs.ListLemmas.{Every, every_map, every_at, in_head, same_some, some≢none}
use Rattle.build_store.proofs.BegunLemmas.{imports_from}
use Rattle.build_store.proofs.ModuleLemmas.{outcome_is_fold, brought_rule, comes_back_of}
use Rattle.build_store.proofs.MemoTurns.{kept_needs, kept_ends}
use Rattle.build_store.proofs.OwnerLemmas.{IsOther_of, every_met_import, module_imports, inside_is, module_part, module_comes_to, fragments}
use Rattle.build_store.proofs.FragmentLemmas.{number_of_name, module_brings}
use Rattle.build_store.proofs.PlanLemmas.{needs_tops, EndsWith, strict_end, top_of, of_top, plan_named}
use Rattle.build_store.proofs.Interpreted.{Says, says_of, same_part}
use Rattle.build_store.proofs.HeldLemmas.{holds_by}
use Rattle.build_store.proofs.TableNames.{own_names}

-- ---- the first need

first_found : (slots : List Slot) (xs : List ℕ) (x : ℕ) → first_new slots xs ≡ Some x → is_new (slice_get slots x) ≡ true
first_found slots [] x e = absurd (cc)
first_found slots (y ∷ xs) x e = by (is_new (slice_get slots y)) refl e (first_found slots xs x)
  where
    by : (b : Bool) → is_new (slice_get slots y) ≡ b → cond b (Some y) (first_new slots xs) ≡ Some x → (first_new slots xs ≡ Some x → is_new (slice_get slots x) ≡ true)
        → is_new (slice_get slots x) ≡ true
    by true is h rest = let same : y ≡ x = cc in ap (λ z. is_new (slice_get slots z)) (sym same) ∙ is
    by false is h rest = rest h

unknown_slot : (s : Slot) → is_new (Some s) ≡ true → s ≡ IsUnknown
unknown_slot IsUnknown e = refl
unknown_slot IsBusy e = absurd (true≢false (sym e))
unknown_slot IsCyclic e = absurd (true≢false (sym e))
unknown_slot IsGood e = absurd (true≢false (sym e))

new_is : (slots : List Slot) (x : ℕ) → is_new (slice_get slots x) ≡ true → (x < length slots) × (slot_at slots x ≡ IsUnknown)
new_is [] x e = absurd (true≢false (sym e))
new_is (s ∷ slots) zero e = (omega arith, unknown_slot s e)
new_is (s ∷ slots) (suc x) e = let rest = new_is slots x e in (omega arith, rest.1)

-- what is needed first is a module of the table of which nothing is known
pub new_of_first : (kept : List Record) (h : Held) (needs : List ℕ) (x : ℕ) → HasPlaces h → first_new h.slots needs ≡ Some x → IsNew (state_held kept h) x
unfolding state_held
new_of_first kept h needs x places e =
    let at = new_is h.slots x (first_found h.slots needs x e) in
    record { top = top_of (setting_of_held h) x (omega (arith, at.0, places.slots)); unknown = at.1 }

same_new : (s : Slot) (o : Option Fragment) (rs : List Record) → is_new (Some s) ≡ is_unknown (known_as s o rs)
same_new IsUnknown o rs = refl
same_new IsBusy o rs = refl
same_new IsCyclic o rs = refl
same_new IsGood None rs = refl
same_new IsGood (Some b) rs = refl

-- the slots say which module is the first of which nothing is known
first_same : (p : Plan Fragment) (t : Question → Answer) (slots : List Slot) (xs : List ℕ) → Every (λ x. x < length slots) xs → first_new slots xs ≡ first_unknown (known_of p t slots) xs
unfolding known_of
first_same p t slots [] h = refl
first_same p t slots (x ∷ xs) h = (λ i. cond (test i) (Some x) (first_same p t slots xs h.1 i))
  where
    test : is_new (slice_get slots x) ≡ is_unknown (known_of p t slots x)
    test = ap is_new (slice_get-get_or slots x IsUnknown h.0) ∙ same_new (slot_at slots x) (value (mod_of p [] x) t) (firsts (asked (mod_of p [] x) t))

-- ---- the choice of a module

same_at : {X : Type 0} (xs : List X) (m : ℕ) (d e : X) → m < length xs → get_or xs m d ≡ get_or xs m e
same_at [] m d e less = absurd (omega arith)
same_at (x ∷ xs) zero d e less = refl
same_at (x ∷ xs) (suc m) d e less = same_at xs m d e (omega arith)

pub choice_in : (h : Held) (m : ℕ) (items : List Choice) (c : Choice) → HasPlaces h → m < length h.table.targets → items ≡ h.choices → c ≡ get_or items m c → c ≡ choice_at h m
choice_in h m items c places within same at = at ∙ ap (λ cs. get_or cs m c) same ∙ same_at h.choices m c Sources (omega (arith, within, places.choices))

-- the needs by the choice that stands in its place
pub needs_at : (h : Held) (m : ℕ) (items : List Choice) (c : Choice) (needs : List ℕ) → HasPlaces h → m < length h.table.targets → items ≡ h.choices → c ≡ get_or items m c
    → needs ≡ needs_of_choice h.table c → needs ≡ needs_of_choice h.table (choice_at h m)
needs_at h m items c needs places within same at e =
    e ∙ ap (needs_of_choice h.table) (choice_in h m items c places within same at)

-- ---- needs by their names

needs_of_names : (table : Table) → HasOwnNames table → (xs : List ℕ) → Every (λ x. x < length table.targets) xs → needs_by table (map (name_of table) xs) ≡ xs
needs_of_names table names [] h = refl
needs_of_names table names (x ∷ xs) h = λ i. or_nothing (number_of_name table names x h.0 i) ++ needs_of_names table names xs h.1 i

-- ---- a module that is loaded

module _ (kept : List Record) (h : Held) (t : Question → Answer) (chain : List ℕ) (m : ℕ) (i : Index) (numbers : List ℕ)
    (sound : Sound (plan_held h) t (known_of (plan_held h) t h.slots) (numbers_noted h) (m ∷ chain))
    (kept_of : (y : ℕ) → slot_at h.slots y ≡ IsGood → Holds kept h t y)
    (names : HasOwnNames h.table) (is_table : value (table_of h.job.maps) t ≡ h.table) (places : HasPlaces h) (within : m < length h.table.targets)
    (numbered : IsNumberedChoice kept (File i numbers)) (key : i.key ≡ key_held h m) (fitting : fits h.table i ≡ true) (true_of : index_of i.key t ≡ Some i) where
  abbrev p : Plan Fragment
  p = plan_held h

  abbrev s : Setting
  s = setting_of_held h

  abbrev n : ℕ
  n = length h.table.targets

  says : Says (key_held h m) t h.table m i
  says = says_of (key_held h m) t h.table m is_table (number_of_name h.table names m within) i (ap (λ k. index_of k t) (sym key) ∙ true_of)

  needs_within : Every (λ x. x < n) (drop 1 (needs_of p t m))
  needs_within = every_map (λ x. is_in x p.tops ≡ true) (λ x. x < n) (of_top s) (drop 1 (needs_of p t m)) (needs_tops p t m (top_of s m within))

  needs_same : needs_by h.table i.needs ≡ drop 1 (needs_of p t m)
  needs_same = ap (λ (j : Index). needs_by h.table j.needs) says.index ∙ needs_of_names h.table names (drop 1 (needs_of p t m)) needs_within

  first_is : (o : Option ℕ) → first_new h.slots (needs_by h.table i.needs) ≡ o → first_unknown (known_of p t h.slots) (drop 1 (needs_of p t m)) ≡ o
  first_is o e =
      let P : ℕ → Type 0 = λ k. Every (λ x. x < k) (drop 1 (needs_of p t m)) in
      sym (first_same p t h.slots (drop 1 (needs_of p t m)) (subst P (sym places.slots) needs_within)) ∙ ap (first_new h.slots) (sym needs_same) ∙ e

  pub loaded_needs : (x : ℕ) → first_new h.slots (needs_by h.table i.needs) ≡ Some x → NeedsNext p t (known_of p t h.slots) (numbers_noted h) chain m x
  loaded_needs x e = kept_needs p t (known_of p t h.slots) (numbers_noted h) chain m sound (plan_named s m) says.parts x says.outcome (first_is (Some x) e)

  loaded_ends : first_new h.slots (needs_by h.table i.needs) ≡ None → EndsGood p t (numbers_noted h) chain m says.parts (firsts (asked (mod_of p [] m) t))
  loaded_ends e =
      kept_ends p t (known_of p t h.slots) (numbers_noted h) chain m sound (plan_named s m) says.parts (firsts (asked (mod_of p [] m) t)) says.outcome refl (first_is None e)

  -- ---- what it brings

  slot_good : (y : ℕ) (b : Fragment) → known_of p t h.slots y ≢ Unknown → known_of p t h.slots y ≢ Busy → value (mod_of p [] y) t ≡ Some b → slot_at h.slots y ≡ IsGood
  unfolding known_of
  slot_good y b known free outcome = by (slot_at h.slots y) refl
    where
      at : (slot : Slot) → slot_at h.slots y ≡ slot → known_of p t h.slots y ≡ known_as slot (value (mod_of p [] y) t) (firsts (asked (mod_of p [] y) t))
      at slot is = ap (λ w. known_as w (value (mod_of p [] y) t) (firsts (asked (mod_of p [] y) t))) is

      by : (slot : Slot) → slot_at h.slots y ≡ slot → slot_at h.slots y ≡ IsGood
      by IsUnknown is = absurd (known (at IsUnknown is))
      by IsBusy is = absurd (free (at IsBusy is))
      by IsCyclic is = absurd (some≢none (sym outcome ∙ sound.cyclic y (at IsCyclic is)))
      by IsGood is = is

  module _ (none : NeedsNone p t (numbers_noted h) chain m) where
    abbrev ms : List ℕ
    ms = met (module_needs s m) t (brought p t)

    ms_within : Every (λ x. x < n) ms
    ms_within =
        every_map (λ x. IsOther_of s (Some m) x) (λ x. x < n) (λ x other. other.0) ms
        (every_met_import (λ x. IsOther_of s (Some m) x) (module_needs s m) t (brought p t) (module_imports s m))

    ends : EndsWith (module_needs s m) t (brought p t) says.parts
    ends =
        strict_end t (brought p t) says.parts (module_needs s m)
        (ap (λ f. end_of f t (brought p t)) (sym (inside_is s m)) ∙ sym (outcome_is_fold p t m) ∙ says.outcome)

    imported_at : (y : ℕ) → is_in y ms ≡ true → is_in y (imports p t m) ≡ true
    unfolding plan_of
    imported_at y e = from (top_of s y (every_at (λ x. x < n) ms ms_within y e))
      where
        inner : is_in y (met (inside p m) t (brought p t)) ≡ true
        inner = ap (λ f. is_in y (met f t (brought p t))) (inside_is s m) ∙ ap (is_in y) ends.met_same ∙ e

        from : is_in y p.tops ≡ true → is_in y (imports p t m) ≡ true
        from top = imports_from p t m y inner top

    outcome_at : (y : ℕ) (b : Fragment) → y < n → brought p t y ≡ Some b → value (mod_of p [] y) t ≡ Some b
    unfolding plan_of
    outcome_at y b known e = sym (brought_rule p t y ∙ ap (λ d. cond d (value (mod_of p [] y) t) None) (top_of s y known)) ∙ e

    each : (y : ℕ) (b : Fragment) → is_in y ms ≡ true → brought p t y ≡ Some b → IsBroughtBy h.table (parts_at h.library) y b
    each y b e is =
        let imported = imported_at y e in
        let outcome = outcome_at y b (every_at (λ x. x < n) ms ms_within y e) is in
        let seen = none.imported y imported in
        let k = kept_of y (slot_good y b (λ u. true≢false (sym seen ∙ sound.unneeded y u))
        (λ u. some≢none (sym outcome ∙ comes_back_of p t (m ∷ chain) y (imported, sound.chain) (sound.waits y u))) outcome) in
        let P : Fragment → Type 0 = λ ps. IsBroughtBy h.table (parts_at h.library) y ps in
        subst P (same_some k.outcome outcome) k.brought

    abbrev own : Part
    own = module_part s t (brought p t) m

    parts_are : (m, own) ∷ fragments (brought p t) ms ≡ says.parts
    parts_are = sym (module_comes_to s t (brought p t) m ends.brought).0 ∙ ends.same

    part_is : own ≡ part_by i
    part_is =
        sym (ap part_by says.index
        ∙ same_part (key_held h m) h.table h.table m (firsts (asked (interpreted (key_held h m)) t)) (drop 1 (needs_of p t m)) (part_or_none (part_in says.parts m))
        (ap (fits h.table) (sym says.index) ∙ fitting)
        ∙ ap (λ ps. part_or_none (part_in ps m)) (sym parts_are)
        ∙ ap (λ b. part_or_none (part_or b own (part_in (fragments (brought p t) ms) m))) (eq-eqb m m refl))

    loaded_brings : IsBroughtBy h.table (with_part (parts_at h.library) m (part_by i)) m says.parts
    loaded_brings =
        let P : Part → Type 0 = λ q. IsBroughtBy h.table (with_part (parts_at h.library) m q) m says.parts in
        let Q : Fragment → Type 0 = λ ps. IsBroughtBy h.table (with_part (parts_at h.library) m own) m ps in
        subst P part_is
        (subst Q parts_are
        (module_brings h.table names (parts_at h.library) (brought p t) m own ms ms_within ends.brought (module_comes_to s t (brought p t) m ends.brought).1 each))

  pub loaded_holds : (g : Held) → IsEnded (without_choice h m) g m (part_by i) (record { asked = numbers; needs = needs_by h.table i.needs })
      → first_new h.slots (needs_by h.table i.needs) ≡ None → NeedsNone p t (numbers_noted h) chain m × (is_some (value (mod_of p [] m) t) ≡ true) × Holds kept g t m
  loaded_holds g e none =
      let so = loaded_ends none in
      let P : (ℕ → Option Part) → Type 0 = λ parts. IsBroughtBy h.table parts m says.parts in
      let found : Found = record { asked = numbers; needs = needs_by h.table i.needs } in
      let room : m < length h.found = omega (arith, within, places.found) in (
        so.none,
        ap is_some says.outcome,
        holds_by kept h g t m says.parts found e.job e.table says.outcome (subst P (sym (fun_ext e.parts)) (loaded_brings so.none))
            (ap (λ fs. get_or fs m None) e.found_of ∙ get_or-set_same h.found m (Some found) None room)
            (numbered ∙ ap (λ (j : Index). map Some j.records) says.index) needs_same,
      )

-- ---- the whole turn

module _ (kept : List Record) (h : Held) (t : Question → Answer) (chain end : List ℕ) (m : ℕ) (places : HasPlaces h) (within : m < length h.table.targets)
    (of_table : IsTableOf kept h) (agrees : Agrees t kept) (runs : HeldRuns kept h t (m ∷ chain) end) where
  table_names : HasOwnNames h.table
  table_names = let P : Table → Type 0 = λ table. HasOwnNames table in subst P (of_table.table t agrees) (own_names h.job.maps t)

  run_sound : Sound (plan_held h) t (known_of (plan_held h) t h.slots) (numbers_noted h) (m ∷ chain)
  unfolding state_held
  run_sound = runs.stack.sound

  run_holds : (y : ℕ) → slot_at h.slots y ≡ IsGood → Holds kept h t y
  unfolding state_held
  run_holds = runs.known.holds

  -- what was decided of the module, by its choice
  run_choice : (c : Choice) → choice_at h m ≡ c → IsNumberedChoice kept c × IsOfKey h.table (key_held h m) c × IsTrueChoice t c
  unfolding state_held
  run_choice c is =
      let d = runs.decided m (in_head m chain) in
      let N : Choice → Type 0 = λ w. IsNumberedChoice kept w in
      let K : Choice → Type 0 = λ w. IsOfKey h.table (key_held h m) w in
      let T : Choice → Type 0 = λ w. IsTrueChoice t w in
      (subst N is d.numbered, subst K is d.of_key, subst T is d.is_true)

  pub file_needs : (c : Choice) → choice_at h m ≡ c → IsFile c → (needs : List ℕ) (x : ℕ) → needs ≡ needs_of_choice h.table c → first_new h.slots needs ≡ Some x
      → NeedsNext (state_held kept h).plan t (known_of (state_held kept h).plan t (state_held kept h).slots) (state_held kept h).noted chain m x
  unfolding state_held
  file_needs Sources is file needs x by e = absurd file
  file_needs (File i numbers) is file needs x by e =
      let d = run_choice (File i numbers) is in
      loaded_needs kept h t chain m i numbers run_sound run_holds table_names (of_table.table t agrees) places within d.0 d.1.0 d.1.1 d.2 x (ap (first_new h.slots) (sym by) ∙ e)

  pub file_ends : (c : Choice) → choice_at h m ≡ c → (g : Held) (needs : List ℕ) → needs ≡ needs_of_choice h.table c → IsLoaded h g m needs c → first_new h.slots needs ≡ None
      → NeedsNone (state_held kept h).plan t (state_held kept h).noted chain m × (is_some (value (mod_of (state_held kept h).plan [] m) t) ≡ true) × Holds kept g t m
  unfolding state_held
  file_ends Sources is g needs by loaded e = absurd loaded
  file_ends (File i numbers) is g needs by loaded e =
      let d = run_choice (File i numbers) is in
      let P : List ℕ → Type 0 = λ ns. IsLoaded h g m ns (File i numbers) in
      loaded_holds kept h t chain m i numbers run_sound run_holds table_names (of_table.table t agrees) places within d.0 d.1.0 d.1.1 d.2 g (subst P by loaded) (ap (first_new h.slots) (sym by) ∙ e)
