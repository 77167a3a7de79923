-- A module whose header was read to its end: it is good, its file is an image, and what is kept of it is true.
use Rattle.std.proofs.Common.{◌≡◌, ◌≢◌, ◌∙◌, refl, sym, ap, subst, ℕ, ◌<◌, true, cond, List, [], ◌∷◌, ◌++◌, length, map, get_or, drop, append-nil, Option, Some, None, arith, true≢false, eq-eqb}
use Rattle.std.proofs.Math.Path.{fun_ext}
use Rattle.std.specs.Prelude.{slice_get}
use Rattle.std.specs.List.{AllByRecursion, flat_map}
use Rattle.std.specs.Option.{is_some, option_map}
use Rattle.std.proofs.lemmas.List.{get_or-set_same}
use Rattle.cm_outside.specs.declared.question.Question.{Question}
use Rattle.cm_outside.specs.declared.question.Answer.{Answer}
use Rattle.cm_outside.specs.declared.question.Record.{Record}
use Rattle.cm_outside.specs.Asks.{Done, value, asked, begun, value-then_ask, asked-then_ask, begun-then_ask}
use Rattle.cm_outside.specs.Firsts.{firsts}
use Rattle.cm_outside.specs.Keeping.{AreKept}
use Rattle.cm_outside.proofs.Firsts.{firsts_append}
use Rattle.module_file.specs.declared.index.Index.{Index}
use Rattle.module_file.specs.declared.index.Key.{Key}
use Rattle.build_store.specs.Headers.{HasWalked, IsFresh, needs_of_found, with_needs, needs_found}
use Rattle.build_store.specs.Held.{setting_of_held, plan_held, key_held, numbers_noted, AreNumbersOf, HasPlaces, Holds, IsEnded, HeldRuns, IsHeldTurn, state_held}
use Rattle.build_store.specs.Images.{Outcome, interpreted, interpret_in, setting_by, outcome_of, index_by, index_of, index_with}
use Rattle.build_store.specs.Libraries.{IsBroughtBy, parts_at, with_part}
use Rattle.build_store.specs.Memo.{Unknown, Busy, Tried, Ended, Stands, tried, Sound, NeedsNext, NeedsNone, EndsGood, EndsCyclic}
use Rattle.build_store.specs.Modules.{Plan, is_in, inside, mod_of}
use Rattle.build_store.specs.Needs.{end_of, met}
use Rattle.build_store.specs.Order.{new_of, needs_of}
use Rattle.build_store.specs.Outcomes.{brought, imports}
use Rattle.build_store.specs.Owners.{Setting, plan_of, module_needs}
use Rattle.build_store.specs.Parts.{Fragment, part_in, part_or, part_or_none}
use Rattle.build_store.specs.Tables.{table_of}
use Rattle.build_store.specs.Targets.{name_of, number_of, HasOwnNames}
use Rattle.build_store.specs.Turning.{known_as, known_of, slot_at}
use Rattle.build_store.specs.Walks.{AsksSame, IsWalk, IsWalkTo, known_held, header_fold}
use Rattle.build_store.specs.declared.held.Found.{Found}
use Rattle.build_store.specs.declared.held.Held.{Held}
use Rattle.build_store.specs.declared.part.Part.{Part}
use Rattle.build_store.specs.declared.slot.Slot.{Slot}
use Rattle.build_store.specs.declared.slot.Slot.TheVariants.{Unknown as IsUnknown, Busy as IsBusy, Cyclic as IsCyclic, Good as IsGood}
use Rattle.build_store.specs.declared.slot.Turn.TheVariants.{Needs as FirstNeeds, Cyclic as HasComeBack, Good as HasEnded}
use Rattle.build_store.specs.declared.table.Table.{Table}
use Rattle.build_store.specs.declared.walk.Walk.TheVariants.{Needs as NeedsFirst, Cyclic as ComesBack, Done as IsRead}
use Rattle.build_store.proofs.ListLemmas.{Every, every_map, every_at, every_in, every_append, same_some, some≢none}
use Rattle.build_store.proofs.BegunLemmas.{imports_from}
use Rattle.build_store.proofs.NeedLemmas.{begun_by}
use Rattle.build_store.proofs.ModuleLemmas.{outcome_is_fold, brought_rule, comes_back_of}
use Rattle.build_store.proofs.MemoTurns.{turn_stands, turn_cyclic, turn_good}
use Rattle.build_store.proofs.OwnerLemmas.{IsOther_of, every_met_import, module_imports, inside_is, module_part, module_comes_to, fragments}
use Rattle.build_store.proofs.FragmentLemmas.{number_of_name, module_brings}
use Rattle.build_store.proofs.PlanLemmas.{needs_tops, EndsWith, strict_end, top_of, of_top, plan_named}
use Rattle.build_store.proofs.Interpreted.{begun_table}
use Rattle.build_store.proofs.HeldLemmas.{holds_by}
use Rattle.build_store.proofs.TableNames.{own_names}
use Rattle.build_store.proofs.HeaderNeeds.{all_of, numbers_within, numbers_of_both, numbers_of_firsts, good_needs}

-- ---- the module of a key

module _ (key : Key) (t : Question → Answer) (table : Table) (m : ℕ) (is_table : value (table_of key.maps) t ≡ table) (numbered : number_of table key.name ≡ Some m) where
  interpreted_value : value (interpreted key) t ≡ outcome_of table m (value (mod_of (plan_of (setting_by key table)) [] m) t)
  unfolding interpreted
  interpreted_value =
      value-then_ask (table_of key.maps) (λ tb. interpret_in key tb (number_of tb key.name)) t
      ∙ ap (λ tb. value (interpret_in key tb (number_of tb key.name)) t) is_table
      ∙ ap (λ o. value (interpret_in key table o) t) numbered
      ∙ value-then_ask (mod_of (plan_of (setting_by key table)) [] m) (λ parts. Done (outcome_of table m parts)) t

  interpreted_begun : begun (interpreted key) t ≡ begun (mod_of (plan_of (setting_by key table)) [] m) t
  unfolding interpreted
  interpreted_begun =
      begun-then_ask (table_of key.maps) (λ tb. interpret_in key tb (number_of tb key.name)) t
      ∙ (λ i. begun_table key.maps t i ++ begun (interpret_in key (is_table i) (number_of (is_table i) key.name)) t)
      ∙ ap (λ o. begun (interpret_in key table o) t) numbered
      ∙ begun-then_ask (mod_of (plan_of (setting_by key table)) [] m) (λ parts. Done (outcome_of table m parts)) t
      ∙ append-nil (begun (mod_of (plan_of (setting_by key table)) [] m) t)

  -- the questions of the maps and then those of the module
  pub interpreted_asked : asked (interpreted key) t ≡ asked (table_of key.maps) t ++ asked (mod_of (plan_of (setting_by key table)) [] m) t
  unfolding interpreted
  interpreted_asked =
      asked-then_ask (table_of key.maps) (λ tb. interpret_in key tb (number_of tb key.name)) t
      ∙ ap (λ tb. asked (table_of key.maps) t ++ asked (interpret_in key tb (number_of tb key.name)) t) is_table
      ∙ ap (λ o. asked (table_of key.maps) t ++ asked (interpret_in key table o) t) numbered
      ∙ ap (λ rs. asked (table_of key.maps) t ++ rs)
      (asked-then_ask (mod_of (plan_of (setting_by key table)) [] m) (λ parts. Done (outcome_of table m parts)) t
      ∙ append-nil (asked (mod_of (plan_of (setting_by key table)) [] m) t))

  -- what the file of a module says that came to these parts
  pub index_is : (parts : Fragment) → value (mod_of (plan_of (setting_by key table)) [] m) t ≡ Some parts
      → index_of key t ≡ Some (index_with key table m (firsts (asked (interpreted key) t)) (drop 1 (needs_of (plan_of (setting_by key table)) t m)) (part_or_none (part_in parts m)))
  unfolding needs_of
  index_is parts some =
      let f = index_by key (asked (interpreted key) t) (begun (interpreted key) t) in
      let o : Outcome = record { table = table; number = m; parts = parts } in
      ap (option_map f) (interpreted_value ∙ ap (outcome_of table m) some) ∙ ap (λ bs. Some (index_by key (asked (interpreted key) t) bs o)) interpreted_begun

-- ---- a walk that came to the end

pub record WalksTo (kept : List Record) (h : Held) (t : Question → Answer) (m : ℕ) (part : Part) (numbers : List ℕ) : Type 0 where
  pub parts : Fragment
  pub records : List Record
  pub far : tried (known_held h t) (header_fold h m) t ≡ Ended (Some parts) records
  pub more : Fragment
  pub own : parts ≡ (m, part) ∷ more
  pub added : List ℕ
  pub pushed : numbers ≡ h.maps ++ added
  pub asks : AsksSame kept h t added records

walks_to : (kept : List Record) (h : Held) (t : Question → Answer) (m : ℕ) (part : Part) (numbers : List ℕ) → IsWalk kept h t m h.maps numbers (IsRead part) → WalksTo kept h t m part numbers
walks_to kept h t m part numbers walk = by (tried (known_held h t) (header_fold h m) t) refl walk
  where
    by : (r : Tried (Option Fragment)) → tried (known_held h t) (header_fold h m) t ≡ r → IsWalkTo kept h t m h.maps numbers (IsRead part) r → WalksTo kept h t m part numbers
    by (Ended None records) is w = absurd w
    by (Ended (Some parts) records) is w =
        record { parts = parts; records = records; far = is; more = w.0.0; own = w.0.1; added = w.1.0; pushed = w.1.1; asks = w.1.2 }
    by (Stands x) is w = absurd w

-- ---- a module in progress

module _ (kept : List Record) (h : Held) (t : Question → Answer) (chain : List ℕ) (m : ℕ) (sound : Sound (plan_held h) t (known_of (plan_held h) t h.slots) (numbers_noted h) (m ∷ chain)) where
  tried_inside : tried (known_of (plan_held h) t h.slots) (inside (plan_held h) m) t ≡ tried (known_held h t) (header_fold h m) t
  tried_inside = ap (λ f. tried (known_of (plan_held h) t h.slots) f t) (inside_is (setting_of_held h) m)

  pub stands_needs : (x : ℕ) → tried (known_held h t) (header_fold h m) t ≡ Stands x → NeedsNext (plan_held h) t (known_of (plan_held h) t h.slots) (numbers_noted h) chain m x
  unfolding plan_of
  stands_needs x e =
      turn_stands (plan_held h) t (known_of (plan_held h) t h.slots) (numbers_noted h) chain m sound (plan_named (setting_of_held h) m) x (tried_inside ∙ e)

  pub ended_cyclic : (records : List Record) → tried (known_held h t) (header_fold h m) t ≡ Ended None records → EndsCyclic (plan_held h) t (numbers_noted h) chain m
  unfolding plan_of
  ended_cyclic records e =
      turn_cyclic (plan_held h) t (known_of (plan_held h) t h.slots) (numbers_noted h) chain m sound (plan_named (setting_of_held h) m) records (tried_inside ∙ e)

  pub ended_good : (parts : Fragment) (records : List Record) → tried (known_held h t) (header_fold h m) t ≡ Ended (Some parts) records
      → EndsGood (plan_held h) t (numbers_noted h) chain m parts (firsts records)
  unfolding plan_of
  ended_good parts records e =
      turn_good (plan_held h) t (known_of (plan_held h) t h.slots) (numbers_noted h) chain m sound (plan_named (setting_of_held h) m) parts records (tried_inside ∙ e)

-- ---- what a module came to

-- What is kept of a module whose header came to this part, and what its file says. `numbers` are those of what it asks.
pub record IsBuilt (kept : List Record) (h : Held) (t : Question → Answer) (chain : List ℕ) (m : ℕ) (part : Part) (numbers : List ℕ) : Type 0 where
  pub parts : Fragment
  pub none : NeedsNone (plan_held h) t (numbers_noted h) chain m
  pub outcome : value (mod_of (plan_held h) [] m) t ≡ Some parts
  pub brought : IsBroughtBy h.table (with_part (parts_at h.library) m part) m parts
  pub numbered : AllByRecursion (λ n. n < length kept) numbers
  pub all_asked : List Record
  pub are : AreNumbersOf kept numbers all_asked
  pub same : firsts all_asked ≡ firsts (asked (interpreted (key_held h m)) t)
  pub within : AllByRecursion (λ n. n < length h.table.targets) (flat_map (needs_found h) part.imports)
  pub needs : new_of [] (flat_map (needs_found h) part.imports) ≡ drop 1 (needs_of (plan_held h) t m)
  pub index : index_of (key_held h m) t ≡ Some (index_with (key_held h m) h.table m (firsts (asked (interpreted (key_held h m)) t)) (drop 1 (needs_of (plan_held h) t m)) part)

module _ (kept : List Record) (h : Held) (t : Question → Answer) (chain : List ℕ) (m : ℕ) (part : Part) (numbers : List ℕ)
    (sound : Sound (plan_held h) t (known_of (plan_held h) t h.slots) (numbers_noted h) (m ∷ chain))
    (kept_of : (y : ℕ) → slot_at h.slots y ≡ IsGood → Holds kept h t y)
    (names : HasOwnNames h.table) (is_table : value (table_of h.job.maps) t ≡ h.table) (maps_are : AreNumbersOf kept h.maps (asked (table_of h.job.maps) t))
    (within : m < length h.table.targets) (walk : WalksTo kept h t m part numbers) where
  abbrev p : Plan Fragment
  p = plan_held h

  abbrev s : Setting
  s = setting_of_held h

  abbrev n : ℕ
  n = length h.table.targets

  abbrev ms : List ℕ
  ms = met (module_needs s m) t (brought p t)

  good : EndsGood p t (numbers_noted h) chain m walk.parts (firsts walk.records)
  good = ended_good kept h t chain m sound walk.parts walk.records walk.far

  slot_good : (y : ℕ) (b : Fragment) → known_of p t h.slots y ≢ Unknown → known_of p t h.slots y ≢ Busy → value (mod_of p [] y) t ≡ Some b → slot_at h.slots y ≡ IsGood
  unfolding known_of
  slot_good y b known free outcome = by (slot_at h.slots y) refl
    where
      at : (slot : Slot) → slot_at h.slots y ≡ slot → known_of p t h.slots y ≡ known_as slot (value (mod_of p [] y) t) (firsts (asked (mod_of p [] y) t))
      at slot is = ap (λ w. known_as w (value (mod_of p [] y) t) (firsts (asked (mod_of p [] y) t))) is

      by : (slot : Slot) → slot_at h.slots y ≡ slot → slot_at h.slots y ≡ IsGood
      by IsUnknown is = absurd (known (at IsUnknown is))
      by IsBusy is = absurd (free (at IsBusy is))
      by IsCyclic is = absurd (some≢none (sym outcome ∙ sound.cyclic y (at IsCyclic is)))
      by IsGood is = is

  ms_within : Every (λ x. x < n) ms
  ms_within =
      every_map (λ x. IsOther_of s (Some m) x) (λ x. x < n) (λ x other. other.0) ms
      (every_met_import (λ x. IsOther_of s (Some m) x) (module_needs s m) t (brought p t) (module_imports s m))

  ends : EndsWith (module_needs s m) t (brought p t) walk.parts
  ends =
      strict_end t (brought p t) walk.parts (module_needs s m)
      (ap (λ f. end_of f t (brought p t)) (sym (inside_is s m)) ∙ sym (outcome_is_fold p t m) ∙ good.outcome)

  meets_are : met (inside p m) t (brought p t) ≡ ms
  meets_are = ap (λ f. met f t (brought p t)) (inside_is s m) ∙ ends.met_same

  imported_at : (y : ℕ) → is_in y ms ≡ true → is_in y (imports p t m) ≡ true
  unfolding plan_of
  imported_at y e = imports_from p t m y (ap (is_in y) meets_are ∙ e) (top_of s y (every_at (λ x. x < n) ms ms_within y e))

  outcome_at : (y : ℕ) (b : Fragment) → y < n → brought p t y ≡ Some b → value (mod_of p [] y) t ≡ Some b
  unfolding plan_of
  outcome_at y b known e = sym (brought_rule p t y ∙ ap (λ d. cond d (value (mod_of p [] y) t) None) (top_of s y known)) ∙ e

  -- what is kept of a module that it imports
  kept_at : (y : ℕ) (b : Fragment) → is_in y ms ≡ true → brought p t y ≡ Some b → (value (mod_of p [] y) t ≡ Some b) × Holds kept h t y
  kept_at y b e is =
      let imported = imported_at y e in
      let outcome = outcome_at y b (every_at (λ x. x < n) ms ms_within y e) is in
      let seen = good.none.imported y imported in (
        outcome,
        kept_of y (slot_good y b (λ u. true≢false (sym seen ∙ sound.unneeded y u))
            (λ u. some≢none (sym outcome ∙ comes_back_of p t (m ∷ chain) y (imported, sound.chain) (sound.waits y u))) outcome),
      )

  each : (y : ℕ) (b : Fragment) → is_in y ms ≡ true → brought p t y ≡ Some b → IsBroughtBy h.table (parts_at h.library) y b
  each y b e is =
      let k = kept_at y b e is in
      let P : Fragment → Type 0 = λ ps. IsBroughtBy h.table (parts_at h.library) y ps in
      subst P (same_some k.1.outcome k.0) k.1.brought

  -- ---- its part

  abbrev own : Part
  own = module_part s t (brought p t) m

  parts_are : (m, own) ∷ fragments (brought p t) ms ≡ walk.parts
  parts_are = sym (module_comes_to s t (brought p t) m ends.brought).0 ∙ ends.same

  part_of_own : (q : Part) (rest : Fragment) → part_or_none (part_in ((m, q) ∷ rest) m) ≡ q
  part_of_own q rest = ap (λ b. part_or_none (part_or b q (part_in rest m))) (eq-eqb m m refl)

  part_is : own ≡ part
  part_is =
      sym (part_of_own own (fragments (brought p t) ms)) ∙ ap (λ ps. part_or_none (part_in ps m)) (parts_are ∙ walk.own) ∙ part_of_own part walk.more

  imports_are : part.imports ≡ map (name_of h.table) ms
  imports_are = ap (λ (q : Part). q.imports) (sym part_is) ∙ (module_comes_to s t (brought p t) m ends.brought).1

  built_brings : IsBroughtBy h.table (with_part (parts_at h.library) m part) m walk.parts
  built_brings =
      let P : Part → Type 0 = λ q. IsBroughtBy h.table (with_part (parts_at h.library) m q) m walk.parts in
      let Q : Fragment → Type 0 = λ ps. IsBroughtBy h.table (with_part (parts_at h.library) m own) m ps in
      subst P part_is
      (subst Q parts_are
      (module_brings h.table names (parts_at h.library) (brought p t) m own ms ms_within ends.brought (module_comes_to s t (brought p t) m ends.brought).1 each))

  -- ---- what it needs

  own_first : (y : ℕ) → y ∷ drop 1 (needs_of p t y) ≡ needs_of p t y
  unfolding needs_of mod_of
  own_first y = refl

  found_of : (y : ℕ) → is_in y ms ≡ true → needs_found h (name_of h.table y) ≡ needs_of p t y
  found_of y e = by (brought p t y) refl (every_at (λ x. is_some (brought p t x) ≡ true) ms ends.brought y e)
    where
      by : (o : Option Fragment) → brought p t y ≡ o → is_some o ≡ true → needs_found h (name_of h.table y) ≡ needs_of p t y
      by None is some = absurd (true≢false (sym some))
      by (Some b) is some =
          let k = (kept_at y b e is).1 in
          ap (with_needs h) (number_of_name h.table names y (every_at (λ x. x < n) ms ms_within y e))
          ∙ ap (λ o. y ∷ needs_of_found o) k.is_found ∙ ap (λ ns. y ∷ ns) k.needs ∙ own_first y

  flat_by : (f : List ℕ → List ℕ) (g : ℕ → List ℕ) (xs : List ℕ) → Every (λ x. f (name_of h.table x) ≡ g x) xs → flat_map f (map (name_of h.table) xs) ≡ begun_by g xs
  flat_by f g [] e = refl
  flat_by f g (x ∷ xs) e = (λ i. e.0 i ++ flat_by f g xs e.1 i)

  all_are : flat_map (needs_found h) part.imports ≡ begun_by (λ y. needs_of p t y) ms
  all_are =
      ap (flat_map (needs_found h)) imports_are
      ∙ flat_by (needs_found h) (λ y. needs_of p t y) ms (every_in (λ y. needs_found h (name_of h.table y) ≡ needs_of p t y) ms found_of)

  needs_are : new_of [] (flat_map (needs_found h) part.imports) ≡ drop 1 (needs_of p t m)
  unfolding plan_of
  needs_are =
      ap (new_of []) (all_are ∙ ap (begun_by (λ y. needs_of p t y)) (sym meets_are)) ∙ sym (good_needs p t m walk.parts good.outcome)

  every_by : (P : ℕ → Type 0) (f : ℕ → List ℕ) (xs : List ℕ) → Every (λ x. Every P (f x)) xs → Every P (begun_by f xs)
  every_by P f [] e = tt
  every_by P f (x ∷ xs) e = every_append P (f x) (begun_by f xs) e.0 (every_by P f xs e.1)

  needs_below : (y : ℕ) → y < n → Every (λ x. x < n) (needs_of p t y)
  needs_below y below =
      let Q : List ℕ → Type 0 = λ xs. Every (λ x. x < n) xs in
      subst Q (own_first y) (below, every_map (λ x. is_in x p.tops ≡ true) (λ x. x < n) (of_top s) (drop 1 (needs_of p t y)) (needs_tops p t y (top_of s y below)))

  all_below : AllByRecursion (λ x. x < n) (flat_map (needs_found h) part.imports)
  all_below =
      let Q : List ℕ → Type 0 = λ xs. AllByRecursion (λ x. x < n) xs in
      subst Q (sym all_are)
      (all_of (λ x. x < n) (begun_by (λ y. needs_of p t y) ms)
      (every_by (λ x. x < n) (λ y. needs_of p t y) ms (every_map (λ y. y < n) (λ y. Every (λ x. x < n) (needs_of p t y)) needs_below ms ms_within)))

  -- ---- what it asks

  numbered_name : number_of h.table (key_held h m).name ≡ Some m
  numbered_name = number_of_name h.table names m within

  numbers_are : AreNumbersOf kept numbers (asked (table_of h.job.maps) t ++ walk.asks.numbered)
  numbers_are =
      ap (map (slice_get kept)) walk.pushed
      ∙ numbers_of_both kept h.maps walk.added (asked (table_of h.job.maps) t) walk.asks.numbered maps_are walk.asks.are

  asks_are : firsts (asked (table_of h.job.maps) t ++ walk.asks.numbered) ≡ firsts (asked (interpreted (key_held h m)) t)
  asks_are =
      walk.asks.same
      ∙ firsts_append (asked (table_of h.job.maps) t) (asked (table_of h.job.maps) t) walk.records (asked (mod_of p [] m) t) refl good.records
      ∙ ap firsts (sym (interpreted_asked (key_held h m) t h.table m is_table numbered_name))

  index_built : index_of (key_held h m) t ≡ Some (index_with (key_held h m) h.table m (firsts (asked (interpreted (key_held h m)) t)) (drop 1 (needs_of p t m)) part)
  index_built =
      index_is (key_held h m) t h.table m is_table numbered_name walk.parts good.outcome
      ∙ ap (λ q. Some (index_with (key_held h m) h.table m (firsts (asked (interpreted (key_held h m)) t)) (drop 1 (needs_of p t m)) q))
      (ap (λ ps. part_or_none (part_in ps m)) walk.own ∙ part_of_own part walk.more)

  pub is_built : IsBuilt kept h t chain m part numbers
  is_built = record {
    parts = walk.parts;
    none = good.none;
    outcome = good.outcome;
    brought = built_brings;
    numbered = all_of (λ x. x < length kept) numbers (numbers_within kept numbers (asked (table_of h.job.maps) t ++ walk.asks.numbered) numbers_are);
    all_asked = asked (table_of h.job.maps) t ++ walk.asks.numbered;
    are = numbers_are;
    same = asks_are;
    within = all_below;
    needs = needs_are;
    index = index_built;
  }

-- ---- the whole turn

module _ (kept : List Record) (h : Held) (t : Question → Answer) (chain end : List ℕ) (m : ℕ) (runs : HeldRuns kept h t (m ∷ chain) end) where
  run_sound : Sound (plan_held h) t (known_of (plan_held h) t h.slots) (numbers_noted h) (m ∷ chain)
  unfolding state_held
  run_sound = runs.stack.sound

  run_holds : (y : ℕ) → slot_at h.slots y ≡ IsGood → Holds kept h t y
  unfolding state_held
  run_holds = runs.known.holds

built_of : (kept : List Record) (h : Held) (t : Question → Answer) (chain end : List ℕ) (m : ℕ) (part : Part) (numbers : List ℕ) → m < length h.table.targets
    → HasWalked kept h t chain end m (IsRead part) numbers → IsBuilt kept h t chain m part numbers
built_of kept h t chain end m part numbers within read =
    let P : Table → Type 0 = λ table. HasOwnNames table in
    let table = read.table.table t read.agrees in
    is_built kept h t chain m part numbers (run_sound kept h t chain end m read.runs) (run_holds kept h t chain end m read.runs)
    (subst P table (own_names h.job.maps t)) table (read.table.maps t read.agrees) within (walks_to kept h t m part numbers read.walk_is)

same_records : (rs ss : List Record) → map (λ (r : Record). Some r) rs ≡ map (λ (r : Record). Some r) ss → rs ≡ ss
same_records [] [] e = refl
same_records [] (s ∷ ss) e = absurd (cc)
same_records (r ∷ rs) [] e = absurd (cc)
same_records (r ∷ rs) (s ∷ ss) e =
    let first : r ≡ s = cc in
    let more : map (λ (x : Record). Some x) rs ≡ map (λ (x : Record). Some x) ss = cc in
    (λ i. first i ∷ same_records rs ss more i)

-- what is found of the module, and what its file says
pub fresh_of : (kept : List Record) (h : Held) (t : Question → Answer) (chain end : List ℕ) (m : ℕ) (part : Part) (numbers : List ℕ) → m < length h.table.targets → AreKept kept
    → (once all needs : List ℕ) (records : List Record) (index : Index)
    → (AllByRecursion (λ x. x < length kept) numbers → once ≡ new_of [] numbers)
    → all ≡ flat_map (needs_found h) part.imports
    → (AllByRecursion (λ x. x < length h.table.targets) all → needs ≡ new_of [] all)
    → (AllByRecursion (λ x. x < length kept) once → AreNumbersOf kept once records)
    → index ≡ index_with (key_held h m) h.table m records needs part
    → HasWalked kept h t chain end m (IsRead part) numbers → IsFresh kept h t chain m part index (record { asked = once; needs = needs })
fresh_of kept h t chain end m part numbers within are once all needs records index is_once is_all is_needs is_records is_index read =
    let b = built_of kept h t chain end m part numbers within read in
    let key = key_held h m in
    let asks = firsts (asked (interpreted key) t) in
    let needed = drop 1 (needs_of (plan_held h) t m) in
    let first : once ≡ new_of [] numbers = is_once b.numbered in
    let questions : AreNumbersOf kept once asks =
    ap (map (slice_get kept)) first ∙ numbers_of_firsts kept are numbers b.all_asked b.are ∙ ap (map (λ (r : Record). Some r)) b.same in
    let recorded : AreNumbersOf kept once records = is_records (all_of (λ x. x < length kept) once (numbers_within kept once asks questions)) in
    let same : records ≡ asks = same_records records asks (sym recorded ∙ questions) in
    let Q : List ℕ → Type 0 = λ xs. AllByRecursion (λ x. x < length h.table.targets) xs in
    let need : needs ≡ needed = is_needs (subst Q (sym is_all) b.within) ∙ ap (new_of []) is_all ∙ b.needs in
    let P : Index → Type 0 = λ i. index_of i.key t ≡ Some i in
    let whole : index_with key h.table m asks needed part ≡ index = (λ i. index_with key h.table m (sym same i) (sym need i) part) ∙ sym is_index in
    record {
      none = b.none;
      parts = b.parts;
      outcome = b.outcome;
      brought = b.brought;
      questions = questions;
      needs = need;
      image = subst P whole b.index;
    }

-- a module that has ended so
pub fresh_turn : (kept : List Record) (h g : Held) (t : Question → Answer) (chain : List ℕ) (m : ℕ) (part : Part) (index : Index) (found : Found) → HasPlaces h → m < length h.table.targets
    → IsFresh kept h t chain m part index found → IsEnded h g m part found → IsHeldTurn kept h g t chain m HasEnded
unfolding state_held
fresh_turn kept h g t chain m part index found places within f e =
    let P : (ℕ → Option Part) → Type 0 = λ parts. IsBroughtBy h.table parts m f.parts in
    let room : m < length h.found = omega (arith, within, places.found) in (
      f.none,
      ap is_some f.outcome,
      holds_by kept h g t m f.parts found e.job e.table f.outcome (subst P (sym (fun_ext e.parts)) f.brought)
          (ap (λ fs. get_or fs m None) e.found_of ∙ get_or-set_same h.found m (Some found) None room) f.questions f.needs,
    )

-- ---- a walk that did not come to the end

module _ (kept : List Record) (h g : Held) (t : Question → Answer) (chain end : List ℕ) (m : ℕ) (numbers : List ℕ) where
  pub needs_turn : (x : ℕ) → HasWalked kept h t chain end m (NeedsFirst x) numbers → IsHeldTurn kept h g t chain m (FirstNeeds x)
  unfolding state_held
  needs_turn x read = by (tried (known_held h t) (header_fold h m) t) refl read.walk_is
    where
      by : (r : Tried (Option Fragment)) → tried (known_held h t) (header_fold h m) t ≡ r → IsWalkTo kept h t m h.maps numbers (NeedsFirst x) r
          → NeedsNext (plan_held h) t (known_of (plan_held h) t h.slots) (numbers_noted h) chain m x
      by (Ended None records) is w = absurd w
      by (Ended (Some parts) records) is w = absurd w
      by (Stands y) is w =
          let P : ℕ → Type 0 = λ z. NeedsNext (plan_held h) t (known_of (plan_held h) t h.slots) (numbers_noted h) chain m z in
          subst P (sym w) (stands_needs kept h t chain m (run_sound kept h t chain end m read.runs) y is)

  pub cyclic_turn : HasWalked kept h t chain end m ComesBack numbers → IsHeldTurn kept h g t chain m HasComeBack
  unfolding state_held
  cyclic_turn read = by (tried (known_held h t) (header_fold h m) t) refl read.walk_is
    where
      by : (r : Tried (Option Fragment)) → tried (known_held h t) (header_fold h m) t ≡ r → IsWalkTo kept h t m h.maps numbers ComesBack r
          → EndsCyclic (plan_held h) t (numbers_noted h) chain m
      by (Ended None records) is w = ended_cyclic kept h t chain m (run_sound kept h t chain end m read.runs) records is
      by (Ended (Some parts) records) is w = absurd w
      by (Stands y) is w = absurd w
