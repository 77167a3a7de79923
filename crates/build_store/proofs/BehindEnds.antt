-- What a build leaves behind, from what its store did.
use Rattle.std.proofs.Common.{◌≡◌, ◌≢◌, ◌∙◌, refl, sym, ap, subst, ℕ, ◌^◌, ◌<◌, Bool, true, false, not, ◌&&◌, ◌||◌, ◌==◌, List, [], ◌∷◌, ◌++◌, length, Option, Some, None, true≢false, eq-eqb}
use Rattle.std.specs.Option.{option_map}
use Rattle.cm_outside.specs.Asks.{Agrees, asked, begun, value}
use Rattle.cm_outside.specs.Trees.{Files, file_at}
use Rattle.cm_outside.specs.declared.question.Question.{Question}
use Rattle.cm_outside.specs.declared.question.Answer.{Answer}
use Rattle.cm_outside.specs.declared.question.Record.{Record}
use Rattle.module_file.specs.ModuleFile.{file_name_of}
use Rattle.build_store.specs.CleanBuild.{setting_of}
use Rattle.build_store.specs.Held.{HeldRests, IsTableOf, key_held, numbers_noted, plan_held, setting_of_held, state_held}
use Rattle.build_store.specs.Images.{index_by, interpreted, key_of, outcome_of}
use Rattle.build_store.specs.LeftBehind.{AreFilesBehind, Behind, BehindOf, IsBuild, IsBuildOf, IsBuildOfLoaded, IsFileBehind, IsLeftBehind, has_built, is_good, kept_image, kept_of}
use Rattle.build_store.specs.Memo.{AreApart}
use Rattle.build_store.specs.Modules.{is_in, mod_of}
use Rattle.build_store.specs.Report.{HasOwnFiles, needed_by}
use Rattle.build_store.specs.Stores.{IsStore}
use Rattle.build_store.specs.Tables.{load_of}
use Rattle.build_store.specs.Targets.{HasOwnNames, name_of}
use Rattle.build_store.specs.Telling.{Tells, TellsOf, built_in, is_built, numbers_of_noted, origins_of_noted, report_since}
use Rattle.build_store.specs.TellingLaws.{name_is}
use Rattle.build_store.specs.Turning.{IsView, slot_at, view_as}
use Rattle.build_store.specs.declared.held.Held.{Held}
use Rattle.build_store.specs.declared.held.Noted.{Noted}
use Rattle.build_store.specs.declared.job.Job.{Job}
use Rattle.build_store.specs.declared.loading.Loaded.{Loaded}
use Rattle.build_store.specs.declared.slot.Slot.{Slot}
use Rattle.build_store.specs.declared.slot.Slot.TheVariants.{Unknown as IsUnknown, Busy as IsBusy, Cyclic as IsCyclic, Good as IsGood}
use Rattle.build_store.specs.declared.table.Table.{Table}
use Rattle.build_store.proofs.BehindNoted.{differ, none_built}
use Rattle.build_store.proofs.BuildEnds.{needed_is, report_here}
use Rattle.build_store.proofs.Interpreted.{interpreted_value}
use Rattle.build_store.proofs.MemoViews.{seen_view}
use Rattle.build_store.proofs.ListLemmas.{in_head}

-- ---- each module that was noted

module _ (files after : Files) (job : Job) (table : Table) (t : Question → Answer) (broken : List ℕ) where
  abbrev IsAt : ℕ → Bool → Type 0
  IsAt x b = IsFileBehind b (is_in x broken) (kept_image job table t x) (file_at (file_name_of (key_of job (name_of table x))) files) (file_at (file_name_of (key_of job (name_of table x))) after)

  or_none : (b : Bool) → b || false ≡ b
  or_none false = refl
  or_none true = refl

  built_first : (n : Noted) (ns : List Noted) → is_in n.number (numbers_of_noted ns) ≡ false → built_in (n ∷ ns) n.number ≡ is_built n.origin
  built_first n ns absent =
      ap (λ b. (b && is_built n.origin) || built_in ns n.number) (eq-eqb n.number n.number refl)
      ∙ ap (λ b. is_built n.origin || b) (none_built ns n.number absent)
      ∙ or_none (is_built n.origin)

  built_behind : (n : Noted) (ns : List Noted) (x : ℕ) → is_in n.number (numbers_of_noted ns) ≡ false → is_in x (numbers_of_noted ns) ≡ true → built_in (n ∷ ns) x ≡ built_in ns x
  built_behind n ns x absent here =
      let other : x ≢ n.number = λ e. true≢false (sym here ∙ ap (λ k. is_in k (numbers_of_noted ns)) e ∙ absent) in
      ap (λ b. (b && is_built n.origin) || built_in ns x) (differ x n.number other)

  pub files_noted : (ns : List Noted) → AreApart (numbers_of_noted ns) → ((x : ℕ) → is_in x (numbers_of_noted ns) ≡ true → IsAt x (built_in ns x))
      → AreFilesBehind files after job table t broken (numbers_of_noted ns) (origins_of_noted ns)
  files_noted [] apart at = tt
  files_noted (n ∷ ns) apart at = (
    subst (IsAt n.number) (built_first n ns apart.0) (at n.number (in_head n.number (numbers_of_noted ns))),
    files_noted ns apart.1 (λ x here. subst (IsAt x) (built_behind n ns x apart.0 here) (at x (later x n.number (numbers_of_noted ns) here))),
  )
    where
      later : (x y : ℕ) (xs : List ℕ) → is_in x xs ≡ true → is_in x (y ∷ xs) ≡ true
      later x y xs here = ap (λ b. (x == y) || b) here ∙ or_true (x == y)
        where
          or_true : (b : Bool) → b || true ≡ true
          or_true false = refl
          or_true true = refl

-- a module without an image
without_image : (built broken : Bool) (before now : Option (List ℕ)) → now ≡ before → IsFileBehind built broken None before now
without_image false broken before now e = e
without_image true false before now e = e
without_image true true before now e = e

-- a Cyclic module has no image
no_image : (kept : List Record) (h : Held) (t : Question → Answer) (x : ℕ) → IsTableOf kept h → Agrees t kept → HasOwnNames h.table → x < length h.table.targets → value (mod_of (plan_held h) [] x) t ≡ None → kept_image h.job h.table t x ≡ None
no_image kept h t x of_table agrees names within none =
    let key = key_held h x in
    let is : value (interpreted key) t ≡ outcome_of h.table x (value (mod_of (plan_held h) [] x) t) = interpreted_value key t h.table x (of_table.table t agrees) (name_is h.table names x within) in
    ap (λ o. kept_of (option_map (index_by key (asked (interpreted key) t) (begun (interpreted key) t)) o)) (is ∙ ap (outcome_of h.table x) none)

-- ---- a store at rest

module _ (kept : List Record) (g : Held) (t : Question → Answer) (store : IsStore kept g) (agrees : Agrees t kept) (rests : HeldRests kept g t) (names : HasOwnNames g.table) where
  no_outcome : (x : ℕ) (k : Slot) → slot_at g.slots x ≡ k → is_in x (numbers_noted g) ≡ true → k ≢ IsGood → value (mod_of (plan_held g) [] x) t ≡ None
  unfolding state_held
  no_outcome x k is here other = by k other (let P : Slot → Type 0 = λ s. IsView (value (mod_of (plan_held g) [] x) t) (view_as s) in subst P is (seen_view (state_held kept g) t x rests here))
    where
      by : (k : Slot) → k ≢ IsGood → IsView (value (mod_of (plan_held g) [] x) t) (view_as k) → value (mod_of (plan_held g) [] x) t ≡ None
      by IsUnknown other view = view
      by IsBusy other view = view
      by IsCyclic other view = view
      by IsGood other view = absurd (other refl)

  -- the file of a module that was noted, by whether it was noted as built
  module _ (files after : Files) (broken : List ℕ) (x : ℕ) (within : x < length g.table.targets) (here : is_in x (numbers_noted g) ≡ true) where
    noted_at : IsAt files after g.job g.table t broken x (has_built g x) → IsAt files after g.job g.table t broken x (built_in g.noted x)
    noted_at at = by (slot_at g.slots x) refl
      where
        before : Option (List ℕ)
        before = file_at (file_name_of (key_of g.job (name_of g.table x))) files

        now : Option (List ℕ)
        now = file_at (file_name_of (key_of g.job (name_of g.table x))) after

        unbuilt : (k : Slot) → slot_at g.slots x ≡ k → is_good k ≡ false → k ≢ IsGood → IsAt files after g.job g.table t broken x (built_in g.noted x)
        unbuilt k is good other =
            let none : kept_image g.job g.table t x ≡ None = (let table = store.table in no_image kept g t x table agrees names within (no_outcome x k is here other)) in
            let not_built : has_built g x ≡ false = ap (λ s. is_good s && built_in g.noted x) is ∙ ap (λ b. b && built_in g.noted x) good in
            let same : now ≡ before = subst (IsAt files after g.job g.table t broken x) not_built at in
            let P : Option (List ℕ) → Type 0 = λ image. IsFileBehind (built_in g.noted x) (is_in x broken) image before now in
            subst P (sym none) (without_image (built_in g.noted x) (is_in x broken) before now same)

        by : (k : Slot) → slot_at g.slots x ≡ k → IsAt files after g.job g.table t broken x (built_in g.noted x)
        by IsUnknown is = unbuilt IsUnknown is refl (λ e. absurd (cc))
        by IsBusy is = unbuilt IsBusy is refl (λ e. absurd (cc))
        by IsCyclic is = unbuilt IsCyclic is refl (λ e. absurd (cc))
        by IsGood is = subst (IsAt files after g.job g.table t broken x) (ap (λ s. is_good s && built_in g.noted x) is) at

-- ---- a whole build

none_before : (h : Held) → h.noted ≡ [] → (m : ℕ) → has_built h m ≡ false
none_before h none m = ap (λ ns. is_good (slot_at h.slots m) && built_in ns m) none ∙ and_none (is_good (slot_at h.slots m))
  where
    and_none : (b : Bool) → b && false ≡ false
    and_none false = refl
    and_none true = refl

module _ (kept : List Record) (files : Files) (h g : Held) (t : Question → Answer) (c0 c1 k0 k1 : ℕ) (none : h.noted ≡ []) (own : HasOwnFiles h.job h.table) (names : HasOwnNames h.table)
    (store : IsStore kept g) (agrees : Agrees t kept) (rests : HeldRests kept g t) where
  left_noted : (after : Files) → Tells (Some files) (Some after) h g t c0 c1 k0 k1 → Behind (Some files) (Some after) h g t k0 k1
      → IsLeftBehind files after h.job h.table t k0 k1 (numbers_noted g) (origins_of_noted g.noted)
  left_noted after tells behind = record {
    broken = of.broken;
    few = of.few;
    each = files_noted files after h.job h.table t of.broken g.noted (let begun = store.begun in begun.apart) at;
    others = told.others;
  }
    where
      told : TellsOf files after h.job h.table h.noted g.noted t c0 c1 k0 k1
      told = (tells own names).2

      of : BehindOf files after h g t k0 k1
      of = (behind own names).2

      same : (g.job ≡ h.job) × (g.table ≡ h.table)
      same = ((tells own names).0, (tells own names).1)

      more : g.noted ≡ told.more
      more = told.noted ∙ ap (λ ns. ns ++ told.more) none

      within : (x : ℕ) → is_in x (numbers_noted g) ≡ true → x < length h.table.targets
      within x here = told.numbers x (ap (λ ns. is_in x (numbers_of_noted ns)) (sym more) ∙ here)

      own_names : HasOwnNames g.table
      own_names = subst (λ (v : Table). HasOwnNames v) (sym same.1) names

      at : (x : ℕ) → is_in x (numbers_noted g) ≡ true → IsAt files after h.job h.table t of.broken x (built_in g.noted x)
      at x here =
          let A : Job × Table → Bool → Type 0 = λ j b. IsAt files after j.0 j.1 t of.broken x b in
          let each : IsAt files after h.job h.table t of.broken x (has_built g x) = subst (IsAt files after h.job h.table t of.broken x) (ap (λ b. not b && has_built g x) (none_before h none x)) (of.each x (within x here)) in
          let L : Table → Type 0 = λ v. x < length v.targets in
          let on : IsAt files after g.job g.table t of.broken x (has_built g x) = subst (λ (j : Job × Table). A j (has_built g x)) (λ i. (sym same.0 i, sym same.1 i)) each in
          subst (λ (j : Job × Table). A j (built_in g.noted x)) (λ i. (same.0 i, same.1 i)) (noted_at kept g t store agrees rests own_names files after of.broken x (subst L (sym same.1) (within x here)) here on)

  module _ (text : List ℕ) (below : c0 < 2 ^ 64) (noted : numbers_noted g ≡ numbers_noted h ++ needed_by (setting_of_held h) t (numbers_noted h) h.job.units) (report : text ≡ report_since h g) where
    build_here : (now : Option Files) → Tells (Some files) now h g t c0 c1 k0 k1 → Behind (Some files) now h g t k0 k1 → IsBuildOf files now h.job h.table t c0 c1 k0 k1 text
    unfolding report_here
    build_here None tells behind = absurd tells
    build_here (Some after) tells behind =
        let told = (tells own names).2 in
        let more : g.noted ≡ told.more = told.noted ∙ ap (λ ns. ns ++ told.more) none in
        let needed : numbers_noted g ≡ needed_by (setting_of h.job h.table) t [] h.job.units = needed_is files h g t c0 c1 k0 k1 text none below own names noted report in
        let L : List ℕ × List Noted → Type 0 = λ l. IsLeftBehind files after h.job h.table t k0 k1 l.0 (origins_of_noted l.1) in
        record {
          report = report_here files h g t c0 c1 k0 k1 text none below own names noted report (Some after) tells;
          left = subst L (λ i. (needed i, more i)) (left_noted after tells behind);
        }

pub build_of : (kept : List Record) (files : Files) (h g : Held) (job : Job) (table : Table) (t : Question → Answer) (c0 c1 k0 k1 : ℕ) (text : List ℕ) (before after : Option Files)
    → before ≡ Some files → h.job ≡ job → h.table ≡ table → h.noted ≡ [] → c0 < 2 ^ 64 → HasOwnFiles job table → HasOwnNames table
    → numbers_noted g ≡ numbers_noted h ++ needed_by (setting_of_held h) t (numbers_noted h) job.units → text ≡ report_since h g
    → Tells before after h g t c0 c1 k0 k1 → Behind before after h g t k0 k1 → IsStore kept g → Agrees t kept → HeldRests kept g t → IsBuildOf files after job table t c0 c1 k0 k1 text
build_of kept files h g job table t c0 c1 k0 k1 text before after is same_job same_table none below own names noted report tells behind store agrees rests =
    let F : Job × Table → Type 0 = λ j. HasOwnFiles j.0 j.1 in
    let R : Job × Table → Type 0 = λ j. IsBuildOf files after j.0 j.1 t c0 c1 k0 k1 text in
    let N : Job → Type 0 = λ j. numbers_noted g ≡ numbers_noted h ++ needed_by (setting_of_held h) t (numbers_noted h) j.units in
    let here = build_here kept files h g t c0 c1 k0 k1 none (subst F (λ i. (sym same_job i, sym same_table i)) own) (subst (λ (v : Table). HasOwnNames v) (sym same_table) names) store agrees rests
    text below (subst N (sym same_job) noted) report after (subst (λ (o : Option Files). Tells o after h g t c0 c1 k0 k1) is tells) (subst (λ (o : Option Files). Behind o after h g t k0 k1) is behind) in
    subst R (λ i. (same_job i, same_table i)) here

pub build_loaded : (files : Files) (now : Option Files) (path : List ℕ) (t : Question → Answer) (c0 c1 k0 k1 : ℕ) (text : List ℕ) (loaded : Loaded) → loaded ≡ value (load_of path) t
    → IsBuildOfLoaded files now t c0 c1 k0 k1 text loaded → IsBuild files now path t c0 c1 k0 k1 text
build_loaded files now path t c0 c1 k0 k1 text loaded is built = let P : Loaded → Type 0 = λ l. IsBuildOfLoaded files now t c0 c1 k0 k1 text l in subst P is built
