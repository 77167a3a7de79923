-- What a build comes to, from what its store printed.
use Rattle.std.proofs.Common.{◌≡◌, ◌∙◌, refl, sym, ap, subst, ℕ, ◌<◌, ◌^◌, Bool, true, false, List, [], ◌∷◌, ◌++◌, map, Option, Some, None, Result, Ok, Err, inl, inr, append_assoc}
use Rattle.std.specs.List.{list_any, AllByRecursion, IsDistinct}
use Rattle.std.proofs.lemmas.Map.Keys.{IsDistinct-head, IsDistinct-tail}
use Rattle.cm_outside.specs.Asks.{Agrees, Done, asked, value, value-then_ask}
use Rattle.cm_outside.specs.Faults.{Rose}
use Rattle.cm_outside.specs.Keeping.{AreKept, is_kept, same_asked}
use Rattle.cm_outside.specs.QuestionLaws.{same_question_decides}
use Rattle.cm_outside.specs.Trees.{Files, same_question}
use Rattle.cm_outside.specs.declared.question.Question.{Question}
use Rattle.cm_outside.specs.declared.question.Question.TheVariants.{Read}
use Rattle.cm_outside.specs.declared.question.Answer.{Answer}
use Rattle.cm_outside.specs.declared.question.Answer.TheVariants.{Absent}
use Rattle.cm_outside.specs.declared.question.Record.{Record}
use Rattle.cm_outside.specs.declared.tree.TreeFault.{TreeFault}
use Rattle.build_store.specs.Changes.{HasPut}
use Rattle.build_store.specs.CleanBuild.{clean_build, loaded_text, map_lines, setting_of, unit_texts}
use Rattle.build_store.specs.Held.{AreNumbersOf, HasPlaces, HeldRests, numbers_noted, setting_of_held, state_held}
use Rattle.build_store.specs.Jobs.{job_of}
use Rattle.build_store.specs.Memo.{AreApart, Unknown}
use Rattle.build_store.specs.Modules.{is_in}
use Rattle.build_store.specs.Owners.{Setting}
use Rattle.build_store.specs.Report.{ComeFrom, HasOwnFiles, HaveOwnFiles, HaveOwnFilesIn, IsReport, IsReportOf, IsReportOfLoaded, needed_by, report_lines}
use Rattle.build_store.specs.Steps.{HasPushed}
use Rattle.build_store.specs.Stores.{AllApart, AreOfMaps, IsStore, PutsEachOnce}
use Rattle.build_store.specs.Tables.{asked_for, load_job, load_of, table_of}
use Rattle.build_store.specs.Targets.{HasOwnNames}
use Rattle.build_store.specs.Telling.{Tells, numbers_of_noted, origins_of_noted, report_since}
use Rattle.build_store.specs.Turning.{known_as, known_of, slot_at}
use Rattle.build_store.specs.declared.held.Held.{Held}
use Rattle.build_store.specs.declared.held.Noted.{Noted}
use Rattle.build_store.specs.declared.job.Job.{Job}
use Rattle.build_store.specs.declared.loading.Loaded.{Loaded}
use Rattle.build_store.specs.declared.loading.Loaded.TheVariants.{Ready}
use Rattle.build_store.specs.declared.slot.Slot.{Slot}
use Rattle.build_store.specs.declared.slot.Slot.TheVariants.{Unknown as IsUnknown, Busy as IsBusy, Cyclic as IsCyclic, Good as IsGood}
use Rattle.build_store.specs.declared.table.Table.{Table}
use Rattle.build_store.proofs.BuildGoing.{since_is}
use Rattle.build_store.proofs.TableNames.{own_names}

-- ---- a store of which nothing was needed

unknown_slot : {B : Type 0} → (s : Slot) (o : Option B) (rs : List Record) → known_as s o rs ≡ Unknown → s ≡ IsUnknown
unknown_slot IsUnknown o rs e = refl
unknown_slot IsBusy o rs e = absurd (cc)
unknown_slot IsCyclic o rs e = absurd (cc)
unknown_slot IsGood None rs e = absurd (cc)
unknown_slot IsGood (Some b) rs e = absurd (cc)

nothing_noted : (h : Held) → h.noted ≡ [] → numbers_noted h ≡ []
nothing_noted h none = ap (λ (ns : List Noted). map (λ (n : Noted). n.number) ns) none

slot_unknown : (kept : List Record) (h : Held) (t : Question → Answer) → h.noted ≡ [] → HeldRests kept h t → (m : ℕ) → slot_at h.slots m ≡ IsUnknown
unfolding state_held known_of
slot_unknown kept h t none rests m = unknown_slot (slot_at h.slots m) _ _ (rests.sound.needed m (ap (is_in m) (nothing_noted h none)))

pub new_store : (kept : List Record) (h : Held) (job : Job) (table : Table) (maps : List ℕ) → (h.job ≡ job) × (h.table ≡ table) × (h.maps ≡ maps) → HasPlaces h → h.noted ≡ []
    → ((kept : List Record) (t : Question → Answer) → HeldRests kept h t) → AreOfMaps kept job table maps → AreKept kept → IsStore kept h
new_store kept h job table maps same places none rests of_maps once = record {
  places = places;
  table = record {
    table = λ t agrees. ap (λ (j : Job). value (table_of j.maps) t) same.0 ∙ of_maps.of_maps t agrees ∙ sym same.1;
    maps = λ t agrees.
        let J : Job → Type 0 = λ j. AreNumbersOf kept maps (asked (table_of j.maps) t) in
        let N : List ℕ → Type 0 = λ n. AreNumbersOf kept n (asked (table_of h.job.maps) t) in
        subst N (sym same.2) (subst J (sym same.0) (of_maps.numbered t agrees));
  };
  begun = record {
    known = λ m e. (let there : is_in m [] ≡ true = ap (is_in m) (sym (nothing_noted h none)) ∙ e in absurd (cc));
    noted = λ m other. absurd (other (slot_unknown kept h (λ q. Absent) none (rests kept (λ q. Absent)) m));
    apart = (let P : List Noted → Type 0 = λ ns. AreApart (map (λ (n : Noted). n.number) ns) in subst P (sym none) tt);
    chosen = λ m busy. (let f : IsUnknown ≡ IsBusy = sym (slot_unknown kept h (λ q. Absent) none (rests kept (λ q. Absent)) m) ∙ busy in absurd (cc));
  };
  once = once;
}

-- what is written of its units, behind the lines of the maps at fault
pub text_of : (h : Held) (job : Job) (table : Table) (t : Question → Answer) (text before : List ℕ) (us : List (List ℕ)) (path : List ℕ) → (h.job ≡ job) × (h.table ≡ table) × (h.maps ≡ h.maps) → h.noted ≡ [] → us ≡ job.units
    → before ≡ map_lines table.faults → text ≡ before ++ unit_texts (setting_of_held h) t (numbers_noted h) us → text ≡ loaded_text path t (Ready job table)
text_of h job table t text before us path same none units lines is =
    let setting : setting_of_held h ≡ setting_of job table = (let j = same.0 in let v = same.1 in cc) in
    is
    ∙ ap (λ l. l ++ unit_texts (setting_of_held h) t (numbers_noted h) us) lines
    ∙ ap (λ (v : Setting). map_lines table.faults ++ unit_texts v t (numbers_noted h) us) setting
    ∙ ap (λ l. map_lines table.faults ++ unit_texts (setting_of job table) t l us) (nothing_noted h none)
    ∙ ap (λ l. map_lines table.faults ++ unit_texts (setting_of job table) t [] l) units

-- ---- what was loaded

ready_table : (path : List ℕ) (t : Question → Answer) (job : Job) (table : Table) → Ready job table ≡ value (load_of path) t → value (table_of job.maps) t ≡ table
unfolding load_of
ready_table path t job table is = by (job_of (t (Read path))) is
  where
    by : (r : Result Job ℕ) → Ready job table ≡ value (load_job r) t → value (table_of job.maps) t ≡ table
    by (Err n) e = absurd (cc)
    by (Ok j) e =
        let whole : value (load_job (Ok j)) t ≡ Ready j (value (table_of j.maps) t) = value-then_ask (table_of j.maps) (λ v. Done (Ready j v)) t in
        let same : Ready job table ≡ Ready j (value (table_of j.maps) t) = e ∙ whole in
        let jobs : job ≡ j = cc in
        let tables : table ≡ value (table_of j.maps) t = cc in
        ap (λ (k : Job). value (table_of k.maps) t) jobs ∙ sym tables

pub of_load : (kept : List Record) (path : List ℕ) (job : Job) (table : Table) (before maps : List ℕ) → before ≡ []
    → ((t : Question → Answer) → Agrees t kept → Ready job table ≡ value (load_of path) t) → HasPushed kept before maps (asked_for (Ready job table)) → AreOfMaps kept job table maps
of_load kept path job table before maps none told put = record {
  of_maps = λ t agrees. ready_table path t job table (told t agrees);
  numbered = λ t agrees.
      let same : put.more ≡ maps = sym (put.pushed ∙ ap (λ l. l ++ put.more) none) in
      let N : List ℕ → Type 0 = λ n. AreNumbersOf kept n (asked (table_of job.maps) t) in
      subst N same (put.numbered t agrees);
}

pub clean_of : (path : List ℕ) (t : Question → Answer) (loaded : Loaded) → loaded ≡ value (load_of path) t → loaded_text path t loaded ≡ clean_build path t
unfolding clean_build
clean_of path t loaded is = ap (loaded_text path t) is

pub own_of : (path : List ℕ) (t : Question → Answer) (loaded : Loaded) → loaded ≡ value (load_of path) t → HaveOwnFiles path t → HaveOwnFilesIn loaded
own_of path t loaded is own = let P : Loaded → Type 0 = λ l. HaveOwnFilesIn l in subst P (sym is) own

pub report_loaded : (files : Files) (path : List ℕ) (t : Question → Answer) (c0 c1 k0 k1 : ℕ) (text : List ℕ) (loaded : Loaded) → loaded ≡ value (load_of path) t
    → IsReportOfLoaded files t c0 c1 k0 k1 text loaded → IsReport files path t c0 c1 k0 k1 text
report_loaded files path t c0 c1 k0 k1 text loaded is report = let P : Loaded → Type 0 = λ l. IsReportOfLoaded files t c0 c1 k0 k1 text l in subst P is report

-- ---- the report

module _ (files : Files) (h g : Held) (t : Question → Answer) (c0 c1 k0 k1 : ℕ) (text : List ℕ) (none : h.noted ≡ []) (below : c0 < 2 ^ 64)
    (own : HasOwnFiles h.job h.table) (names : HasOwnNames h.table)
    (noted : numbers_noted g ≡ numbers_noted h ++ needed_by (setting_of_held h) t (numbers_noted h) h.job.units) (report : text ≡ report_since h g) where
  pub needed_is : numbers_noted g ≡ needed_by (setting_of h.job h.table) t [] h.job.units
  needed_is = noted ∙ ap (λ l. l ++ needed_by (setting_of_held h) t l h.job.units) (nothing_noted h none)

  unfoldable pub report_here : (after : Option Files) → Tells (Some files) after h g t c0 c1 k0 k1 → IsReportOf files h.job h.table t c0 c1 k0 k1 text
  report_here None tells = absurd tells
  report_here (Some y) tells =
      let all = tells own names in
      let of = all.2 in
      let more : g.noted ≡ of.more = of.noted ∙ ap (λ ns. ns ++ of.more) none in
      let numbers : numbers_of_noted of.more ≡ needed_by (setting_of h.job h.table) t [] h.job.units = ap numbers_of_noted (sym more) ∙ needed_is in
      let P : List ℕ → Type 0 = λ ns. ComeFrom (Rose k0 k1) files h.job h.table t ns (origins_of_noted of.more) in
      record {
        origins = origins_of_noted of.more;
        come_from = subst P numbers of.come_from;
        lines = report
            ∙ ap (λ ns. report_lines g.table (numbers_of_noted ns) (origins_of_noted ns)) (since_is h g of.more of.noted)
            ∙ ap (λ (v : Table). report_lines v (numbers_of_noted of.more) (origins_of_noted of.more)) all.1
            ∙ ap (λ ns. report_lines h.table ns (origins_of_noted of.more)) numbers;
        compiles = of.compiles below;
        faults = of.faults;
      }

pub report_of : (files : Files) (h g : Held) (job : Job) (table : Table) (t : Question → Answer) (c0 c1 k0 k1 : ℕ) (text : List ℕ) (before after : Option Files)
    → before ≡ Some files → h.job ≡ job → h.table ≡ table → h.noted ≡ [] → c0 < 2 ^ 64 → HasOwnFiles job table → HasOwnNames table
    → numbers_noted g ≡ numbers_noted h ++ needed_by (setting_of_held h) t (numbers_noted h) job.units → text ≡ report_since h g
    → Tells before after h g t c0 c1 k0 k1 → IsReportOf files job table t c0 c1 k0 k1 text
report_of files h g job table t c0 c1 k0 k1 text before after is same_job same_table none below own names noted report tells =
    let F : Job × Table → Type 0 = λ j. HasOwnFiles j.0 j.1 in
    let R : Job × Table → Type 0 = λ j. IsReportOf files j.0 j.1 t c0 c1 k0 k1 text in
    let N : Job → Type 0 = λ j. numbers_noted g ≡ numbers_noted h ++ needed_by (setting_of_held h) t (numbers_noted h) j.units in
    let here = report_here files h g t c0 c1 k0 k1 text none below (subst F (λ i. (sym same_job i, sym same_table i)) own) (subst (λ (v : Table). HasOwnNames v) (sym same_table) names)
    (subst N (sym same_job) noted) report after (subst (λ (o : Option Files). Tells o after h g t c0 c1 k0 k1) is tells) in
    subst R (λ i. (same_job i, same_table i)) here

-- the names of a table that maps made are its own
pub names_of_maps : (kept : List Record) (job : Job) (table : Table) (maps : List ℕ) (t : Question → Answer) → AreOfMaps kept job table maps → Agrees t kept → HasOwnNames table
names_of_maps kept job table maps t of_maps agrees = subst (λ (v : Table). HasOwnNames v) (of_maps.of_maps t agrees) (own_names job.maps t)

-- ---- the questions that were put

other_asked : (r : Record) (rs : List Record) → AllByRecursion (λ s. same_asked r s ≡ false) rs → list_any (same_question r.question) (map (λ (s : Record). s.question) rs) ≡ false
other_asked r [] h = refl
other_asked r (s ∷ rs) h = let one : same_question r.question s.question ≡ false = h.0 in let rest = other_asked r rs h.1 in rw one rest

all_apart : (rs : List Record) → IsDistinct same_asked rs → AllApart (map (λ (r : Record). r.question) rs)
all_apart [] h = tt
all_apart (r ∷ rs) h = (other_asked r rs (IsDistinct-head same_asked r rs h), all_apart rs (IsDistinct-tail same_asked r rs h))

asked_as : (q : Question) (rs : List Record) → list_any (same_question q) (map (λ (r : Record). r.question) rs) ≡ is_kept q rs
asked_as q [] = refl
asked_as q (r ∷ rs) = let rest = asked_as q rs in rw rest refl

flipped : (p q : Question) → same_question q p ≡ false → same_question p q ≡ false
flipped p q e = by (same_question p q) refl
  where
    by : (b : Bool) → same_question p q ≡ b → same_question p q ≡ false
    by false is = is
    by true is =
        let same : p ≡ q = (same_question_decides p q).0 is in
        let back : same_question q p ≡ true = (same_question_decides q p).1 (sym same) in
        absurd (cc)

none_of : (p : Question) (qs : List Question) (q : Question) → list_any (same_question p) qs ≡ false → same_question p q ≡ false → list_any (same_question p) (qs ++ q ∷ []) ≡ false
none_of p [] q none other = rw other refl
none_of p (x ∷ qs) q none other = by (same_question p x) refl (λ rest. none_of p qs q rest other)
  where
    by : (b : Bool) → same_question p x ≡ b → (list_any (same_question p) qs ≡ false → list_any (same_question p) (qs ++ q ∷ []) ≡ false) → list_any (same_question p) (x ∷ (qs ++ q ∷ [])) ≡ false
    by true is more = (let all : list_any (same_question p) (x ∷ qs) ≡ true = rw is refl in absurd (cc))
    by false is more = rw is (more (rw is at none))

apart_more : (qs : List Question) (q : Question) → AllApart qs → list_any (same_question q) qs ≡ false → AllApart (qs ++ q ∷ [])
apart_more [] q h none = (refl, tt)
apart_more (p ∷ qs) q h none = by (same_question q p) refl (λ rest. apart_more qs q h.1 rest)
  where
    by : (b : Bool) → same_question q p ≡ b → (list_any (same_question q) qs ≡ false → AllApart (qs ++ q ∷ [])) → AllApart (p ∷ (qs ++ q ∷ []))
    by true is more = (let all : list_any (same_question q) (p ∷ qs) ≡ true = rw is refl in absurd (cc))
    by false is more = (none_of p qs q h.0 (flipped p q is), more (rw is at none))

pub puts_each : (fault : Option TreeFault) (kept new : List Record) (before now : Option (List Question)) → kept ≡ [] → AreKept new → HasPut fault kept new before now → PutsEachOnce before now
puts_each fault kept new before now none are put = by fault before (let P : List Record → Type 0 = λ rs. HasPut fault rs new before now in subst P none put)
  where
    qs : List Question
    qs = map (λ (r : Record). r.question) new

    by : (fault : Option TreeFault) (before : Option (List Question)) → HasPut fault [] new before now → PutsEachOnce before now
    by None None put = put
    by None (Some b) put = (qs, put, all_apart new are.once)
    by (Some f) None (inl put) = put
    by (Some f) None (inr put) = put.2
    by (Some f) (Some b) (inl put) = (qs, put, all_apart new are.once)
    by (Some f) (Some b) (inr put) =
        (qs ++ put.0 ∷ [], put.2 ∙ ap (λ l. Some l) (append_assoc b qs (put.0 ∷ [])), apart_more qs put.0 (all_apart new are.once) (asked_as put.0 new ∙ put.1))
