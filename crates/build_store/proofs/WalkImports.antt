-- What an include makes of a walk, by what it found, over plain variables.
use Rattle.std.proofs.Common.{◌≡◌, ℕ, ◌<◌, Bool, true, false, List, [], ◌++◌, length, map, slice_get, Option, Some, None, refl, sym, ap, subst, ◌∙◌}
use Rattle.std.specs.Prelude.{if◌then◌else◌}
use Rattle.std.specs.Option.{is_some, option_map_or}
use Rattle.std.specs.Str.{bytes_eq}
use Rattle.std.proofs.lemmas.Option.{slice_get_within, slice_get-get_or}
use Rattle.std.proofs.lemmas.List.{append-nil}
use Rattle.std.proofs.lemmas.List.Quantifiers.{position-Some}
use Rattle.cm_outside.specs.Asks.{Asks, Done, Agrees, asked, asked-then_ask, value, value-then_ask}
use Rattle.cm_outside.specs.Firsts.{firsts}
use Rattle.cm_outside.specs.declared.question.Question.{Question}
use Rattle.cm_outside.specs.declared.question.Answer.{Answer}
use Rattle.cm_outside.specs.declared.question.Record.{Record}
use Rattle.cm_outside.proofs.Grown.{Grew-same}
use Rattle.unit_fold.specs.Owners.{Reading, Includes, SoFar}
use Rattle.unit_fold.specs.declared.at.At.{At}
use Rattle.unit_fold.specs.declared.given.Given.{Given}
use Rattle.unit_fold.specs.declared.given.Given.TheVariants.{Imported as Import_of, Refused, Skip, NotBuilt as NotBuiltYet}
use Rattle.unit_fold.specs.declared.item.FaultKind.TheVariants.{CyclicModule}
use Rattle.build_store.specs.Held.{Holds, found_at, key_held, plan_held, setting_of_held, state_held}
use Rattle.build_store.specs.Images.{interpret_in, interpreted}
use Rattle.build_store.specs.Libraries.{parts_at}
use Rattle.build_store.specs.Memo.{Busy, Cyclic, Good, Grows, Known, is_unknown, tried, with_records}
use Rattle.build_store.specs.Modules.{mod_of}
use Rattle.build_store.specs.Needs.{Needs, Imports}
use Rattle.build_store.specs.Owners.{by_found, by_import, is_own, needs_of}
use Rattle.build_store.specs.Parts.{Fragment, brought, part_in}
use Rattle.build_store.specs.Search.{candidates, find_in, find_of, found, header_or_plain, owner_of}
use Rattle.build_store.specs.Steps.{HasPushed}
use Rattle.build_store.specs.Tables.{table_of}
use Rattle.build_store.specs.Targets.{HasOwnNames, name_of, number_of}
use Rattle.build_store.specs.Turning.{known_as, known_of, slot_at}
use Rattle.build_store.specs.Walks.{AreTrue, Far, IsIncludeStep, WalksAll, asked_or, far_of, find_numbers, find_step, known_held, slot_numbers, slot_step, target_numbers, target_step, walked}
use Rattle.build_store.specs.declared.finding.Find.{Find}
use Rattle.build_store.specs.declared.finding.Find.TheVariants.{Nothing, Plain, Header}
use Rattle.build_store.specs.declared.held.Held.{Held}
use Rattle.build_store.specs.declared.slot.Slot.{Slot}
use Rattle.build_store.specs.declared.slot.Slot.TheVariants.{Unknown as IsUnknown, Busy as IsBusy, Cyclic as IsCyclic, Good as IsGood}
use Rattle.build_store.specs.declared.table.Target.{Target}
use Rattle.build_store.specs.declared.table.Table.{Table}
use Rattle.build_store.specs.declared.walk.Step.{Step}
use Rattle.build_store.specs.declared.walk.Step.TheVariants.{Goes, Needs as StepNeeds, Cyclic as StepCyclic, Ends as StepEnds}
use Rattle.build_store.proofs.Fragments.{brought_by_fragment}
use Rattle.build_store.proofs.ListLemmas.{some≢none}
use Rattle.build_store.proofs.RowLemmas.{no_target}
use Rattle.build_store.proofs.TableNames.{own_names}
use Rattle.build_store.proofs.WalkQuestions.{asked_module}
use Rattle.build_store.proofs.WalkSteps.{walks_none, walks_asked, walks_then}
use Rattle.build_store.proofs.WalkTries.{walked_puts, import_unknown, strict_busy, strict_cyclic, told_busy, told_cyclic, import_good}

-- ---- what a search finds

-- the module of a header is one of the table
abbrev pub IsThere : Table → Find → Type 0
IsThere table Nothing = Unit {0}
IsThere table Plain = Unit {0}
IsThere table (Header x) = slice_get table.targets x ≡ None → ⊥

owner_there : (table : Table) (path : List ℕ) (o : Option ℕ) → owner_of table path ≡ o → IsThere table (header_or_plain o)
owner_there table path None is = tt
owner_there table path (Some x) is =
    let within : x < length table.targets = (position-Some (λ (m : Target). bytes_eq m.header path) table.targets x no_target is).0 in
    λ none. some≢none (sym (slice_get-get_or table.targets x no_target within) ∙ none)

in_there : (table : Table) (o : Option (List ℕ)) → IsThere table (find_in table o)
in_there table None = tt
in_there table (Some path) = owner_there table path (owner_of table path) refl

pub find_there : (folders : List (List ℕ)) (table : Table) (file text : List ℕ) (t : Question → Answer) → IsThere table (value (find_of folders table file text) t)
unfolding find_of
find_there folders table file text t =
    let P : Find → Type 0 = λ f. IsThere table f in
    subst P (sym (value-then_ask (found (candidates file folders text)) (λ path. Done (find_in table path)) t)) (in_there table (value (found (candidates file folders text)) t))

-- ---- what is known of a module

module _ (h : Held) (t : Question → Answer) where
  -- what the module asks
  abbrev pub asks_of : ℕ → List Record
  asks_of x = asked (mod_of (plan_held h) [] x) t

  pub known_by : (x : ℕ) (slot : Slot) → slot_at h.slots x ≡ slot → known_held h t x ≡ known_as slot (value (mod_of (plan_held h) [] x) t) (firsts (asks_of x))
  unfolding known_of
  known_by x slot is = ap (λ s. known_as s (value (mod_of (plan_held h) [] x) t) (firsts (asks_of x))) is

  -- what is known stays so where more is
  known_more : (known : ℕ → Known Fragment) → Grows (known_held h t) known → (x : ℕ) (k : Known Fragment) → known_held h t x ≡ k → is_unknown k ≡ false → known x ≡ k
  known_more known grows x k is old = grows x (ap is_unknown is ∙ old) ∙ is

  -- a module that is Good, whose number stands for a module of the table
  pub record IsGoodAt (kept : List Record) (x : ℕ) : Type 0 where
    pub parts : Fragment
    pub known : known_held h t x ≡ Good parts (firsts (asks_of x))
    pub visible : brought h.table (part_in parts) x ≡ brought h.table (parts_at h.library) x
    pub numbers : map (slice_get kept) (asked_or (found_at h x)) ≡ map Some (firsts (asked (interpreted (key_held h x)) t))

  pub good_by : (kept : List Record) (x : ℕ) → x < length h.table.targets → AreTrue kept h t → slot_at h.slots x ≡ IsGood → IsGoodAt kept x
  unfolding state_held
  good_by kept x within are is =
      let holds : Holds kept h t x = are.holds x is in
      record {
        parts = holds.parts;
        known = known_by x IsGood is ∙ ap (λ v. known_as IsGood v (firsts (asks_of x))) holds.outcome;
        visible = brought_by_fragment h.table (parts_at h.library) x holds.parts within holds.brought;
        numbers = ap (λ o. map (slice_get kept) (asked_or o)) holds.is_found ∙ holds.questions;
      }

  -- what interpreting a module of the table asks
  pub interpreted_asks : (x : ℕ) (m : Target) → slice_get h.table.targets x ≡ Some m → value (table_of h.job.maps) t ≡ h.table
      → asked (interpreted (key_held h x)) t ≡ asked (table_of h.job.maps) t ++ asks_of x
  unfolding interpreted
  interpreted_asks x m there of =
      let key = key_held h x in
      let names : HasOwnNames h.table = let P = λ (v : _). HasOwnNames v in subst P of (own_names h.job.maps t) in
      let name : name_of h.table x ≡ m.name = ap (λ o. option_map_or (λ (m : Target). m.name) o []) there in
      let number : number_of h.table (name_of h.table x) ≡ Some x = ap (number_of h.table) name ∙ names.numbered x m there in
      asked-then_ask (table_of h.job.maps) (λ table. interpret_in key table (number_of table key.name)) t
      ∙ ap (λ v. asked (table_of h.job.maps) t ++ asked (interpret_in key v (number_of v key.name)) t) of
      ∙ ap (λ o. asked (table_of h.job.maps) t ++ asked (interpret_in key h.table o) t) number
      ∙ ap (λ rs. asked (table_of h.job.maps) t ++ rs) (asked-then_ask (mod_of (plan_held h) [] x) _ t ∙ append-nil (asks_of x))

  -- ---- an include, from one text to what follows each answer

  module _ (kept : List Record) (file : List ℕ) (parts : Fragment) (next : Given → Reading) (numbers : List ℕ) where
    -- what follows an answer
    abbrev behind : Option ℕ → Given → Fragment → Needs Fragment (SoFar × Fragment)
    behind own given more = needs_of (setting_of_held h) own file more (next given)

    -- an import of x
    abbrev importing : Option ℕ → ℕ → Needs Fragment (SoFar × Fragment)
    importing own x = Imports x (by_import (setting_of_held h) x parts (behind own))

    abbrev far : Option ℕ → Needs Fragment (SoFar × Fragment) → Far
    far own fold = λ known. tried known (walked (is_some own) fold) t

    stays : (far : Far) → WalksAll kept h t numbers (numbers ++ []) far far
    stays far known grows = walks_none h t kept numbers (far known) (far known) refl

    module _ (x : ℕ) (m : Target) (there : slice_get h.table.targets x ≡ Some m) where
      name_is : name_of h.table x ≡ m.name
      name_is = ap (λ o. option_map_or (λ (m : Target). m.name) o []) there

      told : ((known : ℕ → Known Fragment) → Grows (known_held h t) known → far None (importing None x) known ≡ far None (by_import (setting_of_held h) x parts (behind None) None) known)
          → (more : Fragment) × WalksAll kept h t numbers (numbers ++ []) (far None (importing None x)) (far_of h t None file more (next (Refused (CyclicModule m.name))))
      told is = (
        parts,
        λ known grows.
            walks_none h t kept numbers (far None (importing None x) known) (far_of h t None file parts (next (Refused (CyclicModule m.name))) known)
            (is known grows ∙ (λ i. far_of h t None file parts (next (Refused (CyclicModule (name_is i)))) known)),
      )

      goes_on : (own : Option ℕ) → AreTrue kept h t → slot_at h.slots x ≡ IsGood
          → (more : Fragment) × WalksAll kept h t numbers (numbers ++ asked_or (found_at h x)) (far own (importing own x))
          (far_of h t own file more (next (Import_of (record { sub = record { index = x }; name = m.name }) (brought h.table (parts_at h.library) x))))
      goes_on own are is =
          let good : IsGoodAt kept x = good_by kept x (slice_get_within h.table.targets x m there) are is in (
            parts ++ good.parts,
            λ known grows. record {
              records = firsts (asks_of x);
              comes =
                  import_good known t x (by_import (setting_of_held h) x parts (behind own)) (is_some own) good.parts (firsts (asks_of x))
                  (known_more known grows x (Good good.parts (firsts (asks_of x))) good.known refl)
                  ∙ (λ i. with_records (firsts (asks_of x)) (far_of h t own file (parts ++ good.parts) (next (Import_of (record { sub = record { index = x }; name = name_is i }) (good.visible i))) known));
              added = asked_or (found_at h x);
              pushed = refl;
              same = λ of. record {
                numbered = firsts (asked (interpreted (key_held h x)) t);
                are = good.numbers;
                same = ap (λ rs. firsts (asked (table_of h.job.maps) t ++ firsts rs)) (interpreted_asks x m there of) ∙ asked_module (asked (table_of h.job.maps) t) (asks_of x);
              };
            },
          )

      pub slot_is : AreTrue kept h t → (own : Option ℕ) (slot : Slot) → slot_at h.slots x ≡ slot
          → IsIncludeStep kept h t own file next numbers (numbers ++ slot_numbers h x slot) (far own (importing own x)) (slot_step h (is_some own) x m.name slot)
      slot_is are own IsUnknown is = import_unknown (known_held h t) t x (by_import (setting_of_held h) x parts (behind own)) (is_some own) (known_by x IsUnknown is)
      slot_is are (Some y) IsBusy is = ([], strict_busy (known_held h t) t x (by_import (setting_of_held h) x parts (behind (Some y))) (known_by x IsBusy is))
      slot_is are None IsBusy is = told (λ known grows. told_busy known t x (by_import (setting_of_held h) x parts (behind None)) (known_more known grows x Busy (known_by x IsBusy is) refl))
      slot_is are (Some y) IsCyclic is = ([], strict_cyclic (known_held h t) t x (by_import (setting_of_held h) x parts (behind (Some y))) (known_by x IsCyclic is))
      slot_is are None IsCyclic is = told (λ known grows. told_cyclic known t x (by_import (setting_of_held h) x parts (behind None)) (known_more known grows x Cyclic (known_by x IsCyclic is) refl))
      slot_is are own IsGood is = goes_on own are is

    header_is : AreTrue kept h t → (own : Option ℕ) (x : ℕ) (b : Bool) (o : Option Target) → slice_get h.table.targets x ≡ o → (o ≡ None → ⊥)
        → IsIncludeStep kept h t own file next numbers (numbers ++ (if b then [] else target_numbers h x o))
        (far own (if b then behind own Skip parts else importing own x)) (if b then Goes Skip else target_step h (is_some own) x o)
    header_is are own x true o there known = (parts, stays (far own (behind own Skip parts)))
    header_is are own x false None there known = absurd (known refl)
    header_is are own x false (Some m) there known = slot_is x m there are own (slot_at h.slots x) refl

    pub find_is : AreTrue kept h t → (own : Option ℕ) (found : Find) → IsThere h.table found
        → IsIncludeStep kept h t own file next numbers (numbers ++ find_numbers h own found) (far own (by_found (setting_of_held h) own parts (behind own) found)) (find_step h own found)
    find_is are own Nothing there = (parts, stays (far own (behind own NotBuiltYet parts)))
    find_is are own Plain there = (parts, stays (far own (behind own NotBuiltYet parts)))
    find_is are own (Header x) there = header_is are own x (is_own own x) (slice_get h.table.targets x) refl there

  -- a way to a step
  step_behind : (kept : List Record) (own : Option ℕ) (file : List ℕ) (next : Given → Reading) (n0 n1 n2 : List ℕ) (whole mid : Far)
      → WalksAll kept h t n0 n1 whole mid → (step : Step) → IsIncludeStep kept h t own file next n1 n2 mid step → IsIncludeStep kept h t own file next n0 n2 whole step
  step_behind kept own file next n0 n1 n2 whole mid way (Goes given) is =
      (is.0, λ known grows. walks_then h t kept kept n0 n1 n2 (whole known) (mid known) (far_of h t own file is.0 (next given) known) (Grew-same kept) (way known grows) (is.1 known grows))
  step_behind kept own file next n0 n1 n2 whole mid way (StepNeeds x) is =
      let on = way (known_held h t) (λ y old. refl) in on.comes ∙ ap (with_records on.records) is
  step_behind kept own file next n0 n1 n2 whole mid way StepCyclic is =
      let on = way (known_held h t) (λ y old. refl) in (on.records ++ is.0, on.comes ∙ ap (with_records on.records) is.1)
  step_behind kept own file next n0 n1 n2 whole mid way StepEnds is = is

  -- an include
  pub include_is : (kept : List Record) (own : Option ℕ) (file text : List ℕ) (parts : Fragment) (at : At) (next : Given → Reading) (n0 n1 n2 : List ℕ) (found : Find) (step : Step)
      → HasPushed kept n0 n1 (find_of h.job.includes h.table file text) → found ≡ value (find_of h.job.includes h.table file text) t
      → n2 ≡ n1 ++ find_numbers h own found → step ≡ find_step h own found → Agrees t kept → AreTrue kept h t
      → IsIncludeStep kept h t own file next n0 n2 (far_of h t own file parts (Includes at text next)) step
  include_is kept own file text parts at next n0 n1 n2 found step pushed told numbers is agrees are =
      let p : Asks Find = find_of h.job.includes h.table file text in
      let s = setting_of_held h in
      let mid : Far = λ known. tried known (walked (is_some own) (by_found s own parts (λ given more. needs_of s own file more (next given)) (value p t))) t in
      let first : WalksAll kept h t n0 n1 (far_of h t own file parts (Includes at text next)) mid =
      (λ known grows. walks_asked h t kept n0 n1 pushed.more (asked p t) (far_of h t own file parts (Includes at text next) known) (mid known) pushed.pushed
      (walked_puts known t (is_some own) p (by_found s own parts (λ given more. needs_of s own file more (next given)))) (pushed.numbered t agrees)) in
      let last : IsIncludeStep kept h t own file next n1 (n1 ++ find_numbers h own (value p t)) mid (find_step h own (value p t)) =
      find_is kept file parts next n1 are own (value p t) (find_there h.job.includes h.table file text t) in
      let whole : IsIncludeStep kept h t own file next n0 (n1 ++ find_numbers h own (value p t)) (far_of h t own file parts (Includes at text next)) (find_step h own (value p t)) =
      step_behind kept own file next n0 n1 (n1 ++ find_numbers h own (value p t)) (far_of h t own file parts (Includes at text next)) mid first (find_step h own (value p t)) last in
      let steps : find_step h own (value p t) ≡ step = sym (is ∙ ap (find_step h own) told) in
      let ends : n1 ++ find_numbers h own (value p t) ≡ n2 = sym (numbers ∙ ap (λ f. n1 ++ find_numbers h own f) told) in
      let P : Step → Type 0 = λ s. IsIncludeStep kept h t own file next n0 n2 (far_of h t own file parts (Includes at text next)) s in
      let Q : List ℕ → Type 0 = λ n. IsIncludeStep kept h t own file next n0 n (far_of h t own file parts (Includes at text next)) (find_step h own (value p t)) in
      subst P steps (subst Q ends whole)
