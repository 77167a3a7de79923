-- What interpreting the module of a key comes to, and what its kept file says of it.
use Rattle.std.proofs.Common.{◌≡◌, ◌∙◌, refl, sym, ap, ℕ, Bool, true, false, cond, List, [], ◌∷◌, ◌++◌, drop, append-nil, Option, Some, None, true≢false}
use Rattle.std.specs.List.{list_all}
use Rattle.std.specs.Prelude.{◌&&◌}
use Rattle.std.specs.Str.{bytes_eq}
use Rattle.std.specs.Option.{option_map}
use Rattle.cm_outside.specs.declared.question.Question.{Question}
use Rattle.cm_outside.specs.declared.question.Question.TheVariants.{Read}
use Rattle.cm_outside.specs.declared.question.Answer.{Answer}
use Rattle.cm_outside.specs.declared.question.Record.{Record}
use Rattle.cm_outside.specs.Asks.{Done, Ask, value, asked, begun, value-then_ask, begun-then_ask}
use Rattle.cm_outside.specs.Firsts.{firsts}
use Rattle.unit_fold.specs.declared.item.FaultAt.{FaultAt}
use Rattle.unit_fold.specs.declared.item.Named.{Named}
use Rattle.module_file.specs.declared.index.Index.{Index}
use Rattle.module_file.specs.declared.index.Key.{Key}
use Rattle.build_store.specs.Images.{Outcome, interpreted, interpret_in, setting_by, outcome_of, index_by, index_of, index_with, declarations_of, diags_of}
use Rattle.build_store.specs.KeptFaults.{kept_fault}
use Rattle.build_store.specs.Loads.{objects_by, faults_by, part_by}
use Rattle.build_store.specs.Report.{fits, is_declared, is_fault_kept}
use Rattle.build_store.proofs.KeptFaultLemmas.{fault_back}
use Rattle.build_store.specs.Modules.{mod_of}
use Rattle.build_store.specs.Order.{needs_of}
use Rattle.build_store.specs.Owners.{plan_of}
use Rattle.build_store.specs.Parts.{Fragment, part_in, part_or_none}
use Rattle.build_store.specs.Tables.{is_read, map_of, read_maps, settled, table_of}
use Rattle.build_store.specs.Targets.{header_of, number_of}
use Rattle.build_store.specs.declared.map_read.MapRead.{MapRead}
use Rattle.build_store.specs.declared.part.Part.{Part}
use Rattle.build_store.specs.declared.table.Table.{Table}

-- ---- the table begins no module

begun_maps : (maps : List (List ℕ)) (earlier : List MapRead) (t : Question → Answer) → begun (read_maps earlier maps) t ≡ []
begun_maps [] earlier t = refl
begun_maps (m ∷ maps) earlier t = by (is_read m earlier) (begun_maps maps)
  where
    by : (b : Bool) → ((found : List MapRead) (u : Question → Answer) → begun (read_maps found maps) u ≡ [])
        → begun (cond b (read_maps earlier maps) (Ask (Read m) (λ a. read_maps (earlier ++ map_of earlier m a ∷ []) maps))) t ≡ []
    by true rest = rest earlier t
    by false rest = rest (earlier ++ map_of earlier m (t (Read m)) ∷ []) t

pub begun_table : (maps : List (List ℕ)) (t : Question → Answer) → begun (table_of maps) t ≡ []
unfolding table_of
begun_table maps t =
    begun-then_ask (read_maps [] maps) (λ all. Done (settled all)) t ∙ append-nil (begun (read_maps [] maps) t) ∙ begun_maps maps [] t

-- ---- the part that a file says

same_objects : (path : List ℕ) (objects : List Named) → objects_by (declarations_of path objects) ≡ objects
same_objects path [] = refl
same_objects path (n ∷ objects) = ap (λ rest. n ∷ rest) (same_objects path objects)

same_faults : (path : List ℕ) (faults : List FaultAt) → list_all is_fault_kept (diags_of path faults) ≡ true → faults_by (diags_of path faults) ≡ faults
same_faults path [] h = refl
same_faults path (fault ∷ faults) h = by (is_fault_kept (kept_fault path fault)) (same_faults path faults) refl h
  where
    by : (b : Bool) → (list_all is_fault_kept (diags_of path faults) ≡ true → faults_by (diags_of path faults) ≡ faults) → is_fault_kept (kept_fault path fault) ≡ b
        → (b && list_all is_fault_kept (diags_of path faults)) ≡ true → faults_by (diags_of path (fault ∷ faults)) ≡ fault ∷ faults
    by true rest e g = λ i. fault_back path fault e i ++ rest g i
    by false rest e g = absurd (true≢false (sym g))

-- the diagnostics of a file that fits are those of headers
kept_alone : (i : Index) (table : Table) → fits table i ≡ true → list_all is_fault_kept i.diags ≡ true
kept_alone i table h =
    by (bytes_eq i.sub i.key.name) (list_all (is_declared table) i.imports) (list_all (is_declared table) i.needs) (list_all is_fault_kept i.diags) h
  where
    by : (a b c d : Bool) → (a && (b && (c && d))) ≡ true → d ≡ true
    by true true true d h = h
    by true true false d h = absurd (true≢false (sym h))
    by true false c d h = absurd (true≢false (sym h))
    by false b c d h = absurd (true≢false (sym h))

pub same_part : (key : Key) (table other : Table) (x : ℕ) (records : List Record) (needs : List ℕ) (part : Part)
    → fits other (index_with key table x records needs part) ≡ true → part_by (index_with key table x records needs part) ≡ part
same_part key table other x records needs part fitting = λ i. record {
  objects = same_objects (header_of table x) part.objects i;
  imports = part.imports;
  faults = same_faults (header_of table x) part.faults (kept_alone (index_with key table x records needs part) other fitting) i;
}

-- ---- the module of a key

-- what a file says of module m of this table, whose key this is
pub record Says (key : Key) (t : Question → Answer) (table : Table) (m : ℕ) (i : Index) : Type 0 where
  pub parts : Fragment
  pub outcome : value (mod_of (plan_of (setting_by key table)) [] m) t ≡ Some parts
  pub index : i ≡ index_with key table m (firsts (asked (interpreted key) t)) (drop 1 (needs_of (plan_of (setting_by key table)) t m)) (part_or_none (part_in parts m))

module _ (key : Key) (t : Question → Answer) (table : Table) (m : ℕ) (is_table : value (table_of key.maps) t ≡ table) (numbered : number_of table key.name ≡ Some m) where
  pub interpreted_value : value (interpreted key) t ≡ outcome_of table m (value (mod_of (plan_of (setting_by key table)) [] m) t)
  unfolding interpreted
  interpreted_value =
      value-then_ask (table_of key.maps) (λ tb. interpret_in key tb (number_of tb key.name)) t
      ∙ ap (λ tb. value (interpret_in key tb (number_of tb key.name)) t) is_table
      ∙ ap (λ o. value (interpret_in key table o) t) numbered
      ∙ value-then_ask (mod_of (plan_of (setting_by key table)) [] m) (λ parts. Done (outcome_of table m parts)) t

  interpreted_begun : begun (interpreted key) t ≡ begun (mod_of (plan_of (setting_by key table)) [] m) t
  unfolding interpreted
  interpreted_begun =
      begun-then_ask (table_of key.maps) (λ tb. interpret_in key tb (number_of tb key.name)) t
      ∙ (λ i. begun_table key.maps t i ++ begun (interpret_in key (is_table i) (number_of (is_table i) key.name)) t)
      ∙ ap (λ o. begun (interpret_in key table o) t) numbered
      ∙ begun-then_ask (mod_of (plan_of (setting_by key table)) [] m) (λ parts. Done (outcome_of table m parts)) t
      ∙ append-nil (begun (mod_of (plan_of (setting_by key table)) [] m) t)

  pub says_of : (i : Index) → index_of key t ≡ Some i → Says key t table m i
  unfolding needs_of
  says_of i is = by (value (mod_of (plan_of (setting_by key table)) [] m) t) refl
    where
      by : (v : Option Fragment) → value (mod_of (plan_of (setting_by key table)) [] m) t ≡ v → Says key t table m i
      by None none =
          let f = index_by key (asked (interpreted key) t) (begun (interpreted key) t) in
          let no : option_map f (outcome_of table m None) ≡ Some i = ap (option_map f) (ap (outcome_of table m) (sym none) ∙ sym interpreted_value) ∙ is in
          absurd (cc)
      by (Some parts) some =
          let f = index_by key (asked (interpreted key) t) (begun (interpreted key) t) in
          let o : Outcome = record { table = table; number = m; parts = parts } in
          let so : Some (f o) ≡ Some i = ap (option_map f) (ap (outcome_of table m) (sym some) ∙ sym interpreted_value) ∙ is in
          let at : f o ≡ i = cc in
          record {
            parts = parts;
            outcome = some;
            index = sym at ∙ ap (λ bs. index_by key (asked (interpreted key) t) bs o) interpreted_begun;
          }
