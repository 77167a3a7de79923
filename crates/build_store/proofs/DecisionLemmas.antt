-- What is decided of a module by its opened file and by what changed of its records.
use Rattle.std.proofs.Common.{◌≡◌, ◌∙◌, sym, ap, subst, ℕ, false, List, Option, Some, None, inr}
use Rattle.cm_outside.specs.Asks.{Agrees}
use Rattle.cm_outside.specs.declared.question.Question.{Question}
use Rattle.cm_outside.specs.declared.question.Answer.{Answer}
use Rattle.cm_outside.specs.declared.question.Record.{Record}
use Rattle.module_file.specs.ModuleFile.{IsWellFormed, spelling}
use Rattle.module_file.specs.declared.index.Index.{Index}
use Rattle.module_file.specs.declared.index.Key.{Key}
use Rattle.build_store.specs.Changes.{changed}
use Rattle.build_store.specs.Decisions.{IsChoice, IsJudged, IsJudgedBy}
use Rattle.build_store.specs.Images.{IsTrueFile}
use Rattle.build_store.specs.Kept.{AreChanges}
use Rattle.build_store.specs.Origins.{IsOrigin, IsSealedAs, OfFile}
use Rattle.build_store.specs.Report.{fits}
use Rattle.build_store.specs.declared.changes.Changes.{Changes}
use Rattle.build_store.specs.declared.changes.Changes.TheVariants.{Same, At}
use Rattle.build_store.specs.declared.decide.Choice.{Choice}
use Rattle.build_store.specs.declared.decide.Choice.TheVariants.{Sources, File}
use Rattle.build_store.specs.declared.decide.Decision.{Decision}
use Rattle.build_store.specs.declared.origin.Origin.{Origin}
use Rattle.build_store.specs.declared.origin.Origin.TheVariants.{Loaded, Built}
use Rattle.build_store.specs.declared.origin.Reason.TheVariants.{Missing, Unreadable, OtherVersion, Damaged, OtherKey, Outdated}
use Rattle.build_store.specs.declared.table.Table.{Table}

module _ (table : Table) (i : Index) (f : Question → Answer) (records : List Record) (same : records ≡ i.records) (changes : Changes) (told : AreChanges f records changes) where
  pub judged_other : (path : List ℕ) (d : Decision) → changes ≡ At path → d ≡ record { choice = Sources; origin = Built (Outdated path) } → IsJudged table i f d
  judged_other path d is built =
      let P : Changes → Type 0 = λ c. AreChanges f records c in
      let so : changed f records ≡ Some path = subst P is told in
      let Q : Decision → Type 0 = λ e. IsJudged table i f e in
      subst Q (sym built) (ap (changed f) (sym same) ∙ so)

  pub all_same : (numbers : List ℕ) → changes ≡ Same numbers → Agrees f i.records
  all_same numbers is =
      let P : Changes → Type 0 = λ c. AreChanges f records c in
      let Q : List Record → Type 0 = λ rs. Agrees f rs in
      subst Q same (subst P is told)

  pub judged_damaged : (numbers : List ℕ) (d : Decision) → changes ≡ Same numbers → fits table i ≡ false → d ≡ record { choice = Sources; origin = Built Damaged } → IsJudged table i f d
  judged_damaged numbers d is unfit built =
      let Q : Decision → Type 0 = λ e. IsJudged table i f e in
      subst Q (sym built) (unfit, all_same numbers is)

-- a sealed file that was judged is a choice
pub choice_of : (table : Table) (key : Key) (honest : Type 0) (f : Question → Answer) (i : Index) (d : Decision)
    → IsWellFormed i → i.key ≡ key → (honest → IsTrueFile (spelling i)) → IsJudged table i f d → IsChoice table key honest f d.choice
choice_of table key honest f i d well of_key is_true judged = by d.choice d.origin judged
  where
    by : (c : Choice) (o : Origin) → IsJudgedBy table i f c o → IsChoice table key honest f c
    by Sources o h = tt
    by (File taken numbers) Loaded h =
        let P : Index → Type 0 = λ j. IsChoice table key honest f (File j numbers) in
        subst P (sym h.0) (well, of_key, h.1, h.2, is_true)
    by (File taken numbers) (Built reason) h = absurd h

-- and has its origin
pub origin_of : (table : Table) (failed : Type 0) (key : Key) (f : Question → Answer) (i : Index) (file : Option (List ℕ)) (d : Decision)
    → OfFile (λ g. IsSealedAs g i × (i.key ≡ key)) file → IsJudged table i f d → IsOrigin (fits table) failed key f file d.origin
origin_of table failed key f i None d at judged = absurd at
origin_of table failed key f i (Some g) d at judged = by d.choice d.origin judged
  where
    by : (c : Choice) (o : Origin) → IsJudgedBy table i f c o → IsOrigin (fits table) failed key f (Some g) o
    by (File taken numbers) Loaded h = (i, at.0, ((at.1, h.2), h.1))
    by (File taken numbers) (Built reason) h = absurd h
    by Sources Loaded h = absurd h
    by Sources (Built (Outdated path)) h = (i, at.0, (at.1, h))
    by Sources (Built Damaged) h = inr (i, at.0, ((at.1, h.1), h.0))
    by Sources (Built Missing) h = absurd h
    by Sources (Built Unreadable) h = absurd h
    by Sources (Built OtherVersion) h = absurd h
    by Sources (Built OtherKey) h = absurd h
