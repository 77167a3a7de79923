-- What a store is, and what its calls give. own
use Rattle.std.specs.Prelude.{◌≡◌, ℕ, ◌<◌, true, false, length, List, [], ◌∷◌, ◌++◌, Option, Some, None, Result, Ok, Err}
use Rattle.std.specs.List.{list_any}
use Rattle.cm_outside.specs.Asks.{Agrees, asked, value}
use Rattle.cm_outside.specs.Keeping.{AreKept}
use Rattle.cm_outside.specs.Trees.{same_question}
use Rattle.cm_outside.specs.declared.question.Question.{Question}
use Rattle.cm_outside.specs.declared.question.Answer.{Answer}
use Rattle.cm_outside.specs.declared.question.Record.{Record}
use Rattle.cm_outside.specs.declared.tree.TreeFault.{TreeFault}
use Rattle.cm_outside.specs.declared.tree.TreeFault.TheVariants.{Failed, NoMemory}
use Rattle.build_store.specs.Held.{AreNumbersOf, HasPlaces, HeldRests, IsTableOf, numbers_noted, plan_held}
use Rattle.build_store.specs.Modules.{is_in}
use Rattle.build_store.specs.Order.{with_new}
use Rattle.build_store.specs.Tables.{table_of}
use Rattle.build_store.specs.Telling.{AreBegun}
use Rattle.build_store.specs.declared.held.Held.{Held}
use Rattle.build_store.specs.declared.job.Job.{Job}
use Rattle.build_store.specs.declared.loading.Loaded.{Loaded}
use Rattle.build_store.specs.declared.loading.Loaded.TheVariants.{Bad, Ready}
use Rattle.build_store.specs.declared.store.StoreFault.{StoreFault}
use Rattle.build_store.specs.declared.table.Table.{Table}
use Rattle.build_store.specs.declared.store.StoreFault.TheVariants.{Failed as StoreFailed, Spent, NoMemory as NoRoom}

-- the fault of the tree that a call tells of, if it tells of one; a call on a spent store makes no call of the tree
abbrev pub tree_fault : {A : Type 0} → Result A StoreFault → Option TreeFault
tree_fault (Ok a) = None
tree_fault (Err StoreFailed) = Some Failed
tree_fault (Err NoRoom) = Some NoMemory
tree_fault (Err Spent) = None

-- what a call on a store tells of a fault of the tree
abbrev pub told_as : TreeFault → StoreFault
told_as Failed = StoreFailed
told_as NoMemory = NoRoom

-- what is held is as calls leave it, over these answers given, which are kept each once
pub record IsStore (kept : List Record) (h : Held) : Type 0 where
  pub places : HasPlaces h
  pub table : IsTableOf kept h
  pub begun : AreBegun h
  pub once : AreKept kept

-- What a call leaves of what is held that begins these modules: over answers that agree with those given, what was at rest is
-- at rest, and these were begun at their first. `trusts` says that the cache was honest.
abbrev pub GoesOn : List Record → List Record → Held → Held → Type 0 → ((Question → Answer) → List ℕ) → Type 0
GoesOn before after old new trusts begins =
    (t : Question → Answer) → Agrees t after → trusts → HeldRests before old t
    → HeldRests after new t × (numbers_noted new ≡ with_new (numbers_noted old) (begins t))

-- what is at rest over all answers that agree with those given
abbrev pub RestsOver : List Record → Held → Type 0
RestsOver kept h = (t : Question → Answer) → Agrees t kept → HeldRests kept h t

-- the table is that of the job's maps, read from the answers of these numbers
pub record AreOfMaps (kept : List Record) (job : Job) (table : Table) (maps : List ℕ) : Type 0 where
  pub of_maps : (t : Question → Answer) → Agrees t kept → value (table_of job.maps) t ≡ table
  pub numbered : (t : Question → Answer) → Agrees t kept → AreNumbersOf kept maps (asked (table_of job.maps) t)

-- where a job was loaded, its table is that of its maps, read from the answers of these numbers
abbrev pub IsLoadedFrom : List Record → List ℕ → Loaded → Type 0
IsLoadedFrom kept maps (Bad line) = Unit {0}
IsLoadedFrom kept maps (Ready job table) = AreOfMaps kept job table maps

-- no question of these asks the same as a later one
abbrev pub AllApart : List Question → Type 0
AllApart [] = Unit {0}
AllApart (q ∷ qs) = (list_any (same_question q) qs ≡ false) × AllApart qs

-- Where a tree tells the questions that are put to it, those put since are told behind the others, and no two of them ask the
-- same.
abbrev pub PutsEachOnce : Option (List Question) → Option (List Question) → Type 0
PutsEachOnce None now = now ≡ None
PutsEachOnce (Some before) now = (more : List Question) × (now ≡ Some (before ++ more)) × AllApart more

-- each module of the job has a slot
abbrev pub HasSlots : Held → Type 0
HasSlots h = (m : ℕ) → is_in m (plan_held h).tops ≡ true → m < length h.slots
