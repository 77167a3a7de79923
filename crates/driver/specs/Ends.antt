-- How a run may end, and which faults its status tells of. own
use Rattle.std.specs.Prelude.{◌≡◌, ◌⊎◌, ℕ, ◌≤◌, true, false, List, Option, is_some}
use Rattle.cm_core.specs.declared.status.Status.{Status}
use Rattle.cm_core.specs.declared.status.Status.TheVariants.{Clean, Diagnosed, Usage, ReadFault, WriteFault, NoMemory}
use Rattle.cm_outside.specs.Faults.{Rose}
use Rattle.cm_outside.specs.Trees.{Files}
use Rattle.cm_outside.specs.Sinks.{and_then, TakesFront}
use Rattle.build_store.specs.Errors.{has_error}
use Rattle.build_store.specs.Turning.{Trusts}
use Rattle.driver.specs.Words.{usage}

-- What a run with this whole output has put into a sink, by its status. Clean and Diagnosed are told by the output; a fault leaves
-- a front of it.
abbrev pub EndsWith : List ℕ → Option (List ℕ) → Option (List ℕ) → Status → Type 0
EndsWith whole before now Clean = (has_error whole ≡ false) × (now ≡ and_then before whole)
EndsWith whole before now Diagnosed = (has_error whole ≡ true) × (now ≡ and_then before whole)
EndsWith whole before now Usage = ⊥
EndsWith whole before now ReadFault = TakesFront whole before now
EndsWith whole before now WriteFault = TakesFront whole before now
EndsWith whole before now NoMemory = TakesFront whole before now

-- the whole output was written
abbrev pub IsWhole : Status → Type 0
IsWhole Clean = Unit {0}
IsWhole Diagnosed = Unit {0}
IsWhole Usage = ⊥
IsWhole ReadFault = ⊥
IsWhole WriteFault = ⊥
IsWhole NoMemory = ⊥

-- What a run with such a report has put into a sink: the report at the end of a whole run, and else nothing or a front of it.
abbrev pub Reports : (List ℕ → Type 0) → Option (List ℕ) → Option (List ℕ) → Status → Type 0
Reports says before now Clean = (text : List ℕ) × says text × (now ≡ and_then before text)
Reports says before now Diagnosed = (text : List ℕ) × says text × (now ≡ and_then before text)
Reports says before now Usage = ⊥
Reports says before now ReadFault = now ≡ before
Reports says before now WriteFault = (now ≡ before) ⊎ ((text : List ℕ) × says text × TakesFront text before now)
Reports says before now NoMemory = (now ≡ before) ⊎ ((text : List ℕ) × says text × TakesFront text before now)

-- the count of faults never falls, and this comes only where it rose
pub record HasFault (before now : ℕ) (told : Type 0) : Type 0 where
  pub later : before ≤ now
  pub cause : told → Rose before now

-- the same of two objects, one of which failed
pub record HasEitherFault (before now before2 now2 : ℕ) (told : Type 0) : Type 0 where
  pub later : before ≤ now
  pub later2 : before2 ≤ now2
  pub cause : told → Rose before now ⊎ Rose before2 now2

-- the usage line was written, or a front of it and a fault
abbrev pub IsRefusal : Option (List ℕ) → Option (List ℕ) → Status → Type 0
IsRefusal before now Usage = now ≡ and_then before usage
IsRefusal before now WriteFault = TakesFront usage before now
IsRefusal before now NoMemory = TakesFront usage before now
IsRefusal before now Clean = ⊥
IsRefusal before now Diagnosed = ⊥
IsRefusal before now ReadFault = ⊥

-- The cache was honest in a run: one that tells its files when the run began, and any other when it ended.
abbrev pub HonestRun : Option Files → Type 0 → Type 0 → Type 0
HonestRun files before after = Trusts (is_some files) before after
