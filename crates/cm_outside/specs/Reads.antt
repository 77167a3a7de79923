-- The list of questions that a tree tells. own
use Rattle.std.specs.Prelude.{◌≡◌, ◌⊎◌, List, [], ◌∷◌, ◌++◌, Option, Some, None, Result, Ok, Err}
use Rattle.cm_outside.specs.declared.question.Question.{Question}
use Rattle.cm_outside.specs.declared.tree.TreeFault.{TreeFault}
use Rattle.cm_outside.specs.declared.tree.TreeFault.TheVariants.{Failed, NoMemory}

-- the list with one question more
abbrev pub noting : Question → Option (List Question) → Option (List Question)
noting q None = None
noting q (Some asked) = Some (asked ++ q ∷ [])

-- A call notes its question; one that finds no memory may leave the list as it was.
abbrev pub Notes : {A : Type 0} → Question → Option (List Question) → Option (List Question) → Result A TreeFault → Type 0
Notes q before now (Ok _) = now ≡ noting q before
Notes q before now (Err Failed) = now ≡ noting q before
Notes q before now (Err NoMemory) = (now ≡ noting q before) ⊎ (now ≡ before)
