-- What questions to a tree through a snapshot leave, and which recorded answers have changed. own
use Rattle.std.specs.Prelude.{◌≡◌, ◌⊎◌, ◌≤◌, Bool, true, false, ◌==◌, List, [], ◌∷◌, Option, Some, None, Result, Ok, Err, if◌then◌else◌}
use Rattle.std.specs.Str.{bytes_eq}
use Rattle.std.specs.Cmp.Lexicographic.{pointwise}
use Rattle.cm_outside.specs.Asks.{Agrees}
use Rattle.cm_outside.specs.Faults.{Rose}
use Rattle.cm_outside.specs.Keeping.{AreKept, Grew, is_kept, new_questions, noting_all, path_asked}
use Rattle.cm_outside.specs.Reads.{noting}
use Rattle.cm_outside.specs.Trees.{Contents, Path, answer}
use Rattle.cm_outside.specs.declared.keeper.Keeper.{Ghosts as KeeperWords}
use Rattle.cm_outside.specs.declared.question.Question.{Question}
use Rattle.cm_outside.specs.declared.question.Answer.{Answer}
use Rattle.cm_outside.specs.declared.question.Answer.TheVariants.{Absent, Bytes, TooLarge, Paths}
use Rattle.cm_outside.specs.declared.question.Record.{Record}
use Rattle.cm_outside.specs.declared.snapshot.Snapshot.{Snapshot}
use Rattle.cm_outside.specs.declared.tree.Tree.{Ghosts as TreeWords}
use Rattle.cm_outside.specs.declared.tree.TreeFault.{TreeFault}
use Rattle.cm_outside.specs.declared.tree.TreeFault.TheVariants.{Failed}

-- ---- any number of questions through a snapshot

-- why a call gave no answer, where it gave none
abbrev pub fault_of : {A : Type 0} → Result A TreeFault → Option TreeFault
fault_of (Ok a) = None
fault_of (Err fault) = Some fault

-- The questions that a tree tells: those of the answers that are new were put to it, each once and in order. Where a
-- question was refused, that one may stand behind them, and its answer isn't kept.
abbrev pub HasPut : Option TreeFault → List Record → List Record → Option (List Question) → Option (List Question) → Type 0
HasPut None old new before now = now ≡ noting_all (new_questions old new) before
HasPut (Some fault) old new before now =
    (now ≡ noting_all (new_questions old new) before)
    ⊎ ((q : Question) × (is_kept q new ≡ false) × (now ≡ noting q (noting_all (new_questions old new) before)))

-- What questions put through a snapshot leave of it, and of the tree behind it. The calls ended with this fault, or all
-- were answered.
pub record Went {T K : Type 0} (words : TreeWords T) (keeper : KeeperWords K) (old new : Snapshot T K) (fault : Option TreeFault) : Type 0 where
  pub same_reference : new.tree.ghost_name ≡ old.tree.ghost_name
  pub kept : AreKept (keeper.records old.kept) → AreKept (keeper.records new.kept)
  -- each number that was given keeps its record
  pub grew : Grew (keeper.records old.kept) (keeper.records new.kept)
  -- what agrees with the answers after it agreed with those before it
  pub back : (f : Question → Answer) → Agrees f (keeper.records new.kept) → Agrees f (keeper.records old.kept)
  -- and the answers of a tree that tells its files are its own
  pub told : (t : Contents) → words.contents old.tree.now ≡ Some t → Agrees (answer t) (keeper.records old.kept) → Agrees (answer t) (keeper.records new.kept)
  pub contents : words.contents new.tree.now ≡ words.contents old.tree.now
  pub noted : HasPut fault (keeper.records old.kept) (keeper.records new.kept) (words.reads old.tree.now) (words.reads new.tree.now)
  pub later : words.faults old.tree.now ≤ words.faults new.tree.now
  pub cause : fault ≡ Some Failed → Rose (words.faults old.tree.now) (words.faults new.tree.now)

-- ---- recorded answers

abbrev pub same_answer : Answer → Answer → Bool
same_answer Absent Absent = true
same_answer (Bytes xs) (Bytes ys) = bytes_eq xs ys
same_answer (TooLarge n) (TooLarge m) = n == m
same_answer (Paths ps) (Paths qs) = pointwise bytes_eq ps qs
same_answer a b = false

-- the path of the first recorded question that has another answer
abbrev pub changed : (Question → Answer) → List Record → Option Path
changed f [] = None
changed f (r ∷ rs) = if same_answer (f r.question) r.answer then changed f rs else Some (path_asked r.question)
