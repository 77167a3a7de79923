-- What a snapshot is once the answer that it lent is let go. own
use Rattle.std.specs.Prelude.{◌≡◌, true, Some, Result, Ok, Err, IfOk, OnErr, []}
use Rattle.std.specs.Borrow.{RattleType}
use mir.Syntax.{named}
use Rattle.cm_outside.specs.Asks.{Agrees}
use Rattle.cm_outside.specs.Faults.{HasCause}
use Rattle.cm_outside.specs.Keeping.{AreKept, Grew, NotesNew, answered, is_kept, keeping}
use Rattle.cm_outside.specs.Trees.{Contents, answer}
use Rattle.cm_outside.specs.contracts.snapshot.Snapshot.{the_row}
use Rattle.cm_outside.specs.declared.keeper.Keeper.{Ghosts as KeeperWords}
use Rattle.cm_outside.specs.declared.question.Question.{Question}
use Rattle.cm_outside.specs.declared.question.Answer.{Answer}
use Rattle.cm_outside.specs.declared.snapshot.Snapshot.{Snapshot}
use Rattle.cm_outside.specs.declared.tree.Tree.{Ghosts as TreeWords}
use Rattle.cm_outside.specs.declared.tree.TreeFault.{TreeFault}
use Rattle.cm_outside.specs.declared.tree.TreeFault.TheVariants.{Failed}

-- the logic's name of a snapshot behind a `&mut self`
abbrev pub snapshot_row : RattleType → RattleType → RattleType
snapshot_row T K = the_row (record { mir = named 1; lft = [] }) T K

-- what was lent, as an answer
abbrev pub as_answer : {A : Type 0} → (A → Answer) → Result A TreeFault → Result Answer TreeFault
as_answer f (Ok a) = Ok (f a)
as_answer f (Err fault) = Err fault

-- A question was put to the snapshot, which lent this answer or refused it.
pub record HasLent {T K : Type 0} (words : TreeWords T) (keeper : KeeperWords K) (q : Question) (old new : Snapshot T K) (result : Result Answer TreeFault) : Type 0 where
  pub same_reference : new.tree.ghost_name ≡ old.tree.ghost_name
  pub grows : IfOk result (λ a. keeper.records new.kept ≡ keeping (answered q a) (keeper.records old.kept))
  pub err : OnErr result (keeper.records new.kept ≡ keeper.records old.kept)
  pub kept : AreKept (keeper.records new.kept)
  pub grew : Grew (keeper.records old.kept) (keeper.records new.kept)
  pub back : (f : Question → Answer) → Agrees f (keeper.records new.kept) → Agrees f (keeper.records old.kept)
  pub fixed : IfOk result (λ a. (f : Question → Answer) → Agrees f (keeper.records new.kept) → a ≡ f q)
  pub told : (t : Contents) → words.contents old.tree.now ≡ Some t → Agrees (answer t) (keeper.records old.kept) → Agrees (answer t) (keeper.records new.kept)
  pub contents : words.contents new.tree.now ≡ words.contents old.tree.now
  pub untouched : is_kept q (keeper.records old.kept) ≡ true → new.tree.now ≡ old.tree.now
  pub noted : NotesNew q (keeper.records old.kept) (keeper.records new.kept) (words.reads old.tree.now) (words.reads new.tree.now) result
  pub cause : HasCause (words.faults old.tree.now) (words.faults new.tree.now) result Failed
