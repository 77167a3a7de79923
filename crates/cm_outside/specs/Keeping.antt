-- Answers that are kept: what stands among them, and what a further question leaves. own
use Rattle.std.specs.Prelude.{◌≡◌, ℕ, ◌<◌, ◌≤◌, Bool, true, false, List, [], ◌∷◌, ◌++◌, length, drop, map, slice_get, if◌then◌else◌, Option, Some, Result, OnOk}
use Rattle.std.specs.Option.{option_map}
use Rattle.std.specs.List.{All, IsDistinct, list_any}
use Rattle.cm_outside.specs.Reads.{Notes}
use Rattle.cm_outside.specs.Trees.{Path, same_question}
use Rattle.cm_outside.specs.declared.question.Question.{Question}
use Rattle.cm_outside.specs.declared.question.Question.TheVariants.{Read, List as Listing}
use Rattle.cm_outside.specs.declared.question.Answer.{Answer}
use Rattle.cm_outside.specs.declared.question.Answer.TheVariants.{Absent, Bytes, TooLarge, Paths}
use Rattle.cm_outside.specs.declared.question.Record.{Record}
use Rattle.cm_outside.specs.declared.tree.TreeFault.{TreeFault}

-- a file and a folder have answers of their own kinds
abbrev pub is_of_kind : Question → Answer → Bool
is_of_kind (Read p) Absent = true
is_of_kind (Read p) (Bytes bytes) = true
is_of_kind (Read p) (TooLarge size) = true
is_of_kind (Read p) (Paths ps) = false
is_of_kind (Listing d) Absent = false
is_of_kind (Listing d) (Bytes bytes) = false
is_of_kind (Listing d) (TooLarge size) = false
is_of_kind (Listing d) (Paths ps) = true

-- the path of a question
abbrev pub path_asked : Question → Path
path_asked (Read p) = p
path_asked (Listing d) = d

abbrev pub same_asked : Record → Record → Bool
same_asked r s = same_question r.question s.question

-- a question with its answer
abbrev pub answered : Question → Answer → Record
answered q a = record { question = q; answer = a }

-- no question stands twice, and each answer is of its question's kind
pub record AreKept (kept : List Record) : Type 0 where
  pub once : IsDistinct same_asked kept
  pub kinds : All (λ (r : Record). is_of_kind r.question r.answer ≡ true) kept

-- an answer to this question is kept
abbrev pub is_kept : Question → List Record → Bool
is_kept q kept = list_any (λ (r : Record). same_question q r.question) kept

-- the kept answers after one more: a question that has one keeps it
abbrev pub keeping : Record → List Record → List Record
keeping r kept = if is_kept r.question kept then kept else kept ++ r ∷ []

-- A question has this number among the kept answers, which grew by its answer if it was new.
pub record Asked (q : Question) (old new : List Record) (at : ℕ) : Type 0 where
  pub answer : Answer
  pub within : at < length new
  pub there : slice_get new at ≡ Some (answered q answer)
  pub kind : is_of_kind q answer ≡ true
  pub grows : new ≡ keeping (answered q answer) old

-- each number that was given keeps its record
pub record Grew (old new : List Record) : Type 0 where
  pub longer : length old ≤ length new
  pub same : (at : ℕ) → at < length old → slice_get new at ≡ slice_get old at

-- the questions of the answers that were not kept before
abbrev pub new_questions : List Record → List Record → List Question
new_questions old new = map (λ (r : Record). r.question) (drop (length old) new)

-- the questions that a tree tells after these
abbrev pub noting_all : List Question → Option (List Question) → Option (List Question)
noting_all qs told = option_map (λ asked. asked ++ qs) told

-- What a tree tells after a question: a new one was put to it once, and where it was answered, the
-- questions that were put are those of the new answers.
pub record NotesNew {A : Type 0} (q : Question) (old new : List Record) (before now : Option (List Question)) (result : Result A TreeFault) : Type 0 where
  pub once : is_kept q old ≡ false → Notes q before now result
  pub all : OnOk result (now ≡ noting_all (new_questions old new) before)
