-- How code comes through a program of questions, with the numbers of the answers that it was given. own
use Rattle.std.specs.Prelude.{◌≡◌, ℕ, List, ◌++◌, map, slice_get, Option, Some, None}
use Rattle.cm_outside.specs.Asks.{Asks, Done, Agrees, asked, value}
use Rattle.cm_outside.specs.declared.question.Question.{Question}
use Rattle.cm_outside.specs.declared.question.Answer.{Answer}
use Rattle.cm_outside.specs.declared.question.Record.{Record}

-- The numbers of all that a program asks were put behind others: over answers that agree with the kept ones, each number's
-- record is that of a question that the program asks, in order.
pub record HasPushed {A : Type 0} (kept : List Record) (before now : List ℕ) (p : Asks A) : Type 0 where
  pub more : List ℕ
  pub pushed : now ≡ before ++ more
  pub numbered : (f : Question → Answer) → Agrees f kept → map (slice_get kept) more ≡ map Some (asked p f)

-- for the contracts of private functions: by kept answers, whose numbers were put behind others, a program came from a
-- whole to a rest
pub record Comes {A : Type 0} (kept : List Record) (before now : List ℕ) (whole rest : Asks A) : Type 0 where
  pub more : List ℕ
  pub pushed : now ≡ before ++ more
  pub records : List Record
  pub numbered : map (slice_get kept) more ≡ map Some records
  pub asks : (f : Question → Answer) → Agrees f kept → asked whole f ≡ records ++ asked rest f
  pub told : (f : Question → Answer) → Agrees f kept → value whole f ≡ value rest f

-- what a program comes to where it may have ended
abbrev pub done_or : {A : Type 0} → Option A → Asks (Option A) → Asks (Option A)
done_or None more = more
done_or (Some x) more = Done (Some x)
