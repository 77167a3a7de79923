-- What a fold needs, as a tree: it ends, or puts a question to the tree of files, or imports a submodule, and goes on from
-- what it is given. own
use Rattle.std.specs.Prelude.{ℕ, List, [], ◌∷◌, Option, Some, None}
use Rattle.cm_outside.specs.declared.question.Question.{Question}
use Rattle.cm_outside.specs.declared.question.Answer.{Answer}
use Rattle.cm_outside.specs.Asks.{Asks, Done, Ask, then_ask}

-- `B` is what an import brings: None where it is Cyclic. A submodule is told by its number.
pub data Needs (B A : Type 0) : Type 0 where
  Ends : A → Needs B A
  Puts : Question → (Answer → Needs B A) → Needs B A
  Imports : ℕ → (Option B → Needs B A) → Needs B A

-- one fold and then another
abbrev pub then_needs : {B A C : Type 0} → Needs B A → (A → Needs B C) → Needs B C
then_needs (Ends a) more = more a
then_needs (Puts q next) more = Puts q (λ a. then_needs (next a) more)
then_needs (Imports x next) more = Imports x (λ b. then_needs (next b) more)

-- goes on with what was brought, and ends where that is Cyclic
abbrev pub or_cyclic : {B A C : Type 0} → (C → Needs B (Option A)) → Option C → Needs B (Option A)
or_cyclic more None = Ends None
or_cyclic more (Some c) = more c

-- the fold with each import replaced by a fold. It ends, as Cyclic, at the first import that is.
abbrev pub strictly : {B A : Type 0} → (ℕ → Needs B (Option B)) → Needs B A → Needs B (Option A)
strictly import (Ends a) = Ends (Some a)
strictly import (Puts q next) = Puts q (λ a. strictly import (next a))
strictly import (Imports x next) = then_needs (import x) (or_cyclic (λ b. strictly import (next (Some b))))

-- the fold with each import answered by a program. It goes on with what that gives, be it Cyclic.
abbrev pub answered : {B A : Type 0} → (ℕ → Asks (Option B)) → Needs B A → Asks A
answered import (Ends a) = Done a
answered import (Puts q next) = Ask q (λ a. answered import (next a))
answered import (Imports x next) = then_ask (import x) (λ b. answered import (next b))

module _ {B A : Type 0} where
  -- what the fold ends with, over these answers and where the imports bring this
  abbrev pub end_of : Needs B A → (Question → Answer) → (ℕ → Option B) → A
  end_of (Ends a) t brings = a
  end_of (Puts q next) t brings = end_of (next (t q)) t brings
  end_of (Imports x next) t brings = end_of (next (brings x)) t brings

  -- the imports that it comes to, in order
  abbrev pub met : Needs B A → (Question → Answer) → (ℕ → Option B) → List ℕ
  met (Ends a) t brings = []
  met (Puts q next) t brings = met (next (t q)) t brings
  met (Imports x next) t brings = x ∷ met (next (brings x)) t brings
