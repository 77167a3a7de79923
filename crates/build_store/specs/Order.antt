-- The order in which modules are needed first. own
use Rattle.std.specs.Prelude.{ℕ, cond, List, [], ◌∷◌, ◌++◌}
use Rattle.cm_outside.specs.declared.question.Question.{Question}
use Rattle.cm_outside.specs.declared.question.Answer.{Answer}
use Rattle.cm_outside.specs.Asks.{begun}
use Rattle.build_store.specs.Modules.{Plan, is_in, mod_of}

-- those of a list that were not seen before, each at its first
abbrev pub new_of : List ℕ → List ℕ → List ℕ
new_of seen [] = []
new_of seen (m ∷ ms) = cond (is_in m seen) (new_of seen ms) (m ∷ new_of (seen ++ (m ∷ [])) ms)

-- the seen ones, with the new ones behind them
abbrev pub with_new : List ℕ → List ℕ → List ℕ
with_new seen ms = seen ++ new_of seen ms

-- the modules that a module needs: itself, and those that are begun in it, each at its first
unfoldable pub needs_of : {B : Type 0} → Plan B → (Question → Answer) → ℕ → List ℕ
needs_of p t m = new_of [] (begun (mod_of p [] m) t)
