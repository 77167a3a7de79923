-- The first asking of each question. own
use Rattle.std.specs.Prelude.{not, List, [], ◌∷◌}
use Rattle.std.specs.List.{filter}
use Rattle.cm_outside.specs.declared.question.Question.{Question}
use Rattle.cm_outside.specs.declared.question.Record.{Record}
use Rattle.cm_outside.specs.Trees.{same_question}

-- those that ask something else
abbrev pub others : Question → List Record → List Record
others q rs = filter (λ (s : Record). not (same_question q s.question)) rs

-- the first asking of each question
abbrev pub firsts : List Record → List Record
firsts [] = []
firsts (r ∷ rs) = r ∷ others r.question (firsts rs)
