-- Questions that are the same are equal. own
use Rattle.std.specs.Prelude.{◌≡◌, true}
use Rattle.std.proofs.Common.{ap}
use Rattle.std.specs.Bool.{Decides}
use Rattle.std.specs.Cmp.{IsEquivalence, decided, on_equiv}
use Rattle.std.specs.Cmp.Lexicographic.{bytes_decides}
use Rattle.std.specs.Hash as fed
use Rattle.cm_outside.specs.Trees.{same_question}
use Rattle.cm_outside.specs.Keeping.{path_asked, same_asked}
use Rattle.cm_outside.specs.declared.question.Question.{Question}
use Rattle.cm_outside.specs.declared.question.Question.TheVariants.{Read, List as Listing}
use Rattle.cm_outside.specs.declared.question.Record.{Record}

pub same_question_decides : (q r : Question) → Decides (same_question q r) (q ≡ r)
same_question_decides (Read p) (Read o) = (λ h. ap Read ((bytes_decides p o).0 h), λ e. (bytes_decides p o).1 (cc))
same_question_decides (Listing p) (Listing o) = (λ h. ap Listing ((bytes_decides p o).0 h), λ e. (bytes_decides p o).1 (cc))
same_question_decides (Read p) (Listing o) = (λ h. absurd (cc), λ e. absurd (cc))
same_question_decides (Listing p) (Read o) = (λ h. absurd (cc), λ e. absurd (cc))

pub same_asked_equiv : IsEquivalence same_asked
same_asked_equiv = on_equiv (λ (r : Record). r.question) (decided same_question same_question_decides)

pub same_asked_fed : (r s : Record) → same_asked r s ≡ true → fed.str (path_asked r.question) ≡ fed.str (path_asked s.question)
same_asked_fed r s h = ap (λ q. fed.str (path_asked q)) ((same_question_decides r.question s.question).0 h)
