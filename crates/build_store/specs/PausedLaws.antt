-- Laws of folds that wait at an import: one waits where it did while more becomes known. own
use Rattle.std.proofs.Common.{◌≡◌, ◌∙◌, sym, ap, ℕ, false, List, Option, Some, None}
use Rattle.cm_outside.specs.declared.question.Question.{Question}
use Rattle.cm_outside.specs.declared.question.Answer.{Answer}
use Rattle.build_store.specs.Held.{setting_of_held}
use Rattle.build_store.specs.Memo.{Grows, Known, is_unknown, tried, with_records}
use Rattle.build_store.specs.Owners.{needs_of, owner_needs}
use Rattle.build_store.specs.Walks.{IsPaused, known_held, walked}
use Rattle.build_store.specs.declared.held.Held.{Held}
use Rattle.build_store.specs.declared.walk.Paused.{Paused}

-- what is known twice as much
pub grows_then : {B : Type 0} (first more most : ℕ → Known B) → Grows first more → Grows more most → Grows first most
grows_then first more most h g x old = let same : more x ≡ first x = h x old in g x (ap is_unknown same ∙ old) ∙ same

-- over one job and table
pub paused_on : (old new : Held) (t : Question → Answer) (unit : List ℕ) → new.job ≡ old.job → new.table ≡ old.table → Grows (known_held old t) (known_held new t)
    → (paused : Option Paused) → IsPaused old t unit paused → IsPaused new t unit paused
paused_on old new t unit job table grows None is = tt
paused_on old new t unit job table grows (Some paused) is = record {
  reading = is.reading;
  head = is.head;
  parts = is.parts;
  comes = λ known more.
      let first = is.comes known (grows_then (known_held old t) (known_held new t) known grows more) in
      let setting : setting_of_held new ≡ setting_of_held old = (λ i. record { table = table i; includes = (job i).includes }) in (
        first.0,
        (λ i. tried known (walked false (owner_needs (setting i) None unit)) t)
            ∙ first.1
            ∙ (λ i. with_records first.0 (tried known (walked false (needs_of (sym setting i) None unit is.parts is.reading)) t)),
      );
}
