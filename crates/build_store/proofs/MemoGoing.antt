-- A run of modules in progress, from where it began to where it is.
use Rattle.std.proofs.Common.{◌≡◌, ◌∙◌, sym, subst, ℕ, Bool, true, List, Option, None}
use Rattle.cm_outside.specs.declared.question.Question.{Question}
use Rattle.cm_outside.specs.declared.question.Answer.{Answer}
use Rattle.cm_outside.specs.declared.tree.TreeFault.{TreeFault}
use Rattle.cm_outside.specs.Asks.{Agrees}
use Rattle.build_store.specs.Turning.{State, Trusts, IsTrusted, Moved, Rests, Runs, AreInProgress}
use Rattle.build_store.proofs.MemoRuns.{moved_after, trusted_first, trusted_second}

pub trusts_told : (a b : State) → a.told ≡ true → a.honest → IsTrusted a b
trusts_told a b told honest = let P : Bool → Type 0 = λ d. Trusts d a.honest b.honest in subst P (sym told) honest

module _ {H : Type 0} (state : H → State) (well : H → Type 0) (same leaves : H → H → Type 0) (went : Option TreeFault → H → H → Type 0) (tells behind : (Question → Answer) → H → H → Type 0) where
  -- The modules of the chain are in progress, where the run began with the memo at rest; when they have ended, those of `end`
  -- will have been begun.
  pub record Going (old now : H) (chain : List ℕ) (end : (Question → Answer) → List ℕ) : Type 0 where
    pub is_well : well now
    pub is_same : same old now
    pub moved : Moved (state old) (state now)
    pub all_went : went None old now
    pub told_all : (t : Question → Answer) → Agrees t (state now).records → tells t old now
    pub progress : AreInProgress (state now) chain
    pub runs : (t : Question → Answer) → Agrees t (state now).records → IsTrusted (state old) (state now) → Rests (state old) t → Runs (state now) t chain (end t)
    pub stays : (state old).told ≡ true → (state old).honest → (t : Question → Answer) → Agrees t (state now).records → Rests (state old) t → (state now).honest
    pub left : (t : Question → Answer) → Agrees t (state now).records → IsTrusted (state old) (state now) → Rests (state old) t → leaves old now
    pub behind_all : (t : Question → Answer) → Agrees t (state now).records → IsTrusted (state old) (state now) → Rests (state old) t → behind t old now

  module _ (old now next : H) (chain : List ℕ) (end : (Question → Answer) → List ℕ) (h : Going old now chain end) (moved : Moved (state now) (state next)) where
    pub going_moved : Moved (state old) (state next)
    going_moved = moved_after (state old) (state now) (state next) h.moved moved

    runs_first : (t : Question → Answer) → Agrees t (state next).records → IsTrusted (state old) (state next) → Rests (state old) t → Runs (state now) t chain (end t)
    runs_first t agrees trust rests = h.runs t (moved.back t agrees) (trusted_first (state old) (state now) (state next) h.moved moved trust) rests

    trusted_next : (t : Question → Answer) → Agrees t (state next).records → IsTrusted (state old) (state next) → Rests (state old) t → IsTrusted (state now) (state next)
    trusted_next t agrees trust rests =
        trusted_second (state old) (state now) (state next) h.moved (λ told honest. h.stays told honest t (moved.back t agrees) rests) trust

    pub going_stays : ((state now).told ≡ true → (state now).honest → (t : Question → Answer) (e : List ℕ) → Agrees t (state next).records → Runs (state now) t chain e → (state next).honest)
        → (state old).told ≡ true → (state old).honest → (t : Question → Answer) → Agrees t (state next).records → Rests (state old) t → (state next).honest
    going_stays stays told honest t agrees rests =
        let back = moved.back t agrees in
        stays (h.moved.told ∙ told) (h.stays told honest t back rests) t (end t) agrees (h.runs t back (trusts_told (state old) (state now) told honest) rests)

    pub going_left : ((a b c : H) → leaves a b → leaves b c → leaves a c)
        → ((t : Question → Answer) (e : List ℕ) → Agrees t (state next).records → IsTrusted (state now) (state next) → Runs (state now) t chain e → leaves now next)
        → (t : Question → Answer) → Agrees t (state next).records → IsTrusted (state old) (state next) → Rests (state old) t → leaves old next
    going_left after left t agrees trust rests =
        after old now next (h.left t (moved.back t agrees) (trusted_first (state old) (state now) (state next) h.moved moved trust) rests)
        (left t (end t) agrees (trusted_next t agrees trust rests) (runs_first t agrees trust rests))

    going_behind : ((t : Question → Answer) (a b c : H) → behind t a b → behind t b c → behind t a c)
        → ((t : Question → Answer) (e : List ℕ) → Agrees t (state next).records → IsTrusted (state now) (state next) → Runs (state now) t chain e → behind t now next)
        → (t : Question → Answer) → Agrees t (state next).records → IsTrusted (state old) (state next) → Rests (state old) t → behind t old next
    going_behind after behind_all t agrees trust rests =
        after t old now next (h.behind_all t (moved.back t agrees) (trusted_first (state old) (state now) (state next) h.moved moved trust) rests)
        (behind_all t (end t) agrees (trusted_next t agrees trust rests) (runs_first t agrees trust rests))

    -- one step of it
    pub going_on : (more : List ℕ) → well next → ((a b c : H) → same a b → same b c → same a c) → same now next → AreInProgress (state next) more
        → ((a b c : H) (fault : Option TreeFault) → went None a b → went fault b c → went fault a c) → went None now next
        → ((t : Question → Answer) (a b c : H) → tells t a b → tells t b c → tells t a c) → ((t : Question → Answer) → Agrees t (state next).records → tells t now next)
        → ((t : Question → Answer) (e : List ℕ) → Agrees t (state next).records → IsTrusted (state now) (state next) → Runs (state now) t chain e → Runs (state next) t more e)
        → ((state now).told ≡ true → (state now).honest → (t : Question → Answer) (e : List ℕ) → Agrees t (state next).records → Runs (state now) t chain e → (state next).honest)
        → ((a b c : H) → leaves a b → leaves b c → leaves a c)
        → ((t : Question → Answer) (e : List ℕ) → Agrees t (state next).records → IsTrusted (state now) (state next) → Runs (state now) t chain e → leaves now next)
        → ((t : Question → Answer) (a b c : H) → behind t a b → behind t b c → behind t a c)
        → ((t : Question → Answer) (e : List ℕ) → Agrees t (state next).records → IsTrusted (state now) (state next) → Runs (state now) t chain e → behind t now next)
        → Going old next more end
    going_on more is_well same_after is_same progress went_after all_went tells_after told_all runs stays leaves_after left behind_after behind_all = record {
      is_well = is_well;
      is_same = same_after old now next h.is_same is_same;
      moved = going_moved;
      all_went = went_after old now next None h.all_went all_went;
      told_all = λ t agrees. tells_after t old now next (h.told_all t (moved.back t agrees)) (told_all t agrees);
      progress = progress;
      runs = λ t agrees trust rests. runs t (end t) agrees (trusted_next t agrees trust rests) (runs_first t agrees trust rests);
      stays = going_stays stays;
      left = going_left leaves_after left;
      behind_all = going_behind behind_after behind_all;
    }
