-- Programs that put questions to a tree. What such a program gives is fixed by the answers, and what
-- gave the same answers gives the same. own
use Rattle.std.specs.Prelude.{◌≡◌, ℕ, List, [], ◌∷◌, ◌++◌, refl}
use Rattle.std.proofs.Common.{ap, ◌∙◌}
use Rattle.cm_outside.specs.declared.question.Question.{Question}
use Rattle.cm_outside.specs.declared.question.Answer.{Answer}
use Rattle.cm_outside.specs.declared.question.Record.{Record}

-- a result, or a question with what follows each answer. Where a module's interpretation begins there is
-- a mark with the module's number: it asks nothing.
pub data Asks (A : Type 0) : Type 0 where
  Done : A → Asks A
  Ask : Question → (Answer → Asks A) → Asks A
  Begin : ℕ → Asks A → Asks A

module _ {A : Type 0} where
  -- the result over these answers
  abbrev pub value : Asks A → (Question → Answer) → A
  value (Done x) t = x
  value (Ask q next) t = value (next (t q)) t
  value (Begin m p) t = value p t

  -- each question that is asked, with its answer, in order
  abbrev pub asked : Asks A → (Question → Answer) → List Record
  asked (Done x) t = []
  asked (Ask q next) t = record { question = q; answer = t q } ∷ asked (next (t q)) t
  asked (Begin m p) t = asked p t

  -- the modules whose interpretation begins, in order, each as often as it begins
  abbrev pub begun : Asks A → (Question → Answer) → List ℕ
  begun (Done x) t = []
  begun (Ask q next) t = begun (next (t q)) t
  begun (Begin m p) t = m ∷ begun p t

-- one program and then another
abbrev pub then_ask : {A B : Type 0} → Asks A → (A → Asks B) → Asks B
then_ask (Done x) more = more x
then_ask (Ask q next) more = Ask q (λ a. then_ask (next a) more)
then_ask (Begin m p) more = Begin m (then_ask p more)

-- these answers agree with the recorded ones
abbrev pub Agrees : (Question → Answer) → List Record → Type 0
Agrees t [] = Unit {0}
Agrees t (r ∷ rs) = (t r.question ≡ r.answer) × Agrees t rs

module _ {A B : Type 0} where
  pub value-then_ask : (p : Asks A) (more : A → Asks B) (t : Question → Answer) → value (then_ask p more) t ≡ value (more (value p t)) t
  value-then_ask (Done x) more t = refl
  value-then_ask (Ask q next) more t = value-then_ask (next (t q)) more t
  value-then_ask (Begin m p) more t = value-then_ask p more t

  pub asked-then_ask : (p : Asks A) (more : A → Asks B) (t : Question → Answer) → asked (then_ask p more) t ≡ asked p t ++ asked (more (value p t)) t
  asked-then_ask (Done x) more t = refl
  asked-then_ask (Ask q next) more t = ap (λ rs. record { question = q; answer = t q } ∷ rs) (asked-then_ask (next (t q)) more t)
  asked-then_ask (Begin m p) more t = asked-then_ask p more t

  pub begun-then_ask : (p : Asks A) (more : A → Asks B) (t : Question → Answer) → begun (then_ask p more) t ≡ begun p t ++ begun (more (value p t)) t
  begun-then_ask (Done x) more t = refl
  begun-then_ask (Ask q next) more t = begun-then_ask (next (t q)) more t
  begun-then_ask (Begin m p) more t = ap (λ ms. m ∷ ms) (begun-then_ask p more t)

-- The frame law: answers that agree with what was asked give the same result.
pub frame_value : {A : Type 0} → (p : Asks A) (t u : Question → Answer) → Agrees u (asked p t) → value p u ≡ value p t
frame_value (Done x) t u h = refl
frame_value (Ask q next) t u h = ap (λ a. value (next a) u) h.0 ∙ frame_value (next (t q)) t u h.1
frame_value (Begin m p) t u h = frame_value p t u h

-- and they ask the same questions, with the same answers
pub frame_asked : {A : Type 0} → (p : Asks A) (t u : Question → Answer) → Agrees u (asked p t) → asked p u ≡ asked p t
frame_asked (Done x) t u h = refl
frame_asked (Ask q next) t u h = λ i. record { question = q; answer = h.0 i } ∷ (ap (λ a. asked (next a) u) h.0 ∙ frame_asked (next (t q)) t u h.1) i
frame_asked (Begin m p) t u h = frame_asked p t u h

-- and begin the same modules
pub frame_begun : {A : Type 0} → (p : Asks A) (t u : Question → Answer) → Agrees u (asked p t) → begun p u ≡ begun p t
frame_begun (Done x) t u h = refl
frame_begun (Ask q next) t u h = ap (λ a. begun (next a) u) h.0 ∙ frame_begun (next (t q)) t u h.1
frame_begun (Begin m p) t u h = ap (λ ms. m ∷ ms) (frame_begun p t u h)
