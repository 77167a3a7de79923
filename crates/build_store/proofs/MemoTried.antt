-- How far a fold comes by what is known: where it stands, what it ends with, and what is begun till then.
use Rattle.std.proofs.Common.{◌≡◌, ◌∙◌, refl, sym, ap, subst, ℕ, true, List, [], ◌∷◌, ◌++◌, Option, Some, None, append_assoc}
use Rattle.cm_outside.specs.declared.question.Question.{Question}
use Rattle.cm_outside.specs.declared.question.Answer.{Answer}
use Rattle.cm_outside.specs.declared.question.Record.{Record}
use Rattle.cm_outside.specs.Asks.{Asks, value, asked, begun, value-then_ask, asked-then_ask, begun-then_ask}
use Rattle.cm_outside.specs.Firsts.{firsts}
use Rattle.cm_outside.proofs.Firsts.{firsts_append, firsts_twice}
use Rattle.build_store.specs.Needs.{Needs, Ends, Puts, Imports, answered, end_of, met}
use Rattle.build_store.specs.Modules.{is_in}
use Rattle.build_store.specs.Memo.{Known, Unknown, Busy, Cyclic, Good, Tried, Ended, Stands, with_records, past, tried}
use Rattle.build_store.proofs.ListLemmas.{Every, every_append, in_head, in_tail}
use Rattle.build_store.proofs.NeedLemmas.{IsStrict}

-- each was seen
abbrev pub AllIn : List ℕ → List ℕ → Type 0
AllIn seen = Every (λ m. is_in m seen ≡ true)

module _ {B A : Type 0} (t : Question → Answer) (import : ℕ → Asks (Option B)) where
  -- What a strict fold begins is what its imports begin, of which it meets no more than where each brings as much or more.
  pub begun_all : (seen : List ℕ) (brings : ℕ → Option B) → ((x : ℕ) (b : B) → value (import x) t ≡ Some b → brings x ≡ Some b) → (n : Needs B (Option A)) → IsStrict n
      → Every (λ x. AllIn seen (begun (import x) t)) (met n t brings) → AllIn seen (begun (answered import n) t)
  begun_all seen brings more (Ends a) s h = tt
  begun_all seen brings more (Puts q next) s h = begun_all seen brings more (next (t q)) (s (t q)) h
  begun_all seen brings more (Imports x next) s h =
      let P : List ℕ → Type 0 = λ ms. AllIn seen ms in
      subst P (sym (begun-then_ask (import x) (λ b. answered import (next b)) t))
      (every_append (λ m. is_in m seen ≡ true) (begun (import x) t) (begun (answered import (next (value (import x) t))) t) h.0
      (by (value (import x) t) refl (λ b. begun_all seen brings more (next (Some b)) (s.1 b))))
    where
      by : (o : Option B) → value (import x) t ≡ o
          → ((b : B) → Every (λ y. AllIn seen (begun (import y) t)) (met (next (Some b)) t brings) → AllIn seen (begun (answered import (next (Some b))) t))
          → AllIn seen (begun (answered import (next o)) t)
      by None is rest = let Q : Needs B (Option A) → Type 0 = λ n. AllIn seen (begun (answered import n) t) in subst Q (sym s.0) tt
      by (Some b) is rest = let Q : Option B → Type 0 = λ o. Every (λ y. AllIn seen (begun (import y) t)) (met (next o) t brings) in rest b (subst Q (more x b is) h.1)

module _ {B : Type 0} (t : Question → Answer) (import : ℕ → Asks (Option B)) (seen : List ℕ) (brings : ℕ → Option B) where
  -- an import brings this, and begins nothing that was not seen
  pub record IsGiven (o : Option B) (x : ℕ) : Type 0 where
    pub gives : value (import x) t ≡ o
    pub brought : brings x ≡ o
    pub begins : AllIn seen (begun (import x) t)

  -- what is known of an import is so
  abbrev pub Fits : Known B → ℕ → Type 0
  Fits Unknown x = Unit {0}
  Fits Busy x = IsGiven None x
  Fits Cyclic x = IsGiven None x
  Fits (Good b rs) x = IsGiven (Some b) x

module _ {B A : Type 0} (t : Question → Answer) (import : ℕ → Asks (Option B)) (seen : List ℕ) (brings : ℕ → Option B) (known : ℕ → Known B) where
  -- the fold ends with this, and each import that it meets is known
  pub record EndsAt (n : Needs B A) (a : A) : Type 0 where
    pub gives : value (answered import n) t ≡ a
    pub outcome : end_of n t brings ≡ a
    pub begins : AllIn seen (begun (answered import n) t)
    pub all_known : Every (λ x. known x ≡ Unknown → ⊥) (met n t brings)

  -- the fold stands at an import of which nothing is known
  pub record StandsAt (n : Needs B A) (x : ℕ) : Type 0 where
    pub unknown : known x ≡ Unknown
    pub is_met : is_in x (met n t brings) ≡ true
    pub before : List ℕ
    pub behind : List ℕ
    pub passed : AllIn seen before
    pub order : begun (answered import n) t ≡ before ++ (begun (import x) t ++ behind)

  abbrev pub Tells : Needs B A → Tried A → Type 0
  Tells n (Ended a rs) = EndsAt n a
  Tells n (Stands x) = StandsAt n x

  tells_more : (n : Needs B A) (rs : List Record) (r : Tried A) → Tells n r → Tells n (with_records rs r)
  tells_more n rs (Ended a more) h = h
  tells_more n rs (Stands x) h = h

  tells_puts : (q : Question) (next : Answer → Needs B A) (r : Tried A) → Tells (next (t q)) r → Tells (Puts q next) r
  tells_puts q next (Ended a rs) h = record { gives = h.gives; outcome = h.outcome; begins = h.begins; all_known = h.all_known }
  tells_puts q next (Stands x) h = record { unknown = h.unknown; is_met = h.is_met; before = h.before; behind = h.behind; passed = h.passed; order = h.order }

  begun_import : (x : ℕ) (next : Option B → Needs B A) (o : Option B) → IsGiven t import seen brings o x → begun (answered import (Imports x next)) t ≡ begun (import x) t ++ begun (answered import (next o)) t
  begun_import x next o g =
      begun-then_ask (import x) (λ b. answered import (next b)) t ∙ ap (λ w. begun (import x) t ++ begun (answered import (next w)) t) g.gives

  tells_import : (x : ℕ) (next : Option B → Needs B A) (o : Option B) → (known x ≡ Unknown → ⊥) → IsGiven t import seen brings o x → (r : Tried A) → Tells (next o) r → Tells (Imports x next) r
  tells_import x next o is g (Ended a rs) h =
      let P : List ℕ → Type 0 = λ ms. AllIn seen ms in
      let Q : Option B → Type 0 = λ w. Every (λ y. known y ≡ Unknown → ⊥) (met (next w) t brings) in
      record {
        gives = value-then_ask (import x) (λ b. answered import (next b)) t ∙ ap (λ w. value (answered import (next w)) t) g.gives ∙ h.gives;
        outcome = ap (λ w. end_of (next w) t brings) g.brought ∙ h.outcome;
        begins = subst P (sym (begun_import x next o g)) (every_append (λ m. is_in m seen ≡ true) (begun (import x) t) (begun (answered import (next o)) t) g.begins h.begins);
        all_known = (is, subst Q (sym g.brought) h.all_known);
      }
  tells_import x next o is g (Stands y) h = record {
    unknown = h.unknown;
    is_met = in_tail y x (met (next (brings x)) t brings) (ap (λ w. is_in y (met (next w) t brings)) g.brought ∙ h.is_met);
    before = begun (import x) t ++ h.before;
    behind = h.behind;
    passed = every_append (λ m. is_in m seen ≡ true) (begun (import x) t) h.before g.begins h.passed;
    order = begun_import x next o g ∙ ap (λ ms. begun (import x) t ++ ms) h.order ∙ sym (append_assoc (begun (import x) t) h.before (begun (import y) t ++ h.behind));
  }

  -- Where what is known of the imports that a fold meets is so, it comes as far as it is tried.
  pub tells : (n : Needs B A) → Every (λ x. Fits t import seen brings (known x) x) (met n t brings) → Tells n (tried known n t)
  tells (Ends a) h = record { gives = refl; outcome = refl; begins = tt; all_known = tt }
  tells (Puts q next) h =
      tells_puts q next (with_records (record { question = q; answer = t q } ∷ []) (tried known (next (t q)) t))
      (tells_more (next (t q)) (record { question = q; answer = t q } ∷ []) (tried known (next (t q)) t) (tells (next (t q)) h))
  tells (Imports x next) h = by (known x) refl h.0 (λ o. tells (next o))
    where
      rest : (o : Option B) → IsGiven t import seen brings o x → Every (λ y. Fits t import seen brings (known y) y) (met (next o) t brings)
      rest o g = let P : Option B → Type 0 = λ w. Every (λ y. Fits t import seen brings (known y) y) (met (next w) t brings) in subst P g.brought h.1

      by : (k : Known B) → known x ≡ k → Fits t import seen brings k x → ((o : Option B) → Every (λ y. Fits t import seen brings (known y) y) (met (next o) t brings) → Tells (next o) (tried known (next o) t))
          → Tells (Imports x next) (past k x (λ o. tried known (next o) t))
      by Unknown is g more = record {
        unknown = is;
        is_met = in_head x (met (next (brings x)) t brings);
        before = [];
        behind = begun (answered import (next (value (import x) t))) t;
        passed = tt;
        order = begun-then_ask (import x) (λ b. answered import (next b)) t;
      }
      by Busy is g more = tells_import x next None (λ e. let u : Busy ≡ Unknown = sym is ∙ e in absurd (cc)) g (tried known (next None) t) (more None (rest None g))
      by Cyclic is g more = tells_import x next None (λ e. let u : Cyclic ≡ Unknown = sym is ∙ e in absurd (cc)) g (tried known (next None) t) (more None (rest None g))
      by (Good b rs) is g more =
          tells_more (Imports x next) rs (tried known (next (Some b)) t)
          (tells_import x next (Some b) (λ e. let u : Good b rs ≡ Unknown = sym is ∙ e in absurd (cc)) g (tried known (next (Some b)) t) (more (Some b) (rest (Some b) g)))

-- ---- records

module _ {B : Type 0} (t : Question → Answer) (import : ℕ → Asks (Option B)) (brings : ℕ → Option B) where
  -- the records that are known of an import are the first askings of its questions
  abbrev pub FitsRecords : Known B → ℕ → Type 0
  FitsRecords Unknown x = Unit {0}
  FitsRecords Busy x = Unit {0}
  FitsRecords Cyclic x = Unit {0}
  FitsRecords (Good b rs) x = (value (import x) t ≡ Some b) × (brings x ≡ Some b) × (rs ≡ firsts (asked (import x) t))

more_records : {A : Type 0} (rs : List Record) (r : Tried (Option A)) (a : A) (all : List Record) → with_records rs r ≡ Ended (Some a) all
    → (more : List Record) × (r ≡ Ended (Some a) more) × (all ≡ rs ++ more)
more_records rs (Ended o more) a all e = let same : o ≡ Some a = cc in (more, ap (λ w. Ended w more) same, (let whole : rs ++ more ≡ all = cc in sym whole))
more_records rs (Stands x) a all e = absurd (cc)

module _ {B A : Type 0} (t : Question → Answer) (import : ℕ → Asks (Option B)) (brings : ℕ → Option B) (known : ℕ → Known B) where
  -- A strict fold that is tried to an end that is not Cyclic has, with the records of its imports for what they ask, the first
  -- askings of its questions.
  pub tried_records : (n : Needs B (Option A)) → IsStrict n → Every (λ x. FitsRecords t import brings (known x) x) (met n t brings) → (a : A) (rs : List Record)
      → tried known n t ≡ Ended (Some a) rs → firsts rs ≡ firsts (asked (answered import n) t)
  tried_records (Ends o) s h a rs e = let none : [] ≡ rs = cc in ap firsts (sym none)
  tried_records (Puts q next) s h a rs e =
      let own : Record = record { question = q; answer = t q } in
      let parts = more_records (own ∷ []) (tried known (next (t q)) t) a rs e in
      ap firsts parts.2
      ∙ firsts_append (own ∷ []) (own ∷ []) parts.0 (asked (answered import (next (t q))) t) refl (tried_records (next (t q)) (s (t q)) h a parts.0 parts.1)
  tried_records (Imports x next) s h a rs e = by (known x) h.0 e (λ b. tried_records (next (Some b)) (s.1 b))
    where
      cyclic : tried known (next None) t ≡ Ended (Some a) rs → ⊥
      cyclic e = let ends : tried known (next None) t ≡ Ended None [] = ap (λ n. tried known n t) s.0 in absurd (cc)

      by : (k : Known B) → FitsRecords t import brings k x → past k x (λ o. tried known (next o) t) ≡ Ended (Some a) rs
          → ((b : B) → Every (λ y. FitsRecords t import brings (known y) y) (met (next (Some b)) t brings) → (a : A) (rs : List Record) → tried known (next (Some b)) t ≡ Ended (Some a) rs
          → firsts rs ≡ firsts (asked (answered import (next (Some b))) t))
          → firsts rs ≡ firsts (asked (answered import (Imports x next)) t)
      by Unknown g e more = absurd (cc)
      by Busy g e more = absurd (cyclic e)
      by Cyclic g e more = absurd (cyclic e)
      by (Good b own) g e more =
          let parts = more_records own (tried known (next (Some b)) t) a rs e in
          let P : Option B → Type 0 = λ w. Every (λ y. FitsRecords t import brings (known y) y) (met (next w) t brings) in
          let inner = more b (subst P g.1 h.1) a parts.0 parts.1 in
          ap firsts parts.2
          ∙ firsts_append own (asked (import x) t) parts.0 (asked (answered import (next (Some b))) t) (ap firsts g.2 ∙ firsts_twice (asked (import x) t)) inner
          ∙ sym (ap firsts (asked-then_ask (import x) (λ b. answered import (next b)) t ∙ ap (λ w. asked (import x) t ++ asked (answered import (next w)) t) g.0))
