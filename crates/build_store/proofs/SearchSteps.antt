-- The way of code through a program of questions.
use Rattle.std.proofs.Common.{◌≡◌, ℕ, ◌+◌, zero, suc, List, [], ◌∷◌, ◌++◌, map, drop, slice_get, Some, refl, sym, ap, subst, ◌∙◌, append_assoc, add-one}
use Rattle.std.proofs.lemmas.List.{map-append, append-nil}
use Rattle.cm_outside.specs.Asks.{Asks, Done, Ask, Agrees, asked, value, then_ask, asked-then_ask, value-then_ask}
use Rattle.cm_outside.specs.Keeping.{Grew, answered}
use Rattle.cm_outside.specs.declared.question.Question.{Question}
use Rattle.cm_outside.specs.declared.question.Answer.{Answer}
use Rattle.cm_outside.specs.declared.question.Record.{Record}
use Rattle.cm_outside.proofs.Grown.{numbered_after}
use Rattle.build_store.specs.Steps.{Comes, HasPushed}

module _ {A : Type 0} where
  -- where nothing was asked
  pub comes_nowhere : (kept : List Record) (numbers : List ℕ) (p : Asks A) → Comes kept numbers numbers p p
  comes_nowhere kept numbers p = record {
    more = [];
    pushed = sym (append-nil numbers);
    records = [];
    numbered = refl;
    asks = λ f h. refl;
    told = λ f h. refl;
  }

  -- one question
  pub comes_asked : (kept : List Record) (numbers : List ℕ) (q : Question) (next : Answer → Asks A) (at : ℕ) (r : Record)
      → slice_get kept at ≡ Some r → ((f : Question → Answer) → Agrees f kept → slice_get kept at ≡ Some (answered q (f q)))
      → Comes kept numbers (numbers ++ at ∷ []) (Ask q next) (next r.answer)
  comes_asked kept numbers q next at r there fixed =
      let is : (f : Question → Answer) → Agrees f kept → answered q (f q) ≡ r =
      λ f h. let both : Some (answered q (f q)) ≡ Some r = sym (fixed f h) ∙ there in cc in
      record {
        more = at ∷ [];
        pushed = refl;
        records = r ∷ [];
        numbered = ap (λ o. o ∷ []) there;
        asks = λ f h. ap (λ (s : Record). s ∷ asked (next s.answer) f) (is f h);
        told = λ f h. ap (λ (s : Record). value (next s.answer) f) (is f h);
      }

  -- one way and then another
  pub comes_then : (mid new : List Record) (n0 n1 n2 : List ℕ) (p q r : Asks A) → Grew mid new → ((f : Question → Answer) → Agrees f new → Agrees f mid)
      → Comes mid n0 n1 p q → Comes new n1 n2 q r → Comes new n0 n2 p r
  comes_then mid new n0 n1 n2 p q r grew back a b = record {
    more = a.more ++ b.more;
    pushed = b.pushed ∙ ap (λ ns. ns ++ b.more) a.pushed ∙ append_assoc n0 a.more b.more;
    records = a.records ++ b.records;
    numbered =
        map-append (slice_get new) a.more b.more
        ∙ (λ i. numbered_after mid new a.more a.records grew a.numbered i ++ b.numbered i)
        ∙ sym (map-append (λ s. Some s) a.records b.records);
    asks = λ f h. a.asks f (back f h) ∙ ap (λ rs. a.records ++ rs) (b.asks f h) ∙ sym (append_assoc a.records b.records (asked r f));
    told = λ f h. a.told f (back f h) ∙ b.told f h;
  }

  -- the way to a result
  pub comes_pushed : (kept : List Record) (before now : List ℕ) (p : Asks A) (x : A) → Comes kept before now p (Done x) → HasPushed kept before now p
  comes_pushed kept before now p x c = record {
    more = c.more;
    pushed = c.pushed;
    numbered = λ f h. c.numbered ∙ ap (map (λ s. Some s)) (sym (c.asks f h ∙ append-nil c.records));
  }

-- the same way in a program that goes on
pub comes_bound : {A B : Type 0} → (kept : List Record) (before now : List ℕ) (p q : Asks A) (k : A → Asks B) → Comes kept before now p q → Comes kept before now (then_ask p k) (then_ask q k)
comes_bound kept before now p q k c = record {
  more = c.more;
  pushed = c.pushed;
  records = c.records;
  numbered = c.numbered;
  asks = λ f h.
      asked-then_ask p k f ∙ (λ i. c.asks f h i ++ asked (k (c.told f h i)) f) ∙ append_assoc c.records (asked q f) (asked (k (value q f)) f)
      ∙ ap (λ rs. c.records ++ rs) (sym (asked-then_ask q k f));
  told = λ f h. value-then_ask p k f ∙ ap (λ x. value (k x) f) (c.told f h) ∙ sym (value-then_ask q k f);
}

-- one item of a list after another
drop_first : {X : Type 0} → (xs : List X) (i : ℕ) (x : X) → slice_get xs i ≡ Some x → drop i xs ≡ x ∷ drop (suc i) xs
drop_first [] i x e = absurd (cc)
drop_first (y ∷ ys) zero x e = let same : y ≡ x = cc in ap (λ z. z ∷ ys) same
drop_first (y ∷ ys) (suc i) x e = drop_first ys i x e

drop_item : {X : Type 0} → (xs : List X) (i : ℕ) (x : X) → slice_get xs i ≡ Some x → drop i xs ≡ x ∷ drop (i + 1) xs
drop_item xs i x e = drop_first xs i x e ∙ ap (λ n. x ∷ drop n xs) (sym (add-one i))

pub comes_past : {A X : Type 0} → (mid new : List Record) (n0 n1 n2 : List ℕ) (whole last : Asks A) (rest : List X → Asks A) (xs : List X) (i : ℕ) (x : X)
    → Grew mid new → ((f : Question → Answer) → Agrees f new → Agrees f mid) → slice_get xs i ≡ Some x
    → Comes mid n0 n1 whole (rest (drop i xs)) → Comes new n1 n2 (rest (x ∷ drop (i + 1) xs)) last → Comes new n0 n2 whole last
comes_past mid new n0 n1 n2 whole last rest xs i x grew back there a b =
    comes_then mid new n0 n1 n2 whole (rest (x ∷ drop (i + 1) xs)) last grew back (subst (λ ys. Comes mid n0 n1 whole (rest ys)) (drop_item xs i x there) a) b

-- numbers that had records, with the numbers of all that a program asks
pub pushed_onto : {A : Type 0} → (old new : List Record) (before now : List ℕ) (records : List Record) (p : Asks A) (f : Question → Answer)
    → Grew old new → map (slice_get old) before ≡ map (λ r. Some r) records → HasPushed new before now p → Agrees f new
    → map (slice_get new) now ≡ map (λ r. Some r) (records ++ asked p f)
pushed_onto old new before now records p f grew had pushed h =
    ap (map (slice_get new)) pushed.pushed
    ∙ map-append (slice_get new) before pushed.more
    ∙ (λ i. numbered_after old new before records grew had i ++ pushed.numbered f h i)
    ∙ sym (map-append (λ r. Some r) records (asked p f))
