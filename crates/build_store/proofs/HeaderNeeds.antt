-- Numbers at their first, and what a good module begins.
use Rattle.std.proofs.Common.{◌≡◌, ◌∙◌, refl, sym, ap, subst, ℕ, zero, suc, ◌<◌, Bool, true, false, not, cond, ◌||◌, ◌==◌, ne_eqb, eq-eqb, eqb-true, List, [], ◌∷◌, ◌++◌, length, map, drop, Option, Some, None, true≢false}
use Rattle.std.specs.Prelude.{slice_get}
use Rattle.std.specs.List.{AllByRecursion, filter}
use Rattle.std.proofs.lemmas.Option.{slice_get_within}
use Rattle.cm_outside.specs.declared.question.Question.{Question}
use Rattle.cm_outside.specs.declared.question.Answer.{Answer}
use Rattle.cm_outside.specs.declared.question.Record.{Record}
use Rattle.cm_outside.specs.Asks.{Asks, Done, Begin, value, begun, begun-then_ask}
use Rattle.cm_outside.specs.Firsts.{firsts, others}
use Rattle.cm_outside.specs.Keeping.{AreKept}
use Rattle.cm_outside.specs.QuestionLaws.{same_question_decides}
use Rattle.cm_outside.specs.Trees.{same_question}
use Rattle.cm_outside.proofs.Firsts.{same_question_is}
use Rattle.cm_outside.proofs.Keeping.{one_number}
use Rattle.build_store.specs.Held.{AreNumbersOf}
use Rattle.build_store.specs.Needs.{Needs, Ends, Puts, Imports, answered, met}
use Rattle.build_store.specs.Modules.{Plan, is_in, is_free, left, inside, import_of, import_in, mod_of}
use Rattle.build_store.specs.Order.{new_of, with_new, needs_of}
use Rattle.build_store.specs.Outcomes.{brought}
use Rattle.build_store.proofs.ListLemmas.{Every, every_map, every_in, every_at, every_append, in_append_left, in_head, in_tail, some≢none, cond_some, free_parts}
use Rattle.build_store.proofs.MemoOrder.{new_both}
use Rattle.build_store.proofs.NeedLemmas.{begun_by, begun-answered, alike_needs, strict_met}
use Rattle.build_store.proofs.Chains.{IsBrought}
use Rattle.build_store.proofs.ModuleLemmas.{strict-inside, chain_rule, outcome_is_fold, brought_rule}
use Rattle.build_store.proofs.QuestionLemmas.{modules_alike}
use Rattle.build_store.proofs.BegunLemmas.{through}

-- ---- lists

pub all_of : {X : Type 0} (P : X → Type 0) (xs : List X) → Every P xs → AllByRecursion P xs
all_of P [] h = tt
all_of P (x ∷ xs) h = (h.0, all_of P xs h.1)

pub every_of : {X : Type 0} (P : X → Type 0) (xs : List X) → AllByRecursion P xs → Every P xs
every_of P [] h = tt
every_of P (x ∷ xs) h = (h.0, every_of P xs h.1)

is_in-append : (x : ℕ) (xs ys : List ℕ) → is_in x (xs ++ ys) ≡ (is_in x xs || is_in x ys)
is_in-append x [] ys = refl
is_in-append x (y ∷ xs) ys = by (x == y) (is_in-append x xs ys)
  where
    by : (b : Bool) → is_in x (xs ++ ys) ≡ (is_in x xs || is_in x ys) → (b || is_in x (xs ++ ys)) ≡ ((b || is_in x xs) || is_in x ys)
    by true h = refl
    by false h = h

-- ---- numbers at their first

-- which are new hangs only on which were seen
new_alike : (a b ms : List ℕ) → ((x : ℕ) → is_in x a ≡ is_in x b) → new_of a ms ≡ new_of b ms
new_alike a b [] same = refl
new_alike a b (m ∷ ms) same =
    (λ i. cond (same m i) (new_alike a b ms same i) (m ∷ new_alike (a ++ (m ∷ [])) (b ++ (m ∷ [])) ms more i))
  where
    more : (x : ℕ) → is_in x (a ++ (m ∷ [])) ≡ is_in x (b ++ (m ∷ []))
    more x = is_in-append x a (m ∷ []) ∙ ap (λ c. c || is_in x (m ∷ [])) (same x) ∙ sym (is_in-append x b (m ∷ []))

-- those that are new where one more was seen
new_without : (m : ℕ) (seen ms : List ℕ) → new_of (m ∷ seen) ms ≡ filter (λ n. not (n == m)) (new_of seen ms)
new_without m seen [] = refl
new_without m seen (n ∷ ms) =
    by (n == m) (is_in n seen) refl (new_without m seen ms) (new_without m (seen ++ (n ∷ [])) ms)
  where
    or_self : (b c : Bool) → (b || (c || (b || false))) ≡ (b || c)
    or_self true c = refl
    or_self false true = refl
    or_self false false = refl

    again : n ≡ m → (x : ℕ) → is_in x (m ∷ (seen ++ (n ∷ []))) ≡ is_in x (m ∷ seen)
    again same x =
        ap (λ c. (x == m) || c) (is_in-append x seen (n ∷ []) ∙ ap (λ k. is_in x seen || ((x == k) || false)) same) ∙ or_self (x == m) (is_in x seen)

    by : (b c : Bool) → (n == m) ≡ b → new_of (m ∷ seen) ms ≡ filter (λ k. not (k == m)) (new_of seen ms)
        → new_of (m ∷ (seen ++ (n ∷ []))) ms ≡ filter (λ k. not (k == m)) (new_of (seen ++ (n ∷ [])) ms)
        → cond (b || c) (new_of (m ∷ seen) ms) (n ∷ new_of (m ∷ (seen ++ (n ∷ []))) ms)
        ≡ filter (λ k. not (k == m)) (cond c (new_of seen ms) (n ∷ new_of (seen ++ (n ∷ [])) ms))
    by true true is old new = old
    by false true is old new = old
    by true false is old new =
        sym (new_alike (m ∷ (seen ++ (n ∷ []))) (m ∷ seen) ms (again (eqb-true n m is))) ∙ new
        ∙ ap (λ t. cond (not t) (n ∷ filter (λ k. not (k == m)) (new_of (seen ++ (n ∷ [])) ms)) (filter (λ k. not (k == m)) (new_of (seen ++ (n ∷ [])) ms))) (sym is)
    by false false is old new =
        ap (λ ns. n ∷ ns) new
        ∙ ap (λ t. cond (not t) (n ∷ filter (λ k. not (k == m)) (new_of (seen ++ (n ∷ [])) ms)) (filter (λ k. not (k == m)) (new_of (seen ++ (n ∷ [])) ms))) (sym is)

-- a number that does not come was not seen for all they know
new_skips : (m : ℕ) (seen ms : List ℕ) → Every (λ n. (n == m) ≡ false) ms → new_of (m ∷ seen) ms ≡ new_of seen ms
new_skips m seen [] h = refl
new_skips m seen (n ∷ ms) h =
    (λ i. cond (h.0 i || is_in n seen) (new_skips m seen ms h.1 i) (n ∷ new_skips m (seen ++ (n ∷ [])) ms h.1 i))

-- those at their first are new where all are
new_once : (seen s ms : List ℕ) → Every (λ x. is_in x seen ≡ true) s → new_of seen (new_of s ms) ≡ new_of seen ms
new_once seen s [] h = refl
new_once seen s (m ∷ ms) h =
    by (is_in m s) (is_in m seen) refl refl (new_once seen s ms h)
    (λ here. new_once seen (s ++ (m ∷ [])) ms (every_append (λ x. is_in x seen ≡ true) s (m ∷ []) h (here, tt)))
    (new_once (seen ++ (m ∷ [])) (s ++ (m ∷ [])) ms
    (every_append (λ x. is_in x (seen ++ (m ∷ [])) ≡ true) s (m ∷ [])
    (every_map (λ x. is_in x seen ≡ true) (λ x. is_in x (seen ++ (m ∷ [])) ≡ true) (λ x e. in_append_left x seen (m ∷ []) e) s h) (last, tt)))
  where
    last : is_in m (seen ++ (m ∷ [])) ≡ true
    last = is_in-append m seen (m ∷ []) ∙ ap (λ c. is_in m seen || c) (in_head m []) ∙ or_true (is_in m seen)
      where
        or_true : (c : Bool) → (c || true) ≡ true
        or_true true = refl
        or_true false = refl

    by : (b c : Bool) → is_in m s ≡ b → is_in m seen ≡ c → new_of seen (new_of s ms) ≡ new_of seen ms
        → (is_in m seen ≡ true → new_of seen (new_of (s ++ (m ∷ [])) ms) ≡ new_of seen ms)
        → new_of (seen ++ (m ∷ [])) (new_of (s ++ (m ∷ [])) ms) ≡ new_of (seen ++ (m ∷ [])) ms
        → new_of seen (cond b (new_of s ms) (m ∷ new_of (s ++ (m ∷ [])) ms)) ≡ cond c (new_of seen ms) (m ∷ new_of (seen ++ (m ∷ [])) ms)
    by true true i j old here fresh = old
    by true false i j old here fresh = absurd (true≢false (sym (every_at (λ x. is_in x seen ≡ true) s h m i) ∙ j))
    by false true i j old here fresh = ap (λ t. cond t (new_of seen (new_of (s ++ (m ∷ [])) ms)) (m ∷ new_of (seen ++ (m ∷ [])) (new_of (s ++ (m ∷ [])) ms))) j ∙ here j
    by false false i j old here fresh =
        ap (λ t. cond t (new_of seen (new_of (s ++ (m ∷ [])) ms)) (m ∷ new_of (seen ++ (m ∷ [])) (new_of (s ++ (m ∷ [])) ms))) j ∙ ap (λ ns. m ∷ ns) fresh

pub new_by : (begins : ℕ → List ℕ) (seen xs : List ℕ) → new_of seen (begun_by (λ x. new_of [] (begins x)) xs) ≡ new_of seen (begun_by begins xs)
new_by begins seen [] = refl
new_by begins seen (x ∷ xs) =
    new_both seen (new_of [] (begins x)) (begun_by (λ y. new_of [] (begins y)) xs)
    ∙ ap (λ ns. ns ++ new_of (seen ++ ns) (begun_by (λ y. new_of [] (begins y)) xs)) (new_once seen [] (begins x) tt)
    ∙ ap (λ ns. new_of seen (begins x) ++ ns) (new_by begins (with_new seen (begins x)) xs)
    ∙ sym (new_both seen (begins x) (begun_by begins xs))

-- ---- the numbers of answers

pub numbers_within : (kept : List Record) (numbers : List ℕ) (records : List Record) → AreNumbersOf kept numbers records → Every (λ n. n < length kept) numbers
numbers_within kept [] records h = tt
numbers_within kept (n ∷ ns) [] h = absurd (cc)
numbers_within kept (n ∷ ns) (r ∷ rs) h =
    let at : slice_get kept n ≡ Some r = cc in
    let rest : map (slice_get kept) ns ≡ map Some rs = cc in
    (slice_get_within kept n r at, numbers_within kept ns rs rest)

pub numbers_of_both : (kept : List Record) (ns ms : List ℕ) (rs ss : List Record) → AreNumbersOf kept ns rs → AreNumbersOf kept ms ss → AreNumbersOf kept (ns ++ ms) (rs ++ ss)
numbers_of_both kept [] ms [] ss h k = k
numbers_of_both kept [] ms (r ∷ rs) ss h k = absurd (cc)
numbers_of_both kept (n ∷ ns) ms [] ss h k = absurd (cc)
numbers_of_both kept (n ∷ ns) ms (r ∷ rs) ss h k =
    let at : slice_get kept n ≡ Some r = cc in
    let rest : map (slice_get kept) ns ≡ map Some rs = cc in
    (λ i. at i ∷ numbers_of_both kept ns ms rs ss rest k i)

-- the numbers of the answers to other questions
numbers_of_others : (kept : List Record) → AreKept kept → (m : ℕ) (r : Record) → slice_get kept m ≡ Some r → (ns : List ℕ) (rs : List Record) → AreNumbersOf kept ns rs
    → AreNumbersOf kept (filter (λ n. not (n == m)) ns) (others r.question rs)
numbers_of_others kept are m r there [] [] h = refl
numbers_of_others kept are m r there [] (s ∷ rs) h = absurd (cc)
numbers_of_others kept are m r there (n ∷ ns) [] h = absurd (cc)
numbers_of_others kept are m r there (n ∷ ns) (s ∷ rs) h =
    let at : slice_get kept n ≡ Some s = cc in
    let rest : map (slice_get kept) ns ≡ map Some rs = cc in
    by at (n == m) (same_question r.question s.question) refl refl (numbers_of_others kept are m r there ns rs rest)
  where
    by : slice_get kept n ≡ Some s → (b c : Bool) → (n == m) ≡ b → same_question r.question s.question ≡ c
        → AreNumbersOf kept (filter (λ k. not (k == m)) ns) (others r.question rs)
        → AreNumbersOf kept (cond (not b) (n ∷ filter (λ k. not (k == m)) ns) (filter (λ k. not (k == m)) ns)) (cond (not c) (s ∷ others r.question rs) (others r.question rs))
    by at true true i j more = more
    by at false false i j more = (λ k. at k ∷ more k)
    by at true false i j more =
        (let same : n ≡ m = eqb-true n m i in
        let equal : Some s ≡ Some r = sym at ∙ ap (slice_get kept) same ∙ there in
        let is : s ≡ r = cc in
        absurd (true≢false (sym ((same_question_decides r.question r.question).1 refl) ∙ ap (λ (x : Record). same_question r.question x.question) (sym is) ∙ j)))
    by at false true i j more =
        (let asks = same_question_is r.question s.question j in
        let same : n ≡ m = one_number kept n m s r are at there (sym asks) in
        absurd (true≢false (sym (eq-eqb n m same) ∙ i)))

-- each number at its first is each question at its first
pub numbers_of_firsts : (kept : List Record) → AreKept kept → (ns : List ℕ) (rs : List Record) → AreNumbersOf kept ns rs → AreNumbersOf kept (new_of [] ns) (firsts rs)
numbers_of_firsts kept are [] [] h = refl
numbers_of_firsts kept are [] (r ∷ rs) h = absurd (cc)
numbers_of_firsts kept are (n ∷ ns) [] h = absurd (cc)
numbers_of_firsts kept are (n ∷ ns) (r ∷ rs) h =
    let at : slice_get kept n ≡ Some r = cc in
    let rest : map (slice_get kept) ns ≡ map Some rs = cc in
    let more : AreNumbersOf kept (new_of (n ∷ []) ns) (others r.question (firsts rs)) =
    ap (map (slice_get kept)) (new_without n [] ns) ∙ numbers_of_others kept are n r at (new_of [] ns) (firsts rs) (numbers_of_firsts kept are ns rs rest) in
    (λ i. at i ∷ more i)

-- ---- what a good module begins

begun_each : {B A : Type 0} (P : ℕ → Type 0) (t : Question → Answer) (import : ℕ → Asks (Option B)) → ((x : ℕ) → Every P (begun (import x) t)) → (n : Needs B A)
    → Every P (begun (answered import n) t)
begun_each P t import each (Ends a) = tt
begun_each P t import each (Puts q next) = begun_each P t import each (next (t q))
begun_each P t import each (Imports x next) =
    let rest = begun_each P t import each (next (value (import x) t)) in
    let Q : List ℕ → Type 0 = λ ms. Every P ms in
    subst Q (sym (begun-then_ask (import x) (λ b. answered import (next b)) t)) (every_append P (begun (import x) t) _ (each x) rest)

every_begun_by : (P : ℕ → Type 0) (begins : ℕ → List ℕ) → ((x : ℕ) → Every P (begins x)) → (xs : List ℕ) → Every P (begun_by begins xs)
every_begun_by P begins each [] = tt
every_begun_by P begins each (x ∷ xs) = every_append P (begins x) (begun_by begins xs) (each x) (every_begun_by P begins each xs)

pub begun_by_alike : (f g : ℕ → List ℕ) (xs : List ℕ) → Every (λ x. f x ≡ g x) xs → begun_by f xs ≡ begun_by g xs
begun_by_alike f g [] h = refl
begun_by_alike f g (x ∷ xs) h = (λ i. h.0 i ++ begun_by_alike f g xs h.1 i)

module _ {B : Type 0} (p : Plan B) (t : Question → Answer) where
  -- a module in progress does not begin again
  not_begun : (m k : ℕ) (chain : List ℕ) (x : ℕ) → is_in m chain ≡ true → Every (λ n. (n == m) ≡ false) (begun (import_of p k chain x) t)
  unfolding import_of
  not_begun m zero chain x here = tt
  not_begun m (suc k) chain x here =
      by (is_free p.tops chain (p.top x)) (λ e. (free_parts p.tops chain (p.top x) e).1)
      (begun_each (λ n. (n == m) ≡ false) t (λ y. import_of p k (p.top x ∷ chain) y) (λ y. not_begun m k (p.top x ∷ chain) y (in_tail m (p.top x) chain here)) (inside p (p.top x)))
    where
      apart : is_in (p.top x) chain ≡ false → (p.top x == m) ≡ false
      apart out = ne_eqb (p.top x) m (λ same. true≢false (sym here ∙ ap (λ n. is_in n chain) (sym same) ∙ out))

      by : (b : Bool) → (b ≡ true → is_in (p.top x) chain ≡ false) → Every (λ n. (n == m) ≡ false) (begun (answered (λ y. import_of p k (p.top x ∷ chain) y) (inside p (p.top x))) t)
          → Every (λ n. (n == m) ≡ false) (begun (cond b (Begin (p.top x) (answered (λ y. import_of p k (p.top x ∷ chain) y) (inside p (p.top x)))) (Done None)) t)
      by true out rest = (apart (out refl), rest)
      by false out rest = tt

  module _ (m : ℕ) (b : B) (good : value (mod_of p [] m) t ≡ Some b) where
    abbrev meets : List ℕ
    meets = met (inside p m) t (brought p t)

    abbrev inner : ℕ → Asks (Option B)
    inner = import_in p (m ∷ [])

    all_brought : Every (λ x. IsBrought (brought p t x)) meets
    all_brought = strict_met (inside p m) (strict-inside p m) t (brought p t) (b, sym (outcome_is_fold p t m) ∙ good)

    -- an import of a good module begins what its module begins
    begins_at : (x : ℕ) → is_in x meets ≡ true → begun (inner x) t ≡ begun (mod_of p [] (p.top x)) t
    begins_at x e = by (is_free p.tops (m ∷ []) (p.top x)) (chain_rule p (m ∷ []) x)
      where
        is_brought : IsBrought (brought p t x)
        is_brought = every_at (λ y. IsBrought (brought p t y)) meets all_brought x e

        behind : value (inner x) t ≡ Some is_brought.0
        behind = through p t [] m tt x e ∙ is_brought.1

        alone : value (mod_of p [] (p.top x)) t ≡ Some is_brought.0
        alone = (cond_some (is_in (p.top x) p.tops) (value (mod_of p [] (p.top x)) t) is_brought.0 (sym (brought_rule p t x) ∙ is_brought.1)).1

        by : (c : Bool) → inner x ≡ cond c (mod_of p (m ∷ []) (p.top x)) (Done None) → begun (inner x) t ≡ begun (mod_of p [] (p.top x)) t
        by true is =
            let alike = modules_alike p t [] (m ∷ []) (p.top x) is_brought.0 is_brought.0 alone (ap (λ n. value n t) (sym is) ∙ behind) in
            ap (λ n. begun n t) is ∙ alike.begins
        by false is = absurd (some≢none (sym behind ∙ ap (λ n. value n t) is))

    begun_is : begun (mod_of p [] m) t ≡ m ∷ begun_by (λ x. begun (inner x) t) meets
    unfolding mod_of
    begun_is =
        ap (λ ms. m ∷ ms)
        (begun-answered inner (inside p m) t
        ∙ ap (begun_by (λ x. begun (inner x) t))
        (alike_needs (inside p m) t (brought p t) (λ x. value (inner x) t) (every_in (λ x. value (inner x) t ≡ brought p t x) meets (λ x e. through p t [] m tt x e))).1)

    apart_all : Every (λ n. (n == m) ≡ false) (begun_by (λ x. begun (inner x) t) meets)
    unfolding import_in
    apart_all = every_begun_by (λ n. (n == m) ≡ false) (λ x. begun (inner x) t) (λ x. not_begun m (left p.tops (m ∷ [])) (m ∷ []) x (in_head m [])) meets

    -- Behind itself a good module needs what those that it imports need, each at its first.
    pub good_needs : drop 1 (needs_of p t m) ≡ new_of [] (begun_by (λ x. needs_of p t (p.top x)) meets)
    unfolding needs_of
    good_needs =
        ap (λ ms. drop 1 (new_of [] ms)) begun_is
        ∙ new_skips m [] (begun_by (λ x. begun (inner x) t) meets) apart_all
        ∙ ap (new_of []) (begun_by_alike (λ x. begun (inner x) t) (λ x. begun (mod_of p [] (p.top x)) t) meets (every_in (λ x. begun (inner x) t ≡ begun (mod_of p [] (p.top x)) t) meets begins_at))
        ∙ sym (new_by (λ x. begun (mod_of p [] (p.top x)) t) [] meets)
