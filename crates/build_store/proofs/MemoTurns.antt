-- The turns of modules and units: what a fold that was tried says of the module or unit.
use Rattle.std.proofs.Common.{◌≡◌, ◌∙◌, refl, sym, ap, subst, ℕ, zero, suc, Bool, true, false, cond, inl, inr, List, [], ◌∷◌, ◌++◌, map, Option, Some, None, drop, true≢false}
use Rattle.std.proofs.lemmas.Bool.{false_from_ne_true}
use Rattle.cm_outside.specs.declared.question.Question.{Question}
use Rattle.cm_outside.specs.declared.question.Answer.{Answer}
use Rattle.cm_outside.specs.declared.question.Record.{Record}
use Rattle.cm_outside.specs.Asks.{Asks, Done, Begin, value, asked, begun}
use Rattle.cm_outside.specs.Firsts.{firsts}
use Rattle.build_store.specs.Needs.{Needs, answered, met}
use Rattle.build_store.specs.Modules.{Plan, is_in, is_free, left, inside, import_of, import_in, mod_of, unit_of}
use Rattle.build_store.specs.Order.{new_of, needs_of}
use Rattle.build_store.specs.Outcomes.{brought, imports, Leads}
use Rattle.build_store.specs.Memo.{Known, Unknown, Busy, Cyclic, Good, Tried, Ended, Stands, tried, is_unknown, first_unknown, Sound, NeedsNext, NeedsNone, EndsGood, EndsCyclic, UnitNeeds, UnitEnds, IsNamed}
use Rattle.build_store.proofs.ListLemmas.{some≢none, same_some, cond_true, cond_false, Every, every_append, every_to_map, every_in, every_at, in_head, in_tail, in_cases, in_filter, in_filter_of, free_parts, free_from}
use Rattle.build_store.proofs.Chains.{chained_free}
use Rattle.build_store.proofs.ModuleLemmas.{strict-inside, chain_rule, modules, value-import_of, brought_is, outcome_is_fold, one_outcome_of, comes_back_of}
use Rattle.build_store.proofs.QuestionLemmas.{modules_alike}
use Rattle.build_store.proofs.BegunLemmas.{nothing_new}
use Rattle.build_store.proofs.MemoOrder.{new_past, new_seen, new_fresh}
use Rattle.build_store.proofs.MemoTried.{AllIn, begun_all, IsGiven, Fits, EndsAt, Tells, tells, FitsRecords, tried_records}

in_map : (f : ℕ → ℕ) (x : ℕ) (xs : List ℕ) → is_in x xs ≡ true → is_in (f x) (map f xs) ≡ true
in_map f x [] e = absurd (true≢false (sym e))
in_map f x (y ∷ ys) e =
    elim (in_cases x y ys e) [
      | inl same ↦ (let P : ℕ → Type 0 = λ n. is_in (f n) (f y ∷ map f ys) ≡ true in subst P (sym same) (in_head (f y) (map f ys)))
      | inr more ↦ in_tail (f x) (f y) (map f ys) (in_map f x ys more)
    ]

-- ---- the first of the new ones

abbrev first : List ℕ → Option ℕ
first [] = None
first (x ∷ xs) = Some x

first_new : {B : Type 0} (known : ℕ → Known B) (seen : List ℕ) → ((m : ℕ) → is_in m seen ≡ false → known m ≡ Unknown) → ((m : ℕ) → known m ≡ Unknown → is_in m seen ≡ false)
    → (ms s : List ℕ) → AllIn seen s → first_unknown known (new_of s ms) ≡ first (new_of seen ms)
first_new known seen needed unneeded [] s h = refl
first_new {B} known seen needed unneeded (x ∷ ms) s h =
    by (is_in x s) (is_in x seen) refl refl (first_new known seen needed unneeded ms s h)
    (λ here. first_new known seen needed unneeded ms (s ++ (x ∷ [])) (every_append (λ m. is_in m seen ≡ true) s (x ∷ []) h (here, tt)))
  where
    old : (k : Known B) → known x ≡ k → is_in x seen ≡ true → (rest : Option ℕ) → cond (is_unknown k) (Some x) rest ≡ rest
    old Unknown e here rest = absurd (true≢false (sym here ∙ unneeded x e))
    old Busy e here rest = refl
    old Cyclic e here rest = refl
    old (Good b rs) e here rest = refl

    by : (b d : Bool) → is_in x s ≡ b → is_in x seen ≡ d → first_unknown known (new_of s ms) ≡ first (new_of seen ms)
        → (is_in x seen ≡ true → first_unknown known (new_of (s ++ (x ∷ [])) ms) ≡ first (new_of seen ms))
        → first_unknown known (cond b (new_of s ms) (x ∷ new_of (s ++ (x ∷ [])) ms)) ≡ first (cond d (new_of seen ms) (x ∷ new_of (seen ++ (x ∷ [])) ms))
    by true true i j same more = same
    by true false i j same more = absurd (true≢false (sym (every_at (λ m. is_in m seen ≡ true) s h x i) ∙ j))
    by false true i j same more = old (known x) refl j (first_unknown known (new_of (s ++ (x ∷ [])) ms)) ∙ more j
    by false false i j same more = ap (λ k. cond (is_unknown k) (Some x) (first_unknown known (new_of (s ++ (x ∷ [])) ms))) (needed x j)

module _ {B : Type 0} (p : Plan B) (t : Question → Answer) where
  -- ---- imports

  -- what a module's fold meets is imported, where it is known
  imported_at : (m x : ℕ) → is_in x (met (inside p m) t (brought p t)) ≡ true → is_in (p.top x) p.tops ≡ true → is_in (p.top x) (imports p t m) ≡ true
  unfolding imports
  imported_at m x e known = in_filter_of (λ y. is_in y p.tops) (p.top x) (map p.top (met (inside p m) t (brought p t))) (in_map p.top x (met (inside p m) t (brought p t)) e) known

  met_of : (m z : ℕ) → is_in z (imports p t m) ≡ true → is_in z (map p.top (met (inside p m) t (brought p t))) ≡ true
  unfolding imports
  met_of m z e = (in_filter (λ y. is_in y p.tops) z (map p.top (met (inside p m) t (brought p t))) e).0

  import_free : (chain : List ℕ) (x : ℕ) → is_in (p.top x) p.tops ≡ true → is_in (p.top x) chain ≡ false → import_in p chain x ≡ mod_of p chain (p.top x)
  import_free chain x known out =
      chain_rule p chain x ∙ cond_true (is_free p.tops chain (p.top x)) (mod_of p chain (p.top x)) (Done None) (free_from p.tops chain (p.top x) known out)

  import_busy : (chain : List ℕ) (x : ℕ) → is_in (p.top x) chain ≡ true → import_in p chain x ≡ Done None
  import_busy chain x here =
      chain_rule p chain x
      ∙ cond_false (is_free p.tops chain (p.top x)) (mod_of p chain (p.top x)) (Done None)
      (false_from_ne_true (is_free p.tops chain (p.top x)) (λ e. true≢false (sym here ∙ (free_parts p.tops chain (p.top x) e).1)))

  brought_free : (x : ℕ) → is_in (p.top x) p.tops ≡ true → brought p t x ≡ value (mod_of p [] (p.top x)) t
  unfolding brought
  brought_free x known = ap (λ n. value n t) (import_free [] x known refl)

  -- ---- what is begun by a module that was begun

  -- Over a list that has with each module what that one imports, but for those in progress, nothing new is begun.
  module _ (seen c : List ℕ) (closed : (y z : ℕ) → is_in y seen ≡ true → is_in y c ≡ false → is_in z (imports p t y) ≡ true → is_in z seen ≡ true) where
    -- an import of what is not known begins nothing
    begun_unknown : (k : ℕ) (chain : List ℕ) (x : ℕ) → is_in (p.top x) p.tops ≡ false → AllIn seen (begun (import_of p k chain x) t)
    unfolding import_of
    begun_unknown zero chain x out = tt
    begun_unknown (suc k) chain x out = by (is_free p.tops chain (p.top x)) (λ e. (free_parts p.tops chain (p.top x) e).0)
      where
        by : (b : Bool) → (b ≡ true → is_in (p.top x) p.tops ≡ true)
            → AllIn seen (begun (cond b (Begin (p.top x) (answered (λ y. import_of p k (p.top x ∷ chain) y) (inside p (p.top x)))) (Done None)) t)
        by true e = absurd (true≢false (sym (e refl) ∙ out))
        by false e = tt

    begun_mid : (k : ℕ) (chain : List ℕ) → ((y : ℕ) → is_in y c ≡ true → is_in y chain ≡ true) → (x : ℕ) → is_in (p.top x) seen ≡ true
        → AllIn seen (begun (import_of p k chain x) t)
    unfolding import_of
    begun_mid zero chain over x here = tt
    begun_mid (suc k) chain over x here =
        by (is_free p.tops chain (p.top x)) refl (λ y. begun_mid k (p.top x ∷ chain) (λ z e. in_tail z (p.top x) chain (over z e)) y)
      where
        more : (y : ℕ) (b : B) → value (import_of p k (p.top x ∷ chain) y) t ≡ Some b → brought p t y ≡ Some b
        more y b e = brought_is p t y ∙ chained_free (modules p t) k (p.top x ∷ chain) (p.top y) b (sym (value-import_of p t k (p.top x ∷ chain) y) ∙ e)

        by : (b : Bool) → is_free p.tops chain (p.top x) ≡ b
            → ((y : ℕ) → is_in (p.top y) seen ≡ true → AllIn seen (begun (import_of p k (p.top x ∷ chain) y) t))
            → AllIn seen (begun (cond b (Begin (p.top x) (answered (λ y. import_of p k (p.top x ∷ chain) y) (inside p (p.top x)))) (Done None)) t)
        by true is rest =
            let out = (free_parts p.tops chain (p.top x) is).1 in
            let apart : is_in (p.top x) c ≡ false = false_from_ne_true (is_in (p.top x) c) (λ e. true≢false (sym (over (p.top x) e) ∙ out)) in
            let each : (y : ℕ) → is_in y (met (inside p (p.top x)) t (brought p t)) ≡ true → AllIn seen (begun (import_of p k (p.top x ∷ chain) y) t) =
            λ y e. first (is_in (p.top y) p.tops) y refl e apart rest in (
              here,
              begun_all t (λ y. import_of p k (p.top x ∷ chain) y) seen (brought p t) more (inside p (p.top x)) (strict-inside p (p.top x))
                  (every_in (λ y. AllIn seen (begun (import_of p k (p.top x ∷ chain) y) t)) (met (inside p (p.top x)) t (brought p t)) each),
            )
          where
            first : (b : Bool) (y : ℕ) → is_in (p.top y) p.tops ≡ b → is_in y (met (inside p (p.top x)) t (brought p t)) ≡ true → is_in (p.top x) c ≡ false
                → ((y : ℕ) → is_in (p.top y) seen ≡ true → AllIn seen (begun (import_of p k (p.top x ∷ chain) y) t))
                → AllIn seen (begun (import_of p k (p.top x ∷ chain) y) t)
            first true y known e apart rest = rest y (closed (p.top x) (p.top y) here apart (imported_at (p.top x) y e known))
            first false y known e apart rest = begun_unknown k (p.top x ∷ chain) y known
        by false is rest = tt

    pub import_mid : (chain : List ℕ) → ((y : ℕ) → is_in y c ≡ true → is_in y chain ≡ true) → (x : ℕ) → is_in (p.top x) seen ≡ true → AllIn seen (begun (import_in p chain x) t)
    unfolding import_in
    import_mid chain over x here = begun_mid (left p.tops chain) chain over x here

  -- ---- what is known fits

  module _ (known : ℕ → Known B) (seen c : List ℕ) (s : Sound p t known seen c) where
    seen_at : (y : ℕ) → (known y ≡ Unknown → ⊥) → is_in y seen ≡ true
    seen_at y is = by (is_in y seen) refl
      where
        by : (b : Bool) → is_in y seen ≡ b → is_in y seen ≡ true
        by true e = e
        by false e = absurd (is (s.needed y e))

    free_at : (y : ℕ) → (known y ≡ Busy → ⊥) → is_in y c ≡ false
    free_at y is = false_from_ne_true (is_in y c) (λ e. is (s.busy y e))

    -- an import that is known and not in progress brings what its module comes to
    given_at : (x : ℕ) (o : Option B) → Leads p t c (p.top x) → is_in (p.top x) p.tops ≡ true → (known (p.top x) ≡ Unknown → ⊥) → (known (p.top x) ≡ Busy → ⊥)
        → value (mod_of p [] (p.top x)) t ≡ o → IsGiven t (import_in p c) seen (brought p t) o x
    given_at x o leads top is free outcome =
        record {
          gives = ap (λ n. value n t) (import_free c x top (free_at (p.top x) free)) ∙ one_outcome_of p t c (p.top x) leads ∙ outcome;
          brought = brought_free x top ∙ outcome;
          begins = import_mid seen c s.closed c (λ y e. e) x (seen_at (p.top x) is);
        }

    fits_at : (x : ℕ) → Leads p t c (p.top x) → is_in (p.top x) p.tops ≡ true → Fits t (import_in p c) seen (brought p t) (known (p.top x)) x
    fits_at x leads top = by (known (p.top x)) refl
      where
        by : (k : Known B) → known (p.top x) ≡ k → Fits t (import_in p c) seen (brought p t) k x
        by Unknown is = tt
        by Busy is =
            let here = s.waits (p.top x) is in
            let none = import_busy c x here in
            let P : Asks (Option B) → Type 0 = λ n. AllIn seen (begun n t) in
            record {
              gives = ap (λ n. value n t) none;
              brought = brought_free x top ∙ comes_back_of p t c (p.top x) leads here;
              begins = subst P (sym none) tt;
            }
        by Cyclic is =
            given_at x None leads top (λ e. let u : Cyclic ≡ Unknown = sym is ∙ e in absurd (cc)) (λ e. let u : Cyclic ≡ Busy = sym is ∙ e in absurd (cc)) (s.cyclic (p.top x) is)
        by (Good b rs) is =
            given_at x (Some b) leads top (λ e. let u : Good b rs ≡ Unknown = sym is ∙ e in absurd (cc)) (λ e. let u : Good b rs ≡ Busy = sym is ∙ e in absurd (cc)) (s.good (p.top x) b rs is).0

    -- an import of which nothing is known is free
    unknown_free : (x : ℕ) → is_in (p.top x) p.tops ≡ true → known (p.top x) ≡ Unknown → import_in p c x ≡ mod_of p c (p.top x)
    unknown_free x top is = import_free c x top (free_at (p.top x) (λ e. let u : Busy ≡ Unknown = sym e ∙ is in absurd (cc)))

  -- ---- a module in progress

  begun_inside : (c : List ℕ) (m : ℕ) → begun (mod_of p c m) t ≡ m ∷ begun (answered (import_in p (m ∷ c)) (inside p m)) t
  unfolding mod_of
  begun_inside c m = refl

  asked_inside : (c : List ℕ) (m : ℕ) → asked (mod_of p c m) t ≡ asked (answered (import_in p (m ∷ c)) (inside p m)) t
  unfolding mod_of
  asked_inside c m = refl

  module _ (known : ℕ → Known B) (seen c : List ℕ) (m : ℕ) (s : Sound p t known seen (m ∷ c)) (named : IsNamed p (inside p m)) where
    fits_inside : Every (λ x. Fits t (import_in p (m ∷ c)) seen (brought p t) (known (p.top x)) x) (met (inside p m) t (brought p t))
    fits_inside =
        every_in (λ x. Fits t (import_in p (m ∷ c)) seen (brought p t) (known (p.top x)) x) (met (inside p m) t (brought p t))
        (λ x e. let top = named.named t (brought p t) x e in fits_at known seen (m ∷ c) s x (imported_at m x e top, s.chain) top)

    tells_inside : Tells t (import_in p (m ∷ c)) seen (brought p t) (λ x. known (p.top x)) (inside p m) (tried (λ x. known (p.top x)) (inside p m) t)
    tells_inside = tells t (import_in p (m ∷ c)) seen (brought p t) (λ x. known (p.top x)) (inside p m) fits_inside

    own_seen : is_in m seen ≡ true
    own_seen = seen_at known seen (m ∷ c) s m (λ e. let busy = s.busy m (in_head m c) in let u : Busy ≡ Unknown = sym busy ∙ e in absurd (cc))

    order_inside : new_of seen (begun (mod_of p c m) t) ≡ new_of seen (begun (answered (import_in p (m ∷ c)) (inside p m)) t)
    order_inside = ap (new_of seen) (begun_inside c m) ∙ new_seen seen m (begun (answered (import_in p (m ∷ c)) (inside p m)) t) own_seen

    -- A module whose fold stands at an import of which nothing is known needs that one next.
    pub turn_stands : (x : ℕ) → tried (λ x. known (p.top x)) (inside p m) t ≡ Stands x → NeedsNext p t known seen c m (p.top x)
    turn_stands x e =
        let P : Tried (Option B) → Type 0 = λ r. Tells t (import_in p (m ∷ c)) seen (brought p t) (λ x. known (p.top x)) (inside p m) r in
        let stands = subst P e tells_inside in
        let top = named.named t (brought p t) x stands.is_met in
        record {
          unknown = stands.unknown;
          imported = imported_at m x stands.is_met top;
          behind = stands.behind;
          order =
              order_inside ∙ ap (new_of seen) stands.order ∙ new_past seen stands.before (begun (import_in p (m ∷ c) x) t ++ stands.behind) stands.passed
              ∙ ap (λ n. new_of seen (begun n t ++ stands.behind)) (unknown_free known seen (m ∷ c) s x top stands.unknown);
        }

    ended : (o : Option B) (rs : List Record) → tried (λ x. known (p.top x)) (inside p m) t ≡ Ended o rs
        → EndsAt t (import_in p (m ∷ c)) seen (brought p t) (λ x. known (p.top x)) (inside p m) o
    ended o rs e =
        let P : Tried (Option B) → Type 0 = λ r. Tells t (import_in p (m ∷ c)) seen (brought p t) (λ x. known (p.top x)) (inside p m) r in
        subst P e tells_inside

    -- A module whose fold ends needs no further one.
    pub turn_none : (o : Option B) (rs : List Record) → tried (λ x. known (p.top x)) (inside p m) t ≡ Ended o rs → NeedsNone p t seen c m
    turn_none o rs e =
        let ends = ended o rs e in
        record {
          imported = λ z imported.
              seen_at known seen (m ∷ c) s z
              (every_at (λ y. known y ≡ Unknown → ⊥) (map p.top (met (inside p m) t (brought p t)))
              (every_to_map (λ y. known y ≡ Unknown → ⊥) p.top (met (inside p m) t (brought p t)) ends.all_known) z (met_of m z imported));
          order = order_inside ∙ nothing_new seen (begun (answered (import_in p (m ∷ c)) (inside p m)) t) ends.begins;
        }

    turn_outcome : (o : Option B) (rs : List Record) → tried (λ x. known (p.top x)) (inside p m) t ≡ Ended o rs → value (mod_of p [] m) t ≡ o
    turn_outcome o rs e = let ends = ended o rs e in outcome_is_fold p t m ∙ ends.outcome

    pub turn_cyclic : (rs : List Record) → tried (λ x. known (p.top x)) (inside p m) t ≡ Ended None rs → EndsCyclic p t seen c m
    turn_cyclic rs e = record { none = turn_none None rs e; outcome = turn_outcome None rs e }

    fits_records : (x : ℕ) → is_in (p.top x) (imports p t m) ≡ true → is_in (p.top x) p.tops ≡ true → FitsRecords t (import_in p (m ∷ [])) (brought p t) (known (p.top x)) x
    fits_records x imported top = by (known (p.top x)) refl
      where
        by : (k : Known B) → known (p.top x) ≡ k → FitsRecords t (import_in p (m ∷ [])) (brought p t) k x
        by Unknown is = tt
        by Busy is = tt
        by Cyclic is = tt
        by (Good b rs) is =
            let good = s.good (p.top x) b rs is in
            let out : is_in (p.top x) (m ∷ []) ≡ false =
            false_from_ne_true (is_in (p.top x) (m ∷ []))
            (λ e. elim (in_cases (p.top x) m [] e) [
              | inl same ↦ (let u : Busy ≡ Good b rs = sym (s.busy m (in_head m c)) ∙ ap known (sym same) ∙ is in absurd (cc))
              | inr none ↦ true≢false (sym none)
            ]) in
            let free = import_free (m ∷ []) x top out in
            let through = one_outcome_of p t (m ∷ []) (p.top x) (imported, tt) ∙ good.0 in
            let alike = modules_alike p t [] (m ∷ []) (p.top x) b b good.0 through in
            (ap (λ n. value n t) free ∙ through, brought_free x top ∙ good.0, good.1 ∙ ap firsts (sym (ap (λ n. asked n t) free ∙ alike.questions)))

    pub turn_good : (b : B) (rs : List Record) → tried (λ x. known (p.top x)) (inside p m) t ≡ Ended (Some b) rs → EndsGood p t seen c m b (firsts rs)
    turn_good b rs e =
        let each : Every (λ x. FitsRecords t (import_in p (m ∷ [])) (brought p t) (known (p.top x)) x) (met (inside p m) t (brought p t)) =
        every_in (λ x. FitsRecords t (import_in p (m ∷ [])) (brought p t) (known (p.top x)) x) (met (inside p m) t (brought p t))
        (λ x met. let top = named.named t (brought p t) x met in fits_records x (imported_at m x met top) top) in
        record {
          none = turn_none (Some b) rs e;
          outcome = turn_outcome (Some b) rs e;
          records =
              tried_records t (import_in p (m ∷ [])) (brought p t) (λ x. known (p.top x)) (inside p m) (strict-inside p m) each b rs e
              ∙ ap firsts (sym (asked_inside [] m));
        }

    -- ---- a kept module

    own_alike : (b : B) → value (mod_of p [] m) t ≡ Some b → begun (mod_of p c m) t ≡ begun (mod_of p [] m) t
    own_alike b e = let alike = modules_alike p t [] c m b b e (one_outcome_of p t c m s.chain ∙ e) in alike.begins

    -- the first of the modules that a kept one needs of which nothing is known is the first new one
    needs_first : (b : B) → value (mod_of p [] m) t ≡ Some b → first_unknown known (drop 1 (needs_of p t m)) ≡ first (new_of seen (begun (mod_of p c m) t))
    unfolding needs_of
    needs_first b e =
        let inner = begun (answered (import_in p (m ∷ [])) (inside p m)) t in
        ap (λ ms. first_unknown known (drop 1 (new_of [] ms))) (begun_inside [] m)
        ∙ first_new known seen s.needed s.unneeded inner (m ∷ []) (own_seen, tt)
        ∙ ap first (sym (ap (new_of seen) (own_alike b e ∙ begun_inside [] m) ∙ new_seen seen m inner own_seen))

    next_first : (x : ℕ) → NeedsNext p t known seen c m x → first (new_of seen (begun (mod_of p c m) t)) ≡ Some x
    next_first x next =
        ap first
        (next.order ∙ ap (λ ms. new_of seen (ms ++ next.behind)) (begun_inside (m ∷ c) x)
        ∙ new_fresh seen x (begun (answered (import_in p (x ∷ m ∷ c)) (inside p x)) t ++ next.behind) (s.unneeded x next.unknown))

    -- A kept module needs the first of its modules of which nothing is known next.
    pub kept_needs : (b : B) (x : ℕ) → value (mod_of p [] m) t ≡ Some b → first_unknown known (drop 1 (needs_of p t m)) ≡ Some x → NeedsNext p t known seen c m x
    kept_needs b x e unknown = by (tried (λ x. known (p.top x)) (inside p m) t) refl
      where
        news : first (new_of seen (begun (mod_of p c m) t)) ≡ Some x
        news = sym (needs_first b e) ∙ unknown

        by : (r : Tried (Option B)) → tried (λ x. known (p.top x)) (inside p m) t ≡ r → NeedsNext p t known seen c m x
        by (Stands y) is =
            let next = turn_stands y is in
            let same : p.top y ≡ x = same_some (next_first (p.top y) next) news in
            let P : ℕ → Type 0 = λ n. NeedsNext p t known seen c m n in
            subst P same next
        by (Ended o rs) is = let none = turn_none o rs is in absurd (some≢none (sym news ∙ ap first none.order))

    -- A kept module of whose modules all are known ends, with what was kept.
    pub kept_ends : (b : B) (rs : List Record) → value (mod_of p [] m) t ≡ Some b → rs ≡ firsts (asked (mod_of p [] m) t) → first_unknown known (drop 1 (needs_of p t m)) ≡ None
        → EndsGood p t seen c m b rs
    kept_ends b rs e records known_all = record { none = by (tried (λ x. known (p.top x)) (inside p m) t) refl; outcome = e; records = records }
      where
        news : first (new_of seen (begun (mod_of p c m) t)) ≡ None
        news = sym (needs_first b e) ∙ known_all

        by : (r : Tried (Option B)) → tried (λ x. known (p.top x)) (inside p m) t ≡ r → NeedsNone p t seen c m
        by (Stands y) is = absurd (some≢none (sym (next_first (p.top y) (turn_stands y is)) ∙ news))
        by (Ended o rs) is = turn_none o rs is

-- ---- a unit

module _ {B A : Type 0} (p : Plan B) (t : Question → Answer) (known : ℕ → Known B) (seen : List ℕ) (s : Sound p t known seen []) (fold : Needs B A) (named : IsNamed p fold) where
  tells_unit : Tells t (import_in p []) seen (brought p t) (λ x. known (p.top x)) fold (tried (λ x. known (p.top x)) fold t)
  tells_unit =
      tells t (import_in p []) seen (brought p t) (λ x. known (p.top x)) fold
      (every_in (λ x. Fits t (import_in p []) seen (brought p t) (known (p.top x)) x) (met fold t (brought p t))
      (λ x e. fits_at p t known seen [] s x tt (named.named t (brought p t) x e)))

  -- A unit whose fold stands at an import of which nothing is known needs that module next.
  pub unit_stands : (x : ℕ) → tried (λ x. known (p.top x)) fold t ≡ Stands x → UnitNeeds p t known seen fold (p.top x)
  unfolding unit_of
  unit_stands x e =
      let P : Tried A → Type 0 = λ r. Tells t (import_in p []) seen (brought p t) (λ x. known (p.top x)) fold r in
      let stands = subst P e tells_unit in
      let top = named.named t (brought p t) x stands.is_met in
      record {
        unknown = stands.unknown;
        behind = stands.behind;
        order =
            ap (new_of seen) stands.order ∙ new_past seen stands.before (begun (import_in p [] x) t ++ stands.behind) stands.passed
            ∙ ap (λ n. new_of seen (begun n t ++ stands.behind)) (unknown_free p t known seen [] s x top stands.unknown);
      }

  -- A unit whose fold ends needs no further module.
  pub unit_ended : (a : A) (rs : List Record) → tried (λ x. known (p.top x)) fold t ≡ Ended a rs → UnitEnds p t seen fold a
  unfolding unit_of
  unit_ended a rs e =
      let P : Tried A → Type 0 = λ r. Tells t (import_in p []) seen (brought p t) (λ x. known (p.top x)) fold r in
      let ends = subst P e tells_unit in
      record { outcome = ends.gives; order = nothing_new seen (begun (answered (import_in p []) fold) t) ends.begins }
