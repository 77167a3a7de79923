-- What is folded in chains, with no word of trees or modules: things that bring something or nothing, each by what others
-- bring to it, where an import of what is in progress brings nothing. What a chain lets through is what is brought to some
-- depth with no chain; and what is brought to some depth every chain lets through whose things are not brought to that depth.
use Rattle.std.proofs.Common.{◌≡◌, ◌∙◌, refl, sym, ap, ℕ, zero, suc, ◌+◌, ◌-◌, ◌<◌, ◌≤◌, true, false, cond, inl, inr, List, [], ◌∷◌, Option, Some, None, arith, true≢false}
use Rattle.std.proofs.lemmas.Bool.{false_from_ne_true}
use Rattle.build_store.specs.Modules.{is_in, is_free, left}
use Rattle.build_store.proofs.ListLemmas.{some≢none, same_some, same_options, none_unless, cond_some, cond_true, Every, every_all, every_at, in_cases, free_parts, free_from, left_less}

-- it brings something
abbrev pub IsBrought : {B : Type 0} → Option B → Type 0
IsBrought {B} o = (b : B) × (o ≡ Some b)

-- what brings what by what: `body m f` is what m brings where the others bring `f`, and `meets m f` those that it imports then
pub record Web (B : Type 0) : Type 0 where
  pub known : List ℕ
  pub body : ℕ → (ℕ → Option B) → Option B
  pub meets : ℕ → (ℕ → Option B) → List ℕ
  pub strict : (m : ℕ) (f : ℕ → Option B) → IsBrought (body m f) → Every (λ y. IsBrought (f y)) (meets m f)
  pub alike : (m : ℕ) (f g : ℕ → Option B) → Every (λ y. g y ≡ f y) (meets m f) → (body m g ≡ body m f) × (meets m g ≡ meets m f)

module _ {B : Type 0} where
  -- what an import brings behind a chain, to so many
  abbrev pub chained : Web B → ℕ → List ℕ → ℕ → Option B
  chained w zero c y = None
  chained w (suc k) c y = cond (is_free w.known c y) (w.body y (chained w k (y ∷ c))) None

  -- what an import brings with no chain, to some depth
  abbrev pub deep : Web B → ℕ → ℕ → Option B
  deep w zero y = None
  deep w (suc k) y = cond (is_in y w.known) (w.body y (deep w k)) None

  abbrev pub at_depth : Web B → ℕ → ℕ → Option B
  at_depth w k m = w.body m (deep w k)

  -- what m brings behind a chain, and what an import of it does
  abbrev pub behind : Web B → List ℕ → ℕ → Option B
  behind w c m = w.body m (chained w (left w.known (m ∷ c)) (m ∷ c))

  abbrev pub free : Web B → ℕ → Option B
  free w y = chained w (left w.known []) [] y

  module _ (w : Web B) where
    -- ---- what brings as much or more

    stays_at : (m : ℕ) (f g : ℕ → Option B) (b : B) → w.body m f ≡ Some b → Every (λ y. (c : B) → f y ≡ Some c → g y ≡ Some c) (w.meets m f)
        → (w.body m g ≡ w.body m f) × (w.meets m g ≡ w.meets m f)
    stays_at m f g b e more = w.alike m f g (both (w.meets m f) (w.strict m f (b, e)) more)
      where
        both : (ys : List ℕ) → Every (λ y. IsBrought (f y)) ys → Every (λ y. (c : B) → f y ≡ Some c → g y ≡ Some c) ys → Every (λ y. g y ≡ f y) ys
        both [] s h = tt
        both (y ∷ ys) s h = (h.0 s.0.0 s.0.1 ∙ sym s.0.1, both ys s.1 h.1)

    pub stays : (m : ℕ) (f g : ℕ → Option B) (b : B) → w.body m f ≡ Some b → ((y : ℕ) (c : B) → f y ≡ Some c → g y ≡ Some c)
        → (w.body m g ≡ Some b) × (w.meets m g ≡ w.meets m f)
    stays m f g b e more = let s = stays_at m f g b e (every_all _ more (w.meets m f)) in (s.0 ∙ e, s.1)

    -- ---- depth

    deep_parts : (k y : ℕ) (b : B) → deep w (suc k) y ≡ Some b → (is_in y w.known ≡ true) × (at_depth w k y ≡ Some b)
    deep_parts k y b e = cond_some (is_in y w.known) (at_depth w k y) b e

    deep_from : (k y : ℕ) (b : B) → is_in y w.known ≡ true → at_depth w k y ≡ Some b → deep w (suc k) y ≡ Some b
    deep_from k y b e h = cond_true (is_in y w.known) (at_depth w k y) None e ∙ h

    -- whatever is brought came from less depth
    deep_down : (k y : ℕ) (b : B) → deep w k y ≡ Some b → (j : ℕ) × (j < k) × (is_in y w.known ≡ true) × (at_depth w j y ≡ Some b)
    deep_down zero y b e = absurd (some≢none (sym e))
    deep_down (suc k) y b e = let p = deep_parts k y b e in (k, omega arith, p.0, p.1)

    deep_more : (k y : ℕ) (b : B) → deep w k y ≡ Some b → deep w (suc k) y ≡ Some b
    deep_more zero y b e = absurd (some≢none (sym e))
    deep_more (suc k) y b e =
        let p = deep_parts k y b e in
        deep_from (suc k) y b p.0 (stays y (deep w k) (deep w (suc k)) b p.1 (λ z c h. deep_more k z c h)).0

    pub depth_more : (k m : ℕ) (b : B) → at_depth w k m ≡ Some b → at_depth w (suc k) m ≡ Some b
    depth_more k m b e = (stays m (deep w k) (deep w (suc k)) b e (deep_more k)).0

    pub chained_deep : (k : ℕ) (c : List ℕ) (y : ℕ) (b : B) → chained w k c y ≡ Some b → deep w k y ≡ Some b
    chained_deep zero c y b e = absurd (some≢none (sym e))
    chained_deep (suc k) c y b e =
        let p = cond_some (is_free w.known c y) (w.body y (chained w k (y ∷ c))) b e in
        deep_from k y b (free_parts w.known c y p.0).0 (stays y (chained w k (y ∷ c)) (deep w k) b p.1 (λ z d h. chained_deep k (y ∷ c) z d h)).0

    -- what a chain lets through is so by depth
    pub behind_deep : (c : List ℕ) (m : ℕ) (b : B) → behind w c m ≡ Some b → at_depth w (left w.known (m ∷ c)) m ≡ Some b
    behind_deep c m b e = (stays m (chained w (left w.known (m ∷ c)) (m ∷ c)) (deep w (left w.known (m ∷ c))) b e (chained_deep (left w.known (m ∷ c)) (m ∷ c))).0

    -- ---- what is so by depth is let through by a chain of what is not so to that depth

    abbrev pub NoneAt : ℕ → List ℕ → Type 0
    NoneAt k c = (z : ℕ) → is_in z c ≡ true → at_depth w k z ≡ None

    none_less : (k : ℕ) (c : List ℕ) → NoneAt (suc k) c → NoneAt k c
    none_less k c none z e = none_unless (at_depth w k z) (λ b h. some≢none (sym (depth_more k z b h) ∙ none z e))

    -- the claim for one depth
    abbrev LetsThrough : ℕ → Type 0
    LetsThrough k = (j : ℕ) (c : List ℕ) (m : ℕ) (b : B) → left w.known (m ∷ c) ≤ j → NoneAt k c → at_depth w k m ≡ Some b → w.body m (chained w j (m ∷ c)) ≡ Some b

    import_through : (k : ℕ) → LetsThrough k → (j : ℕ) (c : List ℕ) (y : ℕ) (b : B) → left w.known c ≤ j → NoneAt k c → deep w (suc k) y ≡ Some b → chained w j c y ≡ Some b
    import_through k through j c y b room none e = by j room
      where
        p : (is_in y w.known ≡ true) × (at_depth w k y ≡ Some b)
        p = deep_parts k y b e

        out : is_in y c ≡ false
        out = false_from_ne_true (is_in y c) (λ here. some≢none (sym p.1 ∙ none y here))

        by : (i : ℕ) → left w.known c ≤ i → chained w i c y ≡ Some b
        by zero r = absurd (let less = left_less w.known c y p.0 out in omega arith)
        by (suc i) r =
            let less = left_less w.known c y p.0 out in
            cond_true (is_free w.known c y) _ None (free_from w.known c y p.0 out) ∙ through i c y b (omega arith) none p.1

    through_zero : LetsThrough zero
    through_zero j c m b room none e = (stays m (deep w zero) (chained w j (m ∷ c)) b e (λ y d h. absurd (some≢none (sym h)))).0

    through_suc : (k : ℕ) → LetsThrough k → LetsThrough (suc k)
    through_suc k through j c m b room none e = by (at_depth w k m) refl
      where
        less : NoneAt k c
        less = none_less k c none

        by : (o : Option B) → at_depth w k m ≡ o → w.body m (chained w j (m ∷ c)) ≡ Some b
        by (Some d) is = through j c m d room less is ∙ ap Some (same_some (depth_more k m d is) e)
        by None is =
            let more : NoneAt k (m ∷ c) = λ z h. elim (in_cases z m c h) [ inl same ↦ ap (at_depth w k) same ∙ is | inr old ↦ less z old ] in
            (stays m (deep w (suc k)) (chained w j (m ∷ c)) b e (λ y d h. import_through k through j (m ∷ c) y d room more h)).0

    pub lets_through : (k : ℕ) → LetsThrough k
    lets_through zero = through_zero
    lets_through (suc k) = through_suc k (lets_through k)

    -- ---- with nothing in progress

    nothing_none : (k : ℕ) → NoneAt k []
    nothing_none k z e = absurd (true≢false (sym e))

    pub alone_from : (k m : ℕ) (b : B) → at_depth w k m ≡ Some b → behind w [] m ≡ Some b
    alone_from k m b e = lets_through k (left w.known (m ∷ [])) [] m b (omega arith) (nothing_none k) e

    pub free_from_deep : (k y : ℕ) (b : B) → deep w k y ≡ Some b → free w y ≡ Some b
    free_from_deep zero y b e = absurd (some≢none (sym e))
    free_from_deep (suc k) y b e = import_through k (lets_through k) (left w.known []) [] y b (omega arith) (nothing_none k) e

    pub free_deep : (y : ℕ) (b : B) → free w y ≡ Some b → deep w (left w.known []) y ≡ Some b
    free_deep y b e = chained_deep (left w.known []) [] y b e

    pub chained_free : (k : ℕ) (c : List ℕ) (y : ℕ) (b : B) → chained w k c y ≡ Some b → free w y ≡ Some b
    chained_free k c y b e = free_from_deep k y b (chained_deep k c y b e)

    -- it is its body where each other one brings what it does alone
    pub alone_is_body : (m : ℕ) → behind w [] m ≡ w.body m (free w)
    alone_is_body m =
        same_options (behind w [] m) (w.body m (free w))
        (λ b e. (stays m (chained w (left w.known (m ∷ [])) (m ∷ [])) (free w) b e (chained_free (left w.known (m ∷ [])) (m ∷ []))).0)
        (λ b e. alone_from (left w.known []) m b (stays m (free w) (deep w (left w.known [])) b e free_deep).0)

    -- ---- chains that come about

    -- each of the chain imports the one before it, and the first imports m, where each brings what it does alone
    abbrev pub Comes : List ℕ → ℕ → Type 0
    Comes [] m = Unit {0}
    Comes (c ∷ cs) m = (is_in m (w.meets c (free w)) ≡ true) × Comes cs c

    -- what is imported has less depth
    import_falls : (k c m : ℕ) (b : B) → is_in m (w.meets c (free w)) ≡ true → at_depth w k c ≡ Some b → (j : ℕ) × (j < k) × IsBrought (at_depth w j m)
    import_falls k c m b e is =
        let same = (stays c (deep w k) (free w) b is (free_from_deep k)).1 in
        let met : is_in m (w.meets c (deep w k)) ≡ true = ap (is_in m) (sym same) ∙ e in
        let some = every_at (λ y. IsBrought (deep w k y)) (w.meets c (deep w k)) (w.strict c (deep w k) (b, is)) m met in
        let down = deep_down k m some.0 some.1 in
        (down.0, down.1, (some.0, down.3))

    chain_falls : (c : List ℕ) (m z k : ℕ) (b : B) → Comes c m → is_in z c ≡ true → at_depth w k z ≡ Some b → (j : ℕ) × (j < k) × IsBrought (at_depth w j m)
    chain_falls [] m z k b comes here is = absurd (true≢false (sym here))
    chain_falls (c ∷ cs) m z k b comes here is =
        elim (in_cases z c cs here) [
          | inl same ↦ import_falls k c m b comes.0 (ap (at_depth w k) (sym same) ∙ is)
          | inr old ↦
              let first = chain_falls cs c z k b comes.1 old is in
              let second = import_falls first.0 c m first.2.0 comes.0 first.2.1 in
              (second.0, (let less = first.1 in let fewer = second.1 in omega arith), second.2)
        ]

    -- the least depth
    least : (k m : ℕ) (b : B) → at_depth w k m ≡ Some b → (j : ℕ) × (at_depth w j m ≡ Some b) × ((i : ℕ) → i < j → at_depth w i m ≡ None)
    least zero m b e = (zero, e, λ i h. absurd (omega arith))
    least (suc k) m b e = by (at_depth w k m) refl (least k m)
      where
        below : at_depth w k m ≡ None → (n i : ℕ) → i + n ≡ k → at_depth w i m ≡ None
        below none zero i h = let same : i ≡ k = omega arith in ap (λ x. at_depth w x m) same ∙ none
        below none (suc n) i h =
            let more : at_depth w (suc i) m ≡ None = below none n (suc i) (omega arith) in
            none_unless (at_depth w i m) (λ d is. some≢none (sym (depth_more i m d is) ∙ more))

        by : (o : Option B) → at_depth w k m ≡ o → ((d : B) → at_depth w k m ≡ Some d → (j : ℕ) × (at_depth w j m ≡ Some d) × ((i : ℕ) → i < j → at_depth w i m ≡ None))
            → (j : ℕ) × (at_depth w j m ≡ Some b) × ((i : ℕ) → i < j → at_depth w i m ≡ None)
        by None is rec = (suc k, e, λ i h. below is (k - i) i (omega arith))
        by (Some d) is rec = let r = rec d is in (r.0, r.1 ∙ ap Some (same_some (depth_more k m d is) e), r.2)

    -- One outcome: behind a chain that comes to it, it brings what it does alone.
    pub one_outcome : (c : List ℕ) (m : ℕ) → Comes c m → behind w c m ≡ behind w [] m
    one_outcome c m comes =
        same_options (behind w c m) (behind w [] m)
        (λ b e. alone_from (left w.known (m ∷ c)) m b (behind_deep c m b e))
        (λ b e.
        let low = least (left w.known (m ∷ [])) m b (behind_deep [] m b e) in
        let none : NoneAt low.0 c = λ z here. none_unless (at_depth w low.0 z) (λ d is. let f = chain_falls c m z low.0 d comes here is in some≢none (sym f.2.1 ∙ low.2 f.0 f.1)) in
        lets_through low.0 (left w.known (m ∷ c)) c m b (omega arith) none low.1)

    -- What comes back to itself brings nothing.
    pub comes_back : (c : List ℕ) (m : ℕ) → Comes c m → is_in m c ≡ true → behind w [] m ≡ None
    comes_back c m comes here =
        none_unless (behind w [] m)
        (λ b e.
        let low = least (left w.known (m ∷ [])) m b (behind_deep [] m b e) in
        let f = chain_falls c m m low.0 b comes here low.1 in
        some≢none (sym f.2.1 ∙ low.2 f.0 f.1))
