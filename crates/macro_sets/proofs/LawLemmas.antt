-- The laws of active macros.
use Rattle.std.proofs.Common.{◌≡◌, ℕ, Bool, true, false, cond, ◌&&◌, ◌||◌, not, List, [], ◌∷◌, ◌++◌, map, filter, find, Option, Some, None, is_some, refl, sym, ap, ◌∙◌}
use Rattle.std.specs.Option.{option_map_or}
use Rattle.std.specs.List.{list_any, list_all}
use Rattle.std.proofs.lemmas.List.Elements.{filter-append}
use Rattle.std.proofs.lemmas.List.Folds.{list_any-append}
use Rattle.cm_core.specs.declared.macros.MacroBody.{MacroBody}
use Rattle.cm_core.specs.declared.macros.MacroNode.{MacroNode}
use Rattle.cm_core.specs.declared.numbers.MacroRef.{MacroRef}
use Rattle.cm_core.specs.declared.numbers.Owner.{Owner}
use Rattle.cm_core.specs.declared.numbers.Owner.TheVariants.{Unit as OfUnit, Sub, Job, Builtin}
use Rattle.macro_sets.specs.declared.meanings.Meaning.TheVariants as outcome
use Rattle.macro_sets.specs.ActiveMacros.{differ, is_active, is_active_define, is_listed, is_overridden, meaning_from, meaning_of, same_entity, visible}
use Rattle.macro_sets.specs.Laws.{is_ambiguous, lists_visible, renumbered, some_differ, with_job_number}
use Rattle.macro_sets.proofs.MeaningLemmas.{definitions_equiv, differ-self}

-- ---- tests of lists

module _ {X : Type 0} where
  pub list_any-map : {Y : Type 0} (p : Y → Bool) (f : X → Y) (xs : List X) → list_any p (map f xs) ≡ list_any (λ x. p (f x)) xs
  list_any-map p f [] = refl
  list_any-map p f (x ∷ xs) = ap (λ b. p (f x) || b) (list_any-map p f xs)

  pub list_any-alike : (p q : X → Bool) → ((x : X) → p x ≡ q x) → (xs : List X) → list_any p xs ≡ list_any q xs
  list_any-alike p q same [] = refl
  list_any-alike p q same (x ∷ xs) = ap (λ b. b || list_any p xs) (same x) ∙ ap (λ b. q x || b) (list_any-alike p q same xs)

  pub filter-alike : (p q : X → Bool) → ((x : X) → p x ≡ q x) → (xs : List X) → filter p xs ≡ filter q xs
  filter-alike p q same [] = refl
  filter-alike p q same (x ∷ xs) = ap (λ b. cond b (x ∷ filter p xs) (filter p xs)) (same x) ∙ ap (λ l. cond (q x) (x ∷ l) l) (filter-alike p q same xs)

  list_any-filter : (p q : X → Bool) (xs : List X) → list_any (λ x. p x && q x) (filter p xs) ≡ list_any (λ x. p x && q x) xs
  list_any-filter p q [] = refl
  list_any-filter p q (x ∷ xs) = by (p x) refl (list_any-filter p q xs)
    where
      by : (b : Bool) → p x ≡ b → list_any (λ y. p y && q y) (filter p xs) ≡ list_any (λ y. p y && q y) xs
          → list_any (λ y. p y && q y) (cond b (x ∷ filter p xs) (filter p xs)) ≡ ((b && q x) || list_any (λ y. p y && q y) xs)
      by true e f = ap (λ b. (b && q x) || list_any (λ y. p y && q y) (filter p xs)) e ∙ ap (λ b. q x || b) f
      by false e f = f

  filter-filter : (p q : X → Bool) → ((x : X) → p x ≡ false → q x ≡ false) → (xs : List X) → filter q (filter p xs) ≡ filter q xs
  filter-filter p q less [] = refl
  filter-filter p q less (x ∷ xs) = by (p x) refl (filter-filter p q less xs)
    where
      by : (b : Bool) → p x ≡ b → filter q (filter p xs) ≡ filter q xs → filter q (cond b (x ∷ filter p xs) (filter p xs)) ≡ cond (q x) (x ∷ filter q xs) (filter q xs)
      by true e f = ap (λ l. cond (q x) (x ∷ l) l) f
      by false e f = f ∙ sym (ap (λ b. cond b (x ∷ filter q xs) (filter q xs)) (less x e))

  -- a test that fails where the first passes, and where the second passes too
  filter-nothing : (p q t : X → Bool) → ((x : X) → p x ≡ false → t x ≡ false) → ((x : X) → p x ≡ true → q x ≡ true → t x ≡ false) → (xs : List X)
      → list_all q (filter p xs) ≡ true → filter t xs ≡ []
  filter-nothing p q t outside inside [] h = refl
  filter-nothing p q t outside inside (x ∷ xs) h = by (p x) (q x) refl refl h (filter-nothing p q t outside inside xs)
    where
      by : (a b : Bool) → p x ≡ a → q x ≡ b → list_all q (cond a (x ∷ filter p xs) (filter p xs)) ≡ true → (list_all q (filter p xs) ≡ true → filter t xs ≡ [])
          → cond (t x) (x ∷ filter t xs) (filter t xs) ≡ []
      by true true e d g f = ap (λ c. cond c (x ∷ filter t xs) (filter t xs)) (inside x e d) ∙ f (sym (ap (λ c. c && list_all q (filter p xs)) d) ∙ g)
      by true false e d g f = let k : false ≡ true = sym (ap (λ c. c && list_all q (filter p xs)) d) ∙ g in absurd (cc)
      by false b e d g f = ap (λ c. cond c (x ∷ filter t xs) (filter t xs)) (outside x e) ∙ f g

  pub list_any-none : (p q : X → Bool) → ((x : X) → p x ≡ false → q x ≡ false) → (xs : List X) → list_any p xs ≡ false → list_any q xs ≡ false
  list_any-none p q less [] h = refl
  list_any-none p q less (x ∷ xs) h = by (p x) refl h (list_any-none p q less xs)
    where
      by : (b : Bool) → p x ≡ b → (b || list_any p xs) ≡ false → (list_any p xs ≡ false → list_any q xs ≡ false) → (q x || list_any q xs) ≡ false
      by true e g f = absurd (cc)
      by false e g f = ap (λ b. b || list_any q xs) (less x e) ∙ f g

  is_some-find : (p : X → Bool) (xs : List X) → is_some (find p xs) ≡ list_any p xs
  is_some-find p [] = refl
  is_some-find p (x ∷ xs) = by (p x) (is_some-find p xs)
    where
      by : (b : Bool) → is_some (find p xs) ≡ list_any p xs → is_some (cond b (Some x) (find p xs)) ≡ (b || list_any p xs)
      by true f = refl
      by false f = f

  filter-head : (p : X → Bool) (xs : List X) (first : X) (rest : List X) → filter p xs ≡ first ∷ rest → p first ≡ true
  filter-head p [] first rest h = absurd (cc)
  filter-head p (x ∷ xs) first rest h = by (p x) refl h (filter-head p xs first rest)
    where
      by : (b : Bool) → p x ≡ b → cond b (x ∷ filter p xs) (filter p xs) ≡ first ∷ rest → (filter p xs ≡ first ∷ rest → p first ≡ true) → p first ≡ true
      by true e g f = let same : x ≡ first = cc in ap p (sym same) ∙ e
      by false e g f = f g

and-false : (b : Bool) → (b && false) ≡ false
and-false true = refl
and-false false = refl

pub or-true : (b : Bool) → (b || true) ≡ true
or-true true = refl
or-true false = refl

-- ---- the references that a directive lists

pub is_listed-map : (at : MacroRef) (nodes : List MacroNode) → is_listed at (map (λ node. node.at) nodes) ≡ list_any (λ node. same_entity at node.at) nodes
is_listed-map at nodes = list_any-map (same_entity at) (λ node. node.at) nodes

same_entity-renumbered : (number : ℕ) (at listed : MacroRef) → same_entity at (renumbered number listed) ≡ same_entity at listed
same_entity-renumbered number at listed = by at.owner listed.owner
  where
    by : (a b : Owner) → same_entity (record at { owner = a }) (renumbered number (record listed { owner = b })) ≡ same_entity (record at { owner = a }) (record listed { owner = b })
    by a OfUnit = refl
    by a (Sub sub) = refl
    by a Builtin = refl
    by OfUnit Job = refl
    by (Sub sub) Job = refl
    by Job Job = refl
    by Builtin Job = refl

pub is_active-renumbered : (number : ℕ) (seen : Owner → Bool) (nodes : List MacroNode) (node : MacroNode) → is_active seen (map (with_job_number number) nodes) node ≡ is_active seen nodes node
is_active-renumbered number seen nodes node =
    let listed : (refs : List MacroRef) → is_listed node.at (map (renumbered number) refs) ≡ is_listed node.at refs =
    λ refs. list_any-map (same_entity node.at) (renumbered number) refs ∙ list_any-alike _ _ (same_entity-renumbered number node.at) refs in
    let overridden : is_overridden seen (map (with_job_number number) nodes) node.at ≡ is_overridden seen nodes node.at =
    list_any-map (λ n. seen n.at.owner && is_listed node.at n.overrides) (with_job_number number) nodes ∙ list_any-alike _ _ (λ n. ap (λ b. seen n.at.owner && b) (listed n.overrides)) nodes in
    ap (λ b. seen node.at.owner && not b) overridden

pub is_active-asked : (number : ℕ) (seen : Owner → Bool) (nodes : List MacroNode) (node : MacroNode) → is_active seen nodes (record node { at = renumbered number node.at }) ≡ is_active seen nodes node
is_active-asked number seen nodes node = by node.at.owner
  where
    by : (owner : Owner) → is_active seen nodes (record node { at = renumbered number (record node.at { owner = owner }) }) ≡ is_active seen nodes (record node { at = record node.at { owner = owner } })
    by OfUnit = refl
    by (Sub sub) = refl
    by Job = refl
    by Builtin = refl

filter-map : {X Y : Type 0} (p : Y → Bool) (f : X → Y) (xs : List X) → filter p (map f xs) ≡ map f (filter (λ x. p (f x)) xs)
filter-map p f [] = refl
filter-map p f (x ∷ xs) = by (p (f x)) (filter-map p f xs)
  where
    by : (b : Bool) → filter p (map f xs) ≡ map f (filter (λ y. p (f y)) xs) → cond b (f x ∷ filter p (map f xs)) (filter p (map f xs)) ≡ map f (cond b (x ∷ filter (λ y. p (f y)) xs) (filter (λ y. p (f y)) xs))
    by true h = ap (λ l. f x ∷ l) h
    by false h = h

meaning_from-renumbered : (number : ℕ) (nodes : List MacroNode) → meaning_from (map (with_job_number number) nodes) ≡ meaning_from nodes
meaning_from-renumbered number [] = refl
meaning_from-renumbered number (first ∷ others) = past others
  where
    by : (b : Bool) (node : MacroNode) (others : List MacroNode) → option_map_or (λ other. outcome.Ambiguous first.at other.at) (find (differ (with_job_number number first)) (map (with_job_number number) others)) (outcome.Macro first.at)
        ≡ option_map_or (λ other. outcome.Ambiguous first.at other.at) (find (differ first) others) (outcome.Macro first.at)
        → option_map_or (λ other. outcome.Ambiguous first.at other.at) (cond b (Some (with_job_number number node)) (find (differ (with_job_number number first)) (map (with_job_number number) others))) (outcome.Macro first.at)
        ≡ option_map_or (λ other. outcome.Ambiguous first.at other.at) (cond b (Some node) (find (differ first) others)) (outcome.Macro first.at)
    by true node others h = refl
    by false node others h = h

    past : (others : List MacroNode) → option_map_or (λ other. outcome.Ambiguous first.at other.at) (find (differ (with_job_number number first)) (map (with_job_number number) others)) (outcome.Macro first.at)
        ≡ option_map_or (λ other. outcome.Ambiguous first.at other.at) (find (differ first) others) (outcome.Macro first.at)
    past [] = refl
    past (node ∷ nodes) = by (differ first node) node nodes (past nodes)

pub meaning_of-renumbered : (number : ℕ) (seen : Owner → Bool) (nodes : List MacroNode) → meaning_of seen (map (with_job_number number) nodes) ≡ meaning_of seen nodes
meaning_of-renumbered number seen nodes =
    let same = filter-alike (is_active_define seen (map (with_job_number number) nodes)) (is_active_define seen nodes)
    (λ node. ap (λ b. is_some node.body && b) (is_active-renumbered number seen nodes node)) (map (with_job_number number) nodes) in
    ap meaning_from (same ∙ filter-map (is_active_define seen nodes) (with_job_number number) nodes)
    ∙ meaning_from-renumbered number (filter (is_active_define seen nodes) nodes)

-- ---- what is not visible

pub is_active-visible : (seen : Owner → Bool) (nodes : List MacroNode) (node : MacroNode) → is_active seen (visible seen nodes) node ≡ is_active seen nodes node
is_active-visible seen nodes node = ap (λ b. seen node.at.owner && not b) (list_any-filter (λ n. seen n.at.owner) (λ n. is_listed node.at n.overrides) nodes)

unseen-inactive : (seen : Owner → Bool) (nodes : List MacroNode) (node : MacroNode) → seen node.at.owner ≡ false → is_active_define seen nodes node ≡ false
unseen-inactive seen nodes node e = ap (λ b. is_some node.body && (b && not (is_overridden seen nodes node.at))) e ∙ and-false (is_some node.body)

pub meaning_of-visible : (seen : Owner → Bool) (nodes : List MacroNode) → meaning_of seen (visible seen nodes) ≡ meaning_of seen nodes
meaning_of-visible seen nodes =
    ap meaning_from (filter-alike _ _ (λ node. ap (λ b. is_some node.body && b) (is_active-visible seen nodes node)) (visible seen nodes)
    ∙ filter-filter (λ node. seen node.at.owner) (is_active_define seen nodes) (unseen-inactive seen nodes) nodes)

-- ---- a directive that overrides all before it

module _ (seen : Owner → Bool) (nodes : List MacroNode) (last : MacroNode) (shown : seen last.at.owner ≡ true) (lists : lists_visible seen nodes last.overrides ≡ true) where
  overridden-inactive : (node : MacroNode) → is_listed node.at last.overrides ≡ true → is_active_define seen (nodes ++ last ∷ []) node ≡ false
  overridden-inactive node listed =
      let by_last : is_overridden seen (last ∷ []) node.at ≡ true = ap (λ b. (b && is_listed node.at last.overrides) || false) shown ∙ ap (λ b. b || false) listed in
      let overridden : is_overridden seen (nodes ++ last ∷ []) node.at ≡ true =
      list_any-append (λ n. seen n.at.owner && is_listed node.at n.overrides) nodes (last ∷ []) ∙ ap (λ b. is_overridden seen nodes node.at || b) by_last ∙ or-true (is_overridden seen nodes node.at) in
      ap (λ b. is_some node.body && (seen node.at.owner && not b)) overridden ∙ ap (λ b. is_some node.body && b) (and-false (seen node.at.owner)) ∙ and-false (is_some node.body)

  earlier-inactive : filter (is_active_define seen (nodes ++ last ∷ [])) nodes ≡ []
  earlier-inactive =
      filter-nothing (λ node. seen node.at.owner) (λ node. is_listed node.at last.overrides) (is_active_define seen (nodes ++ last ∷ []))
      (λ node e. unseen-inactive seen (nodes ++ last ∷ []) node e) (λ node e listed. overridden-inactive node listed) nodes lists

  meaning_of-last : meaning_of seen (nodes ++ last ∷ []) ≡ meaning_from (cond (is_active_define seen (nodes ++ last ∷ []) last) (last ∷ []) [])
  meaning_of-last =
      ap meaning_from (filter-append (is_active_define seen (nodes ++ last ∷ [])) nodes (last ∷ [])
      ∙ ap (λ l. l ++ filter (is_active_define seen (nodes ++ last ∷ [])) (last ∷ [])) earlier-inactive)

  pub meaning_of-undef : last.body ≡ None → meaning_of seen (nodes ++ last ∷ []) ≡ outcome.None
  meaning_of-undef none =
      let inactive : is_active_define seen (nodes ++ last ∷ []) last ≡ false = ap (λ o. is_some o && is_active seen (nodes ++ last ∷ []) last) none in
      meaning_of-last ∙ ap (λ b. meaning_from (cond b (last ∷ []) [])) inactive

  pub meaning_of-define : (body : MacroBody) → is_overridden seen (nodes ++ last ∷ []) last.at ≡ false → last.body ≡ Some body → meaning_of seen (nodes ++ last ∷ []) ≡ outcome.Macro last.at
  meaning_of-define body free some =
      let active : is_active_define seen (nodes ++ last ∷ []) last ≡ true =
      ap (λ o. is_some o && is_active seen (nodes ++ last ∷ []) last) some ∙ ap (λ b. b && not (is_overridden seen (nodes ++ last ∷ []) last.at)) shown ∙ ap not free in
      meaning_of-last ∙ ap (λ b. meaning_from (cond b (last ∷ []) [])) active

-- ---- ambiguity

differ-between : (first a b : MacroNode) → is_some first.body ≡ true → differ first a ≡ false → differ first b ≡ false → differ a b ≡ false
differ-between first a b some one other = by first.body a.body b.body some one other
  where
    by : (f x y : Option MacroBody) → is_some f ≡ true → differ (record first { body = f }) (record a { body = x }) ≡ false → differ (record first { body = f }) (record b { body = y }) ≡ false
        → differ (record a { body = x }) (record b { body = y }) ≡ false
    by None x y s d e = absurd (cc)
    by (Some f) None y s d e = refl
    by (Some f) (Some x) None s d e = refl
    by (Some f) (Some x) (Some y) s d e = sym (ap not (definitions_equiv.congr f x y (not-false _ d))) ∙ e
      where
        not-false : (b : Bool) → not b ≡ false → b ≡ true
        not-false true h = refl
        not-false false h = absurd (cc)

ambiguous-first : (first : MacroNode) (others : List MacroNode) → is_some first.body ≡ true → is_ambiguous (meaning_from (first ∷ others)) ≡ some_differ (first ∷ others)
ambiguous-first first others some = ambiguous (find (differ first) others) ∙ is_some-find (differ first) others ∙ sym (any (list_any (differ first) others) refl)
  where
    ambiguous : (o : Option MacroNode) → is_ambiguous (option_map_or (λ other. outcome.Ambiguous first.at other.at) o (outcome.Macro first.at)) ≡ is_some o
    ambiguous None = refl
    ambiguous (Some other) = refl

    head : list_any (differ first) (first ∷ others) ≡ list_any (differ first) others
    head = ap (λ b. b || list_any (differ first) others) (differ-self first)

    none : list_any (differ first) others ≡ false → (a : MacroNode) → differ first a ≡ false → list_any (differ a) (first ∷ others) ≡ false
    none alike a d =
        ap (λ b. b || list_any (differ a) others) (differ-between first a first some d (differ-self first))
        ∙ list_any-none (differ first) (differ a) (λ b e. differ-between first a b some d e) others alike

    any : (r : Bool) → list_any (differ first) others ≡ r → some_differ (first ∷ others) ≡ r
    any true e = ap (λ b. b || list_any (λ a. list_any (differ a) (first ∷ others)) others) (head ∙ e)
    any false e =
        ap (λ b. b || list_any (λ a. list_any (differ a) (first ∷ others)) others) (head ∙ e)
        ∙ list_any-none (differ first) (λ a. list_any (differ a) (first ∷ others)) (none e) others e

pub ambiguous-differ : (seen : Owner → Bool) (nodes : List MacroNode) → is_ambiguous (meaning_of seen nodes) ≡ some_differ (filter (is_active_define seen nodes) nodes)
ambiguous-differ seen nodes = by (filter (is_active_define seen nodes) nodes) refl
  where
    has_body : (b c : Bool) → (b && c) ≡ true → b ≡ true
    has_body true c h = refl
    has_body false c h = absurd (cc)

    by : (defines : List MacroNode) → filter (is_active_define seen nodes) nodes ≡ defines → is_ambiguous (meaning_from defines) ≡ some_differ defines
    by [] e = refl
    by (first ∷ others) e = ambiguous-first first others (has_body _ _ (filter-head (is_active_define seen nodes) nodes first others e))
