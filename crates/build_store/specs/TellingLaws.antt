-- Laws of what calls report of the modules that they begin: nothing is reported where nothing is begun, and calls one after
-- another report what they begin together. own
use Rattle.std.proofs.Common.{◌≡◌, ◌⊎◌, inl, inr, refl, sym, ap, ◌∙◌, subst, ℕ, ◌+◌, ◌^◌, ◌<◌, ◌≤◌, Bool, true, false, ◌==◌, List, [], ◌∷◌, ◌++◌, length, append_assoc, Option, Some, None, arith, true≢false, eq-eqb, eqb-true}
use Rattle.std.proofs.lemmas.Bool.{or_cases, or_left, or_right}
use Rattle.std.proofs.lemmas.List.{append-nil, map-append}
use Rattle.std.proofs.lemmas.Option.{slice_get_cases}
use Rattle.std.specs.Option.{option_map_or}
use Rattle.cm_outside.specs.Faults.{Rose}
use Rattle.cm_outside.specs.Trees.{Files, Path, file_at}
use Rattle.cm_outside.specs.declared.question.Question.{Question}
use Rattle.cm_outside.specs.declared.question.Answer.{Answer}
use Rattle.module_file.specs.ModuleFile.{file_name_of}
use Rattle.module_file.specs.declared.index.Index.{Index}
use Rattle.module_file.specs.declared.index.Key.{Key}
use Rattle.build_store.specs.Images.{key_of}
use Rattle.build_store.specs.Modules.{is_in}
use Rattle.build_store.specs.Origins.{IsOrigin}
use Rattle.build_store.specs.Report.{AreFaults, ComeFrom, HasOwnFiles, count_by, counted, fits, one_if_built, one_if_unreadable}
use Rattle.build_store.specs.Targets.{HasOwnNames, name_of, number_of}
use Rattle.build_store.specs.Telling.{IsFileOf, Tells, TellsOf, numbers_of_noted, origins_of_noted}
use Rattle.build_store.specs.declared.held.Held.{Held}
use Rattle.build_store.specs.declared.held.Noted.{Noted}
use Rattle.build_store.specs.declared.job.Job.{Job}
use Rattle.build_store.specs.declared.origin.Origin.{Origin}
use Rattle.build_store.specs.declared.origin.Origin.TheVariants.{Loaded, Built}
use Rattle.build_store.specs.declared.origin.Reason.TheVariants.{Missing, Unreadable, OtherVersion, Damaged, OtherKey, Outdated}
use Rattle.build_store.specs.declared.table.Table.{Table}
use Rattle.build_store.specs.declared.table.Target.{Target}

-- ---- numbers in lists

pub in_head : (x : ℕ) (xs : List ℕ) → is_in x (x ∷ xs) ≡ true
in_head x xs = or_left (x == x) (is_in x xs) (eq-eqb x x refl)

pub in_tail : (x y : ℕ) (xs : List ℕ) → is_in x xs ≡ true → is_in x (y ∷ xs) ≡ true
in_tail x y xs e = or_right (x == y) (is_in x xs) e

pub in_cases : (x y : ℕ) (xs : List ℕ) → is_in x (y ∷ xs) ≡ true → (x ≡ y) ⊎ (is_in x xs ≡ true)
in_cases x y xs e = elim (or_cases (x == y) (is_in x xs) e) [ inl same ↦ inl (eqb-true x y same) | inr more ↦ inr more ]

pub in_append_left : (x : ℕ) (xs ys : List ℕ) → is_in x xs ≡ true → is_in x (xs ++ ys) ≡ true
in_append_left x [] ys e = absurd (true≢false (sym e))
in_append_left x (y ∷ xs) ys e =
    elim (or_cases (x == y) (is_in x xs) e) [ inl same ↦ or_left (x == y) (is_in x (xs ++ ys)) same | inr more ↦ or_right (x == y) (is_in x (xs ++ ys)) (in_append_left x xs ys more) ]

pub in_append_right : (x : ℕ) (xs ys : List ℕ) → is_in x ys ≡ true → is_in x (xs ++ ys) ≡ true
in_append_right x [] ys e = e
in_append_right x (y ∷ xs) ys e = or_right (x == y) (is_in x (xs ++ ys)) (in_append_right x xs ys e)

pub in_append : (x : ℕ) (xs ys : List ℕ) → is_in x (xs ++ ys) ≡ true → (is_in x xs ≡ true) ⊎ (is_in x ys ≡ true)
in_append x [] ys e = inr e
in_append x (y ∷ xs) ys e =
    elim (or_cases (x == y) (is_in x (xs ++ ys)) e) [
      | inl same ↦ inl (or_left (x == y) (is_in x xs) same)
      | inr more ↦ elim (in_append x xs ys more) [ inl here ↦ inl (or_right (x == y) (is_in x xs) here) | inr there ↦ inr there ]
    ]

-- ---- counts and origins

pub no_less : (n : ℕ) → n ≤ n
no_less n = omega arith

pub no_less_then : (a b c : ℕ) → a ≤ b → b ≤ c → a ≤ c
no_less_then a b c h k = omega arith

count_both : (f : Origin → ℕ) (os ps : List Origin) → count_by f (os ++ ps) ≡ count_by f os + count_by f ps
count_both f [] ps = omega arith
count_both f (o ∷ os) ps = let rest = count_both f os ps in omega (arith, rest)

origin_on : (fits_in : Index → Bool) (failed now : Type 0) (key : Key) (t : Question → Answer) (file : Option (List ℕ)) (o : Origin) → (failed → now)
    → IsOrigin fits_in failed key t file o → IsOrigin fits_in now key t file o
origin_on fits_in failed now key t file Loaded on h = h
origin_on fits_in failed now key t file (Built Missing) on h = h
origin_on fits_in failed now key t file (Built Unreadable) on h = on h
origin_on fits_in failed now key t file (Built OtherVersion) on h = h
origin_on fits_in failed now key t file (Built Damaged) on h = h
origin_on fits_in failed now key t file (Built OtherKey) on h = h
origin_on fits_in failed now key t file (Built (Outdated path)) on h = h

come_both : (failed : Type 0) (files : Files) (job : Job) (table : Table) (t : Question → Answer) (xs ys : List ℕ) (os ps : List Origin)
    → ComeFrom failed files job table t xs os → ComeFrom failed files job table t ys ps → ComeFrom failed files job table t (xs ++ ys) (os ++ ps)
come_both failed files job table t [] ys [] ps h k = k
come_both failed files job table t (x ∷ xs) ys (o ∷ os) ps h k = (h.0, come_both failed files job table t xs ys os ps h.1 k)
come_both failed files job table t [] ys (o ∷ os) ps h k = absurd h
come_both failed files job table t (x ∷ xs) ys [] ps h k = absurd h

name_at : Job → Table → ℕ → Path
name_at job table x = file_name_of (key_of job (name_of table x))

-- over files that have the same of these modules
come_on : (failed now : Type 0) (files other : Files) (job : Job) (table : Table) (t : Question → Answer) (xs : List ℕ) (os : List Origin) → (failed → now)
    → ((x : ℕ) → is_in x xs ≡ true → file_at (file_name_of (key_of job (name_of table x))) files ≡ file_at (file_name_of (key_of job (name_of table x))) other)
    → ComeFrom failed files job table t xs os → ComeFrom now other job table t xs os
come_on failed now files other job table t [] [] on same h = tt
come_on failed now files other job table t (x ∷ xs) (o ∷ os) on same h =
    let P : Option (List ℕ) → Type 0 = λ file. IsOrigin (fits table) now (key_of job (name_of table x)) t file o in (
      subst P (same x (here x xs)) (origin_on (fits table) failed now (key_of job (name_of table x)) t (file_at (file_name_of (key_of job (name_of table x))) files) o on h.0),
      come_on failed now files other job table t xs os on (λ y e. same y (there y x xs e)) h.1,
    )
  where
    here : (x : ℕ) (xs : List ℕ) → is_in x (x ∷ xs) ≡ true
    here x xs = in_head x xs

    there : (y x : ℕ) (xs : List ℕ) → is_in y xs ≡ true → is_in y (x ∷ xs) ≡ true
    there y x xs e = in_tail y x xs e
come_on failed now files other job table t [] (o ∷ os) on same h = absurd h
come_on failed now files other job table t (x ∷ xs) [] on same h = absurd h

-- ---- no two modules have one file

pub name_is : (table : Table) → HasOwnNames table → (x : ℕ) → x < length table.targets → number_of table (name_of table x) ≡ Some x
name_is table names x within =
    let cases = slice_get_cases table.targets x in
    elim (cases.1) [
      | inl found ↦ ap (number_of table) (ap (λ (o : Option Target). option_map_or (λ (m : Target). m.name) o []) found.2) ∙ names.numbered x found.0 found.2
      | inr past ↦ absurd (omega (arith, past.0))
    ]

pub apart : (table : Table) → HasOwnNames table → (x y : ℕ) → x < length table.targets → y < length table.targets → name_of table x ≡ name_of table y → x ≡ y
apart table names x y a b e =
    let p : number_of table (name_of table x) ≡ Some x = name_is table names x a in
    let q : number_of table (name_of table y) ≡ Some y = name_is table names y b in
    let r : number_of table (name_of table x) ≡ number_of table (name_of table y) = ap (number_of table) e in
    cc

-- ---- nothing is begun

pub tells_same : (fs : Option Files) (h : Held) (t : Question → Answer) (c k : ℕ) → Tells fs fs h h t c c k k
tells_same None h t c k = tt
tells_same (Some files) h t c k = λ own names. (
  refl,
  refl,
  record {
    more = [];
    noted = sym (append-nil h.noted);
    numbers = λ x e. absurd (cc);
    fresh = λ x e. absurd (cc);
    come_from = tt;
    compiles = λ below. omega arith;
    faults = omega arith;
    later = omega arith;
    others = λ name other. refl;
  },
)

-- ---- one after another

module _ (job : Job) (table : Table) (own : HasOwnFiles job table) (names : HasOwnNames table) (t : Question → Answer) where
  module _ (x y z : Files) (n0 n1 n2 : List Noted) (c0 c1 c2 k0 k1 k2 : ℕ) (a : TellsOf x y job table n0 n1 t c0 c1 k0 k1) (b : TellsOf y z job table n1 n2 t c1 c2 k1 k2) where
    numbers_both : (ms ns : List Noted) → numbers_of_noted (ms ++ ns) ≡ numbers_of_noted ms ++ numbers_of_noted ns
    numbers_both ms ns = map-append (λ (n : Noted). n.number) ms ns

    origins_both : (ms ns : List Noted) → origins_of_noted (ms ++ ns) ≡ origins_of_noted ms ++ origins_of_noted ns
    origins_both ms ns = map-append (λ (n : Noted). n.origin) ms ns

    in_either : (m : ℕ) → is_in m (numbers_of_noted (a.more ++ b.more)) ≡ true → (is_in m (numbers_of_noted a.more) ≡ true) ⊎ (is_in m (numbers_of_noted b.more) ≡ true)
    in_either m e = in_append m (numbers_of_noted a.more) (numbers_of_noted b.more) (ap (is_in m) (sym (numbers_both a.more b.more)) ∙ e)

    in_later : (m : ℕ) (ms ns more : List Noted) → ns ≡ ms ++ more → is_in m (numbers_of_noted ms) ≡ true → is_in m (numbers_of_noted ns) ≡ true
    in_later m ms ns more is e = ap (λ l. is_in m (numbers_of_noted l)) is ∙ ap (is_in m) (numbers_both ms more) ∙ in_append_left m (numbers_of_noted ms) (numbers_of_noted more) e

    not_before : (m : ℕ) → is_in m (numbers_of_noted n1) ≡ false → is_in m (numbers_of_noted n0) ≡ false
    not_before m absent = by (is_in m (numbers_of_noted n0)) refl
      where
        by : (v : Bool) → is_in m (numbers_of_noted n0) ≡ v → is_in m (numbers_of_noted n0) ≡ false
        by false e = e
        by true e = let f : is_in m (numbers_of_noted n1) ≡ true = in_later m n0 n1 a.more a.noted e in absurd (cc)

    fresh_both : (m : ℕ) → is_in m (numbers_of_noted (a.more ++ b.more)) ≡ true → is_in m (numbers_of_noted n0) ≡ false
    fresh_both m e = elim (in_either m e) [ inl h ↦ a.fresh m h | inr h ↦ not_before m (b.fresh m h) ]

    -- the file of a module that is begun later hasn't changed before
    file_same : (m : ℕ) → is_in m (numbers_of_noted b.more) ≡ true → file_at (file_name_of (key_of job (name_of table m))) y ≡ file_at (file_name_of (key_of job (name_of table m))) x
    file_same m e = a.others (file_name_of (key_of job (name_of table m))) never
      where
        never : IsFileOf job table (numbers_of_noted n1) (file_name_of (key_of job (name_of table m))) → ⊥
        never is =
            let same : m ≡ is.0 = apart table names m is.0 (b.numbers m e) is.2 (own m is.0 (b.numbers m e) is.2 is.3) in
            let there : is_in m (numbers_of_noted n1) ≡ true = ap (λ v. is_in v (numbers_of_noted n1)) same ∙ is.1 in
            let absent : is_in m (numbers_of_noted n1) ≡ false = b.fresh m e in
            absurd (cc)

    come_all : ComeFrom (Rose k0 k2) x job table t (numbers_of_noted (a.more ++ b.more)) (origins_of_noted (a.more ++ b.more))
    come_all =
        let P : List ℕ → List Origin → Type 0 = λ ns os. ComeFrom (Rose k0 k2) x job table t ns os in
        let first = come_on (Rose k0 k1) (Rose k0 k2) x x job table t (numbers_of_noted a.more) (origins_of_noted a.more) (λ r. omega (arith, r, b.later)) (λ m e. refl) a.come_from in
        let second = come_on (Rose k1 k2) (Rose k0 k2) y x job table t (numbers_of_noted b.more) (origins_of_noted b.more) (λ r. omega (arith, r, a.later)) file_same b.come_from in
        let whole = come_both (Rose k0 k2) x job table t (numbers_of_noted a.more) (numbers_of_noted b.more) (origins_of_noted a.more) (origins_of_noted b.more) first second in
        subst (λ (ns : List ℕ). P ns (origins_of_noted (a.more ++ b.more))) (sym (numbers_both a.more b.more))
        (subst (λ (os : List Origin). P (numbers_of_noted a.more ++ numbers_of_noted b.more) os) (sym (origins_both a.more b.more)) whole)

    counts_all : c0 < 2 ^ 64 → c2 ≡ counted c0 (origins_of_noted (a.more ++ b.more))
    counts_all below =
        let whole : count_by one_if_built (origins_of_noted (a.more ++ b.more)) ≡ count_by one_if_built (origins_of_noted a.more) + count_by one_if_built (origins_of_noted b.more) =
        ap (count_by one_if_built) (origins_both a.more b.more) ∙ count_both one_if_built (origins_of_noted a.more) (origins_of_noted b.more) in
        let first = a.compiles below in
        let second = b.compiles (omega (arith, first)) in
        omega (arith, first, second, whole)

    faults_all : AreFaults k0 k2 (origins_of_noted (a.more ++ b.more))
    faults_all =
        let whole : count_by one_if_unreadable (origins_of_noted (a.more ++ b.more)) ≡ count_by one_if_unreadable (origins_of_noted a.more) + count_by one_if_unreadable (origins_of_noted b.more) =
        ap (count_by one_if_unreadable) (origins_both a.more b.more) ∙ count_both one_if_unreadable (origins_of_noted a.more) (origins_of_noted b.more) in
        omega (arith, whole, a.faults, b.faults, a.later, b.later)

    others_all : (name : Path) → (IsFileOf job table (numbers_of_noted n2) name → ⊥) → file_at name z ≡ file_at name x
    others_all name other = b.others name other ∙ a.others name (λ is. other (is.0, in_later is.0 n1 n2 b.more b.noted is.1, is.2, is.3))

    tells_of_both : TellsOf x z job table n0 n2 t c0 c2 k0 k2
    tells_of_both = record {
      more = a.more ++ b.more;
      noted = b.noted ∙ ap (λ ns. ns ++ b.more) a.noted ∙ append_assoc n0 a.more b.more;
      numbers = λ m e. elim (in_either m e) [ inl h ↦ a.numbers m h | inr h ↦ b.numbers m h ];
      fresh = fresh_both;
      come_from = come_all;
      compiles = counts_all;
      faults = faults_all;
      later = omega (arith, a.later, b.later);
      others = others_all;
    }

pub tells_then : (fa fb fc : Option Files) (a b c : Held) (t : Question → Answer) (c0 c1 c2 k0 k1 k2 : ℕ) → Tells fa fb a b t c0 c1 k0 k1 → Tells fb fc b c t c1 c2 k1 k2 → Tells fa fc a c t c0 c2 k0 k2
tells_then None fb fc a b c t c0 c1 c2 k0 k1 k2 h k = tt
tells_then (Some x) None fc a b c t c0 c1 c2 k0 k1 k2 h k = absurd h
tells_then (Some x) (Some y) None a b c t c0 c1 c2 k0 k1 k2 h k = k
tells_then (Some x) (Some y) (Some z) a b c t c0 c1 c2 k0 k1 k2 h k = λ own names.
    let first = h own names in
    let F : Job × Table → Type 0 = λ j. HasOwnFiles j.0 j.1 in
    let second = k (subst F (λ i. (sym first.0 i, sym first.1 i)) own) (subst (λ (j : Table). HasOwnNames j) (sym first.1) names) in
    let S : Job × Table → Type 0 = λ j. TellsOf y z j.0 j.1 b.noted c.noted t c1 c2 k1 k2 in
    (second.0 ∙ first.0, second.1 ∙ first.1, tells_of_both a.job a.table own names t x y z a.noted b.noted c.noted c0 c1 c2 k0 k1 k2 first.2 (subst S (λ i. (first.0 i, first.1 i)) second.2))
