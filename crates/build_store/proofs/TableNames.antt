-- No two modules of a table have one name.
use Rattle.std.proofs.Common.{◌≡◌, ◌+◌, ℕ, zero, suc, Bool, true, false, ◌||◌, ◌&&◌, List, [], ◌∷◌, ◌++◌, length, position, slice_get, Option, Some, None, refl, sym, ap, subst, ◌∙◌, arith, append_assoc, true≢false, ⊎_elim}
use Rattle.std.specs.Prelude.{if◌then◌else◌, nat_lt, option_and_then}
use Rattle.std.specs.List.{list_any, position_or_len}
use Rattle.std.specs.Option.{option_map, option_or, is_none}
use Rattle.std.specs.Str.{bytes_eq}
use Rattle.std.proofs.lemmas.Bool.{cases_lt, lt-ltb, le-ltb, ltb-true}
use Rattle.std.proofs.lemmas.List.{append-nil}
use Rattle.std.proofs.lemmas.Slice.Eq.{bytes_eq-Decides}
use Rattle.cm_outside.specs.Asks.{Asks, Ask, Done, value, value-then_ask}
use Rattle.cm_outside.specs.declared.question.Question.{Question}
use Rattle.cm_outside.specs.declared.question.Answer.{Answer}
use Rattle.cm_outside.specs.declared.question.Answer.TheVariants.{Absent, Bytes, TooLarge, Paths}
use Rattle.cm_outside.specs.declared.question.Question.TheVariants.{Read}
use Rattle.unit_fold.specs.Lines.{lines}
use Rattle.build_store.specs.Names.{next_line}
use Rattle.build_store.specs.Tables.{clashes, declares, empty_table, first_fault, is_read, is_whole, map_line, map_lines, map_of, nothing_read, read_maps, settled, table_of, then_target, unknown_export, unless_clashing, with_map, with_maps, with_target}
use Rattle.build_store.specs.Targets.{HasOwnNames}
use Rattle.build_store.specs.declared.map_read.MapRead.{MapRead}
use Rattle.build_store.specs.declared.table.Table.{Table}
use Rattle.build_store.specs.declared.table.Target.{Target}
use Rattle.build_store.proofs.ListLemmas.{some≢none}

-- ---- tests

or_false : (b c : Bool) → (b || c) ≡ false → (b ≡ false) × (c ≡ false)
or_false true c e = absurd (true≢false e)
or_false false c e = (refl, e)

false_or : (b c : Bool) → b ≡ false → c ≡ false → (b || c) ≡ false
false_or b c e f = ap (λ x. x || c) e ∙ f

module _ {X : Type 0} (p : X → Bool) where
  position_head : (x : X) (xs : List X) → p x ≡ true → position p (x ∷ xs) ≡ Some 0
  position_head x xs e = rw (e, lt-ltb 0 (length (x ∷ xs)) (omega arith)) refl

  position_next : (x : X) (xs : List X) → p x ≡ false → position p (x ∷ xs) ≡ option_map (λ k. k + 1) (position p xs)
  position_next x xs e = go (nat_lt (position_or_len p xs) (length xs)) refl
    where
      go : (b : Bool) → nat_lt (position_or_len p xs) (length xs) ≡ b → position p (x ∷ xs) ≡ option_map (λ k. k + 1) (position p xs)
      go true t =
          let lt = ltb-true _ _ t in
          let turned : 1 + position_or_len p xs ≡ position_or_len p xs + 1 = omega arith in
          rw (e, t, lt-ltb (1 + position_or_len p xs) (suc (length xs)) (omega arith)) (ap Some turned)
      go false t = ⊎_elim
          (λ lt. absurd (true≢false (sym (lt-ltb _ _ lt) ∙ t)))
          (λ ge.
          let inner = le-ltb (1 + position_or_len p xs) (suc (length xs)) (omega arith) in
          rw (e, t, inner) refl)
          (cases_lt (position_or_len p xs) (length xs))

  any_left : (xs ys : List X) → list_any p (xs ++ ys) ≡ false → list_any p xs ≡ false
  any_left [] ys e = refl
  any_left (x ∷ xs) ys e = let both = or_false (p x) (list_any p (xs ++ ys)) e in false_or (p x) (list_any p xs) both.0 (any_left xs ys both.1)

  any_right : (xs ys : List X) → list_any p (xs ++ ys) ≡ false → list_any p ys ≡ false
  any_right [] ys e = e
  any_right (x ∷ xs) ys e = any_right xs ys (or_false (p x) (list_any p (xs ++ ys)) e).1

  any_both : (xs ys : List X) → list_any p xs ≡ false → list_any p ys ≡ false → list_any p (xs ++ ys) ≡ false
  any_both [] ys e f = f
  any_both (x ∷ xs) ys e f = let both = or_false (p x) (list_any p xs) e in false_or (p x) (list_any p (xs ++ ys)) both.0 (any_both xs ys both.1 f)

  any_at : (xs : List X) (k : ℕ) (x : X) → list_any p xs ≡ false → slice_get xs k ≡ Some x → p x ≡ false
  any_at [] k x e there = absurd (some≢none (sym there))
  any_at (y ∷ xs) zero x e there = let same : y ≡ x = cc in ap p (sym same) ∙ (or_false (p y) (list_any p xs) e).0
  any_at (y ∷ xs) (suc k) x e there = any_at xs k x (or_false (p y) (list_any p xs) e).1 there

-- ---- modules of different names

abbrev is_called : Target → Target → Bool
is_called m other = bytes_eq m.name other.name

abbrev AreNamed : List Target → Type 0
AreNamed [] = Unit {0}
AreNamed (m ∷ ms) = (list_any (is_called m) ms ≡ false) × AreNamed ms

called_first : (ms : List Target) (x : ℕ) (m : Target) → AreNamed ms → slice_get ms x ≡ Some m → position (λ (u : Target). bytes_eq u.name m.name) ms ≡ Some x
called_first [] x m named there = absurd (some≢none (sym there))
called_first (u ∷ ms) zero m named there =
    let same : u ≡ m = cc in
    position_head (λ (u : Target). bytes_eq u.name m.name) u ms (ap (λ (w : Target). bytes_eq w.name m.name) same ∙ (bytes_eq-Decides m.name m.name).1 refl)
called_first (u ∷ ms) (suc x) m named there =
    let other : bytes_eq u.name m.name ≡ false = any_at (is_called u) ms x m named.0 there in
    let next : x + 1 ≡ suc x = omega arith in
    position_next (λ (u : Target). bytes_eq u.name m.name) u ms other ∙ ap (option_map (λ k. k + 1)) (called_first ms x m named.1 there) ∙ ap Some next

-- one more
named_more : (ms : List Target) (t : Target) → AreNamed ms → list_any (λ (u : Target). bytes_eq u.name t.name) ms ≡ false → AreNamed (ms ++ t ∷ [])
named_more [] t named e = (refl, tt)
named_more (m ∷ ms) t named e =
    let both = or_false (bytes_eq m.name t.name) (list_any (λ (u : Target). bytes_eq u.name t.name) ms) e in
    (any_both (is_called m) ms (t ∷ []) named.0 (false_or (bytes_eq m.name t.name) false both.0 refl), named_more ms t named.1 both.1)

-- without those in the middle
named_without : (ms us vs : List Target) → AreNamed (ms ++ (us ++ vs)) → AreNamed (ms ++ vs)
named_without [] [] vs named = named
named_without [] (u ∷ us) vs named = named_without [] us vs named.1
named_without (m ∷ ms) us vs named = (
  any_both (is_called m) ms vs (any_left (is_called m) ms (us ++ vs) named.0) (any_right (is_called m) us vs (any_right (is_called m) ms (us ++ vs) named.0)),
  named_without ms us vs named.1,
)

-- ---- the modules of the maps without a fault of their own

abbrev if_whole : Bool → List Target → List Target
if_whole true ms = ms
if_whole false ms = []

abbrev whole_targets : List MapRead → List Target
whole_targets [] = []
whole_targets (m ∷ maps) = if_whole (is_whole m) m.targets ++ whole_targets maps

whole_more : (maps : List MapRead) (m : MapRead) → whole_targets (maps ++ m ∷ []) ≡ whole_targets maps ++ if_whole (is_whole m) m.targets
whole_more [] m = append-nil (if_whole (is_whole m) m.targets)
whole_more (k ∷ maps) m =
    ap (λ ts. if_whole (is_whole k) k.targets ++ ts) (whole_more maps m) ∙ sym (append_assoc (if_whole (is_whole k) k.targets) (whole_targets maps) (if_whole (is_whole m) m.targets))

-- none of them passes the test
none_whole : (test : Target → Bool) (b : Bool) (ms : List Target) → (b && list_any test ms) ≡ false → list_any test (if_whole b ms) ≡ false
none_whole test true ms e = e
none_whole test false ms e = refl

none_declares : (test : Target → Bool) (maps : List MapRead) → declares test maps ≡ false → list_any test (whole_targets maps) ≡ false
none_declares test [] e = refl
none_declares test (m ∷ maps) e =
    let both = or_false (is_whole m && list_any test m.targets) (declares test maps) e in
    any_both test (if_whole (is_whole m) m.targets) (whole_targets maps) (none_whole test (is_whole m) m.targets both.0) (none_declares test maps both.1)

-- a name that none clashes with
none_called : (t : Target) (ms : List Target) → list_any (clashes t) ms ≡ false → list_any (λ (u : Target). bytes_eq u.name t.name) ms ≡ false
none_called t [] e = refl
none_called t (m ∷ ms) e =
    let both = or_false (clashes t m) (list_any (clashes t) ms) e in
    false_or (bytes_eq m.name t.name) (list_any (λ (u : Target). bytes_eq u.name t.name) ms) (or_false (bytes_eq m.name t.name) (bytes_eq m.header t.header) both.0).0 (none_called t ms both.1)

-- ---- the first step

module _ (earlier : List MapRead) where
  -- the modules of a map so far, behind those of the earlier ones
  abbrev IsNew : MapRead → Type 0
  IsNew m = AreNamed (whole_targets earlier ++ m.targets)

  new_more : (m : MapRead) (t : Target) → IsNew m → declares (clashes t) earlier ≡ false → list_any (clashes t) m.targets ≡ false → IsNew (with_target m t)
  new_more m t new e f =
      let P : List Target → Type 0 = λ ms. AreNamed ms in
      subst P (append_assoc (whole_targets earlier) m.targets (t ∷ []))
      (named_more (whole_targets earlier ++ m.targets) t new
      (any_both (λ (u : Target). bytes_eq u.name t.name) (whole_targets earlier) m.targets
      (none_called t (whole_targets earlier) (none_declares (clashes t) earlier e)) (none_called t m.targets f)))

  new_by : (m : MapRead) (n : ℕ) (more : MapRead → MapRead) → IsNew m → ((k : MapRead) → IsNew k → IsNew (more k)) → (o : Option Target)
      → IsNew (then_target m n (option_and_then (unless_clashing earlier m) o) more)
  new_by m n more new on None = new
  new_by m n more new on (Some t) = unless (declares (clashes t) earlier || list_any (clashes t) m.targets) refl
    where
      unless : (b : Bool) → (declares (clashes t) earlier || list_any (clashes t) m.targets) ≡ b → IsNew (then_target m n (if b then None else Some t) more)
      unless true e = new
      unless false e = let both = or_false (declares (clashes t) earlier) (list_any (clashes t) m.targets) e in on (with_target m t) (new_more m t new both.0 both.1)

  new_lines : (m : MapRead) (n : ℕ) (rest : List (List ℕ)) → IsNew m → IsNew (map_lines earlier m n rest)
  new_lines m n [] new = new
  new_lines m n (line ∷ rest) new =
      new_by m n (λ more. map_lines earlier more (next_line n) rest) new (λ k is. new_lines k (next_line n) rest is) (map_line m.map line)

  new_map : AreNamed (whole_targets earlier) → (map : List ℕ) (a : Answer) → IsNew (map_of earlier map a)
  new_map named map a = by (subst (λ (ms : List Target). AreNamed ms) (sym (append-nil (whole_targets earlier))) named) a
    where
      by : AreNamed (whole_targets earlier ++ []) → (a : Answer) → IsNew (map_of earlier map a)
      by none (Bytes bytes) = new_lines (nothing_read map) 1 (lines bytes) none
      by none Absent = none
      by none (TooLarge size) = none
      by none (Paths paths) = none

named_whole : (ms us : List Target) (b : Bool) → AreNamed (ms ++ us) → AreNamed ms → AreNamed (ms ++ if_whole b us)
named_whole ms us true both named = both
named_whole ms us false both named = subst (λ (ts : List Target). AreNamed ts) (sym (append-nil ms)) named

either_named : (t : Question → Answer) (b : Bool) (p q : Asks (List MapRead)) → AreNamed (whole_targets (value p t)) → AreNamed (whole_targets (value q t))
    → AreNamed (whole_targets (value (if b then p else q) t))
either_named t true p q first second = first
either_named t false p q first second = second

read_named : (t : Question → Answer) (earlier : List MapRead) (maps : List (List ℕ)) → AreNamed (whole_targets earlier) → AreNamed (whole_targets (value (read_maps earlier maps) t))
read_named t earlier [] named = named
read_named t earlier (map ∷ maps) named =
    let next = map_of earlier map (t (Read map)) in
    either_named t (is_read map earlier) (read_maps earlier maps) (Ask (Read map) (λ a. read_maps (earlier ++ map_of earlier map a ∷ []) maps))
    (read_named t earlier maps named)
    (read_named t (earlier ++ map_of earlier map (t (Read map)) ∷ []) maps
    (subst (λ (ts : List Target). AreNamed ts) (sym (whole_more earlier next))
    (named_whole (whole_targets earlier) next.targets (is_whole next) (new_map earlier named map (t (Read map))) named)))

-- ---- the second step

fault_none : (u v : Option ℕ) → option_or u v ≡ None → is_none v ≡ true
fault_none None None e = refl
fault_none None (Some n) e = absurd (some≢none e)
fault_none (Some m) v e = absurd (some≢none e)

settled_by : (maps : List MapRead) (table : Table) (m : MapRead) (more : List MapRead) → AreNamed (table.targets ++ (if_whole (is_whole m) m.targets ++ whole_targets more))
    → ((next : Table) → AreNamed (next.targets ++ whole_targets more) → AreNamed (with_maps maps next more).targets)
    → (o : Option ℕ) → first_fault maps m ≡ o → AreNamed (with_maps maps (with_map table m o) more).targets
settled_by maps table m more named on None e =
    let whole : is_whole m ≡ true = fault_none (unknown_export maps 1 m.targets) m.fault e in
    on (with_map table m None)
    (subst (λ (ts : List Target). AreNamed ts) (ap (λ b. table.targets ++ (if_whole b m.targets ++ whole_targets more)) whole ∙ sym (append_assoc table.targets m.targets (whole_targets more))) named)
settled_by maps table m more named on (Some n) e = on (with_map table m (Some n)) (named_without table.targets (if_whole (is_whole m) m.targets) (whole_targets more) named)

settled_named : (maps : List MapRead) (table : Table) (more : List MapRead) → AreNamed (table.targets ++ whole_targets more) → AreNamed (with_maps maps table more).targets
settled_named maps table [] named = subst (λ (ts : List Target). AreNamed ts) (append-nil table.targets) named
settled_named maps table (m ∷ more) named = settled_by maps table m more named (λ next is. settled_named maps next more is) (first_fault maps m) refl

-- ---- the table

pub own_names : (maps : List (List ℕ)) (t : Question → Answer) → HasOwnNames (value (table_of maps) t)
unfolding table_of
own_names maps t =
    let all = value (read_maps [] maps) t in
    let named : AreNamed (settled all).targets = settled_named all empty_table all (read_named t [] maps tt) in
    let P : Table → Type 0 = λ table. HasOwnNames table in
    subst P (sym (value-then_ask (read_maps [] maps) (λ all. Done (settled all)) t))
    (record { numbered = λ x m there. called_first (settled all).targets x m named there })
