-- A table has each name and each header once.
use Rattle.std.proofs.Common.{◌≡◌, ℕ, zero, suc, Bool, true, false, ◌&&◌, ◌||◌, if◌then◌else◌, List, [], ◌∷◌, ◌++◌, slice_get, Option, Some, None, option_and_then, refl, sym, ap, subst, ◌∙◌, append_assoc}
use Rattle.std.specs.List.{list_any}
use Rattle.std.specs.Option.{option_or}
use Rattle.std.specs.Str.{bytes_eq}
use Rattle.std.proofs.lemmas.List.Folds.{list_any-append}
use Rattle.std.proofs.lemmas.List.{append-nil}
use Rattle.std.proofs.lemmas.Slice.Eq.{bytes_eq-Decides}
use Rattle.std.proofs.Math.Bool.{true≢false}
use Rattle.cm_outside.specs.Asks.{Asks, Done, Ask, value, value-then_ask}
use Rattle.cm_outside.specs.declared.question.Question.{Question}
use Rattle.cm_outside.specs.declared.question.Question.TheVariants.{Read}
use Rattle.cm_outside.specs.declared.question.Answer.{Answer}
use Rattle.cm_outside.specs.declared.question.Answer.TheVariants.{Absent, Bytes, TooLarge, Paths}
use Rattle.unit_fold.specs.Lines.{lines}
use Rattle.build_store.specs.Names.{next_line}
use Rattle.build_store.specs.Tables.{clashes, declares, empty_table, first_fault, is_read, is_whole, map_line, map_lines, map_of, new_target, nothing_read, read_maps, settled, table_of, then_target, unknown_export, unless_clashing, with_map, with_maps}
use Rattle.build_store.specs.declared.map_read.MapRead.{MapRead}
use Rattle.build_store.specs.declared.table.Table.{Table}
use Rattle.build_store.specs.declared.table.Target.{Target}

-- none of these modules has the name or the header of an earlier one
abbrev EachOnce : List Target → Type 0
EachOnce [] = Unit {0}
EachOnce (t ∷ ts) = (list_any (λ u. clashes u t) ts ≡ false) × EachOnce ts

or_left : (a b : Bool) → (a || b) ≡ false → a ≡ false
or_left true b h = absurd (true≢false h)
or_left false b h = refl

or_right : (a b : Bool) → (a || b) ≡ false → b ≡ false
or_right true b h = absurd (true≢false h)
or_right false b h = h

or_both : (a b : Bool) → a ≡ false → b ≡ false → (a || b) ≡ false
or_both a b p q = ap (λ x. x || b) p ∙ q

any_left : (p : Target → Bool) (xs ys : List Target) → list_any p (xs ++ ys) ≡ false → list_any p xs ≡ false
any_left p xs ys h = or_left (list_any p xs) (list_any p ys) (sym (list_any-append p xs ys) ∙ h)

any_right : (p : Target → Bool) (xs ys : List Target) → list_any p (xs ++ ys) ≡ false → list_any p ys ≡ false
any_right p xs ys h = or_right (list_any p xs) (list_any p ys) (sym (list_any-append p xs ys) ∙ h)

any_both : (p : Target → Bool) (xs ys : List Target) → list_any p xs ≡ false → list_any p ys ≡ false → list_any p (xs ++ ys) ≡ false
any_both p xs ys a b = list_any-append p xs ys ∙ or_both (list_any p xs) (list_any p ys) a b

-- one module more
once_more : (ts : List Target) (u : Target) → EachOnce ts → list_any (clashes u) ts ≡ false → EachOnce (ts ++ u ∷ [])
once_more [] u h free = (refl, tt)
once_more (t ∷ ts) u h free = (
  any_both (λ v. clashes v t) ts (u ∷ []) h.0 (or_both (clashes u t) false (or_left (clashes u t) (list_any (clashes u) ts) free) refl),
  once_more ts u h.1 (or_right (clashes u t) (list_any (clashes u) ts) free),
)

-- some modules fewer
once_rest : (xs ys : List Target) → EachOnce (xs ++ ys) → EachOnce ys
once_rest [] ys h = h
once_rest (x ∷ xs) ys h = once_rest xs ys h.1

once_without : (xs ys zs : List Target) → EachOnce (xs ++ (ys ++ zs)) → EachOnce (xs ++ zs)
once_without [] ys zs h = once_rest ys zs h
once_without (x ∷ xs) ys zs h =
    let p : Target → Bool = λ v. clashes v x in
    (any_both p xs zs (any_left p xs (ys ++ zs) h.0) (any_right p ys zs (any_right p xs (ys ++ zs) h.0)), once_without xs ys zs h.1)

-- ---- what the maps that were read declare

abbrev if_whole : Bool → List Target → List Target
if_whole true ts = ts
if_whole false ts = []

abbrev declared_by : List MapRead → List Target
declared_by [] = []
declared_by (m ∷ ms) = if_whole (is_whole m) m.targets ++ declared_by ms

if_whole_any : (p : Target → Bool) (b : Bool) (ts : List Target) → list_any p (if_whole b ts) ≡ (b && list_any p ts)
if_whole_any p true ts = refl
if_whole_any p false ts = refl

declared_any : (p : Target → Bool) (ms : List MapRead) → list_any p (declared_by ms) ≡ declares p ms
declared_any p [] = refl
declared_any p (m ∷ ms) =
    list_any-append p (if_whole (is_whole m) m.targets) (declared_by ms) ∙ (λ i. if_whole_any p (is_whole m) m.targets i || declared_any p ms i)

declared_more : (ms : List MapRead) (m : MapRead) → declared_by (ms ++ m ∷ []) ≡ declared_by ms ++ if_whole (is_whole m) m.targets
declared_more [] m = append-nil (if_whole (is_whole m) m.targets)
declared_more (x ∷ ms) m =
    ap (λ ts. if_whole (is_whole x) x.targets ++ ts) (declared_more ms m) ∙ sym (append_assoc (if_whole (is_whole x) x.targets) (declared_by ms) (if_whole (is_whole m) m.targets))

if_fresh : (b : Bool) (s t : Target) → (if b then None else Some s) ≡ Some t → (b ≡ false) × (s ≡ t)
if_fresh true s t h = absurd (cc)
if_fresh false s t h = (refl, cc)

-- the module of a line is new
line_fresh : (earlier : List MapRead) (m : MapRead) (o : Option Target) (t : Target) → option_and_then (unless_clashing earlier m) o ≡ Some t
    → list_any (clashes t) (declared_by earlier ++ m.targets) ≡ false
line_fresh earlier m None t h = absurd (cc)
line_fresh earlier m (Some s) t h =
    let both = if_fresh (declares (clashes s) earlier || list_any (clashes s) m.targets) s t h in
    let P : Target → Type 0 = λ x. list_any (clashes x) (declared_by earlier ++ m.targets) ≡ false in
    subst P both.1
    (any_both (clashes s) (declared_by earlier) m.targets
    (declared_any (clashes s) earlier ∙ or_left (declares (clashes s) earlier) (list_any (clashes s) m.targets) both.0)
    (or_right (declares (clashes s) earlier) (list_any (clashes s) m.targets) both.0))

module _ (earlier : List MapRead) where
  abbrev Stays : MapRead → Type 0
  Stays m = EachOnce (declared_by earlier ++ m.targets)

  line_once : (m : MapRead) (n : ℕ) (o : Option Target) (more : MapRead → MapRead) → ((t : Target) → o ≡ Some t → list_any (clashes t) (declared_by earlier ++ m.targets) ≡ false)
      → ((k : MapRead) → Stays k → Stays (more k)) → Stays m → Stays (then_target m n o more)
  line_once m n None more fresh next h = h
  line_once m n (Some t) more fresh next h =
      next _ (subst EachOnce (append_assoc (declared_by earlier) m.targets (t ∷ [])) (once_more (declared_by earlier ++ m.targets) t h (fresh t refl)))

  lines_once : (m : MapRead) (n : ℕ) (ls : List (List ℕ)) → Stays m → Stays (map_lines earlier m n ls)
  lines_once m n [] h = h
  lines_once m n (line ∷ rest) h =
      line_once m n (new_target earlier m line) (λ k. map_lines earlier k (next_line n) rest) (λ t is. line_fresh earlier m (map_line m.map line) t is)
      (λ k stays. lines_once k (next_line n) rest stays) h

  map_once : (map : List ℕ) (a : Answer) → EachOnce (declared_by earlier) → Stays (map_of earlier map a)
  map_once map (Bytes bytes) h = lines_once (nothing_read map) 1 (lines bytes) (subst EachOnce (sym (append-nil (declared_by earlier))) h)
  map_once map Absent h = subst EachOnce (sym (append-nil (declared_by earlier))) h
  map_once map (TooLarge size) h = subst EachOnce (sym (append-nil (declared_by earlier))) h
  map_once map (Paths paths) h = subst EachOnce (sym (append-nil (declared_by earlier))) h

  whole_once : (b : Bool) (ts : List Target) → EachOnce (declared_by earlier) → EachOnce (declared_by earlier ++ ts) → EachOnce (declared_by earlier ++ if_whole b ts)
  whole_once true ts h more = more
  whole_once false ts h more = subst EachOnce (sym (append-nil (declared_by earlier))) h

  read_once : (map : List ℕ) (a : Answer) → EachOnce (declared_by earlier) → EachOnce (declared_by (earlier ++ map_of earlier map a ∷ []))
  read_once map a h =
      let m = map_of earlier map a in
      subst EachOnce (sym (declared_more earlier m)) (whole_once (is_whole m) m.targets h (map_once map a h))

maps_once_if : (b : Bool) (f : Question → Answer) (p : Asks (List MapRead)) (q : Asks (List MapRead)) → EachOnce (declared_by (value p f)) → EachOnce (declared_by (value q f))
    → EachOnce (declared_by (value (if b then p else q) f))
maps_once_if true f p q a b = a
maps_once_if false f p q a b = b

maps_once : (f : Question → Answer) (earlier : List MapRead) (maps : List (List ℕ)) → EachOnce (declared_by earlier) → EachOnce (declared_by (value (read_maps earlier maps) f))
maps_once f earlier [] h = h
maps_once f earlier (map ∷ maps) h =
    maps_once_if (is_read map earlier) f (read_maps earlier maps) (Ask (Read map) (λ a. read_maps (earlier ++ map_of earlier map a ∷ []) maps))
    (maps_once f earlier maps h)
    (maps_once f (earlier ++ map_of earlier map (f (Read map)) ∷ []) maps (read_once earlier map (f (Read map)) h))

-- ---- the table

whole_of : (o fault : Option ℕ) (m : MapRead) → m.fault ≡ fault → option_or o fault ≡ None → is_whole m ≡ true
whole_of None None m is h = ap (λ (x : Option ℕ). is_whole (record m { fault = x })) is
whole_of None (Some n) m is h = absurd (cc)
whole_of (Some k) fault m is h = absurd (cc)

with_once : (all : List MapRead) (table : Table) (m : MapRead) (ms : List MapRead) (o : Option ℕ) → first_fault all m ≡ o → EachOnce (table.targets ++ declared_by (m ∷ ms))
    → EachOnce ((with_map table m o).targets ++ declared_by ms)
with_once all table m ms (Some n) is h = once_without table.targets (if_whole (is_whole m) m.targets) (declared_by ms) h
with_once all table m ms None is h =
    let whole : is_whole m ≡ true = whole_of (unknown_export all 1 m.targets) m.fault m refl is in
    let P : Bool → Type 0 = λ b. EachOnce (table.targets ++ (if_whole b m.targets ++ declared_by ms)) in
    subst EachOnce (sym (append_assoc table.targets m.targets (declared_by ms))) (subst P whole h)

withs_once : (all : List MapRead) (table : Table) (ms : List MapRead) → EachOnce (table.targets ++ declared_by ms) → EachOnce (with_maps all table ms).targets
withs_once all table [] h = subst EachOnce (append-nil table.targets) h
withs_once all table (m ∷ ms) h = withs_once all (with_map table m (first_fault all m)) ms (with_once all table m ms (first_fault all m) refl h)

table_once : (maps : List (List ℕ)) (f : Question → Answer) → EachOnce (value (table_of maps) f).targets
unfolding table_of
table_once maps f =
    let all = value (read_maps [] maps) f in
    subst (λ (t : Table). EachOnce t.targets) (sym (value-then_ask (read_maps [] maps) (λ ms. Done (settled ms)) f)) (withs_once all empty_table all (maps_once f [] maps tt))

-- ---- places

any_at : (p : Target → Bool) (ts : List Target) (i : ℕ) (t : Target) → list_any p ts ≡ false → slice_get ts i ≡ Some t → p t ≡ false
any_at p [] i t h e = absurd (cc)
any_at p (x ∷ ts) zero t h e = let same : x ≡ t = cc in ap p (sym same) ∙ or_left (p x) (list_any p ts) h
any_at p (x ∷ ts) (suc i) t h e = any_at p ts i t (or_right (p x) (list_any p ts) h) e

same_place : (ts : List Target) (i j : ℕ) (t u : Target) → EachOnce ts → slice_get ts i ≡ Some t → slice_get ts j ≡ Some u → clashes t u ≡ true → clashes u t ≡ true → i ≡ j
same_place [] i j t u once a b tu ut = absurd (cc)
same_place (x ∷ ts) zero zero t u once a b tu ut = refl
same_place (x ∷ ts) zero (suc j) t u once a b tu ut =
    let same : x ≡ t = cc in
    absurd (true≢false (sym ut ∙ ap (clashes u) (sym same) ∙ any_at (λ v. clashes v x) ts j u once.0 b))
same_place (x ∷ ts) (suc i) zero t u once a b tu ut =
    let same : x ≡ u = cc in
    absurd (true≢false (sym tu ∙ ap (clashes t) (sym same) ∙ any_at (λ v. clashes v x) ts i t once.0 a))
same_place (x ∷ ts) (suc i) (suc j) t u once a b tu ut = ap suc (same_place ts i j t u once.1 a b tu ut)

or_true : (a b : Bool) → b ≡ true → (a || b) ≡ true
or_true true b h = refl
or_true false b h = h

pub names_once : (maps : List (List ℕ)) (f : Question → Answer) (i j : ℕ) (t u : Target)
    → slice_get (value (table_of maps) f).targets i ≡ Some t → slice_get (value (table_of maps) f).targets j ≡ Some u → t.name ≡ u.name → i ≡ j
names_once maps f i j t u a b same =
    same_place (value (table_of maps) f).targets i j t u (table_once maps f) a b
    (ap (λ x. x || bytes_eq u.header t.header) ((bytes_eq-Decides u.name t.name).1 (sym same)))
    (ap (λ x. x || bytes_eq t.header u.header) ((bytes_eq-Decides t.name u.name).1 same))

pub headers_once : (maps : List (List ℕ)) (f : Question → Answer) (i j : ℕ) (t u : Target)
    → slice_get (value (table_of maps) f).targets i ≡ Some t → slice_get (value (table_of maps) f).targets j ≡ Some u → t.header ≡ u.header → i ≡ j
headers_once maps f i j t u a b same =
    same_place (value (table_of maps) f).targets i j t u (table_once maps f) a b
    (or_true (bytes_eq u.name t.name) (bytes_eq u.header t.header) ((bytes_eq-Decides u.header t.header).1 (sym same)))
    (or_true (bytes_eq t.name u.name) (bytes_eq t.header u.header) ((bytes_eq-Decides t.header u.header).1 same))
