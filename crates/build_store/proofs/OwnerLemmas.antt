-- What the fold of a module comes to, by what its imports brought: its part imports what it met, and the parts that it gives
-- are those that an import of it brings. It never imports itself.
use Rattle.std.proofs.Common.{◌≡◌, ◌∙◌, refl, sym, ap, subst, ℕ, ◌+◌, ◌<◌, Bool, true, false, cond, List, [], ◌∷◌, ◌++◌, length, map, Option, Some, None, true≢false, eq-eqb, ne_eqb, append_assoc}
use Rattle.std.proofs.Math.Path.{fun_ext}
use Rattle.std.specs.Prelude.{zero, suc, ◌==◌, ◌&&◌, nat_lt, codes}
use Rattle.std.specs.List.{list_any, flat_map}
use Rattle.std.specs.Option.{is_some}
use Rattle.std.specs.Str.{bytes_eq, is_utf8}
use Rattle.std.proofs.lemmas.List.Quantifiers.{position-Some}
use Rattle.cm_outside.specs.declared.question.Question.TheVariants.{Read}
use Rattle.unit_fold.specs.declared.item.FaultKind.TheVariants.{NotBuilt, ManyTokens, CyclicModule, NotDeclared}
use Rattle.std.proofs.lemmas.List.{append-nil}
use Rattle.std.proofs.lemmas.Grind.{flat_map-append}
use Rattle.cm_core.specs.declared.numbers.Owner.{Owner}
use Rattle.cm_core.specs.declared.numbers.Owner.TheVariants.{Sub}
use Rattle.cm_core.specs.declared.numbers.SubNo.{SubNo}
use Rattle.cm_outside.specs.declared.question.Question.{Question}
use Rattle.cm_outside.specs.declared.question.Answer.{Answer}
use Rattle.cm_outside.specs.declared.question.Answer.TheVariants.{Absent, Bytes, TooLarge, Paths}
use Rattle.cm_outside.specs.Asks.{Asks, Done, Ask, Begin, value, then_ask}
use Rattle.unit_fold.specs.Forms.{Form, IsEmpty, IsObject, IsPointer, IsOther, form_of, form_of_seven, is_object, is_whole_piece, nth}
use Rattle.unit_fold.specs.Owners.{Reading, Ends as ReadsAll, Includes, SoFar, add, add_fault, clashes, directive, ends_at, fault_item, has_pointer, has_tokens, include_end, include_line, include_name, included, includes, is_int, is_pointer, most_tokens, named, nothing_read, pointing, read_on, read_text, read_tokens, reads, stops, token_step, undeclared, with_form, with_import, with_piece, with_token}
use Rattle.unit_fold.specs.Tokens.{TokenAt, Next, NoneLeft, Faulty, LineEnds, Gives, is_hash, is_punctuator, is_word, next, next_name, quoted}
use Rattle.unit_fold.specs.declared.at.At.{At}
use Rattle.unit_fold.specs.declared.item.FaultKind.{FaultKind}
use Rattle.unit_fold.specs.declared.item.Item.{Item}
use Rattle.unit_fold.specs.declared.item.Item.TheVariants.{Object, Pointer, Import, Fault}
use Rattle.unit_fold.specs.declared.item.Imported.{Imported}
use Rattle.unit_fold.specs.declared.given.Given.{Given}
use Rattle.unit_fold.specs.declared.given.Given.TheVariants.{Again, Text, Imported as Import_of, Refused, Skip, NotBuilt as NotBuiltYet}
use Rattle.build_store.specs.Needs.{Needs, Ends, Puts, Imports, then_needs, or_cyclic, strictly, end_of, met}
use Rattle.build_store.specs.Modules.{import_by, own_import, sub_of, inside}
use Rattle.build_store.specs.Parts.{Fragment, part_in, part_of, imports_of, import_in, brought}
use Rattle.build_store.specs.Owners.{Setting, puts, is_own, by_import, by_found, at_end, needs_of, owner_with, reading_of, owner_needs, module_needs, unit_needs, plan_of}
use Rattle.build_store.specs.Search.{find_of, found, candidates, owner_of, header_or_plain, find_in}
use Rattle.build_store.specs.Targets.{name_of, header_of}
use Rattle.build_store.specs.declared.finding.Find.{Find}
use Rattle.build_store.specs.declared.finding.Find.TheVariants.{Nothing, Plain, Header}
use Rattle.build_store.specs.declared.part.Part.{Part}
use Rattle.build_store.specs.declared.table.Table.{Table}
use Rattle.build_store.specs.declared.table.Target.{Target}
use Rattle.build_store.proofs.ListLemmas.{Every}
use Rattle.build_store.proofs.RowLemmas.{no_target}
use Rattle.build_store.proofs.NeedLemmas.{end_of-then_needs}

-- ---- programs as folds

-- what holds of each value that a program may give
abbrev pub EachValue : {A : Type 0} → (A → Type 0) → Asks A → Type 0
EachValue Q (Done x) = Q x
EachValue Q (Ask q next) = (a : Answer) → EachValue Q (next a)
EachValue Q (Begin m p) = EachValue Q p

-- what holds of each import that a fold may come to
abbrev pub EachImport : {B A : Type 0} → (ℕ → Type 0) → Needs B A → Type 0
EachImport P (Ends a) = Unit {0}
EachImport P (Puts q next) = (a : Answer) → EachImport P (next a)
EachImport {B} P (Imports x next) = P x × ((b : Option B) → EachImport P (next b))

pub each_value-then_ask : {A C : Type 0} (Q : C → Type 0) (p : Asks A) (more : A → Asks C) → ((x : A) → EachValue Q (more x)) → EachValue Q (then_ask p more)
each_value-then_ask Q (Done x) more h = h x
each_value-then_ask Q (Ask q next) more h = λ a. each_value-then_ask Q (next a) more h
each_value-then_ask Q (Begin m p) more h = each_value-then_ask Q p more h

module _ {B A : Type 0} (t : Question → Answer) (brings : ℕ → Option B) where
  pub end_of-puts : (p : Asks A) → end_of (puts {B = B} p) t brings ≡ value p t
  end_of-puts (Done x) = refl
  end_of-puts (Ask q next) = end_of-puts (next (t q))
  end_of-puts (Begin m p) = end_of-puts p

  pub met-puts : (p : Asks A) → met (puts {B = B} p) t brings ≡ []
  met-puts (Done x) = refl
  met-puts (Ask q next) = met-puts (next (t q))
  met-puts (Begin m p) = met-puts p

module _ {B A C : Type 0} (P : ℕ → Type 0) where
  pub each_import-puts : (Q : A → Type 0) (p : Asks A) (more : A → Needs B C) → EachValue Q p → ((x : A) → Q x → EachImport P (more x)) → EachImport P (then_needs (puts p) more)
  each_import-puts Q (Done x) more e h = h x e
  each_import-puts Q (Ask q next) more e h = λ a. each_import-puts Q (next a) more (e a) h
  each_import-puts Q (Begin m p) more e h = each_import-puts Q p more e h

  pub each_import-then_needs : (n : Needs B A) (more : A → Needs B C) → EachImport P n → ((x : A) → EachImport P (more x)) → EachImport P (then_needs n more)
  each_import-then_needs (Ends x) more e h = h x
  each_import-then_needs (Puts q next) more e h = λ a. each_import-then_needs (next a) more (e a) h
  each_import-then_needs (Imports x next) more e h = (e.0, λ b. each_import-then_needs (next b) more (e.1 b) h)

module _ {B A : Type 0} (P : ℕ → Type 0) where
  -- so it holds of each import that is met
  pub every_met_import : (n : Needs B A) (t : Question → Answer) (brings : ℕ → Option B) → EachImport P n → Every P (met n t brings)
  every_met_import (Ends a) t brings e = tt
  every_met_import (Puts q next) t brings e = every_met_import (next (t q)) t brings (e (t q))
  every_met_import (Imports x next) t brings e = (e.0, every_met_import (next (brings x)) t brings (e.1 (brings x)))

  -- folds by what is the same for each import that it may come to are the same
  pub strictly_alike : (f g : ℕ → Needs B (Option B)) → ((x : ℕ) → P x → f x ≡ g x) → (n : Needs B A) → EachImport P n → strictly f n ≡ strictly g n
  strictly_alike f g same (Ends a) e = refl
  strictly_alike f g same (Puts q next) e = ap (Puts q) (fun_ext (λ a. strictly_alike f g same (next a) (e a)))
  strictly_alike f g same (Imports x next) e =
      (λ i. then_needs (same x e.0 i) (or_cyclic (λ b. strictly_alike f g same (next (Some b)) (e.1 (Some b)) i)))

-- ---- a module of one submodule

pub then_nothing : {B A : Type 0} → (n : Needs B (Option A)) → then_needs n (or_cyclic (λ b. Ends (Some b))) ≡ n
then_nothing (Ends None) = refl
then_nothing (Ends (Some b)) = refl
then_nothing (Puts q next) = ap (Puts q) (fun_ext (λ a. then_nothing (next a)))
then_nothing (Imports x next) = ap (Imports x) (fun_ext (λ b. then_nothing (next b)))

-- ---- what an include finds

-- a header that is found is that of a module of the table
abbrev pub IsOfTable : Table → Find → Type 0
IsOfTable table Nothing = Unit {0}
IsOfTable table Plain = Unit {0}
IsOfTable table (Header x) = x < length table.targets

of_position : (table : Table) (o : Option ℕ) → ((x : ℕ) → o ≡ Some x → x < length table.targets) → IsOfTable table (header_or_plain o)
of_position table None h = tt
of_position table (Some x) h = h x refl

of_path : (table : Table) (path : Option (List ℕ)) → IsOfTable table (find_in table path)
of_path table None = tt
of_path table (Some path) = of_position table (owner_of table path) (λ x e. (position-Some (λ (m : Target). bytes_eq m.header path) table.targets x no_target e).0)

-- what a fold of an owner imports: modules of the table, and not its own
abbrev pub IsOther_of : Setting → Option ℕ → ℕ → Type 0
IsOther_of s own x = (x < length s.table.targets) × (is_own own x ≡ false)

module _ (s : Setting) where
  pub found_of_table : (file text : List ℕ) → EachValue (IsOfTable s.table) (find_of s.includes s.table file text)
  unfolding find_of
  found_of_table file text = each_value-then_ask (IsOfTable s.table) (found (candidates file s.includes text)) (λ path. Done (find_in s.table path)) (of_path s.table)

  module _ (own : Option ℕ) {A : Type 0} (more : Given → Fragment → Needs Fragment A) (rest : (given : Given) (parts : Fragment) → EachImport (IsOther_of s own) (more given parts)) where
    import_known : (x : ℕ) (parts : Fragment) (o : Option Fragment) → EachImport (IsOther_of s own) (by_import s x parts more o)
    import_known x parts None = rest (Refused (CyclicModule (name_of s.table x))) parts
    import_known x parts (Some b) = rest (Import_of (record { sub = record { index = x }; name = name_of s.table x }) (brought s.table (part_in b) x)) (parts ++ b)

    own_or_known : (x : ℕ) (parts : Fragment) → x < length s.table.targets → (b : Bool) → is_own own x ≡ b
        → EachImport (IsOther_of s own) (cond b (more Skip parts) (Imports x (by_import s x parts more)))
    own_or_known x parts within true e = rest Skip parts
    own_or_known x parts within false e = ((within, e), import_known x parts)

    found_known : (parts : Fragment) (f : Find) → IsOfTable s.table f → EachImport (IsOther_of s own) (by_found s own parts more f)
    found_known parts Nothing h = rest NotBuiltYet parts
    found_known parts Plain h = rest NotBuiltYet parts
    found_known parts (Header x) h = own_or_known x parts h (is_own own x) refl

  needs_known : (own : Option ℕ) (file : List ℕ) (r : Reading) (parts : Fragment) → EachImport (IsOther_of s own) (needs_of s own file parts r)
  needs_known own file (ReadsAll stopped p) parts = tt
  needs_known own file (Includes n text next) parts =
      each_import-puts (IsOther_of s own) (IsOfTable s.table) (find_of s.includes s.table file text)
      (by_found s own parts (λ given more. needs_of s own file more (next given)))
      (found_of_table file text)
      (found_known own (λ given more. needs_of s own file more (next given)) (λ given more. needs_known own file (next given) more) parts)

  pub module_imports : (x : ℕ) → EachImport (IsOther_of s (Some x)) (module_needs s x)
  unfolding module_needs
  module_imports x =
      each_import-then_needs (IsOther_of s (Some x)) (owner_needs s (Some x) (header_of s.table x)) _
      (λ a. needs_known (Some x) (header_of s.table x) (reading_of (Sub (record { index = x })) (header_of s.table x) a) [])
      (λ r. tt)

  pub unit_imports : (path : List ℕ) → EachImport (IsOther_of s None) (unit_needs s path)
  unfolding unit_needs
  unit_imports path =
      each_import-then_needs (IsOther_of s None) (owner_needs s None path) _
      (λ a. needs_known None path (reading_of (owner_with None) path a) [])
      (λ r. tt)

  -- ---- the module of one submodule

  -- an import of another module is one of that module
  other_import : (x y : ℕ) → is_own (Some x) y ≡ false → import_by (plan_of s) x (own_import (plan_of s) x (x ∷ [])) y ≡ Imports y (λ b. Ends b)
  unfolding plan_of
  other_import x y e =
      let apart : y ≡ x → ⊥ = λ same. true≢false (sym (eq-eqb x y (sym same)) ∙ e) in
      ap (λ b. cond b (own_import (plan_of s) x (x ∷ []) y) (Imports y (λ o. Ends o))) (ne_eqb y x apart)

  -- a module is the fold of its header, up to its first import that is Cyclic
  pub inside_is : (x : ℕ) → inside (plan_of s) x ≡ strictly (λ y. Imports y (λ b. Ends b)) (module_needs s x)
  unfolding inside sub_of plan_of
  inside_is x =
      then_nothing (strictly (import_by (plan_of s) x (own_import (plan_of s) x (x ∷ []))) (module_needs s x))
      ∙ strictly_alike (IsOther_of s (Some x)) (import_by (plan_of s) x (own_import (plan_of s) x (x ∷ []))) (λ y. Imports y (λ b. Ends b)) (λ y h. other_import x y h.1) (module_needs s x) (module_imports x)

-- ---- the imports of a header

pub imports_of-append : (xs ys : List Item) → imports_of (xs ++ ys) ≡ imports_of xs ++ imports_of ys
imports_of-append xs ys = flat_map-append import_in xs ys

given_names : Given → List (List ℕ)
given_names (Import_of m names) = m.name ∷ []
given_names (Refused kind) = []
given_names Skip = []
given_names NotBuiltYet = []
given_names Again = []
given_names (Text bytes path) = []

never : {X : Type 0} (xs : List X) → list_any (λ _. false) xs ≡ false
never [] = refl
never (x ∷ xs) = never xs

has_none : (p : SoFar) (names : List (List ℕ)) → p.pointers ≡ [] → has_pointer p names ≡ false
has_none p names h = ap (λ ps. list_any (λ name. list_any (λ other. bytes_eq other name) ps) names) h ∙ never names

-- ---- pieces import nothing

add_more : (p : SoFar) (more : List Item) → imports_of more ≡ [] → imports_of (p.items ++ more) ≡ imports_of p.items
add_more p more none = imports_of-append p.items more ∙ ap (λ back. imports_of p.items ++ back) none ∙ append-nil (imports_of p.items)

form_imports : (p : SoFar) (first : At) (form : Form) → imports_of (with_form p first form).items ≡ imports_of p.items
form_imports p first IsEmpty = refl
form_imports p first (IsObject name) = by (is_pointer p name.text)
  where
    by : (b : Bool) → imports_of (cond b (add_fault p first NotBuilt) (add p (Object (named name) ∷ []))).items ≡ imports_of p.items
    by true = add_more p (fault_item first NotBuilt ∷ []) refl
    by false = add_more p (Object (named name) ∷ []) refl
form_imports p first (IsPointer name target) = by (clashes p name.text target.text)
  where
    told : (b : Bool) → imports_of (Pointer (named name) ∷ cond b [] (fault_item target.at (NotDeclared target.text) ∷ [])) ≡ []
    told true = refl
    told false = refl

    by : (b : Bool) → imports_of (cond b (add_fault p first NotBuilt) (pointing p name target)).items ≡ imports_of p.items
    by true = add_more p (fault_item first NotBuilt ∷ []) refl
    by false = add_more p (Pointer (named name) ∷ undeclared p target) (told (is_int p target.text))
form_imports p first IsOther = add_more p (fault_item first NotBuilt ∷ []) refl

piece_imports : (owner : Owner) (p : SoFar) (piece : List TokenAt) → imports_of (with_piece owner p piece).items ≡ imports_of p.items
piece_imports owner p [] = refl
piece_imports owner p (first ∷ rest) = form_imports p first.at (form_of owner (first ∷ rest))

-- ---- a header declares no pointers

NoPointer : Form → Type 0
NoPointer IsEmpty = Unit {0}
NoPointer (IsObject name) = Unit {0}
NoPointer (IsPointer name target) = ⊥
NoPointer IsOther = Unit {0}

no_pointer : (sub : SubNo) (piece : List TokenAt) → NoPointer (form_of (Sub sub) piece)
unfolding NoPointer
no_pointer sub piece =
    by (length piece == 1) (is_punctuator (codes ";") (nth piece 0)) (length piece == 3) (is_object (nth piece 0) (nth piece 1) (nth piece 2)) (length piece == 7)
  where
    by : (one end three object seven : Bool)
        → NoPointer (cond one (cond end IsEmpty IsOther) (cond three (cond object (IsObject (nth piece 1)) IsOther) (cond seven (form_of_seven (Sub sub) piece) IsOther)))
    by true true three object seven = tt
    by true false three object seven = tt
    by false end true true seven = tt
    by false end true false seven = tt
    by false end false object true = tt
    by false end false object false = tt

form_bare : (p : SoFar) (first : At) (form : Form) → NoPointer form → (with_form p first form).pointers ≡ p.pointers
unfolding NoPointer
form_bare p first IsEmpty h = refl
form_bare p first (IsObject name) h = by (is_pointer p name.text)
  where
    by : (b : Bool) → (cond b (add_fault p first NotBuilt) (add p (Object (named name) ∷ []))).pointers ≡ p.pointers
    by true = refl
    by false = refl
form_bare p first (IsPointer name target) h = absurd h
form_bare p first IsOther h = refl

piece_bare : (sub : SubNo) (p : SoFar) (piece : List TokenAt) → (with_piece (Sub sub) p piece).pointers ≡ p.pointers
piece_bare sub p [] = refl
piece_bare sub p (first ∷ rest) = form_bare p first.at (form_of (Sub sub) (first ∷ rest)) (no_pointer sub (first ∷ rest))

-- ---- a header that came so far

-- it has no pointers, and these imports
record IsAt (p : SoFar) (names : List (List ℕ)) : Type 0 where
  pub bare : p.pointers ≡ []
  pub imports : imports_of p.items ≡ names

at_more : (p : SoFar) (names : List (List ℕ)) (more : List Item) → imports_of more ≡ [] → IsAt p names → IsAt (add p more) names
at_more p names more none at = record { bare = at.bare; imports = add_more p more none ∙ at.imports }

at_piece : (sub : SubNo) (p : SoFar) (names : List (List ℕ)) (piece : List TokenAt) → IsAt p names → IsAt (with_piece (Sub sub) p piece) names
at_piece sub p names piece at = record { bare = piece_bare sub p piece ∙ at.bare; imports = piece_imports (Sub sub) p piece ∙ at.imports }

at_token : (sub : SubNo) (p : SoFar) (names : List (List ℕ)) (t : TokenAt) → IsAt p names → IsAt (with_token (Sub sub) p t) names
at_token sub p names t at = by (is_whole_piece (p.piece ++ t ∷ []))
  where
    by : (b : Bool) → IsAt (cond b (with_piece (Sub sub) (record p { piece = [] }) (p.piece ++ t ∷ [])) (record p { piece = p.piece ++ t ∷ [] })) names
    by true = at_piece sub (record p { piece = [] }) names (p.piece ++ t ∷ []) (record { bare = at.bare; imports = at.imports })
    by false = record { bare = at.bare; imports = at.imports }

-- a reading that ends with these imports and those that it is given
Keeps : Reading → List (List ℕ) → Type 0
Keeps (ReadsAll stopped q) names = IsAt q names
Keeps (Includes at text next) names = (given : Given) → Keeps (next given) (names ++ given_names given)

-- what follows keeps the imports that there are then
abbrev KeepsOn : (SoFar → Reading) → Type 0
KeepsOn more = (q : SoFar) (also : List (List ℕ)) → IsAt q also → Keeps (more q) also

keeps-ends : (p : SoFar) (names : List (List ℕ)) (at : At) (kind : FaultKind) → IsAt p names → Keeps (ends_at p at kind) names
unfolding Keeps
keeps-ends p names at kind is = at_more (record p { piece = [] }) names (fault_item at kind ∷ []) refl (record { bare = is.bare; imports = is.imports })

same_names : (p : SoFar) (names : List (List ℕ)) → IsAt p names → IsAt p (names ++ [])
same_names p names is = record { bare = is.bare; imports = is.imports ∙ sym (append-nil names) }

module _ (p : SoFar) (names : List (List ℕ)) (is : IsAt p names) (at : At) (more : SoFar → Reading) (rest : KeepsOn more) where
  keeps-import : (b : Bool) (m : Imported) (found : List (List ℕ)) → b ≡ false → Keeps (cond b (stops p at) (more (with_import p m at found))) (names ++ m.name ∷ [])
  keeps-import true m found e = absurd (true≢false e)
  keeps-import false m found e =
      rest (with_import p m at found) (names ++ m.name ∷ [])
      (record { bare = is.bare; imports = imports_of-append p.items (Import m at ∷ []) ∙ ap (λ front. front ++ m.name ∷ []) is.imports })

  keeps-stops : Keeps (stops p at) (names ++ [])
  keeps-stops = keeps-ends p (names ++ []) at NotBuilt (same_names p names is)

  keeps-given : (given : Given) → Keeps (included p at given more) (names ++ given_names given)
  unfolding given_names
  keeps-given (Import_of m found) = keeps-import (has_pointer p found) m found (has_none p found is.bare)
  keeps-given (Refused kind) = rest (add_fault p at kind) (names ++ []) (same_names (add_fault p at kind) names (at_more p names (fault_item at kind ∷ []) refl is))
  keeps-given Skip = rest p (names ++ []) (same_names p names is)
  keeps-given NotBuiltYet = keeps-stops
  keeps-given Again = keeps-stops
  keeps-given (Text bytes path) = keeps-stops

  keeps-includes : (file : List ℕ) → Keeps (includes p at file more) names
  unfolding Keeps
  keeps-includes file = keeps-given

-- ---- a header's tokens: the type of a text belongs to a library that this one does not name, and is left out

module _ (p : SoFar) (names : List (List ℕ)) (is : IsAt p names) (none : SoFar → Reading) (line : SoFar → ℕ → Reading) (token : SoFar → TokenAt → ℕ → Reading)
    (none_keeps : Keeps (none p) names) (line_keeps : (to : ℕ) → Keeps (line p to) names)
    (token_keeps : (q : SoFar) (t : TokenAt) (to : ℕ) → IsAt q names → Keeps (token q t to) names) where
  keeps-reads : (n : Next) → Keeps (reads p n none line token) names
  unfolding Keeps
  keeps-reads NoneLeft = none_keeps
  keeps-reads (Faulty fault) = at_more p names (Fault fault ∷ []) refl is
  keeps-reads (LineEnds to) = line_keeps to
  keeps-reads (Gives t to) = by (nat_lt p.taken most_tokens)
    where
      by : (b : Bool) → Keeps (cond b (token (record p { taken = p.taken + 1 }) t to) (ends_at p t.at ManyTokens)) names
      by true = token_keeps (record p { taken = p.taken + 1 }) t to (record { bare = is.bare; imports = is.imports })
      by false = keeps-ends p names t.at ManyTokens is

module _ (text : _) (more : SoFar → ℕ → Reading) (rest : (to : ℕ) → KeepsOn (λ q. more q to)) (hash : At) where
  keeps-include_end : (p : SoFar) (names : List (List ℕ)) (file : List ℕ) (at : ℕ) → IsAt p names → Keeps (include_end text p hash file at more) names
  keeps-include_end p names file at is =
      keeps-reads p names is (λ q. includes q hash file (λ r. more r at)) (λ q to. includes q hash file (λ r. more r to)) (λ q t to. stops q hash)
      (keeps-includes p names is hash (λ r. more r at) (rest at) file)
      (λ to. keeps-includes p names is hash (λ r. more r to) (rest to) file)
      (λ q t to same. keeps-ends q names hash NotBuilt same)
      (next text at)

  keeps-include_name : (p : SoFar) (names : List (List ℕ)) (o : Option (List ℕ)) (at : ℕ) → IsAt p names → Keeps (include_name text p hash o at more) names
  keeps-include_name p names None at is = keeps-ends p names hash NotBuilt is
  keeps-include_name p names (Some file) at is = keeps-include_end p names file at is

  keeps-include_line : (p : SoFar) (names : List (List ℕ)) (at : ℕ) → IsAt p names → Keeps (include_line text p hash at more) names
  keeps-include_line p names at is =
      keeps-reads p names is (λ q. stops q hash) (λ q to. stops q hash) (λ q name to. include_name text q hash (quoted name) to more)
      (keeps-ends p names hash NotBuilt is)
      (λ to. keeps-ends p names hash NotBuilt is)
      (λ q name to same. keeps-include_name q names (quoted name) to same)
      (next_name text at)

  keeps-directive : (p : SoFar) (names : List (List ℕ)) (at : ℕ) → IsAt p names → Keeps (directive text p hash at more) names
  keeps-directive p names at is = by (has_tokens p.piece)
    where
      word : (b : Bool) (q : SoFar) (to : ℕ) → IsAt q names → Keeps (cond b (include_line text q hash to more) (stops q hash)) names
      word true q to same = keeps-include_line q names to same
      word false q to same = keeps-ends q names hash NotBuilt same

      by : (b : Bool)
          → Keeps (cond b (stops p hash) (reads p (next text at) (λ q. stops q hash) (λ q to. stops q hash)
          (λ q w to. cond (is_word (codes "include") w) (include_line text q hash to more) (stops q hash)))) names
      by true = keeps-ends p names hash NotBuilt is
      by false =
          keeps-reads p names is (λ q. stops q hash) (λ q to. stops q hash) (λ q w to. cond (is_word (codes "include") w) (include_line text q hash to more) (stops q hash))
          (keeps-ends p names hash NotBuilt is)
          (λ to. keeps-ends p names hash NotBuilt is)
          (λ q w to same. word (is_word (codes "include") w) q to same)
          (next text at)

module _ (sub : SubNo) (text : _) where
  keeps-token : (first : Bool) (p : SoFar) (names : List (List ℕ)) (at : ℕ) (more : Bool → SoFar → ℕ → Reading) → ((b : Bool) (to : ℕ) → KeepsOn (λ q. more b q to))
      → IsAt p names → Keeps (token_step (Sub sub) text first p at more) names
  unfolding Keeps
  keeps-token first p names at more rest is =
      keeps-reads p names is (λ q. ReadsAll false q) (more true)
      (λ q t to. cond (first && is_hash t) (directive text q t.at to (more true)) (more false (with_token (Sub sub) q t) to))
      is
      (λ to. rest true to p names is)
      (λ q t to same. by q t to same (first && is_hash t))
      (next text at)
    where
      by : (q : SoFar) (t : TokenAt) (to : ℕ) → IsAt q names → (b : Bool) → Keeps (cond b (directive text q t.at to (more true)) (more false (with_token (Sub sub) q t) to)) names
      by q t to same true = keeps-directive text (more true) (rest true) t.at q names to same
      by q t to same false = rest false to (with_token (Sub sub) q t) names (at_token sub q names t same)

  keeps-tokens : (fuel : ℕ) (first : Bool) (p : SoFar) (names : List (List ℕ)) (at : ℕ) → IsAt p names → Keeps (read_tokens fuel (Sub sub) text first p at) names
  unfolding Keeps
  keeps-tokens zero first p names at is = is
  keeps-tokens (suc fuel) first p names at is =
      keeps-token first p names at (read_tokens fuel (Sub sub) text) (λ b to q also same. keeps-tokens fuel b q also to same) is

keeps-one : (b : Bool) (x y : Reading) (names : List (List ℕ)) → Keeps x names → Keeps y names → Keeps (cond b x y) names
keeps-one true x y names left right = left
keeps-one false x y names left right = right

keeps-on : (sub : SubNo) (text : _) (p : SoFar) (names : List (List ℕ)) → IsAt p names → Keeps (read_on (Sub sub) text true p 0) names
unfolding read_on
keeps-on sub text p names is = keeps-tokens sub text (length text.bytes + 1) true p names 0 is

keeps-text : (sub : SubNo) (path bytes : List ℕ) → Keeps (read_text (Sub sub) nothing_read path bytes) []
unfolding Keeps
keeps-text sub path bytes =
    keeps-one (is_utf8 bytes) _ _ [] (keeps-on sub _ (record nothing_read { entered = path ∷ [] }) [] (record { bare = refl; imports = refl })) (record { bare = refl; imports = refl })

keeps-header : (sub : SubNo) (path : List ℕ) (a : Answer) → Keeps (reading_of (Sub sub) path a) []
unfolding Keeps
keeps-header sub path (Bytes bytes) = keeps-text sub path bytes
keeps-header sub path Absent = record { bare = refl; imports = refl }
keeps-header sub path (TooLarge size) = record { bare = refl; imports = refl }
keeps-header sub path (Paths paths) = record { bare = refl; imports = refl }

-- what is left of a piece at the end imports nothing
end_imports : (owner : Owner) (stopped : Bool) (p : SoFar) (names : List (List ℕ)) → imports_of p.items ≡ names → imports_of (at_end owner stopped p).items ≡ names
end_imports owner true p names same = same
end_imports owner false p names same = piece_imports owner (record p { piece = [] }) p.piece ∙ same

-- ---- what a fold comes to where all its imports brought something

abbrev pub fragment_of : Option Fragment → Fragment
fragment_of None = []
fragment_of (Some b) = b

-- what these modules brought, one after the other
abbrev pub fragments : (ℕ → Option Fragment) → List ℕ → Fragment
fragments brings xs = flat_map (λ x. fragment_of (brings x)) xs

abbrev pub Brings : (ℕ → Option Fragment) → ℕ → Type 0
Brings brings x = is_some (brings x) ≡ true

module _ (s : Setting) (t : Question → Answer) (brings : ℕ → Option Fragment) where
  -- behind these imports, which brought these parts
  ComesTo : List (List ℕ) → Fragment → Needs Fragment (SoFar × Fragment) → Type 0
  ComesTo names parts n =
      Every (Brings brings) (met n t brings)
      → (imports_of (end_of n t brings).0.items ≡ names ++ map (name_of s.table) (met n t brings)) × ((end_of n t brings).1 ≡ parts ++ fragments brings (met n t brings))

  comes_to-puts : {A : Type 0} (names : List (List ℕ)) (parts : Fragment) (p : Asks A) (more : A → Needs Fragment (SoFar × Fragment))
      → ComesTo names parts (more (value p t)) → ComesTo names parts (then_needs (puts p) more)
  unfolding ComesTo
  comes_to-puts names parts (Done x) more h = h
  comes_to-puts names parts (Ask q next) more h = comes_to-puts names parts (next (t q)) more h
  comes_to-puts names parts (Begin m p) more h = comes_to-puts names parts p more h

  module _ (own : Option ℕ) (names : List (List ℕ)) (more : Given → Fragment → Needs Fragment (SoFar × Fragment))
      (rest : (given : Given) (parts : Fragment) → ComesTo (names ++ given_names given) parts (more given parts)) where
    by_nothing : (given : Given) (parts : Fragment) → given_names given ≡ [] → ComesTo names parts (more given parts)
    by_nothing given parts e =
        let P : List (List ℕ) → Type 0 = λ xs. ComesTo xs parts (more given parts) in
        subst P (ap (λ xs. names ++ xs) e ∙ append-nil names) (rest given parts)

    by_brought : (x : ℕ) (parts : Fragment) (o : Option Fragment) → is_some o ≡ true → Every (Brings brings) (met (by_import s x parts more o) t brings)
        → (imports_of (end_of (by_import s x parts more o) t brings).0.items ≡ names ++ (name_of s.table x ∷ map (name_of s.table) (met (by_import s x parts more o) t brings)))
        × ((end_of (by_import s x parts more o) t brings).1 ≡ parts ++ (fragment_of o ++ fragments brings (met (by_import s x parts more o) t brings)))
    unfolding ComesTo given_names
    by_brought x parts None e h = absurd (true≢false (sym e))
    by_brought x parts (Some b) e h =
        let given : Given = Import_of (record { sub = record { index = x }; name = name_of s.table x }) (brought s.table (part_in b) x) in
        let so = rest given (parts ++ b) h in
        let ms : List ℕ = met (more given (parts ++ b)) t brings in
        (so.0 ∙ append_assoc names (name_of s.table x ∷ []) (map (name_of s.table) ms), so.1 ∙ append_assoc parts b (fragments brings ms))

    by_own : (x : ℕ) (parts : Fragment) (b : Bool) → ComesTo names parts (cond b (more Skip parts) (Imports x (by_import s x parts more)))
    unfolding ComesTo given_names
    by_own x parts true = by_nothing Skip parts refl
    by_own x parts false = λ h. by_brought x parts (brings x) h.0 h.1

    comes_to-found : (parts : Fragment) (f : Find) → ComesTo names parts (by_found s own parts more f)
    unfolding given_names
    comes_to-found parts Nothing = by_nothing NotBuiltYet parts refl
    comes_to-found parts Plain = by_nothing NotBuiltYet parts refl
    comes_to-found parts (Header x) = by_own x parts (is_own own x)

  comes_to : (own : Option ℕ) (file : List ℕ) (r : Reading) (names : List (List ℕ)) (parts : Fragment) → Keeps r names → ComesTo names parts (needs_of s own file parts r)
  unfolding Keeps ComesTo
  comes_to own file (ReadsAll stopped q) names parts keeps =
      λ h. (end_imports (owner_with own) stopped q names keeps.imports ∙ sym (append-nil names), sym (append-nil parts))
  comes_to own file (Includes n text next) names parts keeps =
      comes_to-puts names parts (find_of s.includes s.table file text) (by_found s own parts (λ given more. needs_of s own file more (next given)))
      (comes_to-found own names (λ given more. needs_of s own file more (next given)) (λ given more. comes_to own file (next given) (names ++ given_names given) more (keeps given)) parts (value (find_of s.includes s.table file text) t))

  met-then_ends : {A C : Type 0} (f : A → C) (n : Needs Fragment A) → met (then_needs n (λ r. Ends (f r))) t brings ≡ met n t brings
  met-then_ends f (Ends a) = refl
  met-then_ends f (Puts q next) = met-then_ends f (next (t q))
  met-then_ends f (Imports x next) = ap (λ xs. x ∷ xs) (met-then_ends f (next (brings x)))

  -- what the header of a module comes to
  pub module_part : ℕ → Part
  module_part x = part_of (end_of (owner_needs s (Some x) (header_of s.table x)) t brings).0.items

  pub module_comes_to : (x : ℕ) → Every (Brings brings) (met (module_needs s x) t brings)
      → (end_of (module_needs s x) t brings ≡ (x, module_part x) ∷ fragments brings (met (module_needs s x) t brings)) × ((module_part x).imports ≡ map (name_of s.table) (met (module_needs s x) t brings))
  unfolding module_needs module_part ComesTo
  module_comes_to x h =
      let sub : SubNo = record { index = x } in
      let path = header_of s.table x in
      let n = owner_needs s (Some x) path in
      let ends = λ (r : SoFar × Fragment). (x, part_of r.0.items) ∷ r.1 in
      let same = met-then_ends ends n in
      let P : List ℕ → Type 0 = λ xs. Every (Brings brings) xs in
      let so = comes_to (Some x) path (reading_of (Sub sub) path (t (Read path))) [] [] (keeps-header sub path (t (Read path))) (subst P same h) in (
        end_of-then_needs (λ (r : SoFar × Fragment). Ends (ends r)) t brings n ∙ ap (λ rest. (x, module_part x) ∷ rest) (so.1 ∙ ap (fragments brings) (sym same)),
        so.0 ∙ ap (map (name_of s.table)) (sym same),
      )
