-- What header search comes to, candidate by candidate.
use Rattle.std.proofs.Common.{◌≡◌, ℕ, ◌+◌, Bool, if◌then◌else◌, List, [], ◌∷◌, ◌++◌, drop, slice_get, Option, Some, None, sym, subst}
use Rattle.std.specs.Result.{result_ok}
use Rattle.cm_core.specs.Paths.{join_of, folder_of}
use Rattle.cm_outside.specs.Asks.{Asks, Done, Agrees, value}
use Rattle.cm_outside.specs.Keeping.{Grew, answered}
use Rattle.cm_outside.specs.declared.question.Question.{Question}
use Rattle.cm_outside.specs.declared.question.Question.TheVariants.{Read}
use Rattle.cm_outside.specs.declared.question.Answer.{Answer}
use Rattle.cm_outside.specs.declared.question.Record.{Record}
use Rattle.build_store.specs.Search.{candidates, find_in, find_of, found, in_folders, is_absent, with_candidate}
use Rattle.build_store.specs.Steps.{Comes, HasPushed, done_or}
use Rattle.build_store.specs.declared.finding.Find.{Find}
use Rattle.build_store.specs.declared.table.Table.{Table}
use Rattle.build_store.proofs.SearchSteps.{comes_asked, comes_bound, comes_nowhere, comes_past, comes_pushed, comes_then}

-- a candidate was asked for
pub candidate_asked : (kept : List Record) (before now : List ℕ) (path : List ℕ) (more : List (List ℕ)) (at : ℕ) (r : Record) (b : Bool)
    → slice_get kept at ≡ Some r → ((f : Question → Answer) → Agrees f kept → slice_get kept at ≡ Some (answered (Read path) (f (Read path))))
    → now ≡ before ++ at ∷ [] → b ≡ is_absent r.answer → Comes kept before now (found (path ∷ more)) (if b then found more else Done (Some path))
candidate_asked kept before now path more at r b there fixed put is =
    let next : Answer → Asks (Option (List ℕ)) = λ a. if is_absent a then found more else Done (Some path) in
    let one : Comes kept before (before ++ at ∷ []) (found (path ∷ more)) (next r.answer) = comes_asked kept before (Read path) next at r there fixed in
    let P : Bool → Type 0 = λ c. Comes kept before (before ++ at ∷ []) (found (path ∷ more)) (if c then found more else Done (Some path)) in
    let Q : List ℕ → Type 0 = λ n. Comes kept before n (found (path ∷ more)) (if b then found more else Done (Some path)) in
    subst Q (sym put) (subst P (sym is) one)

-- what is no path is passed over
pub no_candidate : (kept : List Record) (numbers : List ℕ) (path : Option (List ℕ)) (more : List (List ℕ)) → None ≡ path → Comes kept numbers numbers (found (with_candidate path more)) (found more)
no_candidate kept numbers path more is =
    let P : Option (List ℕ) → Type 0 = λ p. Comes kept numbers numbers (found (with_candidate p more)) (found more) in
    subst P is (comes_nowhere kept numbers (found more))

-- one folder of several was searched
pub folder_past : (mid new : List Record) (n0 n1 n2 : List ℕ) (folders : List (List ℕ)) (text : List ℕ) (i : ℕ) (folder : List ℕ) (p q : Option (List ℕ))
    → Grew mid new → ((f : Question → Answer) → Agrees f new → Agrees f mid) → slice_get folders i ≡ Some folder → p ≡ q
    → Comes mid n0 n1 (found (in_folders folders text)) (found (in_folders (drop i folders) text))
    → ((more : List (List ℕ)) → Comes new n1 n2 (found (with_candidate (result_ok (join_of folder text)) more)) (done_or p (found more)))
    → Comes new n0 n2 (found (in_folders folders text)) (done_or q (found (in_folders (drop (i + 1) folders) text)))
folder_past mid new n0 n1 n2 folders text i folder p q grew back there is a b =
    let P : Option (List ℕ) → Type 0 = λ o. Comes new n0 n2 (found (in_folders folders text)) (done_or o (found (in_folders (drop (i + 1) folders) text))) in
    let rest : List (List ℕ) → Asks (Option (List ℕ)) = λ fs. found (in_folders fs text) in
    subst P is (comes_past mid new n0 n1 n2 (found (in_folders folders text)) (done_or p (rest (drop (i + 1) folders))) rest folders i folder grew back there a (b (in_folders (drop (i + 1) folders) text)))

-- the include folders come after the folder of the file
pub folders_after : (mid new : List Record) (n0 n1 n2 : List ℕ) (file : List ℕ) (folders : List (List ℕ)) (text folder : List ℕ) (p q : Option (List ℕ))
    → Grew mid new → ((f : Question → Answer) → Agrees f new → Agrees f mid) → folder ≡ folder_of file → p ≡ None
    → ((more : List (List ℕ)) → Comes mid n0 n1 (found (with_candidate (result_ok (join_of folder text)) more)) (done_or p (found more)))
    → Comes new n1 n2 (found (in_folders folders text)) (Done q) → Comes new n0 n2 (found (candidates file folders text)) (Done q)
folders_after mid new n0 n1 n2 file folders text folder p q grew back at is a b =
    let whole : List ℕ → Asks (Option (List ℕ)) = λ dir. found (with_candidate (result_ok (join_of dir text)) (in_folders folders text)) in
    let P : Option (List ℕ) → Type 0 = λ o. Comes mid n0 n1 (whole folder) (done_or o (found (in_folders folders text))) in
    let first : Comes mid n0 n1 (whole folder) (found (in_folders folders text)) = subst P is (a (in_folders folders text)) in
    let Q : List ℕ → Type 0 = λ dir. Comes new n0 n2 (whole dir) (Done q) in
    subst Q at (comes_then mid new n0 n1 n2 (whole folder) (found (in_folders folders text)) (Done q) grew back first b)

-- the file of an include, by the table
found_by : (kept : List Record) (before now : List ℕ) (folders : List (List ℕ)) (table : Table) (file text : List ℕ) (p : Option (List ℕ)) (x : Find)
    → Comes kept before now (found (candidates file folders text)) (Done p) → x ≡ find_in table p → Comes kept before now (find_of folders table file text) (Done x)
unfolding find_of
found_by kept before now folders table file text p x came is =
    let P : Find → Type 0 = λ y. Comes kept before now (find_of folders table file text) (Done y) in
    subst P (sym is) (comes_bound kept before now (found (candidates file folders text)) (Done p) (λ path. Done (find_in table path)) came)

pub find_told : (kept : List Record) (before now : List ℕ) (folders : List (List ℕ)) (table : Table) (file text : List ℕ) (p : Option (List ℕ)) (x : Find)
    → Comes kept before now (found (candidates file folders text)) (Done p) → x ≡ find_in table p
    → (f : Question → Answer) → Agrees f kept → x ≡ value (find_of folders table file text) f
find_told kept before now folders table file text p x came is f h = sym ((found_by kept before now folders table file text p x came is).told f h)

pub find_pushed : (kept : List Record) (before now : List ℕ) (folders : List (List ℕ)) (table : Table) (file text : List ℕ) (p : Option (List ℕ)) (x : Find)
    → Comes kept before now (found (candidates file folders text)) (Done p) → x ≡ find_in table p → HasPushed kept before now (find_of folders table file text)
find_pushed kept before now folders table file text p x came is =
    comes_pushed kept before now (find_of folders table file text) x (found_by kept before now folders table file text p x came is)
