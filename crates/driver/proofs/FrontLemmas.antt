-- Fronts of images are true, and whatever a replay does to kept files leaves only such.
use Rattle.std.proofs.Common.{◌≡◌, ◌≢◌, inl, inr, ℕ, ◌<◌, Bool, true, false, not, cond, List, [], ◌∷◌, ◌++◌, length, take, drop, reverse, Option, Some, None, IfSome, Result, Ok, Err, OnOk, OnErr, refl, sym, ap, subst, ◌∙◌, append_assoc, append-nil, arith}
use Rattle.std.specs.Prelude.{option_and_then, nat_lt}
use Rattle.std.specs.Cmp.Lexicographic.{other_text, same_text as same_from_test}
use Rattle.std.specs.List.{find, filter, All, AllByRecursion}
use Rattle.std.specs.Option.{option_map}
use Rattle.std.proofs.lemmas.List.{take-append-drop, length-append, reverse-append}
use Rattle.std.proofs.lemmas.List.Elements.{All-append, All-cons, All-nil, recursion_from_All}
use Rattle.std.proofs.Math.Seq.{take-append_seam}
use Rattle.cm_outside.specs.Trees.{Files, Path, file_at, same_text, without_path}
use Rattle.cm_outside.specs.Caches.{with_file}
use Rattle.cm_outside.specs.CachesInMemory.{AllTrue}
use Rattle.cm_outside.proofs.CachedFiles.{file_at-without_path, true_without, true_with}
use Rattle.unit_fold.specs.Lines.{when}
use Rattle.module_file.specs.ModuleFile.{spelling}
use Rattle.build_store.specs.ImageLaws.{image_is_true, front_is_true}
use Rattle.build_store.specs.Images.{IsImage, IsTrueFile}
use Rattle.build_store.specs.Left.{IsFrontOf, IsLeftAt, Leaves}
use Rattle.driver.specs.KeptFronts.{AreFronts, IsFront, name_at, without_named, dropped, front_in, with_front, torn_named, torn}

-- ---- fronts of images

longer : (file : List ℕ) (c : ℕ) (rest : List ℕ) → length file < length (file ++ c ∷ rest)
longer file c rest = omega (arith, length-append file (c ∷ rest))

pub front_true : (file : List ℕ) → IsFront file → IsTrueFile file
front_true file h = by h.0 h.1
  where
    by : (rest : List ℕ) → IsImage (file ++ rest) → IsTrueFile file
    by [] image = let P : List ℕ → Type 0 = IsTrueFile in subst P (append-nil file) (image_is_true (file ++ []) image)
    by (c ∷ rest) image =
        let P : List ℕ → Type 0 = IsTrueFile in
        subst P (take-append_seam file (c ∷ rest)) (front_is_true (file ++ c ∷ rest) (length file) image (longer file c rest))

image_front : (file : List ℕ) → IsImage file → IsFront file
image_front file image = let P : List ℕ → Type 0 = IsImage in ([], subst P (sym (append-nil file)) image)

front_front : (n : ℕ) (file : List ℕ) → IsFront file → IsFront (take n file)
front_front n file h =
    let P : List ℕ → Type 0 = IsImage in
    let whole : file ++ h.0 ≡ take n file ++ (drop n file ++ h.0) =
    sym (ap (λ (bytes : List ℕ). bytes ++ h.0) (take-append-drop n file)) ∙ append_assoc (take n file) (drop n file) h.0 in
    (drop n file ++ h.0, subst P whole h.1)

-- ---- a file that is not there, or put there

find_none : {X : Type 0} (test : X → Bool) (xs : List X) → AllByRecursion (λ x. test x ≡ false) xs → find test xs ≡ None
find_none test [] none = refl
find_none test (x ∷ xs) none = ap (λ b. cond b (Some x) (find test xs)) none.0 ∙ find_none test xs none.1

all_dropped : {X : Type 0} (test : X → Bool) (xs : List X) → All (λ x. test x ≡ false) (filter (λ x. not (test x)) xs)
all_dropped {X = X} test [] = All-nil (λ x. test x ≡ false)
all_dropped {X = X} test (x ∷ xs) = by (test x) refl (all_dropped test xs)
  where
    by : (b : Bool) → test x ≡ b → All (λ y. test y ≡ false) (filter (λ y. not (test y)) xs)
        → All (λ y. test y ≡ false) (cond (not b) (x ∷ filter (λ y. not (test y)) xs) (filter (λ y. not (test y)) xs))
    by true is rest = rest
    by false is rest = All-cons (λ y. test y ≡ false) x (filter (λ y. not (test y)) xs) is rest

all_reversed : {X : Type 0} (P : X → Type 0) (xs : List X) → AllByRecursion P xs → All P (reverse xs)
all_reversed {X = X} P [] all = All-nil P
all_reversed {X = X} P (x ∷ xs) all =
    let F : List X → Type 0 = All P in
    subst F (sym (reverse-append (x ∷ []) xs)) (All-append P (reverse xs) (x ∷ []) (all_reversed P xs all.1) (All-cons P x [] all.0 (All-nil P)))

gone : (name : Path) (files : Files) → file_at name (without_path name files) ≡ None
gone name files =
    let test : Path × List ℕ → Bool = λ file. same_text file.0 name in
    let P : Path × List ℕ → Type 0 = λ file. test file ≡ false in
    let rest : Files = without_path name files in
    ap (option_map (λ (file : Path × List ℕ). file.1))
    (find_none test (reverse rest) (recursion_from_All P (reverse rest) (all_reversed P rest (recursion_from_All P rest (all_dropped test files)))))

differs : (name other : Path) → same_text name other ≡ false → other ≢ name
differs name other test same = other_text name other (sym test) (sym same)

-- what holds of the file of each name holds of those of the names that are left
found_without : (P : List ℕ → Type 0) (name other : Path) (files : Files) → IfSome (file_at other files) P → IfSome (file_at other (without_path name files)) P
found_without P name other files holds = by (same_text name other) refl
  where
    by : (b : Bool) → same_text name other ≡ b → IfSome (file_at other (without_path name files)) P
    by true is =
        let here : file_at other (without_path name files) ≡ None = ap (λ n. file_at other (without_path n files)) (same_from_test name other (sym is)) ∙ gone other files in
        let Q : Option (List ℕ) → Type 0 = λ file. IfSome file P in
        subst Q (sym here) tt
    by false is =
        let Q : Option (List ℕ) → Type 0 = λ file. IfSome file P in
        subst Q (sym (file_at-without_path name other files (differs name other is))) holds

found_with : (P : List ℕ → Type 0) (name other : Path) (bytes : List ℕ) (files : Files) → P bytes → IfSome (file_at other files) P → IfSome (file_at other (with_file name bytes files)) P
found_with P name other bytes files new holds =
    let rest : Files = without_path name files in
    let F : List (Path × List ℕ) → Type 0 = λ all. IfSome (option_map (λ (file : Path × List ℕ). file.1) (find (λ (file : Path × List ℕ). same_text file.0 other) all)) P in
    subst F (sym (reverse-append rest ((name, bytes) ∷ []))) (by (same_text name other) (found_without P name other files holds))
  where
    by : (b : Bool) → IfSome (option_map (λ (file : Path × List ℕ). file.1) (find (λ (file : Path × List ℕ). same_text file.0 other) (reverse (without_path name files)))) P
        → IfSome (option_map (λ (file : Path × List ℕ). file.1) (cond b (Some (name, bytes)) (find (λ (file : Path × List ℕ). same_text file.0 other) (reverse (without_path name files))))) P
    by true rest = new
    by false rest = rest

-- ---- all kept files

without_fronts : (name : Path) (files : Files) → AreFronts files → AreFronts (without_path name files)
without_fronts name files all = record {
  fronts = λ other. found_without IsFront name other files (all.fronts other);
  honest = true_without IsTrueFile name files all.honest;
}

with_fronts : (name : Path) (bytes : List ℕ) (files : Files) → IsFront bytes → AreFronts files → AreFronts (with_file name bytes files)
with_fronts name bytes files new all = record {
  fronts = λ other. found_with IsFront name other bytes files new (all.fronts other);
  honest = true_with IsTrueFile name bytes files all.honest (front_true bytes new);
}

-- no file is one
pub empty_fronts : AreFronts []
empty_fronts = record { fronts = λ name. tt; honest = All-nil (λ (file : Path × List ℕ). IsTrueFile file.1) }

-- a build leaves fronts
left_front : (name : Path) (old new : Files) → IsLeftAt name old new → IfSome (file_at name old) IsFront → IfSome (file_at name new) IsFront
left_front name old new (inl same) holds = let P : Option (List ℕ) → Type 0 = λ file. IfSome file IsFront in subst P (sym same) holds
left_front name old new (inr put) holds = by (file_at name new) put.3
  where
    by : (file : Option (List ℕ)) → IsFrontOf (spelling put.0) file → IfSome file IsFront
    by None is = tt
    by (Some file) is = let P : List ℕ → Type 0 = IsFront in subst P (sym is.1) (front_front is.0 (spelling put.0) (image_front (spelling put.0) put.1))

-- what is left, where the files are told
pub left_told : (old new : Files) → Leaves (Some old) (Some new) → (name : Path) → IsLeftAt name old new
left_told old new left name =
    let same : new ≡ left.0 = cc (left.1) in
    let P : Files → Type 0 = IsLeftAt name old in
    subst P (sym same) (left.2 name)

pub leaves_fronts : (old new : Files) → Leaves (Some old) (Some new) → AllTrue IsTrueFile new → AreFronts old → AreFronts new
leaves_fronts old new left honest all = record {
  fronts = λ name. left_front name old new (left_told old new left name) (all.fronts name);
  honest = honest;
}

-- and so do the lines `drop` and `tear`
pub dropped_fronts : (n : ℕ) (files : Files) → AreFronts files → AreFronts (dropped n files)
dropped_fronts n files all = by (name_at n files)
  where
    by : (name : Option Path) → AreFronts (without_named name files)
    by None = all
    by (Some name) = without_fronts name files all

found_front : (len : ℕ) (found : Option (List ℕ)) → IfSome found IsFront → IfSome (option_and_then (λ bytes. when (nat_lt len (length bytes)) (take len bytes)) found) IsFront
found_front len None holds = tt
found_front len (Some bytes) holds = by (nat_lt len (length bytes))
  where
    by : (b : Bool) → IfSome (when b (take len bytes)) IsFront
    by true = front_front len bytes holds
    by false = tt

with_front_fronts : (name : Path) (front : Option (List ℕ)) (files : Files) → AreFronts files → IfSome front IsFront → AreFronts (with_front name front files)
with_front_fronts name None files all holds = all
with_front_fronts name (Some front) files all holds = with_fronts name front files holds all

pub torn_fronts : (n len : ℕ) (files : Files) → AreFronts files → AreFronts (torn n len files)
torn_fronts n len files all = by (name_at n files)
  where
    by : (name : Option Path) → AreFronts (torn_named len name files)
    by None = all
    by (Some name) = with_front_fronts name (front_in name len files) files all (found_front len (file_at name files) (all.fronts name))

-- what a call leaves, whether it is answered or refused
pub fronts_after : {A E : Type 0} (result : Result A E) (old set new : Files) → OnOk result (new ≡ set) → OnErr result (new ≡ old) → AreFronts old → AreFronts set → AreFronts new
fronts_after (Ok _) old set new is same before after = let P : Files → Type 0 = AreFronts in subst P (sym is) after
fronts_after (Err _) old set new is same before after = let P : Files → Type 0 = AreFronts in subst P (sym same) before
