-- Among files that are all true, what a cache gives is what some true file gives. own
use Rattle.std.specs.Prelude.{◌≡◌, ℕ, Bool, true, false, cond, List, [], ◌∷◌, ◌++◌, length, take, drop, reverse, Option, Some, None, IfSome}
use Rattle.std.specs.Option.{option_map}
use Rattle.std.specs.List.{find, All, AllByRecursion}
use Rattle.std.proofs.Common.{sym, subst}
use Rattle.std.proofs.lemmas.List.{reverse-append}
use Rattle.std.proofs.lemmas.List.Elements.{All-append, All-cons, All-nil, recursion_from_All}
use Rattle.cm_outside.specs.Trees.{Files, Path, same_text, file_at}
use Rattle.cm_outside.specs.Caches.{size_in, part_in, HasParts}
use Rattle.cm_outside.specs.CachesInMemory.{AllTrue}

all_reversed : {X : Type 0} (P : X → Type 0) (xs : List X) → AllByRecursion P xs → All P (reverse xs)
all_reversed {X = X} P [] all = All-nil P
all_reversed {X = X} P (x ∷ xs) all =
    let F : List X → Type 0 = All P in
    subst F (sym (reverse-append (x ∷ []) xs)) (All-append P (reverse xs) (x ∷ []) (all_reversed P xs all.1) (All-cons P x [] all.0 (All-nil P)))

found_holds : (is_true : List ℕ → Type 0) (test : Path × List ℕ → Bool) (files : Files) → AllByRecursion (λ (file : Path × List ℕ). is_true file.1) files
    → IfSome (option_map (λ (file : Path × List ℕ). file.1) (find test files)) is_true
found_holds is_true test [] all = tt
found_holds is_true test (file ∷ files) all =
    elim (test file) as (λ b. IfSome (option_map (λ (f : Path × List ℕ). f.1) (cond b (Some file) (find test files))) is_true) [ true ↦ all.0 | false ↦ found_holds is_true test files all.1 ]

-- the file of a name is true
found_is_true : (is_true : List ℕ → Type 0) (name : Path) (files : Files) → AllTrue is_true files → IfSome (file_at name files) is_true
found_is_true is_true name files all =
    let P : Path × List ℕ → Type 0 = λ file. is_true file.1 in
    found_holds is_true (λ (f : Path × List ℕ). same_text f.0 name) (reverse files) (recursion_from_All P (reverse files) (all_reversed P files (recursion_from_All P files all)))

parts_of_found : (is_true : List ℕ → Type 0) (n at len : ℕ) (front rest : List ℕ) (found : Option (List ℕ)) → IfSome found is_true
    → Some n ≡ option_map length found → Some front ≡ option_map (λ bytes. take at (drop 0 bytes)) found → Some rest ≡ option_map (λ bytes. take len (drop at bytes)) found
    → (file : List ℕ) × HasParts n at len front rest file × is_true file
parts_of_found is_true n at len front rest None all size head tail = absurd (cc)
parts_of_found is_true n at len front rest (Some file) all size head tail = (file, record { has_size = cc; has_front = cc; has_rest = cc }, all)

-- a size, a front and the bytes behind it that are given of one name are those of one true file
pub true_file_gives : (is_true : List ℕ → Type 0) (files : Files) → AllTrue is_true files → (name : Path) (n at len : ℕ) (front rest : List ℕ)
    → Some n ≡ size_in name files → Some front ≡ part_in name 0 at files → Some rest ≡ part_in name at len files
    → (file : List ℕ) × HasParts n at len front rest file × is_true file
true_file_gives is_true files all name n at len front rest size head tail =
    parts_of_found is_true n at len front rest (file_at name files) (found_is_true is_true name files all) size head tail

-- Where such parts are those of a sealed file, what is given of that name at any place is the piece of that place,
-- if what stands in a true file is.
pub true_piece_gives : (is_true is_sealed : List ℕ → Type 0) (is_piece : List ℕ → ℕ → List ℕ → Type 0)
    → ((n at len : ℕ) (front rest sealed file : List ℕ) → HasParts n at len front rest sealed → is_sealed sealed → HasParts n at len front rest file → is_true file → (place size : ℕ) → is_piece (front ++ rest) place (take size (drop place file)))
    → (files : Files) → AllTrue is_true files → (name : Path) (n at len : ℕ) (front rest sealed : List ℕ)
    → Some n ≡ size_in name files → Some front ≡ part_in name 0 at files → Some rest ≡ part_in name at len files
    → HasParts n at len front rest sealed → is_sealed sealed
    → (place size : ℕ) (bytes : List ℕ) → Some bytes ≡ part_in name place size files → is_piece (front ++ rest) place bytes
true_piece_gives is_true is_sealed is_piece pieces files all name n at len front rest sealed has_size has_front has_rest parts seal place size bytes is =
    piece_of_found (file_at name files) (found_is_true is_true name files all) has_size has_front has_rest is
  where
    piece_of_found : (found : Option (List ℕ)) → IfSome found is_true
        → Some n ≡ option_map length found → Some front ≡ option_map (λ b. take at (drop 0 b)) found → Some rest ≡ option_map (λ b. take len (drop at b)) found
        → Some bytes ≡ option_map (λ b. take size (drop place b)) found → is_piece (front ++ rest) place bytes
    piece_of_found None truth e1 e2 e3 e4 = absurd (cc)
    piece_of_found (Some file) truth e1 e2 e3 e4 =
        let piece : is_piece (front ++ rest) place (take size (drop place file)) =
        pieces n at len front rest sealed file parts seal (record { has_size = cc; has_front = cc; has_rest = cc }) truth place size in
        let same : bytes ≡ take size (drop place file) = cc in
        let F : List ℕ → Type 0 = λ b. is_piece (front ++ rest) place b in
        subst F (sym same) piece
