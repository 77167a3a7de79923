-- What is known of a file by the size, the head and the index that were read of it.
use Rattle.std.proofs.Common.{◌≡◌, ◌⊎◌, inl, inr, ℕ, ◌+◌, ◌<◌, ◌≤◌, Bool, true, false, ◌||◌, ltb, lt-ltb, cond, List, ◌++◌, length, take, drop, Option, Some, None, Result, Ok, Err, IfOk, IfErr, MatchResult, refl, sym, ap, subst, ◌∙◌, arith, length-drop, length-take}
use Rattle.std.specs.Option.{option_map}
use Rattle.std.proofs.lemmas.List.{take-append-drop}
use Rattle.std.proofs.Math.Seq.{take-length}
use Rattle.cm_outside.specs.Faults.{Rose}
use Rattle.cm_outside.specs.Trees.{Files, Path, file_at}
use Rattle.cm_outside.specs.Caches.{part_in}
use Rattle.module_file.specs.ModuleFile.{spelling, spell_index, IsWellFormed, index_len_of}
use Rattle.module_file.specs.Head.{length-file, file_passes}
use Rattle.module_file.specs.declared.fault.FileFault.{FileFault}
use Rattle.module_file.specs.declared.fault.FileFault.TheVariants.{OtherVersion as VersionFault, Damaged as DamageFault, NoMemory as NoRoom}
use Rattle.module_file.specs.declared.index.Index.{Index}
use Rattle.module_file.specs.declared.index.Key.{Key}
use Rattle.cm_outside.specs.declared.question.Question.{Question}
use Rattle.cm_outside.specs.declared.question.Answer.{Answer}
use Rattle.cm_outside.specs.Asks.{Agrees}
use Rattle.build_store.specs.Kept.{IsOpenedFrom}
use Rattle.build_store.specs.Origins.{IsSealed, IsSealedAs, OfFile, IsOfOtherVersion, IsDamaged, IsSealedWith, IsCurrent, IsReason, IsOrigin}
use Rattle.build_store.specs.declared.kept.Opened.{Opened}
use Rattle.build_store.specs.declared.kept.Opened.TheVariants.{Sealed, Not}
use Rattle.build_store.specs.declared.origin.Reason.{Reason}
use Rattle.build_store.specs.declared.origin.Origin.TheVariants.{Loaded}
use Rattle.build_store.specs.Changes.{changed}
use Rattle.build_store.specs.declared.origin.Reason.TheVariants.{Missing, Unreadable, OtherVersion, Damaged, OtherKey, Outdated}

-- a count that rose in a part of a time rose in the whole
pub rose_in : (a b c d : ℕ) → a ≤ b → c ≤ d → Rose b c → Rose a d
rose_in a b c d first last rose = omega (arith, first, last, rose)

-- what is unreadable only where a part of a call failed is so where the call failed
pub unreadable_in : {E : Type 0} → (before mid after : ℕ) → before ≤ mid → (r : Result Opened E) → IfOk r (λ o. o ≡ Not Unreadable → Rose mid after)
    → IfOk r (λ o. o ≡ Not Unreadable → Rose before after)
unreadable_in before mid after first (Ok o) h = λ is. rose_in before mid after after first (omega arith) (h is)
unreadable_in before mid after first (Err e) h = h

-- the same head and size have the same length of the index
len_of_file : (head file : List ℕ) (size : ℕ) → head ≡ take 56 file → size ≡ length file → index_len_of head size ≡ index_len_of (take 56 file) (length file)
len_of_file head file size head_is size_is = λ i. index_len_of (head_is i) (size_is i)

pub other_version_is : (head file : List ℕ) (size n : ℕ) → head ≡ take 56 file → size ≡ length file → index_len_of head size ≡ Err (VersionFault n) → IsOfOtherVersion file
other_version_is head file size n head_is size_is says = (n, sym (len_of_file head file size head_is size_is) ∙ says)

length_spelling : (i : Index) → length (spelling i) ≡ 56 + length (spell_index i)
unfolding spelling
length_spelling i = length-file (spell_index i)

head_of_file : (size : ℕ) (head index : List ℕ) (i : Index) → IsWellFormed i → head ++ index ≡ spelling i → length head ≡ 56 → size ≡ length (spelling i) → index_len_of head size ≡ Ok (length index)
unfolding spelling
head_of_file size head index i fits whole has_head sized = (file_passes head index (spell_index i) size fits.len whole has_head sized).0

-- a sealed file passes the checks of its head
pub sealed_len : (file : List ℕ) (i : Index) → IsSealedAs file i → index_len_of (take 56 file) (length file) ≡ Ok (length (drop 56 file))
sealed_len file i s =
    let size : length file ≡ 56 + length (spell_index i) = ap length s.spelled ∙ length_spelling i in
    let front : length (take 56 file) ≡ 56 = omega (arith, length-take 56 file, size) in
    head_of_file (length file) (take 56 file) (drop 56 file) i s.well_formed (take-append-drop 56 file ∙ s.spelled) front (ap length s.spelled)

-- a file whose head fails another check than that of the version is damaged
pub damaged_by : (head file : List ℕ) (size : ℕ) → head ≡ take 56 file → size ≡ length file → index_len_of head size ≡ Err DamageFault → IsDamaged file
damaged_by head file size head_is size_is says = (version, seal)
  where
    at : index_len_of (take 56 file) (length file) ≡ Err DamageFault
    at = sym (len_of_file head file size head_is size_is) ∙ says

    version : IsOfOtherVersion file → ⊥
    version v = clash (sym at ∙ v.1)
      where
        clash : {n : ℕ} → ◌≡◌ {A = Result ℕ FileFault} (Err DamageFault) (Err (VersionFault n)) → ⊥
        clash e = cc

    seal : IsSealed file → ⊥
    seal s = clash (sym at ∙ sealed_len file s.0 s.1)
      where
        clash : {n : ℕ} → ◌≡◌ {A = Result ℕ FileFault} (Err DamageFault) (Ok n) → ⊥
        clash e = cc

short_head : (file : List ℕ) → length file < 56 → index_len_of (take 56 file) (length file) ≡ Err DamageFault
unfolding index_len_of
short_head file less = by (ltb (length file) 56) _ _ is
  where
    is : ltb (length file) 56 ≡ true
    is = lt-ltb (length file) 56 less

    by : (a b : Bool) (more : Result ℕ FileFault) → a ≡ true → cond (a || b) (Err DamageFault) more ≡ Err DamageFault
    by true b more e = refl
    by false b more e = absurd cc

-- a file without a whole head is damaged
pub short_is_damaged : (file : List ℕ) → length file < 56 → IsDamaged file
short_is_damaged file less = damaged_by (take 56 file) file (length file) refl refl (short_head file less)

-- ---- what is read of a file

-- what is read of a file at its begin
pub head_is : (name : Path) (fs : Files) (file head : List ℕ) → file_at name fs ≡ Some file → Some head ≡ part_in name 0 56 fs → head ≡ take 56 file
head_is name fs file head at says = cc (ap (option_map (λ bytes. take 56 (drop 0 bytes))) at, says)

some_same : (a b : List ℕ) → Some a ≡ Some b → a ≡ b
some_same a b e = cc

-- what is read of a file behind a head that fits it
pub rest_is : (name : Path) (fs : Files) (file index : List ℕ) (len : ℕ) → file_at name fs ≡ Some file → Some index ≡ part_in name 56 len fs → length file ≡ 56 + len → index ≡ drop 56 file
rest_is name fs file index len at says size =
    let rest : length (drop 56 file) ≡ len = omega (arith, length-drop 56 file, size) in
    some_same index (take len (drop 56 file)) (says ∙ ap (option_map (λ bytes. take len (drop 56 bytes))) at)
    ∙ ap (λ n. take n (drop 56 file)) (sym rest) ∙ take-length (drop 56 file)

pub part_is_there : (name : Path) (fs : Files) (file : List ℕ) (at len : ℕ) → file_at name fs ≡ Some file → ◌≡◌ {A = Option (List ℕ)} None (part_in name at len fs) → ⊥
part_is_there name fs file at len is says = clash (says ∙ ap (option_map (λ bytes. take len (drop at bytes))) is)
  where
    clash : {xs : List ℕ} → ◌≡◌ {A = Option (List ℕ)} None (Some xs) → ⊥
    clash e = cc

-- ---- what a whole file says

-- a file that is read as damaged is so
pub damaged_is : (r : Result Index FileFault) (size : ℕ) (head index file : List ℕ) → r ≡ Err DamageFault
    → IfErr (index_len_of head size) (λ fault. r ≡ Err fault)
    → ((i : Index) → IsWellFormed i → head ++ index ≡ spelling i → length head ≡ 56 → size ≡ length (spelling i) → MatchResult r (λ j. j ≡ i) (λ fault. fault ≡ NoRoom))
    → file ≡ head ++ index → head ≡ take 56 file → size ≡ length file → length head ≡ 56 → IsDamaged file
damaged_is r size head index file is by_head given whole head_is size_is has_head = (version, seal)
  where
    version : IsOfOtherVersion file → ⊥
    version v = clash (sym is ∙ at (len_of_file head file size head_is size_is ∙ v.1) by_head)
      where
        at : index_len_of head size ≡ Err (VersionFault v.0) → IfErr (index_len_of head size) (λ fault. r ≡ Err fault) → r ≡ Err (VersionFault v.0)
        at e h = let P : Result ℕ FileFault → Type 0 = λ l. IfErr l (λ fault. r ≡ Err fault) in subst P e h

        clash : {n : ℕ} → ◌≡◌ {A = Result Index FileFault} (Err DamageFault) (Err (VersionFault n)) → ⊥
        clash e = cc

    seal : IsSealed file → ⊥
    seal s =
        let P : Result Index FileFault → Type 0 = λ q. MatchResult q (λ j. j ≡ s.0) (λ fault. fault ≡ NoRoom) in
        clash (subst P is (given s.0 s.1.well_formed (sym whole ∙ s.1.spelled) has_head (size_is ∙ ap length s.1.spelled)))
      where
        clash : ◌≡◌ {A = FileFault} DamageFault NoRoom → ⊥
        clash e = cc

-- ---- what is found and done

pub opened_weaker : (failed more : Type 0) → (failed → more) → (key : Key) (file : Option (List ℕ)) (o : Opened) → IsOpenedFrom failed key file o → IsOpenedFrom more key file o
opened_weaker failed more is key file (Sealed i) h = h
opened_weaker failed more is key file (Not Missing) h = h
opened_weaker failed more is key file (Not Unreadable) h = is h
opened_weaker failed more is key file (Not OtherVersion) h = h
opened_weaker failed more is key file (Not Damaged) h = h
opened_weaker failed more is key file (Not OtherKey) h = h
opened_weaker failed more is key file (Not (Outdated path)) h = h

pub reason_weaker : (fits : Index → Bool) (failed more : Type 0) → (failed → more) → (key : Key) (t : Question → Answer) (file : Option (List ℕ)) (r : Reason) → IsReason fits failed key t file r → IsReason fits more key t file r
reason_weaker fits failed more is key t file Missing h = h
reason_weaker fits failed more is key t file Unreadable h = is h
reason_weaker fits failed more is key t file OtherVersion h = h
reason_weaker fits failed more is key t file Damaged h = h
reason_weaker fits failed more is key t file OtherKey h = h
reason_weaker fits failed more is key t file (Outdated path) h = h

-- a sealed file of the key with this index
pub sealed_with : (key : Key) (file : Option (List ℕ)) (i : Index) (P : Index → Type 0) → OfFile (λ f. IsSealedAs f i × (i.key ≡ key)) file → P i → OfFile (IsSealedWith P) file
sealed_with key None i P h holds = absurd h
sealed_with key (Some f) i P h holds = (i, h.0, holds)

pub key_is : (key : Key) (file : Option (List ℕ)) (i : Index) → OfFile (λ f. IsSealedAs f i × (i.key ≡ key)) file → i.key ≡ key
key_is key None i h = absurd h
key_is key (Some f) i h = h.1

pub size_of : (file : Option (List ℕ)) (n : ℕ) → Some n ≡ option_map length file → (f : List ℕ) × (file ≡ Some f) × (n ≡ length f)
size_of None n e = absurd cc
size_of (Some f) n e = (f, refl, cc)

of_file : (P Q : List ℕ → Type 0) → ((f : List ℕ) → P f → Q f) → (file : Option (List ℕ)) → OfFile P file → OfFile Q file
of_file P Q weaker None h = h
of_file P Q weaker (Some f) h = weaker f h

-- a current file that fits is loaded
pub loaded_from : (fits : Index → Bool) (failed : Type 0) (key : Key) (t : Question → Answer) (file : Option (List ℕ)) (i : Index) → OfFile (λ f. IsSealedAs f i × (i.key ≡ key)) file
    → Agrees t i.records → fits i ≡ true → IsOrigin fits failed key t file Loaded
loaded_from fits failed key t file i h agrees is =
    sealed_with key file i (λ j. IsCurrent key t j × (fits j ≡ true)) h ((key_is key file i h, agrees), is)

-- and one that doesn't fit counts as damaged
pub unfit_from : (fits : Index → Bool) (failed : Type 0) (key : Key) (t : Question → Answer) (file : Option (List ℕ)) (i : Index) → OfFile (λ f. IsSealedAs f i × (i.key ≡ key)) file
    → Agrees t i.records → fits i ≡ false → IsReason fits failed key t file Damaged
unfit_from fits failed key t file i h agrees is =
    of_file (IsSealedWith (λ j. IsCurrent key t j × (fits j ≡ false))) (λ f. IsDamaged f ⊎ IsSealedWith (λ j. IsCurrent key t j × (fits j ≡ false)) f) (λ f s. inr s) file
    (sealed_with key file i (λ j. IsCurrent key t j × (fits j ≡ false)) h ((key_is key file i h, agrees), is))

-- one with a record that has another answer is outdated
pub outdated_from : (fits : Index → Bool) (failed : Type 0) (key : Key) (t : Question → Answer) (file : Option (List ℕ)) (i : Index) (path : List ℕ)
    → OfFile (λ f. IsSealedAs f i × (i.key ≡ key)) file → changed t i.records ≡ Some path → IsReason fits failed key t file (Outdated path)
outdated_from fits failed key t file i path h is =
    sealed_with key file i (λ j. (j.key ≡ key) × (changed t j.records ≡ Some path)) h (key_is key file i h, is)

-- what no file was opened for is the reason
pub not_opened_from : (fits : Index → Bool) (failed : Type 0) (key : Key) (t : Question → Answer) (file : Option (List ℕ)) (r : Reason) → IsOpenedFrom failed key file (Not r) → IsReason fits failed key t file r
not_opened_from fits failed key t file Missing h = h
not_opened_from fits failed key t file Unreadable h = h
not_opened_from fits failed key t file OtherVersion h = h
not_opened_from fits failed key t file Damaged h = of_file IsDamaged (λ f. IsDamaged f ⊎ IsSealedWith (λ j. IsCurrent key t j × (fits j ≡ false)) f) (λ f s. inl s) file h
not_opened_from fits failed key t file OtherKey h = h
not_opened_from fits failed key t file (Outdated path) h = absurd h
