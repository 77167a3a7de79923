use Rattle.std.proofs.Common.{◌≡◌, ◌≢◌, ℕ, Bool, true, false, not, cond, List, [], ◌∷◌, ◌++◌, length, take, drop, reverse, Option, Some, None, IfSome, Result, Ok, Err, OnOk, OnErr, refl, sym, ◌∙◌, ap, subst, append-nil}
use Rattle.std.specs.List.{find, filter}
use Rattle.std.specs.Option.{option_map}
use Rattle.std.proofs.lemmas.List.{reverse-append}
use Rattle.std.proofs.lemmas.List.Elements.{All-append, All-cons, All-nil, All-filter, filter-append}
use Rattle.std.specs.Cmp.Lexicographic.{same_text as same_from_test}
use Rattle.cm_outside.specs.Trees.{Files, Path, same_text, file_at, without_path}
use Rattle.cm_outside.specs.Caches.{with_file, with_set, WouldAnswer, name_asked}
use Rattle.cm_outside.specs.CachesInMemory.{AllTrue}
use Rattle.cm_outside.specs.declared.cache.CallKind.{CallKind}
use Rattle.cm_outside.specs.declared.cache.CallKind.TheVariants.{Size, ReadAt}
use Rattle.cm_outside.specs.declared.cache.CallAnswer.{CallAnswer}
use Rattle.cm_outside.specs.declared.cache.CallAnswer.TheVariants.{Size as SizeIs, Read as PartIs}
use Rattle.cm_outside.specs.declared.cache.CacheEntry.{CacheEntry}

over_choice : {A B : Type 0} (f : A → B) (b : Bool) (x y : A) → f (cond b x y) ≡ cond b (f x) (f y)
over_choice f true x y = refl
over_choice f false x y = refl

kept_choice : {A : Type 0} (test keeps : Bool) (x y : A) → (test ≡ true → keeps ≡ true) → cond keeps (cond test x y) y ≡ cond test x y
kept_choice test true x y kept = refl
kept_choice true false x y kept = absurd (cc (kept refl))
kept_choice false false x y kept = refl

-- what a search finds in a filtered list, where the filter keeps all that the search may find
find-filter : {X : Type 0} (test keeps : X → Bool) → ((x : X) → test x ≡ true → keeps x ≡ true) → (xs : List X) → find test (filter keeps xs) ≡ find test xs
find-filter test keeps kept [] = refl
find-filter test keeps kept (x ∷ xs) =
    over_choice (find test) (keeps x) (x ∷ filter keeps xs) (filter keeps xs)
    ∙ ap (λ found. cond (keeps x) (cond (test x) (Some x) found) found) (find-filter test keeps kept xs)
    ∙ kept_choice (test x) (keeps x) (Some x) (find test xs) (kept x)

reverse_choice : {X : Type 0} (b : Bool) (x : X) (xs : List X) → reverse (cond b (x ∷ xs) xs) ≡ reverse xs ++ cond b (x ∷ []) []
reverse_choice true x xs = reverse-append (x ∷ []) xs
reverse_choice false x xs = sym (append-nil (reverse xs))

filter-reverse : {X : Type 0} (keeps : X → Bool) (xs : List X) → reverse (filter keeps xs) ≡ filter keeps (reverse xs)
filter-reverse keeps [] = refl
filter-reverse keeps (x ∷ xs) =
    reverse_choice (keeps x) x (filter keeps xs)
    ∙ ap (λ front. front ++ cond (keeps x) (x ∷ []) []) (filter-reverse keeps xs)
    ∙ sym (filter-append keeps (reverse xs) (x ∷ []))
    ∙ ap (filter keeps) (sym (reverse-append (x ∷ []) xs))

other_name : (same : Bool) (x y : Path) → same ≡ same_text x y → x ≢ y → same ≡ false
other_name true x y e differ = absurd (differ (same_from_test x y e))
other_name false x y e differ = refl

keeps_other : (name other x : Path) → other ≢ name → same_text x other ≡ true → not (same_text x name) ≡ true
keeps_other name other x differ e =
    let is : x ≡ other = same_from_test x other (sym e) in
    ap not (other_name (same_text x name) x name refl (λ (h : x ≡ name). differ (sym is ∙ h)))

-- a file of another name stays
pub file_at-without_path : (name other : Path) (files : Files) → other ≢ name → file_at other (without_path name files) ≡ file_at other files
file_at-without_path name other files differ =
    let test : Path × List ℕ → Bool = λ file. same_text file.0 other in
    let keeps : Path × List ℕ → Bool = λ file. not (same_text file.0 name) in
    ap (option_map (λ (file : Path × List ℕ). file.1))
    (ap (find test) (filter-reverse keeps files) ∙ find-filter test keeps (λ file. keeps_other name other file.0 differ) (reverse files))

pub file_at-with_file : (name other : Path) (bytes : List ℕ) (files : Files) → other ≢ name → file_at other (with_file name bytes files) ≡ file_at other files
file_at-with_file name other bytes files differ =
    let test : Path × List ℕ → Bool = λ file. same_text file.0 other in
    let rest : Files = without_path name files in
    let new : Path × List ℕ = (name, bytes) in
    ap (λ all. option_map (λ (file : Path × List ℕ). file.1) (find test all)) (reverse-append rest (new ∷ []))
    ∙ ap (λ same. option_map (λ (file : Path × List ℕ). file.1) (cond same (Some new) (find test (reverse rest)))) (other_name (same_text name other) name other refl (λ (h : name ≡ other). differ (sym h)))
    ∙ file_at-without_path name other files differ

-- the answer to a call stands where the file that it asks for is the same
would_answer : (old new : Files) (call : CallKind) (answer : CallAnswer) → ((name : Path) → name_asked call ≡ Some name → file_at name new ≡ file_at name old)
    → WouldAnswer old (record { call = call; answer = answer }) → WouldAnswer new (record { call = call; answer = answer })
would_answer old new (Size name) (SizeIs n) same holds = holds ∙ ap (option_map length) (sym (same name refl))
would_answer old new (ReadAt name at len) (PartIs part) same holds = holds ∙ ap (option_map (λ bytes. take len (drop at bytes))) (sym (same name refl))
would_answer old new call answer same holds = absurd holds

-- the answers for other names stand after a removal
pub answers_without : (name : Path) (files : Files) (e : CacheEntry) → WouldAnswer files e → name_asked e.call ≢ Some name → WouldAnswer (without_path name files) e
answers_without name files e holds other =
    would_answer files (without_path name files) e.call e.answer
    (λ asked is. file_at-without_path name asked files (λ (same : asked ≡ name). other (is ∙ ap (λ (n : Path). Some n) same))) holds

pub answers_with : (name : Path) (bytes : List ℕ) (files : Files) (e : CacheEntry) → WouldAnswer files e → name_asked e.call ≢ Some name → WouldAnswer (with_file name bytes files) e
answers_with name bytes files e holds other =
    would_answer files (with_file name bytes files) e.call e.answer
    (λ asked is. file_at-with_file name asked bytes files (λ (same : asked ≡ name). other (is ∙ ap (λ (n : Path). Some n) same))) holds

pub true_without : (is_true : List ℕ → Type 0) (name : Path) (files : Files) → AllTrue is_true files → AllTrue is_true (without_path name files)
true_without is_true name files all = All-filter (λ (file : Path × List ℕ). not (same_text file.0 name)) (λ file. is_true file.1) files all

pub true_with : (is_true : List ℕ → Type 0) (name : Path) (bytes : List ℕ) (files : Files) → AllTrue is_true files → is_true bytes → AllTrue is_true (with_file name bytes files)
true_with is_true name bytes files all new =
    let P : Path × List ℕ → Type 0 = λ file. is_true file.1 in
    All-append P (without_path name files) ((name, bytes) ∷ []) (true_without is_true name files all) (All-cons P (name, bytes) [] new (All-nil P))

-- the same of files that are told by an equation
pub true_after_put : (is_true : List ℕ → Type 0) (name : Path) (bytes : List ℕ) (old new : Files) → new ≡ with_file name bytes old → AllTrue is_true old → is_true bytes → AllTrue is_true new
true_after_put is_true name bytes old new is all true_bytes = let F : Files → Type 0 = AllTrue is_true in subst F (sym is) (true_with is_true name bytes old all true_bytes)

pub true_after_remove : (is_true : List ℕ → Type 0) (name : Path) (old new : Files) → new ≡ without_path name old → AllTrue is_true old → AllTrue is_true new
true_after_remove is_true name old new is all = let F : Files → Type 0 = AllTrue is_true in subst F (sym is) (true_without is_true name old all)

pub answers_after_put : (name : Path) (bytes : List ℕ) (old new : Files) → new ≡ with_file name bytes old → (e : CacheEntry) → WouldAnswer old e → name_asked e.call ≢ Some name → WouldAnswer new e
answers_after_put name bytes old new is e holds other = let F : Files → Type 0 = λ files. WouldAnswer files e in subst F (sym is) (answers_with name bytes old e holds other)

pub answers_after_remove : (name : Path) (old new : Files) → new ≡ without_path name old → (e : CacheEntry) → WouldAnswer old e → name_asked e.call ≢ Some name → WouldAnswer new e
answers_after_remove name old new is e holds other = let F : Files → Type 0 = λ files. WouldAnswer files e in subst F (sym is) (answers_without name old e holds other)

-- a file that is set, or removed
true_with_set : (is_true : List ℕ → Type 0) (name : Path) (bytes : Option (List ℕ)) (files : Files) → AllTrue is_true files → IfSome bytes is_true → AllTrue is_true (with_set name bytes files)
true_with_set is_true name None files all new = true_without is_true name files all
true_with_set is_true name (Some bytes) files all new = true_with is_true name bytes files all new

answers_with_set : (name : Path) (bytes : Option (List ℕ)) (files : Files) (e : CacheEntry) → WouldAnswer files e → name_asked e.call ≢ Some name → WouldAnswer (with_set name bytes files) e
answers_with_set name None files e = answers_without name files e
answers_with_set name (Some bytes) files e = answers_with name bytes files e

-- what holds of the files before a call and of those that it leaves where it is answered holds of those that it leaves
after_set : {A E : Type 0} (result : Result A E) (old set new : Files) (P : Files → Type 0) → OnOk result (new ≡ set) → OnErr result (new ≡ old) → P old → P set → P new
after_set (Ok _) old set new P is same before after = subst P (sym is) after
after_set (Err _) old set new P is same before after = subst P (sym same) before

pub true_after_set : {A E : Type 0} (result : Result A E) (is_true : List ℕ → Type 0) (name : Path) (bytes : Option (List ℕ)) (old new : Files)
    → OnOk result (new ≡ with_set name bytes old) → OnErr result (new ≡ old) → AllTrue is_true old → IfSome bytes is_true → AllTrue is_true new
true_after_set result is_true name bytes old new is same all set_true =
    after_set result old (with_set name bytes old) new (AllTrue is_true) is same all (true_with_set is_true name bytes old all set_true)

pub answers_after_set : {A E : Type 0} (result : Result A E) (name : Path) (bytes : Option (List ℕ)) (old new : Files)
    → OnOk result (new ≡ with_set name bytes old) → OnErr result (new ≡ old) → (e : CacheEntry) → WouldAnswer old e → name_asked e.call ≢ Some name → WouldAnswer new e
answers_after_set result name bytes old new is same e holds other =
    after_set result old (with_set name bytes old) new (λ files. WouldAnswer files e) is same holds (answers_with_set name bytes old e holds other)
