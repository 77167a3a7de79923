-- What is held stays true with more answers given, and what keeping the file of a module leaves in a cache.
use Rattle.std.proofs.Common.{◌≡◌, ◌≢◌, ◌∙◌, refl, sym, ap, subst, ℕ, Bool, true, false, not, cond, List, [], ◌∷◌, ◌++◌, length, take, reverse, append-nil, append_assoc, Option, Some, None, ◌⊎◌, inl, inr, true≢false}
use Rattle.std.specs.List.{find, filter}
use Rattle.std.specs.Option.{option_map}
use Rattle.std.proofs.lemmas.List.{reverse-append}
use Rattle.std.specs.Cmp.Lexicographic.{same_text as same_from_test}
use Rattle.cm_outside.specs.declared.question.Question.{Question}
use Rattle.cm_outside.specs.declared.question.Question.TheVariants.{Read, List as Listing}
use Rattle.cm_outside.specs.declared.question.Answer.{Answer}
use Rattle.cm_outside.specs.declared.question.Answer.TheVariants.{Absent, Bytes, TooLarge, Paths}
use Rattle.cm_outside.specs.declared.question.Record.{Record}
use Rattle.cm_outside.specs.Asks.{Agrees, asked}
use Rattle.cm_outside.specs.Caches.{with_file}
use Rattle.cm_outside.specs.Firsts.{firsts}
use Rattle.cm_outside.specs.Keeping.{Grew, is_of_kind}
use Rattle.cm_outside.specs.QuestionLaws.{same_question_decides}
use Rattle.cm_outside.specs.Trees.{Files, Path, file_at, same_text, without_path}
use Rattle.cm_outside.proofs.CachedFiles.{file_at-with_file, file_at-without_path}
use Rattle.cm_outside.proofs.Grown.{numbered_after}
use Rattle.module_file.specs.ModuleFile.{IsAnswered, IsWellFormed, file_name_of, spelling}
use Rattle.module_file.specs.declared.index.Index.{Index}
use Rattle.module_file.specs.declared.index.Key.{Key}
use Rattle.build_store.specs.Decisions.{IsNumberedChoice}
use Rattle.build_store.specs.Held.{HeldOn, HeldRuns, Holds, IsDecided, IsTableOf, choice_at, ended_as_cyclic, key_held, state_held}
use Rattle.build_store.specs.Images.{IsImage, index_of, interpreted}
use Rattle.build_store.specs.Kept.{IsPut, LeavesKept}
use Rattle.build_store.specs.Left.{IsFrontOf, IsLeftAt, Leaves, LeavesOthers}
use Rattle.build_store.specs.Tables.{table_of}
use Rattle.build_store.specs.declared.decide.Choice.{Choice}
use Rattle.build_store.specs.declared.decide.Choice.TheVariants.{Sources, File}
use Rattle.build_store.specs.declared.held.Held.{Held}

-- ---- more answers given

grown_choice : (before after : List Record) → Grew before after → (c : Choice) → IsNumberedChoice before c → IsNumberedChoice after c
grown_choice before after grew Sources numbered = tt
grown_choice before after grew (File i numbers) numbered = numbered_after before after numbers i.records grew numbered

module _ (before after : List Record) (grew : Grew before after) (h : Held) where
  grown_decided : (t : Question → Answer) (m : ℕ) → IsDecided before h t m → IsDecided after h t m
  grown_decided t m d = record { numbered = grown_choice before after grew (choice_at h m) d.numbered; of_key = d.of_key; is_true = d.is_true }

  grown_holds : (t : Question → Answer) (m : ℕ) → Holds before h t m → Holds after h t m
  grown_holds t m k = record {
    parts = k.parts;
    found = k.found;
    outcome = k.outcome;
    brought = k.brought;
    is_found = k.is_found;
    questions = numbered_after before after k.found.asked (firsts (asked (interpreted (key_held h m)) t)) grew k.questions;
    needs = k.needs;
  }

  pub grown_on : HeldOn before after h h
  grown_on = record {
    job = refl;
    table = refl;
    maps = refl;
    decided = λ t m agrees d. grown_decided t m d;
    holds = λ t m agrees k. grown_holds t m k;
  }

  pub grown_runs : (t : Question → Answer) (chain end : List ℕ) → HeldRuns before h t chain end → HeldRuns after h t chain end
  unfolding state_held
  grown_runs t chain end runs = record {
    stack = runs.stack;
    known = record { good = runs.known.good; holds = λ m good. grown_holds t m (runs.known.holds m good) };
    decided = λ m here. grown_decided t m (runs.decided m here);
  }

  pub grown_table : ((t : Question → Answer) → Agrees t after → Agrees t before) → IsTableOf before h → IsTableOf after h
  grown_table back of = record {
    table = λ t agrees. of.table t (back t agrees);
    maps = λ t agrees. numbered_after before after h.maps (asked (table_of h.job.maps) t) grew (of.maps t (back t agrees));
  }

pub same_on : (kept : List Record) (h : Held) → HeldOn kept kept h h
same_on kept h = record { job = refl; table = refl; maps = refl; decided = λ t m agrees d. d; holds = λ t m agrees k. k }

pub on_then : (before after : List Record) (a b c : Held) → HeldOn before after a b → HeldOn after after b c → HeldOn before after a c
on_then before after a b c f g = record {
  job = g.job ∙ f.job;
  table = g.table ∙ f.table;
  maps = g.maps ∙ f.maps;
  decided = λ t m agrees d. g.decided t m agrees (f.decided t m agrees d);
  holds = λ t m agrees k. g.holds t m agrees (f.holds t m agrees k);
}

-- a module that ends as Cyclic leaves what was decided and what is kept true
pub cyclic_on : (kept : List Record) (h : Held) (n : ℕ) → HeldOn kept kept h (ended_as_cyclic h n)
cyclic_on kept h n = record {
  job = refl;
  table = refl;
  maps = refl;
  decided = λ t m agrees d. record { numbered = d.numbered; of_key = d.of_key; is_true = d.is_true };
  holds = λ t m agrees k. record { parts = k.parts; found = k.found; outcome = k.outcome; brought = k.brought; is_found = k.is_found; questions = k.questions; needs = k.needs };
}

-- ---- records

pub answered_of : (r : Record) → is_of_kind r.question r.answer ≡ true → IsAnswered r
answered_of r kind = by r.question r.answer kind
  where
    by : (q : Question) (a : Answer) → is_of_kind q a ≡ true → IsAnswered (record { question = q; answer = a })
    by (Read p) Absent e = tt
    by (Read p) (Bytes bytes) e = tt
    by (Read p) (TooLarge size) e = tt
    by (Read p) (Paths ps) e = absurd (true≢false (sym e))
    by (Listing d) Absent e = absurd (true≢false (sym e))
    by (Listing d) (Bytes bytes) e = absurd (true≢false (sym e))
    by (Listing d) (TooLarge size) e = absurd (true≢false (sym e))
    by (Listing d) (Paths ps) e = tt

-- ---- the file of an image

pub image_of : (i : Index) (t : Question → Answer) → index_of i.key t ≡ Some i → IsWellFormed i → IsImage (spelling i)
image_of i t is well = (i, record { well_formed = well; spelled = refl }, (t, is))

same_own : (name : Path) → same_text name name ≡ true
same_own name = (same_question_decides (Read name) (Read name)).1 refl

-- the file of a name that was put is there
pub put_at : (name : Path) (bytes : List ℕ) (files : Files) → file_at name (with_file name bytes files) ≡ Some bytes
put_at name bytes files =
    let test : Path × List ℕ → Bool = λ file. same_text file.0 name in
    let rest : Files = without_path name files in
    let new : Path × List ℕ = (name, bytes) in
    ap (λ all. option_map (λ (file : Path × List ℕ). file.1) (find test all)) (reverse-append rest (new ∷ []))
    ∙ ap (λ same. option_map (λ (file : Path × List ℕ). file.1) (cond same (Some new) (find test (reverse rest)))) (same_own name)

none_in : {X : Type 0} (test : X → Bool) (xs more : List X) → find test more ≡ None → find test (reverse (filter (λ x. not (test x)) xs) ++ more) ≡ None
none_in test [] more none = none
none_in {X = X} test (x ∷ xs) more none = by (test x) refl (λ ys gone. none_in test xs ys gone)
  where
    by : (b : Bool) → test x ≡ b → ((ys : List X) → find test ys ≡ None → find test (reverse (filter (λ y. not (test y)) xs) ++ ys) ≡ None)
        → find test (reverse (cond (not b) (x ∷ filter (λ y. not (test y)) xs) (filter (λ y. not (test y)) xs)) ++ more) ≡ None
    by true is rest = rest more none
    by false is rest =
        let kept = filter (λ y. not (test y)) xs in
        ap (find test) (ap (λ ys. ys ++ more) (reverse-append (x ∷ []) kept) ∙ append_assoc (reverse kept) (x ∷ []) more)
        ∙ rest (x ∷ more) (ap (λ b. cond b (Some x) (find test more)) is ∙ none)

-- a name without a file
gone_at : (name : Path) (files : Files) → file_at name (without_path name files) ≡ None
gone_at name files =
    let test : Path × List ℕ → Bool = λ file. same_text file.0 name in
    ap (option_map (λ (file : Path × List ℕ). file.1)) (ap (find test) (sym (append-nil (reverse (without_path name files)))) ∙ none_in test files [] refl)

full_front : (bytes : List ℕ) → take (length bytes) bytes ≡ bytes
full_front [] = refl
full_front (b ∷ bytes) = ap (λ bs. b ∷ bs) (full_front bytes)

module _ (i : Index) (old files : Files) where
  pub left_own : IsPut (file_name_of i.key) (spelling i) old files → (file_at (file_name_of i.key) files ≡ file_at (file_name_of i.key) old) ⊎ IsFrontOf (spelling i) (file_at (file_name_of i.key) files)
  left_own (inl put) =
      let P : Option (List ℕ) → Type 0 = IsFrontOf (spelling i) in
      inr (subst P (sym (ap (file_at (file_name_of i.key)) put ∙ put_at (file_name_of i.key) (spelling i) old)) (length (spelling i), sym (full_front (spelling i))))
  left_own (inr (inl same)) = inl (ap (file_at (file_name_of i.key)) same)
  left_own (inr (inr (inl gone))) =
      let P : Option (List ℕ) → Type 0 = IsFrontOf (spelling i) in
      inr (subst P (sym (ap (file_at (file_name_of i.key)) gone ∙ gone_at (file_name_of i.key) old)) tt)
  left_own (inr (inr (inr (n, less, front)))) =
      let P : Option (List ℕ) → Type 0 = IsFrontOf (spelling i) in
      inr (subst P (sym (ap (file_at (file_name_of i.key)) front ∙ put_at (file_name_of i.key) (take n (spelling i)) old)) (n, refl))

  left_other : (name : Path) → name ≢ file_name_of i.key → IsPut (file_name_of i.key) (spelling i) old files → file_at name files ≡ file_at name old
  left_other name other (inl put) = ap (file_at name) put ∙ file_at-with_file (file_name_of i.key) name (spelling i) old other
  left_other name other (inr (inl same)) = ap (file_at name) same
  left_other name other (inr (inr (inl gone))) = ap (file_at name) gone ∙ file_at-without_path (file_name_of i.key) name old other
  left_other name other (inr (inr (inr (n, less, front)))) = ap (file_at name) front ∙ file_at-with_file (file_name_of i.key) name (take n (spelling i)) old other

  left_at : IsImage (spelling i) → IsPut (file_name_of i.key) (spelling i) old files → (name : Path) → IsLeftAt name old files
  left_at image put name = by (same_text name (file_name_of i.key)) refl
    where
      own : name ≡ file_name_of i.key → IsLeftAt name old files
      own same = at (left_own put)
        where
          at : (file_at (file_name_of i.key) files ≡ file_at (file_name_of i.key) old) ⊎ IsFrontOf (spelling i) (file_at (file_name_of i.key) files) → IsLeftAt name old files
          at (inl kept) = let P : Path → Type 0 = λ n. file_at n files ≡ file_at n old in inl (subst P (sym same) kept)
          at (inr front) = let P : Path → Type 0 = λ n. IsFrontOf (spelling i) (file_at n files) in inr (i, image, same, subst P (sym same) front)

      by : (b : Bool) → same_text name (file_name_of i.key) ≡ b → IsLeftAt name old files
      by true is = own (same_from_test name (file_name_of i.key) (sym is))
      by false is = inl (left_other name (λ same. true≢false (sym (same_own (file_name_of i.key)) ∙ ap (λ n. same_text n (file_name_of i.key)) (sym same) ∙ is)) put)

pub leaves_start : (files : Option Files) → Leaves files files
leaves_start None = refl
leaves_start (Some files) = (files, refl, λ name. inl refl)

pub others_start : (name : Path) (files : Option Files) → LeavesOthers name files files
others_start name None = refl
others_start name (Some files) = (files, refl, λ other differ. refl)

-- keeping the file of an image leaves that alone
pub leaves_image : (i : Index) → (IsWellFormed i → IsImage (spelling i)) → (old new : Option Files) → LeavesKept i old new → Leaves old new
leaves_image i image None new left = left
leaves_image i image (Some old) new left = (left.0, left.1, λ name. at name left.2)
  where
    at : (name : Path) → (left.0 ≡ old) ⊎ (IsWellFormed i × IsPut (file_name_of i.key) (spelling i) old left.0) → IsLeftAt name old left.0
    at name (inl same) = inl (ap (file_at name) same)
    at name (inr (well, put)) = left_at i old left.0 (image well) put name

-- and no other file
pub leaves_others : (i : Index) (key : Key) → i.key ≡ key → (old new : Option Files) → LeavesKept i old new → LeavesOthers (file_name_of key) old new
leaves_others i key is old new left = let P : Key → Type 0 = λ k. LeavesOthers (file_name_of k) old new in subst P is (by old new left)
  where
    by : (old new : Option Files) → LeavesKept i old new → LeavesOthers (file_name_of i.key) old new
    by None new left = left
    by (Some old) new left = (left.0, left.1, λ other differ. at other differ left.2)
      where
        at : (other : Path) → other ≢ file_name_of i.key → (left.0 ≡ old) ⊎ (IsWellFormed i × IsPut (file_name_of i.key) (spelling i) old left.0) → file_at other left.0 ≡ file_at other old
        at other differ (inl same) = ap (file_at other) same
        at other differ (inr (well, put)) = left_other i old left.0 other differ put
