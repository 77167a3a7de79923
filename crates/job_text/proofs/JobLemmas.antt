-- A job that grows line by line is the job of its lines.
use Rattle.std.proofs.Common.{◌≡◌, ℕ, ◌+◌, ◌<◌, Bool, true, false, ◌||◌, cond, List, [], ◌∷◌, ◌++◌, length, drop, map, flat_map, get_or, refl, ap, sym, ◌∙◌, arith, rules, append-nil, append_assoc, add-one, drop-cons, Option, Some, None, Result, Ok, Err}
use Rattle.std.specs.List.{list_any}
use Rattle.std.specs.Result.{result_map_both}
use Rattle.std.proofs.lemmas.List.Folds.{list_any-append}
use Rattle.cm_core.specs.declared.macros.Define.{Define}
use Rattle.job_text.specs.declared.fault.JobKind.{JobKind}
use Rattle.job_text.specs.declared.job.Job.{Job}
use Rattle.job_text.specs.declared.job_line.JobLine.{JobLine}
use Rattle.job_text.specs.declared.job_line.JobLine.TheVariants.{Map, Include, Definition, CheckUse, Unit as UnitLine}
use Rattle.job_text.specs.Answers.{and_then}
use Rattle.job_text.specs.Fields.{trimmed, is_passed_over}
use Rattle.std.specs.Str.Lines.{lines}
use Rattle.job_text.specs.Jobs.{job_of, job_line, map_paths, include_paths, definitions, is_use_check, unit_paths, job_with, refused_after, unless_refused, added_after, job_lines}
use Rattle.job_text.specs.Drafts.{with_line, added, after_line, after_lines, empty_job}

of_last : {A : Type 0} (f : JobLine → List A) (before : List JobLine) (l : JobLine) → flat_map f (before ++ l ∷ []) ≡ flat_map f before ++ f l
of_last f [] l = append-nil (f l)
of_last f (x ∷ before) l = ap (λ ys. f x ++ ys) (of_last f before l) ∙ sym (append_assoc (f x) (flat_map f before) (f l))

none_last : {A : Type 0} (f : JobLine → List A) (before : List JobLine) (l : JobLine) → f l ≡ [] → flat_map f before ≡ flat_map f (before ++ l ∷ [])
none_last f before l h = sym (of_last f before l ∙ ap (λ ys. flat_map f before ++ ys) h ∙ append-nil (flat_map f before))

some_last : {A : Type 0} (f : JobLine → List A) (before : List JobLine) (l : JobLine) (x : A) → f l ≡ x ∷ [] → flat_map f before ++ x ∷ [] ≡ flat_map f (before ++ l ∷ [])
some_last f before l x h = sym (of_last f before l ∙ ap (λ ys. flat_map f before ++ ys) h)

checked_last : (before : List JobLine) (l : JobLine) → is_use_check l ≡ true → true ≡ list_any is_use_check (before ++ l ∷ [])
checked_last [] l h = rw h refl
checked_last (x ∷ before) l h = by (is_use_check x) (checked_last before l h)
  where
    by : (b : Bool) → true ≡ list_any is_use_check (before ++ l ∷ []) → true ≡ (b || list_any is_use_check (before ++ l ∷ []))
    by true more = refl
    by false more = more

unchecked_last : (before : List JobLine) (l : JobLine) → is_use_check l ≡ false → list_any is_use_check before ≡ list_any is_use_check (before ++ l ∷ [])
unchecked_last [] l h = rw h refl
unchecked_last (x ∷ before) l h = ap (λ b. is_use_check x || b) (unchecked_last before l h)

same_job : (m m' i i' : List (List ℕ)) (d d' : List Define) (c c' : Bool) (u u' : List (List ℕ)) → m ≡ m' → i ≡ i' → d ≡ d' → c ≡ c' → u ≡ u'
    → (let j : Job = record { maps = m; includes = i; defines = d; use_check = c; units = u } in j) ≡ record { maps = m'; includes = i'; defines = d'; use_check = c'; units = u' }
same_job m m' i i' d d' c c' u u' a b e f g = rw (a, b, e, f, g) refl

with_line_is : (before : List JobLine) (l : JobLine) → with_line (job_with before) l ≡ job_with (before ++ l ∷ [])
with_line_is before (Map path) =
    same_job _ _ _ _ _ _ _ _ _ _ (some_last map_paths before (Map path) path refl) (none_last include_paths before (Map path) refl) (none_last definitions before (Map path) refl) (unchecked_last before (Map path) refl) (none_last unit_paths before (Map path) refl)
with_line_is before (Include path) =
    same_job _ _ _ _ _ _ _ _ _ _ (none_last map_paths before (Include path) refl) (some_last include_paths before (Include path) path refl) (none_last definitions before (Include path) refl) (unchecked_last before (Include path) refl) (none_last unit_paths before (Include path) refl)
with_line_is before (Definition d) =
    same_job _ _ _ _ _ _ _ _ _ _ (none_last map_paths before (Definition d) refl) (none_last include_paths before (Definition d) refl) (some_last definitions before (Definition d) d refl) (unchecked_last before (Definition d) refl) (none_last unit_paths before (Definition d) refl)
with_line_is before CheckUse =
    same_job _ _ _ _ _ _ _ _ _ _ (none_last map_paths before CheckUse refl) (none_last include_paths before CheckUse refl) (none_last definitions before CheckUse refl) (checked_last before CheckUse refl) (none_last unit_paths before CheckUse refl)
with_line_is before (UnitLine path) =
    same_job _ _ _ _ _ _ _ _ _ _ (none_last map_paths before (UnitLine path) refl) (none_last include_paths before (UnitLine path) refl) (none_last definitions before (UnitLine path) refl) (unchecked_last before (UnitLine path) refl) (some_last unit_paths before (UnitLine path) path refl)

-- the job of the lines before and of what one more line adds
abbrev with_added : List JobLine → Result (List JobLine) JobKind → Result Job JobKind
with_added before (Ok more) = Ok (job_with (before ++ more))
with_added before (Err kind) = Err kind

ok_job : (a b : Job) → a ≡ b → (let r : Result Job JobKind = Ok a in r) ≡ Ok b
ok_job a b h = cc

added_is : (before : List JobLine) (l : JobLine) (refusal : Option JobKind) → and_then (unless_refused refusal l) (λ x. Ok (with_line (job_with before) x)) ≡ with_added before (and_then (unless_refused refusal l) (λ x. Ok (x ∷ [])))
added_is before l None = ok_job _ _ (with_line_is before l)
added_is before l (Some kind) = refl

line_is : (before : List JobLine) (line : Result JobLine JobKind) → and_then line (added (job_with before)) ≡ with_added before (and_then line (λ l. and_then (unless_refused (refused_after (job_with before) l) l) (λ x. Ok (x ∷ []))))
line_is before (Err kind) = refl
line_is before (Ok l) = added_is before l (refused_after (job_with before) l)

after_line_is : (before : List JobLine) (line : List ℕ) → after_line (job_with before) line ≡ with_added before (added_after before line)
after_line_is before line = by (is_passed_over line)
  where
    by : (b : Bool) → cond b (Ok (job_with before)) (and_then (job_line line) (added (job_with before)))
        ≡ with_added before (cond b (Ok []) (and_then (job_line line) (λ l. and_then (unless_refused (refused_after (job_with before) l) l) (λ x. Ok (x ∷ [])))))
    by true = ok_job _ _ (ap job_with (sym (append-nil before)))
    by false = line_is before (job_line line)

pub after_lines_is : (before : List JobLine) (n : ℕ) (lines : List (List ℕ)) → after_lines (job_with before) n lines ≡ result_map_both job_with (λ fault. fault) (job_lines before n lines)
after_lines_is before n [] = refl
after_lines_is before n (line ∷ more) = ap next (after_line_is before (trimmed line)) ∙ by (added_after before (trimmed line)) (λ more_lines. after_lines_is (before ++ more_lines) (n + 1) more)
  where
    next : Result Job JobKind → Result Job (ℕ × JobKind)
    next r = elim r [ Err kind ↦ Err (n, kind) | Ok job ↦ after_lines job (n + 1) more ]

    by : (r : Result (List JobLine) JobKind) → ((more_lines : List JobLine) → after_lines (job_with (before ++ more_lines)) (n + 1) more ≡ result_map_both job_with (λ fault. fault) (job_lines (before ++ more_lines) (n + 1) more))
        → elim (with_added before r) [ Err kind ↦ Err (n, kind) | Ok job ↦ after_lines job (n + 1) more ]
        ≡ result_map_both job_with (λ fault. fault) (elim r [ Err kind ↦ Err (n, kind) | Ok added ↦ job_lines (before ++ added) (n + 1) more ])
    by (Ok more_lines) h = h more_lines
    by (Err kind) h = refl

-- the lines of a text lead to its job
pub job_of_lines : (text : List ℕ) (ls : List (List ℕ)) → ls ≡ lines text → after_lines empty_job 1 ls ≡ job_of text
unfolding job_of
job_of_lines text ls h = ap (after_lines empty_job 1) h ∙ after_lines_is [] 1 (lines text)
