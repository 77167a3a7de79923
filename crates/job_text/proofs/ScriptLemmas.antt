-- A script that grows line by line.
use Rattle.std.proofs.Common.{◌≡◌, ℕ, ◌+◌, List, [], ◌∷◌, ◌++◌, refl, ap, sym, ◌∙◌, append_assoc, append-nil, Bool, true, false, cond, ◌==◌, Result, Ok, Err}
use Rattle.job_text.specs.declared.fault.JobKind.{JobKind}
use Rattle.job_text.specs.declared.script_line.ScriptLine.{ScriptLine}
use Rattle.job_text.specs.Answers.{and_then, at_line}
use Rattle.job_text.specs.Fields.{is_passed_over}
use Rattle.std.specs.List.{slice_split}
use Rattle.job_text.specs.Scripts.{before_others, script_line, script_lines, script_of}
use Rattle.job_text.specs.Drafts.{script_with, after_script}

-- the lines so far before those that follow
abbrev pub joined : List ScriptLine → Result (List ScriptLine) (ℕ × JobKind) → Result (List ScriptLine) (ℕ × JobKind)
joined done (Ok more) = Ok (done ++ more)
joined done (Err fault) = Err fault

ok_lines : (a b : List ScriptLine) → a ≡ b → (let r : Result (List ScriptLine) (ℕ × JobKind) = Ok a in r) ≡ Ok b
ok_lines a b h = cc

pub joined_none : (r : Result (List ScriptLine) (ℕ × JobKind)) → joined [] r ≡ r
joined_none (Ok more) = refl
joined_none (Err fault) = refl

one_more : (done : List ScriptLine) (x : ScriptLine) (r : Result (List ScriptLine) (ℕ × JobKind)) → joined done (before_others (Ok x) r) ≡ joined (done ++ x ∷ []) r
one_more done x (Ok more) = ok_lines _ _ (sym (append_assoc done (x ∷ []) more))
one_more done x (Err fault) = refl

-- how the lines go on behind one more line
abbrev goes_on : List ScriptLine → ℕ → Result (List ScriptLine) JobKind → Result (List ScriptLine) (ℕ × JobKind) → Result (List ScriptLine) (ℕ × JobKind)
goes_on done n (Ok next) more = joined next more
goes_on done n (Err kind) more = Err (n, kind)

line_step : (done : List ScriptLine) (n : ℕ) (r : Result ScriptLine JobKind) (more : Result (List ScriptLine) (ℕ × JobKind))
    → joined done (before_others (at_line n r) more) ≡ goes_on done n (and_then r (λ x. Ok (done ++ x ∷ []))) more
line_step done n (Ok x) more = one_more done x more
line_step done n (Err kind) more = refl

step : (done : List ScriptLine) (n : ℕ) (line : List ℕ) (more : List (List ℕ)) → joined done (script_lines n (line ∷ more)) ≡ goes_on done n (script_with done line) (script_lines (n + 1) more)
step done n line more = by (is_passed_over line)
  where
    by : (b : Bool) → joined done (cond b (script_lines (n + 1) more) (before_others (at_line n (script_line line)) (script_lines (n + 1) more)))
        ≡ goes_on done n (cond b (Ok done) (and_then (script_line line) (λ x. Ok (done ++ x ∷ [])))) (script_lines (n + 1) more)
    by true = refl
    by false = line_step done n (script_line line) (script_lines (n + 1) more)

pub after_script_is : (done : List ScriptLine) (n : ℕ) (lines : List (List ℕ)) → after_script done n lines ≡ joined done (script_lines n lines)
after_script_is done n [] = ok_lines _ _ (sym (append-nil done))
after_script_is done n (line ∷ more) = by (script_with done line) (λ next. after_script_is next (n + 1) more) ∙ sym (step done n line more)
  where
    by : (r : Result (List ScriptLine) JobKind) → ((next : List ScriptLine) → after_script next (n + 1) more ≡ joined next (script_lines (n + 1) more))
        → elim r [ Err kind ↦ Err (n, kind) | Ok next ↦ after_script next (n + 1) more ] ≡ goes_on done n r (script_lines (n + 1) more)
    by (Ok next) h = h next
    by (Err kind) h = refl

-- the lines of a text are its script
pub script_of_lines : (text : List ℕ) (ls : List (List ℕ)) → ls ≡ slice_split (λ b. b == 10) text → after_script [] 1 ls ≡ script_of text
unfolding script_of
script_of_lines text ls h = ap (after_script [] 1) h ∙ after_script_is [] 1 (slice_split (λ b. b == 10) text) ∙ joined_none (script_lines 1 (slice_split (λ b. b == 10) text))
