-- A script that is read as a whole is its lines one by one.
use Rattle.std.proofs.Common.{◌≡◌, ◌||◌, ◌==◌, ◌+◌, ℕ, Bool, true, false, cond, if◌then◌else◌, List, [], ◌∷◌, ◌++◌, Result, Ok, Err, refl, sym, ap, subst, ◌∙◌, append_assoc, append-nil}
use Rattle.std.specs.List.{All, AllByRecursion, list_any, onto_first, slice_split}
use Rattle.std.proofs.lemmas.List.Elements.{All-cons, All-nil}
use Rattle.std.proofs.Math.Bool.{true≢false}
use Rattle.std.proofs.lemmas.List.Splits.{slice_split_none}
use Rattle.job_text.specs.declared.fault.JobKind.{JobKind}
use Rattle.job_text.specs.declared.script_line.ScriptLine.{ScriptLine}
use Rattle.job_text.specs.Answers.{at_line}
use Rattle.job_text.specs.Fields.{is_passed_over}
use Rattle.job_text.specs.Scripts.{before_others, script_line, script_lines, script_of}
use Rattle.driver.specs.Replay.{asks_for_uses, checked, line_after, lines_of_script, with_lines}

abbrev is_line_feed : ℕ → Bool
is_line_feed b = b == 10

abbrev IsUnbroken : List ℕ → Type 0
IsUnbroken line = All (λ b. is_line_feed b ≡ false) line

-- no line has a line feed
parts_unbroken : (text : List ℕ) → AllByRecursion IsUnbroken (slice_split is_line_feed text)
parts_unbroken [] = (All-nil (λ b. is_line_feed b ≡ false), tt)
parts_unbroken (b ∷ text) = by (is_line_feed b) refl (slice_split is_line_feed text) (parts_unbroken text)
  where
    onto : (parts : List (List ℕ)) → is_line_feed b ≡ false → AllByRecursion IsUnbroken parts → AllByRecursion IsUnbroken (onto_first b parts)
    onto [] other all = (All-cons (λ c. is_line_feed c ≡ false) b [] other (All-nil (λ c. is_line_feed c ≡ false)), tt)
    onto (part ∷ parts) other all = (All-cons (λ c. is_line_feed c ≡ false) b part other all.0, all.1)

    by : (v : Bool) → is_line_feed b ≡ v → (parts : List (List ℕ)) → AllByRecursion IsUnbroken parts → AllByRecursion IsUnbroken (cond v ([] ∷ parts) (onto_first b parts))
    by true is parts all = (All-nil (λ c. is_line_feed c ≡ false), all)
    by false is parts all = onto parts is all

-- a line as a script of its own
abbrev of_line : List ℕ → Result (List ScriptLine) (ℕ × JobKind)
of_line line = if is_passed_over line then Ok [] else before_others (at_line 1 (script_line line)) (Ok [])

line_alone : (line : List ℕ) → IsUnbroken line → script_of line ≡ of_line line
unfolding script_of
line_alone line unbroken = ap (script_lines 1) (slice_split_none is_line_feed line unbroken)

-- what is played of lines is what they say, and of what they refuse nothing is
abbrev IsPlayed : List ScriptLine → Result (List ScriptLine) (ℕ × JobKind) → Result (List ScriptLine) ℕ → Type 0
IsPlayed so_far (Ok lines) found = list_any asks_for_uses lines ≡ false → found ≡ Ok (so_far ++ lines)
IsPlayed so_far (Err fault) found = (n : ℕ) × (found ≡ Err n)

abbrev go : List ScriptLine → ℕ → List (List ℕ) → Result (List ScriptLine) ℕ → Result (List ScriptLine) ℕ
go so_far before more (Err n) = Err n
go so_far before more (Ok lines) = with_lines (so_far ++ lines) (before + 1) more

go_is : (so_far : List ScriptLine) (before : ℕ) (line : List ℕ) (more : List (List ℕ)) → with_lines so_far before (line ∷ more) ≡ go so_far before more (checked before (script_of line))
go_is so_far before line more = by (checked before (script_of line))
  where
    by : (r : Result (List ScriptLine) ℕ) → elim r [ Err n ↦ Err n | Ok lines ↦ with_lines (so_far ++ lines) (before + 1) more ] ≡ go so_far before more r
    by (Err n) = refl
    by (Ok lines) = refl

ok_list : (a b : List ScriptLine) → a ≡ b → (let r : Result (List ScriptLine) ℕ = Ok a in r) ≡ Ok b
ok_list a b h = cc

-- a good line and what follows it
one_played : (so_far : List ScriptLine) (before : ℕ) (x : ScriptLine) (found : Result (List ScriptLine) ℕ) (rest : Result (List ScriptLine) (ℕ × JobKind)) (asks : Bool) → asks_for_uses x ≡ asks
    → IsPlayed (so_far ++ x ∷ []) rest found
    → IsPlayed so_far (before_others (Ok x) rest) (cond (asks || false) (Err (line_after before)) found)
one_played so_far before x found (Ok lines) true asked played =
    λ none. absurd (true≢false (sym (ap (λ b. b || list_any asks_for_uses lines) asked) ∙ none))
one_played so_far before x found (Ok lines) false asked played =
    λ none. played (sym (ap (λ b. b || list_any asks_for_uses lines) asked) ∙ none) ∙ ok_list _ _ (append_assoc so_far (x ∷ []) lines)
one_played so_far before x found (Err fault) true asked played = (line_after before, refl)
one_played so_far before x found (Err fault) false asked played = played

-- a line that is not passed over, and what follows it
said_played : (so_far : List ScriptLine) (before : ℕ) (said : Result ScriptLine JobKind) (more : List (List ℕ)) (rest : Result (List ScriptLine) (ℕ × JobKind))
    → ((next : List ScriptLine) → IsPlayed next rest (with_lines next (before + 1) more))
    → IsPlayed so_far (before_others (at_line (before + 1) said) rest) (go so_far before more (checked before (before_others (at_line 1 said) (Ok []))))
said_played so_far before (Err kind) more rest played = (line_after before, refl)
said_played so_far before (Ok x) more rest played = by (asks_for_uses x) refl
  where
    by : (asks : Bool) → asks_for_uses x ≡ asks
        → IsPlayed so_far (before_others (Ok x) rest) (go so_far before more (cond (asks || false) (Err (line_after before)) (Ok (x ∷ []))))
    by true is = one_played so_far before x (with_lines (so_far ++ x ∷ []) (before + 1) more) rest true is (played (so_far ++ x ∷ []))
    by false is = one_played so_far before x (with_lines (so_far ++ x ∷ []) (before + 1) more) rest false is (played (so_far ++ x ∷ []))

passed_played : (so_far : List ScriptLine) (before : ℕ) (more : List (List ℕ)) (rest : Result (List ScriptLine) (ℕ × JobKind))
    → ((next : List ScriptLine) → IsPlayed next rest (with_lines next (before + 1) more)) → IsPlayed so_far rest (go so_far before more (Ok []))
passed_played so_far before more rest played =
    let P : List ScriptLine → Type 0 = λ next. IsPlayed so_far rest (with_lines next (before + 1) more) in
    subst P (sym (append-nil so_far)) (played so_far)

line_played : (so_far : List ScriptLine) (before : ℕ) (line : List ℕ) (more : List (List ℕ)) → IsUnbroken line
    → ((next : List ScriptLine) → IsPlayed next (script_lines (before + 1 + 1) more) (with_lines next (before + 1) more))
    → IsPlayed so_far (script_lines (before + 1) (line ∷ more)) (with_lines so_far before (line ∷ more))
line_played so_far before line more unbroken played =
    let P : Result (List ScriptLine) ℕ → Type 0 = IsPlayed so_far (script_lines (before + 1) (line ∷ more)) in
    subst P (sym (go_is so_far before line more ∙ ap (λ r. go so_far before more (checked before r)) (line_alone line unbroken))) (by (is_passed_over line))
  where
    by : (passed : Bool) → IsPlayed so_far (cond passed (script_lines (before + 1 + 1) more) (before_others (at_line (before + 1) (script_line line)) (script_lines (before + 1 + 1) more)))
        (go so_far before more (checked before (cond passed (Ok []) (before_others (at_line 1 (script_line line)) (Ok [])))))
    by true = passed_played so_far before more (script_lines (before + 1 + 1) more) played
    by false = said_played so_far before (script_line line) more (script_lines (before + 1 + 1) more) played

lines_played : (before : ℕ) (lines : List (List ℕ)) → AllByRecursion IsUnbroken lines → (so_far : List ScriptLine) → IsPlayed so_far (script_lines (before + 1) lines) (with_lines so_far before lines)
lines_played before [] all so_far = λ none. ok_list _ _ (sym (append-nil so_far))
lines_played before (line ∷ more) all so_far = line_played so_far before line more all.0 (lines_played (before + 1) more all.1)

script_played : (text : List ℕ) → IsPlayed [] (script_of text) (lines_of_script text)
unfolding script_of
script_played text = lines_played 0 (slice_split is_line_feed text) (parts_unbroken text) []

pub accepted_is_played : (text : List ℕ) (lines : List ScriptLine) → script_of text ≡ Ok lines → list_any asks_for_uses lines ≡ false → lines_of_script text ≡ Ok lines
accepted_is_played text lines is none =
    let P : Result (List ScriptLine) (ℕ × JobKind) → Type 0 = λ r. IsPlayed [] r (lines_of_script text) in
    subst P is (script_played text) none

pub refused_is_not : (text : List ℕ) (n : ℕ) (kind : JobKind) → script_of text ≡ Err (n, kind) → (m : ℕ) × (lines_of_script text ≡ Err m)
refused_is_not text n kind is =
    let P : Result (List ScriptLine) (ℕ × JobKind) → Type 0 = λ r. IsPlayed [] r (lines_of_script text) in
    subst P is (script_played text)
