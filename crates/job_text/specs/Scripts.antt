-- A replay script: UTF-8 lines, each ended by a line feed, with one space between their fields. Empty lines and lines that
-- begin with `#` are passed over. own
use Rattle.std.specs.Prelude.{ℕ, ◌+◌, ◌==◌, Bool, true, false, if◌then◌else◌, List, [], ◌∷◌, Option, Some, None, option_and_then, Result, Ok, Err, codes}
use Rattle.std.specs.List.{slice_split}
use Rattle.std.specs.Option.{option_map}
use Rattle.std.specs.Str.{bytes_eq}
use Rattle.job_text.specs.declared.fault.JobKind.{JobKind}
use Rattle.job_text.specs.declared.fault.JobKind.TheVariants.{Form}
use Rattle.job_text.specs.declared.script_line.ScriptLine.{ScriptLine}
use Rattle.job_text.specs.declared.script_line.ScriptLine.TheVariants.{Write, Remove, Tear, Drop, Build}
use Rattle.job_text.specs.Answers.{or_bad, and_then, at_line}
use Rattle.job_text.specs.Fields.{is_passed_over, before_mark, after_mark, path_field, number_of}
use Rattle.job_text.specs.Escapes.{unescaped}

-- what stands before the first space, and after it
abbrev pub first_field : List ℕ → List ℕ
first_field fields = before_mark 32 fields

abbrev pub other_fields : List ℕ → Option (List ℕ)
other_fields fields = after_mark 32 fields

-- `PATH TEXT`: the file becomes the bytes that TEXT, which may have spaces, stands for
abbrev pub write_line : List ℕ → Result ScriptLine JobKind
write_line fields =
    and_then (path_field (first_field fields)) (λ path. or_bad Form (option_map (Write path) (option_and_then unescaped (other_fields fields))))

abbrev pub when_last : {A : Type 0} → A → Option (List ℕ) → Option A
when_last x None = Some x
when_last x (Some more) = None

-- `PATH`
abbrev pub remove_line : List ℕ → Result ScriptLine JobKind
remove_line fields = and_then (path_field (first_field fields)) (λ path. or_bad Form (when_last (Remove path) (other_fields fields)))

-- whether a job is built with its uses: nothing or `--uses` follows it
abbrev pub uses_flag : Option (List ℕ) → Option Bool
uses_flag None = Some false
uses_flag (Some flag) = if bytes_eq flag (codes "--uses") then Some true else None

-- `JOB` or `JOB --uses`
abbrev pub build_line : List ℕ → Result ScriptLine JobKind
build_line fields = and_then (path_field (first_field fields)) (λ job. or_bad Form (option_map (Build job) (uses_flag (other_fields fields))))

-- `N K`
abbrev pub tear_line : List ℕ → Option ScriptLine
tear_line fields = option_and_then (λ n. option_map (Tear n) (option_and_then number_of (other_fields fields))) (number_of (first_field fields))

-- `N`
abbrev pub drop_line : List ℕ → Option ScriptLine
drop_line fields = option_map Drop (number_of fields)

abbrev pub command_line : List ℕ → List ℕ → Result ScriptLine JobKind
command_line command fields =
    if bytes_eq command (codes "write") then write_line fields
    else if bytes_eq command (codes "remove") then remove_line fields
    else if bytes_eq command (codes "tear") then or_bad Form (tear_line fields)
    else if bytes_eq command (codes "drop") then or_bad Form (drop_line fields)
    else if bytes_eq command (codes "build") then build_line fields
    else Err Form

-- A line that isn't passed over. Where its PATH or JOB is no path the kind of the line is Path, whatever follows it.
abbrev pub script_line : List ℕ → Result ScriptLine JobKind
script_line line = and_then (or_bad Form (other_fields line)) (command_line (first_field line))

-- a line before those that follow it; the first of two faults is told
abbrev pub before_others : {A : Type 0} → Result A (ℕ × JobKind) → Result (List A) (ℕ × JobKind) → Result (List A) (ℕ × JobKind)
before_others (Err fault) more = Err fault
before_others (Ok x) (Err fault) = Err fault
before_others (Ok x) (Ok xs) = Ok (x ∷ xs)

-- the lines from number n on
abbrev pub script_lines : ℕ → List (List ℕ) → Result (List ScriptLine) (ℕ × JobKind)
script_lines n [] = Ok []
script_lines n (line ∷ more) =
    if is_passed_over line then script_lines (n + 1) more
    else before_others (at_line n (script_line line)) (script_lines (n + 1) more)

-- the lines of a script, or its first bad line, by number from 1, and its kind
unfoldable pub script_of : List ℕ → Result (List ScriptLine) (ℕ × JobKind)
script_of text = script_lines 1 (slice_split (λ b. b == 10) text)
