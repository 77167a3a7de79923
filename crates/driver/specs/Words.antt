-- The forms of words. own
use Rattle.std.specs.Prelude.{ℕ, Bool, true, false, ◌&&◌, ◌==◌, nat_lt, not, List, [], length, Option, Some, None, if◌then◌else◌, option_and_then, nat_eq, codes, slice_index_or}
use Rattle.std.specs.List.{starts_with}
use Rattle.std.specs.Result.{result_ok}
use Rattle.std.specs.Str.{bytes_eq}
use Rattle.cm_core.specs.Paths.{path_of}
use Rattle.std.specs.Option.{option_map}
use Rattle.unit_fold.specs.Lines.{when}
use Rattle.driver.specs.declared.words.Command.{Command}
use Rattle.driver.specs.declared.words.Command.TheVariants.{Build, Replay}

-- a word that is no flag: it does not begin with `-`, or is that byte alone
abbrev pub is_positional : List ℕ → Bool
is_positional word = not (starts_with nat_eq word (codes "-") && nat_lt 1 (length word))

-- the path of the second of two words, of which the first is this mode
abbrev pub path_for : List ℕ → List ℕ → List ℕ → Option (List ℕ)
path_for wanted mode path =
    option_and_then (λ word. result_ok (path_of word)) (when (bytes_eq mode wanted && is_positional path) path)

-- the path of the job file in `build JOB`
abbrev pub build_of : List ℕ → List ℕ → Option (List ℕ)
build_of mode job = path_for (codes "build") mode job

-- the path of the script in `replay SCRIPT`
abbrev pub replay_of : List ℕ → List ℕ → Option (List ℕ)
replay_of mode script = path_for (codes "replay") mode script

abbrev pub request_of : Bool → Option (List ℕ) → Option Command
request_of report path = option_map (λ job. Build (record { job = job; report = report })) path

-- a build, where there is a job, and else a replay of this script, where there is one
abbrev pub build_or_replay : Option (List ℕ) → Option (List ℕ) → Option Command
build_or_replay (Some job) script = request_of false (Some job)
build_or_replay None script = option_map Replay script

-- The forms are `build JOB`, `build JOB --report` and `replay SCRIPT`.
abbrev pub form : List (List ℕ) → Option Command
form words =
    if length words == 2 then build_or_replay (build_of (nth words 0) (nth words 1)) (replay_of (nth words 0) (nth words 1))
    else if length words == 3 && bytes_eq (nth words 2) (codes "--report") then request_of true (build_of (nth words 0) (nth words 1))
    else None
  where
    nth : List (List ℕ) → ℕ → List ℕ
    nth ws i = slice_index_or ws i []

unfoldable pub usage : List ℕ
usage = codes "usage: modc build JOB [--uses] [--report] | modc replay SCRIPT | modc gen N\n"
