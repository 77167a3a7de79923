-- Errors and warnings, and how their numbers are shown: own.
use Rattle.std.specs.Prelude.{ℕ, ◌-◌, nat_lt, if◌then◌else◌, List, codes}
use Rattle.diag_texts.specs.declared.severity.Severity.{Severity}
use Rattle.diag_texts.specs.declared.severity.Severity.TheVariants.{Error, Warning}

-- a number below 1000 is an error's, and any other a warning's
abbrev pub severity_of : ℕ → Severity
severity_of number = if nat_lt number 1000 then Error else Warning

-- the number of a warning is 1000 more than the one that is shown
abbrev pub offset : Severity → ℕ
offset Error = 0
offset Warning = 1000

abbrev pub shown : ℕ → ℕ
shown number = number - offset (severity_of number)

-- the word that begins a line
abbrev pub word : Severity → List ℕ
word Error = codes "error"
word Warning = codes "warning"

-- the letter before a number that is shown
abbrev pub letter : Severity → List ℕ
letter Error = codes "E"
letter Warning = codes "W"
