-- Whether an output tells of an error. own
use Rattle.std.specs.Prelude.{ℕ, Bool, List, nat_eq, codes}
use Rattle.std.specs.List.{list_any, starts_with}
use Rattle.unit_fold.specs.Lines.{lines}

-- a line of it begins with `error `
abbrev pub has_error : List ℕ → Bool
has_error output = list_any (λ line. starts_with nat_eq line (codes "error ")) (lines output)
