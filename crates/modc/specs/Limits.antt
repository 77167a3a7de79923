-- Which answers fit the limit on the bytes of a file. own
use Rattle.std.specs.Prelude.{◌≤◌, ◌<◌, ⊤, length}
use Rattle.cm_outside.specs.Trees.{largest_file}
use Rattle.cm_outside.specs.declared.question.FileAnswer.{FileAnswer}
use Rattle.cm_outside.specs.declared.question.FileAnswer.TheVariants.{Bytes, Absent, TooLarge}

-- bytes are given within the limit, and a size past it
abbrev pub FitsLimit : FileAnswer → Type 0
FitsLimit (Bytes bytes) = length bytes ≤ largest_file
FitsLimit Absent = ⊤
FitsLimit (TooLarge size) = largest_file < size
