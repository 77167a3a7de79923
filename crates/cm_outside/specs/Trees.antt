-- Trees of files, the questions that are put to them, and their answers. own
use Rattle.std.specs.Prelude.{ℕ, Bool, false, not, ◌&&◌, ◌||◌, List, [], ◌∷◌, length, drop, reverse, Option, Some, None, if◌then◌else◌, nat_eq, nat_le, codes}
use Rattle.std.specs.Option.{option_map}
use Rattle.std.specs.List.{find, filter, starts_with, ends_with}
use Rattle.std.specs.Ordering.{nat_cmp}
use Rattle.std.specs.declared.cmp.Ordering.{Ordering}
use Rattle.std.specs.declared.cmp.Ordering.TheVariants.{Less, Equal, Greater}
use Rattle.std.specs.Cmp.Lexicographic.{pointwise, slice_cmp}
use Rattle.cm_outside.specs.declared.question.Question.{Question}
use Rattle.cm_outside.specs.declared.question.Question.TheVariants.{Read, List as Listing}
use Rattle.cm_outside.specs.declared.question.Answer.{Answer}
use Rattle.cm_outside.specs.declared.question.Answer.TheVariants.{Absent, Bytes, TooLarge, Paths}
use Rattle.cm_outside.specs.declared.question.Record.{Record}
use Rattle.cm_outside.specs.declared.question.FileAnswer.{FileAnswer}
use Rattle.cm_outside.specs.declared.question.FileAnswer.TheVariants.{Bytes as FileBytes, Absent as NoFile, TooLarge as LargeFile}

-- a path's text, and a file's bytes
abbrev pub Path : Type 0
Path = List ℕ

-- paths with their bytes; of a path that stands more than once the last counts
abbrev pub Files : Type 0
Files = List (Path × List ℕ)

-- A tree is a finite map from paths to bytes, with a list of kept answers laid over it. For a real
-- tree that list is empty.
pub record Contents : Type 0 where
  pub files : Files
  pub kept : List Record

abbrev pub same_text : List ℕ → List ℕ → Bool
same_text = pointwise nat_eq

-- the bytes of a path
abbrev pub file_at : Path → Files → Option (List ℕ)
file_at p files = option_map (λ (f : Path × List ℕ). f.1) (find (λ (f : Path × List ℕ). same_text f.0 p) (reverse files))

-- the files without a path
abbrev pub without_path : Path → Files → Files
without_path p files = filter (λ (f : Path × List ℕ). not (same_text f.0 p)) files

-- a larger file is answered without its bytes
unfoldable pub largest_file : ℕ
largest_file = 16777216

abbrev pub file_answer : Option (List ℕ) → Answer
file_answer None = Absent
file_answer (Some bytes) = if nat_le (length bytes) largest_file then Bytes bytes else TooLarge (length bytes)

-- the path lies in the folder or below it; the root is spelled `.`
abbrev pub is_in_folder : Path → Path → Bool
is_in_folder folder p = same_text folder (codes ".") || starts_with nat_eq p folder && starts_with nat_eq (drop (length folder) p) (codes "/")

-- the path is that of a header in the folder or below it
abbrev pub is_header_in : Path → Path → Bool
is_header_in folder p = is_in_folder folder p && ends_with nat_eq p (codes ".h")

-- a list of paths in byte order with one path more, each once
abbrev pub placed : Ordering → Path → Path → List Path → List Path → List Path
placed Less p q qs more = p ∷ q ∷ qs
placed Equal p q qs more = q ∷ qs
placed Greater p q qs more = q ∷ more

abbrev pub with_path : Path → List Path → List Path
with_path p [] = p ∷ []
with_path p (q ∷ qs) = placed (slice_cmp nat_cmp p q) p q qs (with_path p qs)

-- the headers in the folder and below it, in byte order, each once
abbrev pub headers_onto : Path → List Path → Files → List Path
headers_onto folder ps [] = ps
headers_onto folder ps (f ∷ files) = headers_onto folder (if is_header_in folder f.0 then with_path f.0 ps else ps) files

abbrev pub headers_in : Path → Files → List Path
headers_in folder files = headers_onto folder [] files

-- the answer of the first kept record with this question, where there is one
abbrev pub kept_answer : (Question → Question → Bool) → List Record → Question → Option Answer
kept_answer same records q = option_map (λ (r : Record). r.answer) (find (λ (r : Record). same r.question q) records)

abbrev pub same_question : Question → Question → Bool
same_question (Read p) (Read q) = same_text p q
same_question (Listing d) (Listing e) = same_text d e
same_question (Read p) (Listing e) = false
same_question (Listing d) (Read q) = false

abbrev pub files_answer : Files → Question → Answer
files_answer files (Read p) = file_answer (file_at p files)
files_answer files (Listing d) = Paths (headers_in d files)

abbrev pub first_of : Option Answer → Answer → Answer
first_of None a = a
first_of (Some kept) a = kept

-- what a tree answers: kept answers come first
abbrev pub answer : Contents → Question → Answer
answer t q = first_of (kept_answer same_question t.kept q) (files_answer t.files q)

-- what `read` gives, as an answer
abbrev pub read_answer : FileAnswer → Answer
read_answer (FileBytes bytes) = Bytes bytes
read_answer NoFile = Absent
read_answer (LargeFile size) = TooLarge size
