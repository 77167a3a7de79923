-- The folds of units and headers: what an include is translated to (Clang's documentation, Modules, "Includes as imports"),
-- and the modules of a job as one plan. own
use Rattle.std.specs.Prelude.{ℕ, Bool, true, false, ◌==◌, if◌then◌else◌, List, [], ◌∷◌, ◌++◌, length, Option, Some, None}
use Rattle.std.specs.List.{range_with_len}
use Rattle.std.specs.Option.{option_map_or}
use Rattle.cm_core.specs.declared.numbers.Owner.{Owner}
use Rattle.cm_core.specs.declared.numbers.Owner.TheVariants.{Unit as OfUnit, Sub}
use Rattle.cm_outside.specs.declared.question.Question.TheVariants.{Read}
use Rattle.cm_outside.specs.declared.question.Answer.{Answer}
use Rattle.cm_outside.specs.declared.question.Answer.TheVariants.{Absent, Bytes, TooLarge, Paths}
use Rattle.cm_outside.specs.Asks.{Asks, Done, Ask, Begin}
use Rattle.unit_fold.specs.Owners.{Reading, Ends as ReadsAll, Includes, SoFar, nothing_read, closed}
use Rattle.unit_fold.specs.Steps.{after_stage}
use Rattle.unit_fold.specs.declared.fold.Stage.TheVariants.{WaitsForText}
use Rattle.unit_fold.specs.declared.item.Item.{Item}
use Rattle.unit_fold.specs.declared.item.FaultKind.TheVariants.{Absent as IsAbsent, TooLarge as IsTooLarge, CyclicModule}
use Rattle.unit_fold.specs.declared.given.Given.{Given}
use Rattle.unit_fold.specs.declared.given.Given.TheVariants.{Text, Imported as Import_of, Refused, Skip, NotBuilt as NotBuiltYet}
use Rattle.build_store.specs.Needs.{Needs, Ends, Puts, Imports, then_needs}
use Rattle.build_store.specs.Modules.{Plan}
use Rattle.build_store.specs.Parts.{Fragment, part_of, part_in, brought}
use Rattle.build_store.specs.Search.{find_of}
use Rattle.build_store.specs.Targets.{name_of, header_of}
use Rattle.build_store.specs.declared.finding.Find.{Find}
use Rattle.build_store.specs.declared.finding.Find.TheVariants.{Nothing, Plain, Header}
use Rattle.build_store.specs.declared.table.Table.{Table}

-- where a job's owners are interpreted: the table of its modules, and its include folders
pub record Setting : Type 0 where
  pub table : Table
  pub includes : List (List ℕ)

-- the questions of a program, as a fold puts them
abbrev pub puts : {B A : Type 0} → Asks A → Needs B A
puts (Done x) = Ends x
puts (Ask q next) = Puts q (λ a. puts (next a))
puts (Begin m p) = puts p

-- ---- includes

abbrev pub is_own : Option ℕ → ℕ → Bool
is_own own x = option_map_or (λ y. y == x) own false

-- An import of module x brought this. A fold that is not told ends the module (a header's fold) or goes on with a diagnostic
-- (a unit's).
abbrev pub by_import : {A : Type 0} → Setting → ℕ → Fragment → (Given → Fragment → A) → Option Fragment → A
by_import s x parts more None = more (Refused (CyclicModule (name_of s.table x))) parts
by_import s x parts more (Some b) =
    more (Import_of (record { sub = record { index = x }; name = name_of s.table x }) (brought s.table (part_in b) x)) (parts ++ b)

-- What an include comes to by what it found: the header of another module is imported, the owner's own header is skipped, and
-- no other file is entered yet.
abbrev pub by_found : {A : Type 0} → Setting → Option ℕ → Fragment → (Given → Fragment → Needs Fragment A) → Find → Needs Fragment A
by_found s own parts more Nothing = more NotBuiltYet parts
by_found s own parts more Plain = more NotBuiltYet parts
by_found s own parts more (Header x) = if is_own own x then more Skip parts else Imports x (by_import s x parts more)

-- a header is the file of its module, and a unit is of no module
abbrev pub owner_with : Option ℕ → Owner
owner_with None = OfUnit
owner_with (Some x) = Sub (record { index = x })

-- What an owner comes to whose reading has ended: where only its text has, what is left there is its last piece, as it has one
-- file.
abbrev pub at_end : Owner → Bool → SoFar → SoFar
at_end owner true p = p
at_end owner false p = closed owner p

-- What is left of an owner's text, in this file. With what it came to it gives the parts that its imports brought.
abbrev pub needs_of : Setting → Option ℕ → List ℕ → Fragment → Reading → Needs Fragment (SoFar × Fragment)
needs_of s own file parts (ReadsAll stopped p) = Ends (at_end (owner_with own) stopped p, parts)
needs_of s own file parts (Includes at text next) =
    then_needs (puts (find_of s.includes s.table file text)) (by_found s own parts (λ given more. needs_of s own file more (next given)))

-- what an owner is given for its file: its text, or the diagnostic of a file that has none
abbrev pub text_given : List ℕ → Answer → Given
text_given path (Bytes bytes) = Text bytes path
text_given path Absent = Refused IsAbsent
text_given path (TooLarge size) = Refused (IsTooLarge size)
text_given path (Paths paths) = Refused IsAbsent

-- what is left to read of an owner that is given its file
abbrev pub reading_of : Owner → List ℕ → Answer → Reading
reading_of owner path a = after_stage owner nothing_read WaitsForText (text_given path a)

-- an owner whose text is this file
abbrev pub owner_needs : Setting → Option ℕ → List ℕ → Needs Fragment (SoFar × Fragment)
owner_needs s own path = Puts (Read path) (λ a. needs_of s own path [] (reading_of (owner_with own) path a))

-- ---- owners

-- the fold of module x over its header: its part, and the parts of all that it needed
unfoldable pub module_needs : Setting → ℕ → Needs Fragment Fragment
module_needs s x =
    then_needs (owner_needs s (Some x) (header_of s.table x)) (λ r. Ends ((x, part_of r.0.items) ∷ r.1))

-- the fold of a unit
unfoldable pub unit_needs : Setting → List ℕ → Needs Fragment (List Item)
unit_needs s path = then_needs (owner_needs s None path) (λ r. Ends r.0.items)

-- what a module brings is what its one submodule brings
abbrev pub the_one : List Fragment → Fragment
the_one [] = []
the_one (b ∷ more) = b

-- the modules of a table, each of one submodule, which is the module itself
unfoldable pub plan_of : Setting → Plan Fragment
plan_of s = record {
  tops = range_with_len 0 (length s.table.targets);
  top = λ x. x;
  subs = λ m. m ∷ [];
  fold = module_needs s;
  together = the_one;
}
