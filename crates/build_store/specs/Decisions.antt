-- What is decided of a module when it is begun. own
use Rattle.std.specs.Prelude.{◌≡◌, true, false, List, map, slice_get, Some}
use Rattle.cm_outside.specs.Asks.{Agrees}
use Rattle.cm_outside.specs.declared.question.Question.{Question}
use Rattle.cm_outside.specs.declared.question.Answer.{Answer}
use Rattle.cm_outside.specs.declared.question.Record.{Record}
use Rattle.module_file.specs.ModuleFile.{IsWellFormed, spelling}
use Rattle.module_file.specs.declared.index.Index.{Index}
use Rattle.module_file.specs.declared.index.Key.{Key}
use Rattle.build_store.specs.Changes.{changed}
use Rattle.build_store.specs.Images.{IsTrueFile, index_of}
use Rattle.build_store.specs.Report.{fits}
use Rattle.build_store.specs.declared.decide.Choice.{Choice}
use Rattle.build_store.specs.declared.decide.Choice.TheVariants.{Sources, File}
use Rattle.build_store.specs.declared.decide.Decision.{Decision}
use Rattle.build_store.specs.declared.origin.Origin.{Origin}
use Rattle.build_store.specs.declared.origin.Origin.TheVariants.{Loaded, Built}
use Rattle.build_store.specs.declared.origin.Reason.TheVariants.{Damaged, Outdated}
use Rattle.build_store.specs.declared.table.Table.{Table}

-- A file that is taken is sealed, of the key, fits the table, and has records that the answers agree with. It is true where
-- the cache is honest.
abbrev pub IsChoice : Table → Key → Type 0 → (Question → Answer) → Choice → Type 0
IsChoice table key honest f Sources = Unit {0}
IsChoice table key honest f (File i numbers) =
    IsWellFormed i × (i.key ≡ key) × (fits table i ≡ true) × Agrees f i.records × (honest → IsTrueFile (spelling i))

-- with the numbers of the recorded answers
abbrev pub IsNumberedChoice : List Record → Choice → Type 0
IsNumberedChoice kept Sources = Unit {0}
IsNumberedChoice kept (File i numbers) = map (slice_get kept) numbers ≡ map Some i.records

-- a sealed file with this index is taken, or it is outdated, or doesn't fit
abbrev pub IsJudgedBy : Table → Index → (Question → Answer) → Choice → Origin → Type 0
IsJudgedBy table i f (File taken numbers) Loaded = (taken ≡ i) × (fits table i ≡ true) × Agrees f i.records
IsJudgedBy table i f Sources (Built (Outdated path)) = changed f i.records ≡ Some path
IsJudgedBy table i f Sources (Built Damaged) = (fits table i ≡ false) × Agrees f i.records
IsJudgedBy table i f choice origin = ⊥

abbrev pub IsJudged : Table → Index → (Question → Answer) → Decision → Type 0
IsJudged table i f d = IsJudgedBy table i f d.choice d.origin

-- a file that is taken is of this key, and fits
abbrev pub IsOfKey : Table → Key → Choice → Type 0
IsOfKey table key Sources = Unit {0}
IsOfKey table key (File i numbers) = (i.key ≡ key) × (fits table i ≡ true)

-- what is decided is true over these answers: the file that is taken says what interpreting its module says
abbrev pub IsTrueChoice : (Question → Answer) → Choice → Type 0
IsTrueChoice f Sources = Unit {0}
IsTrueChoice f (File i numbers) = index_of i.key f ≡ Some i
