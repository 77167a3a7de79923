-- The lines of a unit's block. own
use Rattle.std.specs.Prelude.{ℕ, Bool, true, false, List, [], ◌∷◌, ◌++◌, codes, if◌then◌else◌}
use Rattle.std.specs.List.{list_any}
use Rattle.std.specs.Fmt.{decimal}
use Rattle.cm_core.specs.declared.diag.Diag.{Diag}
use Rattle.diag_texts.specs.Lines.{line_of}
use Rattle.unit_fold.specs.declared.at.At.{At}
use Rattle.unit_fold.specs.declared.item.Item.{Item}
use Rattle.unit_fold.specs.declared.item.Item.TheVariants.{Object, Pointer, Import, Fault}
use Rattle.unit_fold.specs.declared.item.FaultKind.{FaultKind}
use Rattle.unit_fold.specs.declared.item.FaultKind.TheVariants.{NotBuilt, Absent, TooLarge, NotUtf8, Unclosed, BadByte, LongName, ManyTokens, CyclicModule, NotDeclared}

-- a line of parts that stand one after another
abbrev pub joined : List (List ℕ) → List ℕ
joined [] = codes "\n"
joined (part ∷ parts) = part ++ joined parts

-- a line that begins with this word, a place and a space
abbrev pub placed_line : List ℕ → List ℕ → At → List (List ℕ) → List ℕ
placed_line word path at parts = joined (word ∷ path ∷ codes ":" ∷ decimal at.line ∷ codes ":" ∷ decimal at.column ∷ codes " " ∷ parts)

abbrev pub import_line : List ℕ → At → List ℕ → List ℕ
import_line path at name = placed_line (codes "import ") path at (name ∷ [])

abbrev pub object_line : List ℕ → At → List ℕ → List ℕ
object_line path at name = placed_line (codes "decl ") path at (codes "none object " ∷ name ∷ codes " : int" ∷ [])

abbrev pub pointer_line : List ℕ → At → List ℕ → List ℕ
pointer_line path at name = placed_line (codes "decl ") path at (codes "none object " ∷ name ∷ codes " : pointer to int" ∷ [])

-- the number of a fault's text (diag_texts, Rows)
abbrev pub fault_number : FaultKind → ℕ
fault_number NotBuilt = 5
fault_number Absent = 1
fault_number (TooLarge size) = 2
fault_number (NotUtf8 at) = 3
fault_number Unclosed = 10
fault_number BadByte = 11
fault_number LongName = 12
fault_number ManyTokens = 68
fault_number (CyclicModule name) = 52
fault_number (NotDeclared name) = 110

-- what its text leaves open, in a file of this path
abbrev pub fault_args : List ℕ → FaultKind → List (List ℕ)
fault_args path NotBuilt = []
fault_args path Absent = path ∷ []
fault_args path (TooLarge size) = path ∷ decimal size ∷ []
fault_args path (NotUtf8 at) = path ∷ decimal at ∷ []
fault_args path Unclosed = []
fault_args path BadByte = []
fault_args path LongName = []
fault_args path ManyTokens = []
fault_args path (CyclicModule name) = name ∷ []
fault_args path (NotDeclared name) = name ∷ []

-- the diagnostic in the one file of this path
abbrev pub fault_diag : List ℕ → At → FaultKind → Diag
fault_diag path at kind = record {
  number = fault_number kind;
  place = record { file = record { index = 0 }; line = at.line; col = at.column };
  args = fault_args path kind;
}

abbrev pub fault_line : List ℕ → At → FaultKind → List ℕ
fault_line path at kind = line_of (fault_diag path at kind) (path ∷ [])

abbrev pub item_line : List ℕ → Item → List ℕ
item_line path (Object n) = object_line path n.at n.name
item_line path (Pointer n) = pointer_line path n.at n.name
item_line path (Import m at) = import_line path at m.name
item_line path (Fault d) = fault_line path d.at d.kind

abbrev pub item_lines : List ℕ → List Item → List ℕ
item_lines path [] = []
item_lines path (item ∷ items) = item_line path item ++ item_lines path items

abbrev pub is_fault : Item → Bool
is_fault (Object n) = false
is_fault (Pointer n) = false
is_fault (Import m at) = false
is_fault (Fault d) = true

abbrev pub begin_line : List ℕ → List ℕ
begin_line path = joined (codes "unit " ∷ path ∷ [])

abbrev pub state_of : Bool → List ℕ
state_of failed = if failed then codes "failed" else codes "clean"

-- the last line of a block, of an owner that has a diagnostic or none
abbrev pub end_line : List ℕ → Bool → List ℕ
end_line name failed = joined (codes "end " ∷ name ∷ codes " " ∷ state_of failed ∷ [])

-- the block of the unit of this path
abbrev pub unit_block : List ℕ → List Item → List ℕ
unit_block path items = begin_line path ++ (item_lines path items ++ end_line path (list_any is_fault items))
