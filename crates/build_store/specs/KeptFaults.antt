-- The diagnostics of a header as its module's file keeps them, and back. own
use Rattle.std.specs.Prelude.{ℕ, ◌^◌, ◌==◌, Bool, true, false, ◌&&◌, ◌||◌, nat_eq, nat_lt, if◌then◌else◌, List, [], ◌∷◌, length, Option, Some, None, codes}
use Rattle.std.specs.Fmt.{decimal}
use Rattle.std.specs.List.{starts_with}
use Rattle.std.specs.Option.{option_map}
use Rattle.std.specs.Str.{bytes_eq}
use Rattle.std.specs.Str.Parse.{digits_value}
use Rattle.module_file.specs.declared.index.KeptDiag.{KeptDiag}
use Rattle.unit_fold.specs.Blocks.{fault_number, fault_args}
use Rattle.unit_fold.specs.Lines.{when}
use Rattle.unit_fold.specs.declared.item.FaultAt.{FaultAt}
use Rattle.unit_fold.specs.declared.item.FaultKind.{FaultKind}
use Rattle.unit_fold.specs.declared.item.FaultKind.TheVariants.{NotBuilt, Absent, TooLarge, NotUtf8, Unclosed, BadByte, LongName, ManyTokens, CyclicModule, NotDeclared}

-- ---- kept

-- what is kept of a fault of the header of this path
abbrev pub kept_fault : List ℕ → FaultAt → KeptDiag
kept_fault path fault = record {
  number = fault_number fault.kind;
  path = path;
  line = fault.at.line;
  column = fault.at.column;
  texts = fault_args path fault.kind;
}

-- ---- and back

-- sizes and offsets are below this
unfoldable pub number_bound : ℕ
number_bound = 2 ^ 64

-- the number that a text spells, as it is printed
abbrev pub spelled : List ℕ → Option ℕ
spelled text =
    let n = digits_value 10 text in
    when (nat_lt n number_bound && bytes_eq (decimal n) text) n

-- the texts are the path alone
abbrev pub is_path_alone : List ℕ → List (List ℕ) → Bool
is_path_alone path [] = false
is_path_alone path (first ∷ []) = bytes_eq first path
is_path_alone path (first ∷ second ∷ more) = false

-- the number of texts that are the path and a number
abbrev pub number_behind : List ℕ → List (List ℕ) → Option ℕ
number_behind path [] = None
number_behind path (first ∷ []) = None
number_behind path (first ∷ second ∷ []) = if bytes_eq first path then spelled second else None
number_behind path (first ∷ second ∷ third ∷ more) = None

-- the kind of this number whose text leaves nothing open
abbrev pub plain_kind : ℕ → Option FaultKind
plain_kind number =
    if number == 5 then Some NotBuilt
    else if number == 10 then Some Unclosed
    else if number == 11 then Some BadByte
    else if number == 12 then Some LongName
    else if number == 68 then Some ManyTokens
    else None

abbrev pub kind_without : List (List ℕ) → ℕ → Option FaultKind
kind_without [] number = plain_kind number
kind_without (text ∷ texts) number = None

-- The kind of a kept diagnostic: one that a header can have, of its number and with its texts in its file. No other is kept.
abbrev pub fault_of_kept : KeptDiag → Option FaultKind
fault_of_kept d =
    if d.number == 1 then when (is_path_alone d.path d.texts) Absent
    else if d.number == 2 then option_map TooLarge (number_behind d.path d.texts)
    else if d.number == 3 then option_map NotUtf8 (number_behind d.path d.texts)
    else kind_without d.texts d.number

-- ---- for the contracts of private functions

-- a plus stands first, or a zero before other bytes
abbrev pub is_padded : List ℕ → Bool
is_padded text = starts_with nat_eq text (codes "+") || (starts_with nat_eq text (codes "0") && nat_lt 1 (length text))

-- ---- for the laws

-- The kinds that a header can have: a Cyclic module is not kept, and no header has a use of a name yet.
abbrev pub is_of_header : FaultKind → Bool
is_of_header NotBuilt = true
is_of_header Absent = true
is_of_header (TooLarge size) = nat_lt size number_bound
is_of_header (NotUtf8 at) = nat_lt at number_bound
is_of_header Unclosed = true
is_of_header BadByte = true
is_of_header LongName = true
is_of_header ManyTokens = true
is_of_header (CyclicModule name) = false
is_of_header (NotDeclared name) = false
