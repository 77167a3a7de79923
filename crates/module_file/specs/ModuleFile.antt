-- The module file of version 0: its bytes, from what it says, and its name in a cache. Numbers are big-endian, a text
-- and bytes are their length and the bytes, and a list is its count and the items. Own.
use Rattle.std.specs.Prelude.{ℕ, ◌+◌, ◌<◌, ◌^◌, List, [], ◌∷◌, ◌++◌, length, take, drop, IsUtf8, codes, Result, Ok, Err, nat_lt, not, ◌==◌, ◌||◌, if◌then◌else◌}
use Rattle.std.specs.List.{flat_map, AllByRecursion}
use Rattle.std.specs.Str.{bytes_eq}
use Rattle.std.specs.Int.{w32, w64, from_be_bytes}
use Rattle.sha2.specs.Sha256.{sha256}
use Rattle.hex.specs.Hex.{encode_lower}
use Rattle.cm_core.specs.Paths.{IsPath}
use Rattle.cm_wire.specs.Spelling.{spell_u8, spell_u32, spell_u64, spell_bytes, spell_text}
use Rattle.cm_outside.specs.declared.question.Question.{Question}
use Rattle.cm_outside.specs.declared.question.Question.TheVariants.{Read, List as Listing}
use Rattle.cm_outside.specs.declared.question.Answer.{Answer}
use Rattle.cm_outside.specs.declared.question.Answer.TheVariants.{Absent, Bytes, TooLarge, Paths}
use Rattle.cm_outside.specs.declared.question.Record.{Record}
use Rattle.module_file.specs.declared.index.Key.{Key}
use Rattle.module_file.specs.declared.index.Declaration.{Declaration}
use Rattle.module_file.specs.declared.index.KeptDiag.{KeptDiag}
use Rattle.module_file.specs.declared.index.Index.{Index}
use Rattle.module_file.specs.declared.row.Row.{Row}
use Rattle.module_file.specs.declared.fault.FileFault.{FileFault}
use Rattle.module_file.specs.declared.fault.FileFault.TheVariants.{OtherVersion, Damaged}

-- parts one after another
abbrev pub joined : List (List ℕ) → List ℕ
joined [] = []
joined (part ∷ parts) = part ++ joined parts

abbrev pub spell_list : {A : Type 0} → (A → List ℕ) → List A → List ℕ
spell_list spell xs = spell_u64 (length xs) ++ flat_map spell xs

-- a list of something that isn't built
abbrev pub no_items : List ℕ
no_items = spell_u64 0

-- the key: what isn't built are the configured definitions and the use check
unfoldable pub spell_key : Key → List ℕ
spell_key k = joined (spell_text k.name ∷ spell_list spell_text k.includes ∷ spell_list spell_text k.maps ∷ no_items ∷ spell_u8 0 ∷ [])

-- an answer to a question for a file
abbrev pub spell_file_answer : Answer → List ℕ
spell_file_answer Absent = spell_u8 0
spell_file_answer (Bytes bytes) = spell_u8 1 ++ spell_bytes bytes
spell_file_answer (TooLarge size) = spell_u8 2 ++ spell_u64 size
spell_file_answer (Paths paths) = []

-- an answer to a question for the headers of a folder
abbrev pub spell_listing : Answer → List ℕ
spell_listing (Paths paths) = spell_list spell_text paths
spell_listing Absent = []
spell_listing (Bytes bytes) = []
spell_listing (TooLarge size) = []

abbrev pub spell_exchange : Question → Answer → List ℕ
spell_exchange (Read path) answer = spell_u8 0 ++ (spell_text path ++ spell_file_answer answer)
spell_exchange (Listing folder) answer = spell_u8 1 ++ (spell_text folder ++ spell_listing answer)

-- a question with its answer
unfoldable pub spell_record : Record → List ℕ
spell_record r = spell_exchange r.question r.answer

-- a diagnostic: its number, its place, which is a path, a line and a column, and its texts
unfoldable pub spell_diag : KeptDiag → List ℕ
spell_diag d = joined (spell_u32 d.number ∷ spell_text d.path ∷ spell_u32 d.line ∷ spell_u32 d.column ∷ spell_list spell_text d.texts ∷ [])

-- in the space of ordinary names (0), without a storage-class specifier (0): an object (0) whose type is unqualified (0),
-- an integer type (1), `int` (6); without initialiser (0)
abbrev pub plain_int_object : List ℕ
plain_int_object = 0 ∷ 0 ∷ 0 ∷ 0 ∷ 1 ∷ 6 ∷ 0 ∷ []

-- a declaration (0): its name, its place and what it declares
abbrev pub spell_declaration : Declaration → List ℕ
spell_declaration d = joined (spell_u8 0 ∷ spell_text d.name ∷ spell_text d.path ∷ spell_u32 d.line ∷ spell_u32 d.column ∷ plain_int_object ∷ [])

-- a piece, behind its length
unfoldable pub spell_piece : Declaration → List ℕ
spell_piece d = spell_bytes (spell_declaration d)

-- a declared name, in the space of ordinary names (0), with its number
unfoldable pub spell_row : Row → List ℕ
spell_row r = joined (spell_text r.name ∷ spell_u8 0 ∷ spell_u64 r.number ∷ [])

-- a row for each declaration, numbered from this number on
abbrev pub rows_from : ℕ → List Declaration → List Row
rows_from number [] = []
rows_from number (d ∷ ds) = record { name = d.name; number = number } ∷ rows_from (number + 1) ds

-- the list of one submodule, which is available (1), with the names of its imports and without macros
unfoldable pub spell_sub : List ℕ → List (List ℕ) → List Row → List ℕ
spell_sub name imports rows = joined (
    spell_u64 1 ∷ spell_text name ∷ spell_u8 1 ∷ spell_list spell_text imports ∷ spell_list spell_row rows ∷ no_items ∷ [])

-- an index with these rows: the key, the records, the needs, the submodule, the diagnostics and the pieces
unfoldable pub spell_with_rows : List Row → Index → List ℕ
spell_with_rows rows i = joined (
    spell_key i.key ∷ spell_list spell_record i.records ∷ spell_list spell_text i.needs ∷ spell_sub i.sub i.imports rows ∷
    spell_list spell_diag i.diags ∷ spell_list spell_piece i.declarations ∷ [])

unfoldable pub spell_index : Index → List ℕ
spell_index i = spell_with_rows (rows_from 1 i.declarations) i

-- `CMOD`, the version, the length of the file and that of the index
abbrev pub head_front : ℕ → List ℕ
head_front len = joined (codes "CMOD" ∷ spell_u32 0 ∷ spell_u64 (56 + len) ∷ spell_u64 len ∷ [])

-- the whole file: 24 bytes, the digest of these and of the index, and the index
unfoldable pub file_around : List ℕ → List ℕ
file_around index = head_front (length index) ++ (sha256 (head_front (length index) ++ index) ++ index)

unfoldable pub spelling : Index → List ℕ
spelling i = file_around (spell_index i)

-- ---- what has a spelling

abbrev pub IsText : List ℕ → Type 0
IsText text = (length text < 2 ^ 64) × IsUtf8 text

abbrev pub IsPathSpelling : List ℕ → Type 0
IsPathSpelling path = IsText path × IsPath path

abbrev pub IsListOf : {A : Type 0} → (A → Type 0) → List A → Type 0
IsListOf P xs = (length xs < 2 ^ 64) × AllByRecursion P xs

pub record IsKey (k : Key) : Type 0 where
  pub name : IsText k.name
  pub includes : IsListOf IsPathSpelling k.includes
  pub maps : IsListOf IsPathSpelling k.maps

abbrev pub IsFileAnswer : Answer → Type 0
IsFileAnswer Absent = Unit {0}
IsFileAnswer (Bytes bytes) = length bytes < 2 ^ 64
IsFileAnswer (TooLarge size) = size < 2 ^ 64
IsFileAnswer (Paths paths) = ⊥

abbrev pub IsListing : Answer → Type 0
IsListing (Paths paths) = IsListOf IsPathSpelling paths
IsListing Absent = ⊥
IsListing (Bytes bytes) = ⊥
IsListing (TooLarge size) = ⊥

abbrev pub IsExchange : Question → Answer → Type 0
IsExchange (Read path) answer = IsPathSpelling path × IsFileAnswer answer
IsExchange (Listing folder) answer = IsPathSpelling folder × IsListing answer

abbrev pub IsRecord : Record → Type 0
IsRecord r = IsExchange r.question r.answer

abbrev pub IsForFile : Answer → Type 0
IsForFile (Paths paths) = ⊥
IsForFile Absent = Unit {0}
IsForFile (Bytes bytes) = Unit {0}
IsForFile (TooLarge size) = Unit {0}

abbrev pub IsForFolder : Answer → Type 0
IsForFolder (Paths paths) = Unit {0}
IsForFolder Absent = ⊥
IsForFolder (Bytes bytes) = ⊥
IsForFolder (TooLarge size) = ⊥

-- the answer is of the kind of the question
abbrev pub IsOfKind : Question → Answer → Type 0
IsOfKind (Read path) answer = IsForFile answer
IsOfKind (Listing folder) answer = IsForFolder answer

abbrev pub IsAnswered : Record → Type 0
IsAnswered r = IsOfKind r.question r.answer

pub record IsDiag (d : KeptDiag) : Type 0 where
  pub number : d.number < 2 ^ 32
  pub path : IsPathSpelling d.path
  pub line : d.line < 2 ^ 32
  pub column : d.column < 2 ^ 32
  pub texts : IsListOf IsText d.texts

pub record IsDeclaration (d : Declaration) : Type 0 where
  pub name : IsText d.name
  pub path : IsPathSpelling d.path
  pub line : d.line < 2 ^ 32
  pub column : d.column < 2 ^ 32
  pub len : length (spell_declaration d) < 2 ^ 64

pub record IsRow (r : Row) : Type 0 where
  pub name : IsText r.name
  pub number : r.number < 2 ^ 64

-- the parts of an index have spellings
pub record HasParts (i : Index) : Type 0 where
  pub key : IsKey i.key
  pub records : IsListOf IsRecord i.records
  pub needs : IsListOf IsText i.needs
  pub sub : IsText i.sub
  pub imports : IsListOf IsText i.imports
  pub diags : IsListOf IsDiag i.diags
  pub declarations : IsListOf IsDeclaration i.declarations

-- what a module file can say
pub record IsWellFormed (i : Index) : Type 0 where
  pub parts : HasParts i
  pub len : 56 + length (spell_index i) < 2 ^ 64

-- ---- the head

abbrev pub version_in : List ℕ → ℕ
version_in head = from_be_bytes w32 (take 4 (drop 4 head))

abbrev pub total_in : List ℕ → ℕ
total_in head = from_be_bytes w64 (take 8 (drop 8 head))

abbrev pub len_in : List ℕ → ℕ
len_in head = from_be_bytes w64 (take 8 (drop 16 head))

-- the length of the index, by a file's size and head, or the first check that fails
unfoldable pub index_len_of : List ℕ → ℕ → Result ℕ FileFault
index_len_of head size =
    if nat_lt size 56 || not (length head == 56) then Err Damaged
    else if not (bytes_eq (take 4 head) (codes "CMOD")) then Err Damaged
    else if not (version_in head == 0) then Err (OtherVersion (version_in head))
    else if not (total_in head == size) || not (56 + len_in head == size) then Err Damaged
    else Ok (len_in head)

-- ---- the name

-- the digest of the key in hexadecimal, and `.cmod`
unfoldable pub file_name_of : Key → List ℕ
file_name_of k = encode_lower (sha256 (spell_key k)) ++ codes ".cmod"
