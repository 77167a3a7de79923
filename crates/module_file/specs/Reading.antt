-- How the bytes of a module file of version 0 are read: what they say and what is unread after it, or none where they
-- say nothing. Own.
use Rattle.std.specs.Prelude.{◌≡◌, ℕ, zero, suc, ◌+◌, ◌++◌, take, drop, Result, Ok, Err, ◌==◌, Bool, true, false, ◌&&◌, List, [], ◌∷◌, length, Option, Some, None, option_map, option_and_then, if◌then◌else◌}
use Rattle.std.specs.Result.{result_ok}
use Rattle.std.specs.Str.{bytes_eq}
use Rattle.cm_core.specs.Paths.{path_of}
use Rattle.cm_wire.specs.Unread.{Unread}
use Rattle.cm_wire.specs.Reading.{read_u8, read_u32, read_u64, read_bytes, read_text}
use Rattle.cm_outside.specs.declared.question.Question.TheVariants.{Read, List as Listing}
use Rattle.cm_outside.specs.declared.question.Answer.{Answer}
use Rattle.cm_outside.specs.declared.question.Answer.TheVariants.{Absent, Bytes, TooLarge, Paths}
use Rattle.cm_outside.specs.declared.question.Record.{Record}
use Rattle.sha2.specs.Sha256.{sha256}
use Rattle.module_file.specs.ModuleFile.{plain_int_object, index_len_of}
use Rattle.module_file.specs.declared.fault.FileFault.{FileFault}
use Rattle.module_file.specs.declared.fault.FileFault.TheVariants.{OtherVersion, Damaged, NoMemory}
use Rattle.module_file.specs.declared.index.Key.{Key}
use Rattle.module_file.specs.declared.index.Declaration.{Declaration}
use Rattle.module_file.specs.declared.index.KeptDiag.{KeptDiag}
use Rattle.module_file.specs.declared.index.Index.{Index}
use Rattle.module_file.specs.declared.row.Row.{Row}
use Rattle.module_file.specs.declared.contents.Contents.{Contents}

abbrev pub Reads : Type 0 → Type 0
Reads A = Unread → Option (A × Unread)

-- ---- putting readers together

-- nothing
abbrev pub nothing : Reads (Unit {0})
nothing u = Some (tt, u)

-- one thing and another
abbrev pub both : {A B : Type 0} → Reads A → Reads B → Reads (A × B)
both first second u = option_and_then (λ x. option_map (λ y. ((x.0, y.0), y.1)) (second x.1)) (first u)

-- something behind bytes that say nothing
abbrev pub after : {A : Type 0} → (Unread → Option Unread) → Reads A → Reads A
after pass read u = option_and_then read (pass u)

-- something seen as something else
abbrev pub seen_as : {A B : Type 0} → (A → B) → Reads A → Reads B
seen_as change read u = option_map (λ x. (change x.0, x.1)) (read u)

abbrev pub read_items : {A : Type 0} → Reads A → ℕ → Reads (List A)
read_items read zero u = Some ([], u)
read_items read (suc n) u = option_and_then (λ x. option_map (λ xs. (x.0 ∷ xs.0, xs.1)) (read_items read n x.1)) (read u)

-- a count, and as many items
unfoldable pub read_list : {A : Type 0} → Reads A → Reads (List A)
read_list read u = option_and_then (λ n. read_items read n.0 n.1) (result_ok (read_u64 u))

-- bytes behind their length that say one thing and no more
abbrev pub whole_of : {A : Type 0} → Unread → A × Unread → Option (A × Unread)
whole_of v x = if length x.1.rest == 0 then Some (x.0, v) else None

unfoldable pub read_inside : {A : Type 0} → Reads A → Reads A
read_inside read u = option_and_then (λ bytes. option_and_then (whole_of bytes.1) (read (record { at = 0; rest = bytes.0 }))) (result_ok (read_bytes u))

-- ---- numbers that say nothing

abbrev pub passed_if : ℕ → ℕ × Unread → Option Unread
passed_if n x = if x.0 == n then Some x.1 else None

unfoldable pub pass_u8 : ℕ → Unread → Option Unread
pass_u8 n u = option_and_then (passed_if n) (result_ok (read_u8 u))

unfoldable pub pass_u64 : ℕ → Unread → Option Unread
pass_u64 n u = option_and_then (passed_if n) (result_ok (read_u64 u))

-- these bytes
abbrev pub pass_bytes : List ℕ → Unread → Option Unread
pass_bytes [] u = Some u
pass_bytes (b ∷ bs) u = option_and_then (pass_bytes bs) (pass_u8 b u)

-- ---- texts and paths

unfoldable pub read_str : Reads (List ℕ)
read_str u = result_ok (read_text u)

-- a text that reading it as a path leaves as it is
abbrev pub path_in : List ℕ × Unread → Option (List ℕ × Unread)
path_in x = option_and_then (λ path. if bytes_eq path x.0 then Some x else None) (result_ok (path_of x.0))

unfoldable pub read_path : Reads (List ℕ)
read_path u = option_and_then path_in (read_str u)

abbrev pub read_number32 : Reads ℕ
read_number32 u = result_ok (read_u32 u)

abbrev pub read_number64 : Reads ℕ
read_number64 u = result_ok (read_u64 u)

-- ---- the parts of an index

abbrev pub key_of : List ℕ × (List (List ℕ) × (List (List ℕ) × Unit {0})) → Key
key_of x = record { name = x.0; includes = x.1.0; maps = x.1.1.0 }

unfoldable pub read_key : Reads Key
read_key = seen_as key_of (both read_str (both (read_list read_path) (both (read_list read_path) (after (pass_u64 0) (after (pass_u8 0) nothing)))))

abbrev pub file_answer_after : ℕ → Reads Answer
file_answer_after tag u =
    if tag == 0 then Some (Absent, u)
    else if tag == 1 then option_map (λ x. (Bytes x.0, x.1)) (result_ok (read_bytes u))
    else if tag == 2 then option_map (λ x. (TooLarge x.0, x.1)) (result_ok (read_u64 u))
    else None

unfoldable pub read_file_answer : Reads Answer
read_file_answer u = option_and_then (λ tag. file_answer_after tag.0 tag.1) (result_ok (read_u8 u))

abbrev pub file_record_of : List ℕ × Answer → Record
file_record_of x = record { question = Read x.0; answer = x.1 }

abbrev pub listing_of : List ℕ × List (List ℕ) → Record
listing_of x = record { question = Listing x.0; answer = Paths x.1 }

abbrev pub record_after : ℕ → Reads Record
record_after tag u =
    if tag == 0 then seen_as file_record_of (both read_path read_file_answer) u
    else if tag == 1 then seen_as listing_of (both read_path (read_list read_path)) u
    else None

unfoldable pub read_record : Reads Record
read_record u = option_and_then (λ tag. record_after tag.0 tag.1) (result_ok (read_u8 u))

abbrev pub diag_of : ℕ × (List ℕ × (ℕ × (ℕ × (List (List ℕ) × Unit {0})))) → KeptDiag
diag_of x = record { number = x.0; path = x.1.0; line = x.1.1.0; column = x.1.1.1.0; texts = x.1.1.1.1.0 }

unfoldable pub read_diag : Reads KeptDiag
read_diag = seen_as diag_of (both read_number32 (both read_path (both read_number32 (both read_number32 (both (read_list read_str) nothing)))))

abbrev pub declaration_of : List ℕ × (List ℕ × (ℕ × (ℕ × Unit {0}))) → Declaration
declaration_of x = record { name = x.0; path = x.1.0; line = x.1.1.0; column = x.1.1.1.0 }

unfoldable pub read_declaration : Reads Declaration
read_declaration = seen_as declaration_of (after (pass_u8 0) (both read_str (both read_path (both read_number32 (both read_number32 (after (pass_bytes plain_int_object) nothing))))))

unfoldable pub read_piece : Reads Declaration
read_piece = read_inside read_declaration

abbrev pub row_of : List ℕ × (ℕ × Unit {0}) → Row
row_of x = record { name = x.0; number = x.1.0 }

unfoldable pub read_row : Reads Row
read_row = seen_as row_of (both read_str (after (pass_u8 0) (both read_number64 nothing)))

-- the name of the one submodule, its imports and its rows
abbrev pub Sub : Type 0
Sub = List ℕ × (List (List ℕ) × (List Row × Unit {0}))

unfoldable pub read_sub : Reads Sub
read_sub = after (pass_u64 1) (both read_str (after (pass_u8 1) (both (read_list read_str) (both (read_list read_row) (after (pass_u64 0) nothing)))))

abbrev pub contents_of : Key × (List Record × (List (List ℕ) × (Sub × (List KeptDiag × (List Declaration × Unit {0}))))) → Contents
contents_of x = record {
  index = record {
    key = x.0;
    records = x.1.0;
    needs = x.1.1.0;
    sub = x.1.1.1.0.0;
    imports = x.1.1.1.0.1.0;
    declarations = x.1.1.1.1.1.0;
    diags = x.1.1.1.1.0;
  };
  rows = x.1.1.1.0.1.1.0;
}

unfoldable pub read_contents : Reads Contents
read_contents = seen_as contents_of (both read_key (both (read_list read_record) (both (read_list read_str) (both read_sub (both (read_list read_diag) (both (read_list read_piece) nothing))))))

-- ---- rows that stand beside declarations

abbrev pub is_row : ℕ → Row → Declaration → Bool
is_row number r d = bytes_eq r.name d.name && (r.number == number)

-- the rows are those of the declarations, numbered from this number on
abbrev pub agree : ℕ → List Row → List Declaration → Bool
agree number [] [] = true
agree number [] (d ∷ ds) = false
agree number (r ∷ rs) [] = false
agree number (r ∷ rs) (d ∷ ds) = is_row number r d && agree (number + 1) rs ds

-- ---- the whole

-- what the bytes of an index say, where nothing is left and the rows are those of the declarations
abbrev pub index_of_read : Contents × Unread → Option Index
index_of_read x =
    if length x.1.rest == 0 then (if agree 1 x.0.rows x.0.index.declarations then Some x.0.index else None)
    else None

unfoldable pub index_in : List ℕ → Option Index
index_in bytes = option_and_then index_of_read (read_contents (record { at = 0; rest = bytes }))

abbrev pub or_damaged : Option Index → Result Index FileFault
or_damaged (Some i) = Ok i
or_damaged None = Err Damaged

abbrev pub is_sealed_of : List ℕ → List ℕ → Bool
is_sealed_of head index = bytes_eq (sha256 (take 24 head ++ index)) (drop 24 head)

-- the index, after the checks of its length and of the seal
abbrev pub index_after : List ℕ → List ℕ → ℕ → Result Index FileFault
index_after head index len = if length index == len then (if is_sealed_of head index then or_damaged (index_in index) else Err Damaged) else Err Damaged

abbrev pub checked_index : List ℕ → List ℕ → Result ℕ FileFault → Result Index FileFault
checked_index head index (Ok len) = index_after head index len
checked_index head index (Err fault) = Err fault

-- what a file of this size says, by its head and the bytes behind it, or the first check that fails
unfoldable pub file_in : ℕ → List ℕ → List ℕ → Result Index FileFault
file_in size head index = checked_index head index (index_len_of head size)

-- the answer is this, unless memory ran out
abbrev pub IsFileAnswerOf : Result Index FileFault → Result Index FileFault → Type 0
IsFileAnswerOf wanted (Ok i) = wanted ≡ Ok i
IsFileAnswerOf wanted (Err NoMemory) = Unit {0}
IsFileAnswerOf wanted (Err Damaged) = wanted ≡ Err Damaged
IsFileAnswerOf wanted (Err (OtherVersion n)) = wanted ≡ Err (OtherVersion n)
