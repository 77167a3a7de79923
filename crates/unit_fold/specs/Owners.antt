-- The fold of an owner, a unit or a submodule, over the tokens of its texts. Reading a text stops at each include for what it
-- is translated to (Clang's documentation, Modules, "Includes as imports"), and goes on from the answer. own
use Rattle.std.specs.Prelude.{ℕ, zero, suc, ◌+◌, ◌==◌, Bool, true, false, not, ◌&&◌, ◌||◌, nat_lt, if◌then◌else◌, List, [], ◌∷◌, ◌++◌, length, Option, Some, None, codes}
use Rattle.std.specs.List.{list_any}
use Rattle.std.specs.Str.{bytes_eq, is_utf8}
use Rattle.std.specs.Str.Lossy.{utf8_valid_len}
use Rattle.cm_core.specs.declared.numbers.Owner.{Owner}
use Rattle.cm_source.specs.LogicalText.{Logical, text_of}
use Rattle.unit_fold.specs.Tokens.{TokenAt, Next, NoneLeft, Faulty, LineEnds, Gives, next, next_name, is_hash, is_word, quoted}
use Rattle.unit_fold.specs.Forms.{Form, IsEmpty, IsObject, IsPointer, IsOther, form_of, is_whole_piece}
use Rattle.unit_fold.specs.declared.at.At.{At}
use Rattle.unit_fold.specs.declared.item.Item.{Item}
use Rattle.unit_fold.specs.declared.item.Item.TheVariants.{Object, Pointer, Import, Fault}
use Rattle.unit_fold.specs.declared.item.Imported.{Imported}
use Rattle.unit_fold.specs.declared.item.Named.{Named}
use Rattle.unit_fold.specs.declared.item.FaultKind.{FaultKind}
use Rattle.unit_fold.specs.declared.item.FaultKind.TheVariants.{NotBuilt, NotUtf8, ManyTokens, NotDeclared}
use Rattle.unit_fold.specs.declared.given.Given.{Given}
use Rattle.unit_fold.specs.declared.given.Given.TheVariants.{Again, Text, Imported as Import_of, Refused, Skip, NotBuilt as NotBuiltYet}

-- the most tokens of an owner; line ends are not counted
unfoldable pub most_tokens : ℕ
most_tokens = 2000000

-- How far an owner has come: what its pieces and includes have come to, in order; the names of its pointers and of the objects
-- that its imports made visible; the files whose texts it was given; how many tokens it has read; and the tokens of the piece
-- that is open, which may go on in its next file.
pub record SoFar : Type 0 where
  pub items : List Item
  pub pointers : List (List ℕ)
  pub brought : List (List ℕ)
  pub entered : List (List ℕ)
  pub taken : ℕ
  pub piece : List TokenAt

-- an owner of which nothing was read
abbrev pub nothing_read : SoFar
nothing_read = record { items = []; pointers = []; brought = []; entered = []; taken = 0; piece = [] }

abbrev pub has_tokens : List TokenAt → Bool
has_tokens piece = not (length piece == 0)

-- What reading comes to: its end, which is that of the owner (true) or of a text alone (false), or an include of a text
-- at a place, with what follows each answer.
pub data Reading : Type 0 where
  Ends : Bool → SoFar → Reading
  Includes : At → List ℕ → (Given → Reading) → Reading

-- ---- what is visible

-- an object of type `int` of this name
abbrev pub is_object_of : List ℕ → Item → Bool
is_object_of name (Object n) = bytes_eq n.name name
is_object_of name (Pointer n) = false
is_object_of name (Import m at) = false
is_object_of name (Fault d) = false

abbrev pub is_among : List ℕ → List (List ℕ) → Bool
is_among name names = list_any (λ other. bytes_eq other name) names

-- the owner has declared a pointer of this name
abbrev pub is_pointer : SoFar → List ℕ → Bool
is_pointer p name = is_among name p.pointers

-- an object of type `int` of this name is visible: the owner's own, or one that an import made visible
abbrev pub is_int : SoFar → List ℕ → Bool
is_int p name = list_any (is_object_of name) p.items || is_among name p.brought

-- one of these is the name of a pointer that the owner has declared
abbrev pub has_pointer : SoFar → List (List ℕ) → Bool
has_pointer p names = list_any (λ name. is_pointer p name) names

-- ---- what is added

abbrev pub add : SoFar → List Item → SoFar
add p more = record p { items = p.items ++ more }

abbrev pub fault_item : At → FaultKind → Item
fault_item at kind = Fault (record { at = at; kind = kind })

abbrev pub add_fault : SoFar → At → FaultKind → SoFar
add_fault p at kind = add p (fault_item at kind ∷ [])

-- an owner that ends early, with a fault, drops its open piece
abbrev pub ended : SoFar → At → FaultKind → SoFar
ended p at kind = add_fault (record p { piece = [] }) at kind

abbrev pub ends_at : SoFar → At → FaultKind → Reading
ends_at p at kind = Ends true (ended p at kind)

-- what no finished form of directive covers ends the owner at its `#`
abbrev pub stops : SoFar → At → Reading
stops p hash = ends_at p hash NotBuilt

-- ---- pieces

abbrev pub named : TokenAt → Named
named t = record { name = t.text; at = t.at }

-- `int NAME ;`, where no pointer of that name was declared; `first` is the place of the piece's first token
abbrev pub with_object : SoFar → At → TokenAt → SoFar
with_object p first name = if is_pointer p name.text then add_fault p first NotBuilt else add p (Object (named name) ∷ [])

abbrev pub undeclared : SoFar → TokenAt → List Item
undeclared p target = if is_int p target.text then [] else fault_item target.at (NotDeclared target.text) ∷ []

-- the first name is visible before the piece, or the second is a pointer or the first
abbrev pub clashes : SoFar → List ℕ → List ℕ → Bool
clashes p name target = is_int p name || is_pointer p name || (is_pointer p target || bytes_eq target name)

-- a pointer more, and what is said of its operand
abbrev pub pointing : SoFar → TokenAt → TokenAt → SoFar
pointing p name target =
    record p { items = p.items ++ (Pointer (named name) ∷ undeclared p target); pointers = p.pointers ++ (name.text ∷ []) }

-- `int * NAME = & NAME ;`
abbrev pub with_pointer : SoFar → At → TokenAt → TokenAt → SoFar
with_pointer p first name target = if clashes p name.text target.text then add_fault p first NotBuilt else pointing p name target

-- a piece of any other form declares nothing, and the owner goes on
abbrev pub with_form : SoFar → At → Form → SoFar
with_form p first IsEmpty = p
with_form p first (IsObject name) = with_object p first name
with_form p first (IsPointer name target) = with_pointer p first name target
with_form p first IsOther = add_fault p first NotBuilt

abbrev pub with_piece : Owner → SoFar → List TokenAt → SoFar
with_piece owner p [] = p
with_piece owner p (first ∷ rest) = with_form p first.at (form_of owner (first ∷ rest))

-- a token more in the open piece, which is read where it ends there
abbrev pub with_token : Owner → SoFar → TokenAt → SoFar
with_token owner p t =
    if is_whole_piece (p.piece ++ t ∷ []) then with_piece owner (record p { piece = [] }) (p.piece ++ t ∷ [])
    else record p { piece = p.piece ++ t ∷ [] }

-- what is left at the owner's end is a piece as well
abbrev pub closed : Owner → SoFar → SoFar
closed owner p = with_piece owner (record p { piece = [] }) p.piece

-- ---- includes

-- an import that was done
abbrev pub with_import : SoFar → Imported → At → List (List ℕ) → SoFar
with_import p m at names = record p { items = p.items ++ (Import m at ∷ []); brought = p.brought ++ names }

-- What follows an include. No import makes a declaration visible that has the name of a pointer declared before it.
abbrev pub included : SoFar → At → Given → (SoFar → Reading) → Reading
included p at (Import_of m names) more = if has_pointer p names then stops p at else more (with_import p m at names)
included p at (Refused kind) more = more (add_fault p at kind)
included p at Skip more = more p
included p at NotBuiltYet more = stops p at
included p at Again more = stops p at
included p at (Text bytes path) more = stops p at

abbrev pub includes : SoFar → At → List ℕ → (SoFar → Reading) → Reading
includes p hash file more = Includes hash file (λ given. included p hash given more)

-- ---- tokens

-- What follows the next token: `none` at the text's end, `line` behind a line end, `token` behind another token, which counts.
-- The file ends at a fault, and the owner before a token past the most.
abbrev pub reads : SoFar → Next → (SoFar → Reading) → (SoFar → ℕ → Reading) → (SoFar → TokenAt → ℕ → Reading) → Reading
reads p NoneLeft none line token = none p
reads p (Faulty fault) none line token = Ends false (add p (Fault fault ∷ []))
reads p (LineEnds to) none line token = line p to
reads p (Gives t to) none line token =
    if nat_lt p.taken most_tokens then token (record p { taken = p.taken + 1 }) t to else ends_at p t.at ManyTokens

-- behind the name of an include the line ends, and reading goes on from the answer
abbrev pub include_end : Logical → SoFar → At → List ℕ → ℕ → (SoFar → ℕ → Reading) → Reading
include_end text p hash file at more =
    reads p (next text at) (λ q. includes q hash file (λ r. more r at)) (λ q to. includes q hash file (λ r. more r to)) (λ q t to. stops q hash)

abbrev pub include_name : Logical → SoFar → At → Option (List ℕ) → ℕ → (SoFar → ℕ → Reading) → Reading
include_name text p hash None at more = stops p hash
include_name text p hash (Some file) at more = include_end text p hash file at more

-- behind `#include` stands a header name `".."`
abbrev pub include_line : Logical → SoFar → At → ℕ → (SoFar → ℕ → Reading) → Reading
include_line text p hash at more =
    reads p (next_name text at) (λ q. stops q hash) (λ q to. stops q hash) (λ q name to. include_name text q hash (quoted name) to more)

-- behind a `#` outside all pieces stands `include`
abbrev pub directive : Logical → SoFar → At → ℕ → (SoFar → ℕ → Reading) → Reading
directive text p hash at more =
    if has_tokens p.piece then stops p hash
    else reads p (next text at) (λ q. stops q hash) (λ q to. stops q hash)
    (λ q word to. if is_word (codes "include") word then include_line text q hash to more else stops q hash)

-- A `#` that is the first token of its line begins a directive, and any other token belongs to the open piece. `more` reads on
-- from a byte: true says that a line begins there.
abbrev pub token_step : Owner → Logical → Bool → SoFar → ℕ → (Bool → SoFar → ℕ → Reading) → Reading
token_step owner text first p at more =
    reads p (next text at) (λ q. Ends false q) (more true)
    (λ q t to. if first && is_hash t then directive text q t.at to (more true) else more false (with_token owner q t) to)

-- the tokens of a text from byte number `at` on; `fuel` bounds how many
abbrev pub read_tokens : ℕ → Owner → Logical → Bool → SoFar → ℕ → Reading
read_tokens zero owner text first p at = Ends false p
read_tokens (suc fuel) owner text first p at = token_step owner text first p at (read_tokens fuel owner text)

-- a token has a byte at least
unfoldable pub read_on : Owner → Logical → Bool → SoFar → ℕ → Reading
read_on owner text first p at = read_tokens (length text.bytes + 1) owner text first p at

abbrev pub start : At
start = record { line = 1; column = 1 }

-- a file that the owner is given; one that is not UTF-8 is told, and not entered
abbrev pub read_text : Owner → SoFar → List ℕ → List ℕ → Reading
read_text owner p path bytes =
    if is_utf8 bytes then read_on owner (text_of bytes) true (record p { entered = p.entered ++ (path ∷ []) }) 0
    else Ends false (add_fault p start (NotUtf8 (utf8_valid_len bytes)))
