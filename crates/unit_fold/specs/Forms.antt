-- The forms of piece that are read so far. The tokens of an owner are cut into pieces after c_parse, Pieces. own
use Rattle.std.specs.Prelude.{ℕ, Bool, true, false, ◌&&◌, ◌==◌, if◌then◌else◌, List, [], length, map, reverse, slice_index_or, codes}
use Rattle.cm_core.specs.declared.numbers.Owner.{Owner}
use Rattle.cm_core.specs.declared.numbers.Owner.TheVariants.{Unit as OfUnit}
use Rattle.cm_core.specs.declared.token.TokenKind.TheVariants.{Other}
use Rattle.c_parse.specs.Pieces.{role_of, is_whole}
use Rattle.unit_fold.specs.Names.{is_name}
use Rattle.unit_fold.specs.Tokens.{TokenAt, is_ident, is_punctuator, is_word}

-- the last of the tokens ends the piece that begins at the first
abbrev pub is_whole_piece : List TokenAt → Bool
is_whole_piece piece = is_whole (map (λ t. role_of t.kind t.text) (reverse piece))

-- an identifier that may be declared
abbrev pub is_named : TokenAt → Bool
is_named t = is_ident t.kind && is_name t.text

abbrev pub is_unit : Owner → Bool
is_unit OfUnit = true
is_unit owner = false

-- `int NAME ;`
abbrev pub is_object : TokenAt → TokenAt → TokenAt → Bool
is_object int name end = is_word (codes "int") int && is_named name && is_punctuator (codes ";") end

-- `int * NAME`
abbrev pub begins_pointer : TokenAt → TokenAt → TokenAt → Bool
begins_pointer int star name = is_word (codes "int") int && is_punctuator (codes "*") star && is_named name

-- `= & NAME ;`
abbrev pub has_target : TokenAt → TokenAt → TokenAt → TokenAt → Bool
has_target equals and target end =
    is_punctuator (codes "=") equals && is_punctuator (codes "&") and && is_named target && is_punctuator (codes ";") end

-- a `;` alone, an object of type `int` by its name, a pointer by its name and that of the object whose address it has, and
-- what is not read yet
pub data Form : Type 0 where
  IsEmpty : Form
  IsObject : TokenAt → Form
  IsPointer : TokenAt → TokenAt → Form
  IsOther : Form

abbrev pub nth : List TokenAt → ℕ → TokenAt
nth piece i = slice_index_or piece i (record { kind = Other; text = []; at = record { line = 0; column = 0 } })

abbrev pub form_of_one : TokenAt → Form
form_of_one end = if is_punctuator (codes ";") end then IsEmpty else IsOther

abbrev pub form_of_three : TokenAt → TokenAt → TokenAt → Form
form_of_three int name end = if is_object int name end then IsObject name else IsOther

-- a unit may declare pointers, and a header may not yet
abbrev pub form_of_seven : Owner → List TokenAt → Form
form_of_seven owner piece =
    if is_unit owner && begins_pointer (nth piece 0) (nth piece 1) (nth piece 2) && has_target (nth piece 3) (nth piece 4) (nth piece 5) (nth piece 6)
    then IsPointer (nth piece 2) (nth piece 5)
    else IsOther

abbrev pub form_of : Owner → List TokenAt → Form
form_of owner piece =
    if length piece == 1 then form_of_one (nth piece 0)
    else if length piece == 3 then form_of_three (nth piece 0) (nth piece 1) (nth piece 2)
    else if length piece == 7 then form_of_seven owner piece
    else IsOther
