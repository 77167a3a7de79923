-- The grammar of module maps, after "Module Map Language" of Clang's documentation of modules. Own: what is left out
-- (Objective-C's and framework modules, `extern module` inside a module, header attributes `size` and `mtime`, dotted
-- names in declarations, escapes in strings), and that `explicit` may stand on a top-level module.
use Rattle.std.specs.Prelude.{ℕ, zero, suc, ◌-◌, Bool, true, false, not, ◌&&◌, ◌==◌, nat_le, List, [], ◌∷◌, ◌++◌, length, slice_index, slice_range, codes}
use Rattle.std.specs.List.{list_all, list_any, flat_map}
use Rattle.std.specs.Str.{bytes_eq}
use Rattle.c_lex.specs.Pieces.{is_nondigit, is_word}
use Rattle.map_grammar.specs.declared.word.Word.{Word}
use Rattle.map_grammar.specs.declared.names.Named.{Named}
use Rattle.map_grammar.specs.declared.declaration.Feature.{Feature}
use Rattle.map_grammar.specs.declared.declaration.MapMember.{MapMember}
use Rattle.map_grammar.specs.declared.declaration.MapMember.TheVariants.{Requires, Header, UmbrellaHeader, Exclude, Umbrella, Module, ExportAll, Export, ExportAs, Use, Link, Config, Conflict}
use Rattle.map_grammar.specs.declared.declaration.MapModule.{MapModule, roll-MapModule}
use Rattle.map_grammar.specs.declared.declaration.MapDecl.{MapDecl}
use Rattle.map_grammar.specs.declared.declaration.MapDecl.TheVariants.{Module as TopModule, Extern}
use Rattle.map_grammar.specs.Rules.{IsToken, IsAfter, IsBefore, IsBoth, IsMade, IsEither, IsOptional, IsMany}

-- ---- words

-- the word is spelled so
abbrev pub is : List ℕ → Word → Bool
is text w = bytes_eq w.text text

-- the words that have a meaning of their own in a map
abbrev pub reserved : List (List ℕ)
reserved =
    codes "config_macros" ∷ codes "conflict" ∷ codes "exclude" ∷ codes "explicit" ∷ codes "export" ∷ codes "export_as" ∷ codes "extern"
    ∷ codes "framework" ∷ codes "header" ∷ codes "link" ∷ codes "module" ∷ codes "private" ∷ codes "requires" ∷ codes "textual" ∷ codes "umbrella"
    ∷ codes "use" ∷ []

unfoldable pub is_reserved : List ℕ → Bool
is_reserved text = list_any (bytes_eq text) reserved

-- C11 6.4.2.1: a nondigit, and nondigits and digits after it
unfoldable pub is_identifier : List ℕ → Bool
is_identifier [] = false
is_identifier (b ∷ bs) = is_nondigit b && list_all is_word bs

-- an identifier that isn't reserved
abbrev pub is_name_text : List ℕ → Bool
is_name_text text = is_identifier text && not (is_reserved text)

abbrev pub is_name : Word → Bool
is_name w = is_name_text w.text

-- quotes, without a backslash between
unfoldable pub has_string_form : List ℕ → Bool
has_string_form text =
    nat_le 2 (length text) && slice_index text 0 == 34 && slice_index text (length text - 1) == 34 && not (list_any (λ b. b == 92) text)

-- a string literal without a backslash: of the lexer's words one alone that is no literal begins with a double quote,
-- which is that quote by itself, and it has no second
abbrev pub is_string : Word → Bool
is_string w = has_string_form w.text

abbrev pub named : Word → Named
named w = record { text = w.text; place = w.place }

-- a string without its quotes
abbrev pub unquoted : Word → Named
unquoted w = record { text = slice_range w.text 1 (length w.text - 1); place = w.place }

abbrev pub IsName : Named → List Word → Type 0
IsName = IsMade named (IsToken is_name)

abbrev pub IsString : Named → List Word → Type 0
IsString = IsMade unquoted (IsToken is_string)

-- an id, with its dots and the place of its first name
abbrev pub dotted : Named × List Named → Named
dotted p = record { text = p.0.text ++ flat_map (λ n. 46 ∷ n.text) p.1; place = p.0.place }

abbrev pub IsId : Named → List Word → Type 0
IsId = IsMade dotted (IsBoth IsName (IsMany (IsAfter (is (codes ".")) IsName)))

-- ---- parts of members

abbrev pub text_of : Named → List ℕ
text_of n = n.text

-- a word that may stand there or not
abbrev pub IsFlag : List ℕ → Bool → List Word → Type 0
IsFlag text = IsOptional false (IsMade (λ w. true) (IsToken (is text)))

abbrev pub first_and_rest : {A : Type 0} → A × List A → List A
first_and_rest p = p.0 ∷ p.1

-- one or more, with commas between
abbrev pub IsListed : {A : Type 0} → (A → List Word → Type 0) → List A → List Word → Type 0
IsListed P = IsMade first_and_rest (IsBoth P (IsMany (IsAfter (is (codes ",")) P)))

-- an identifier alone
abbrev pub IsIdentifier : List ℕ → List Word → Type 0
IsIdentifier = IsMade text_of IsName

-- attributes: none, one or more identifiers, each in brackets
abbrev pub IsAttributes : List (List ℕ) → List Word → Type 0
IsAttributes = IsMany (IsAfter (is (codes "[")) (IsBefore IsIdentifier (is (codes "]"))))

abbrev pub feature_of : Bool × List ℕ → Feature
feature_of p = record { name = p.1; negated = p.0 }

abbrev pub IsFeature : Feature → List Word → Type 0
IsFeature = IsMade feature_of (IsBoth (IsFlag (codes "!")) IsIdentifier)

-- ---- members

abbrev pub IsRequires : MapMember → List Word → Type 0
IsRequires = IsAfter (is (codes "requires")) (IsMade Requires (IsListed IsFeature))

abbrev pub header_of : Bool × (Bool × Named) → MapMember
header_of p = Header p.0 p.1.0 p.1.1.text p.1.1.place

abbrev pub IsHeader : MapMember → List Word → Type 0
IsHeader = IsMade header_of (IsBoth (IsFlag (codes "private")) (IsBoth (IsFlag (codes "textual")) (IsAfter (is (codes "header")) IsString)))

abbrev pub IsUmbrella : MapMember → List Word → Type 0
IsUmbrella =
    IsAfter (is (codes "umbrella"))
    (IsEither (IsAfter (is (codes "header")) (IsMade (λ n. UmbrellaHeader n.text n.place) IsString)) (IsMade (λ n. Umbrella n.text n.place) IsString))

abbrev pub IsExclude : MapMember → List Word → Type 0
IsExclude = IsAfter (is (codes "exclude")) (IsAfter (is (codes "header")) (IsMade (λ n. Exclude n.text n.place) IsString))

-- `.*` after an id
abbrev pub IsAllBelow : Bool → List Word → Type 0
IsAllBelow = IsOptional false (IsAfter (is (codes ".")) (IsMade (λ w. true) (IsToken (is (codes "*")))))

abbrev pub export_of : Named × Bool → MapMember
export_of p = Export p.0.text p.1 p.0.place

abbrev pub IsExport : MapMember → List Word → Type 0
IsExport =
    IsAfter (is (codes "export")) (IsEither (IsMade (λ w. ExportAll) (IsToken (is (codes "*")))) (IsMade export_of (IsBoth IsId IsAllBelow)))

abbrev pub IsExportAs : MapMember → List Word → Type 0
IsExportAs = IsAfter (is (codes "export_as")) (IsMade ExportAs IsIdentifier)

abbrev pub IsUse : MapMember → List Word → Type 0
IsUse = IsAfter (is (codes "use")) (IsMade (λ n. Use n.text n.place) IsId)

abbrev pub link_of : Bool × Named → MapMember
link_of p = Link p.0 p.1.text

abbrev pub IsLink : MapMember → List Word → Type 0
IsLink = IsAfter (is (codes "link")) (IsMade link_of (IsBoth (IsFlag (codes "framework")) IsString))

abbrev pub config_of : Word × (List (List ℕ) × List (List ℕ)) → MapMember
config_of p = Config p.1.0 p.1.1 p.0.place

abbrev pub IsConfig : MapMember → List Word → Type 0
IsConfig = IsMade config_of (IsBoth (IsToken (is (codes "config_macros"))) (IsBoth IsAttributes (IsOptional [] (IsListed IsIdentifier))))

abbrev pub conflict_of : Named × Named → MapMember
conflict_of p = Conflict p.0.text p.0.place p.1.text

abbrev pub IsConflict : MapMember → List Word → Type 0
IsConflict = IsAfter (is (codes "conflict")) (IsMade conflict_of (IsBoth IsId (IsAfter (is (codes ",")) IsString)))

-- ---- modules

-- what stands in braces
abbrev pub IsBraced : {A : Type 0} → (A → List Word → Type 0) → A → List Word → Type 0
IsBraced P = IsAfter (is (codes "{")) (IsBefore P (is (codes "}")))

abbrev pub module_of : Bool → Bool → Named × (List (List ℕ) × List MapMember) → MapModule
module_of explicit inferred p =
    roll-MapModule (record { name = p.0.text; place = p.0.place; explicit = explicit; inferred = inferred; attributes = p.1.0; members = p.1.1 })

-- after the word `module`: a module, whose members are those of the rule
abbrev pub IsNamed : (MapMember → List Word → Type 0) → Bool → MapModule → List Word → Type 0
IsNamed Member explicit = IsMade (module_of explicit false) (IsBoth IsName (IsBoth IsAttributes (IsBraced (IsMany Member))))

-- `export *`
abbrev pub IsExportStar : MapMember → List Word → Type 0
IsExportStar = IsAfter (is (codes "export")) (IsMade (λ w. ExportAll) (IsToken (is (codes "*"))))

-- after the word `module`: the submodules that are inferred
abbrev pub IsInferred : Bool → MapModule → List Word → Type 0
IsInferred explicit =
    IsMade (module_of explicit true) (IsBoth (IsMade named (IsToken (is (codes "*")))) (IsBoth IsAttributes (IsBraced (IsMany IsExportStar))))

-- with `explicit` or without it
abbrev pub IsExplicitOrNot : (Bool → MapModule → List Word → Type 0) → MapModule → List Word → Type 0
IsExplicitOrNot P = IsEither (IsAfter (is (codes "explicit")) (IsAfter (is (codes "module")) (P true))) (IsAfter (is (codes "module")) (P false))

abbrev pub IsSubmodule : (MapMember → List Word → Type 0) → MapMember → List Word → Type 0
IsSubmodule Member = IsMade Module (IsExplicitOrNot (λ explicit. IsEither (IsInferred explicit) (IsNamed Member explicit)))

-- a member that is no module
abbrev pub IsSimpleMember : MapMember → List Word → Type 0
IsSimpleMember =
    IsEither IsRequires (IsEither IsHeader (IsEither IsUmbrella (IsEither IsExclude (IsEither IsExport (IsEither IsExportAs
    (IsEither IsUse (IsEither IsLink (IsEither IsConfig IsConflict))))))))

-- a member, in which fewer than so many modules stand within one another
abbrev pub IsMember : ℕ → MapMember → List Word → Type 0
IsMember zero = λ m ts. ⊥
IsMember (suc n) = IsEither (IsSubmodule (IsMember n)) IsSimpleMember

-- ---- declarations

abbrev pub extern_of : Named × Named → MapDecl
extern_of p = Extern p.0.text p.1.text p.1.place

abbrev pub IsExtern : MapDecl → List Word → Type 0
IsExtern = IsAfter (is (codes "extern")) (IsAfter (is (codes "module")) (IsMade extern_of (IsBoth IsId IsString)))

abbrev pub IsDeclarationAt : ℕ → MapDecl → List Word → Type 0
IsDeclarationAt n = IsEither IsExtern (IsMade TopModule (IsExplicitOrNot (IsNamed (IsMember n))))

-- the words spell the declaration
pub record IsDeclaration (d : MapDecl) (ts : List Word) : Type 0 where
  pub depth : ℕ
  pub derived : IsDeclarationAt depth d ts
