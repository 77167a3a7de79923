-- How the declarations of a module map are spelled, as the spellings of their tokens, after "Module Map Language" of
-- Clang's documentation of modules.
use Rattle.std.specs.Prelude.{Bool, if◌then◌else◌, ◌==◌, ℕ, List, [], ◌∷◌, ◌++◌, codes}
use Rattle.std.specs.List.{flat_map, slice_split}
use Rattle.map_grammar.specs.declared.declaration.Feature.{Feature}
use Rattle.map_grammar.specs.declared.declaration.MapMember.{MapMember}
use Rattle.map_grammar.specs.declared.declaration.MapMember.TheOpen.{MapMember-F, MapModule-F}
use Rattle.map_grammar.specs.declared.declaration.MapMember.TheFolds.{fold-MapMember, fold-MapModule}
use Rattle.map_grammar.specs.declared.declaration.MapModule.{MapModule}
use Rattle.map_grammar.specs.declared.declaration.MapDecl.{MapDecl}
use Rattle.map_grammar.specs.declared.declaration.MapDecl.TheVariants.{Module, Extern}

abbrev pub Texts : Type 0
Texts = List (List ℕ)

-- a string in its quotes
abbrev pub quoted : List ℕ → List ℕ
quoted text = 34 ∷ (text ++ 34 ∷ [])

-- what stands between, before each but the first
abbrev pub between : {A : Type 0} → List ℕ → (A → Texts) → List A → Texts
between text spelled [] = []
between text spelled (x ∷ xs) = spelled x ++ flat_map (λ y. text ∷ spelled y) xs

abbrev pub alone : List ℕ → Texts
alone text = text ∷ []

abbrev pub after_dot : List ℕ → Texts
after_dot name = codes "." ∷ name ∷ []

-- the names of an id with the dots between them
abbrev pub id_texts : List ℕ → Texts
id_texts text = between (codes ".") alone (slice_split (λ b. b == 46) text)

abbrev pub word_if : List ℕ → Bool → Texts
word_if text stands = if stands then text ∷ [] else []

abbrev pub attribute_texts : List ℕ → Texts
attribute_texts name = codes "[" ∷ name ∷ codes "]" ∷ []

abbrev pub feature_texts : Feature → Texts
feature_texts f = word_if (codes "!") f.negated ++ f.name ∷ []

abbrev pub requires_texts : List Feature → Texts
requires_texts features = codes "requires" ∷ between (codes ",") feature_texts features

abbrev pub header_texts : Bool → Bool → List ℕ → Texts
header_texts private textual path = word_if (codes "private") private ++ word_if (codes "textual") textual ++ codes "header" ∷ quoted path ∷ []

abbrev pub export_texts : List ℕ → Bool → Texts
export_texts id all_below = codes "export" ∷ (id_texts id ++ word_if (codes ".") all_below ++ word_if (codes "*") all_below)

abbrev pub link_texts : Bool → List ℕ → Texts
link_texts framework name = codes "link" ∷ (word_if (codes "framework") framework ++ quoted name ∷ [])

abbrev pub config_texts : Texts → Texts → Texts
config_texts attributes names = codes "config_macros" ∷ (flat_map attribute_texts attributes ++ between (codes ",") alone names)

abbrev pub conflict_texts : List ℕ → List ℕ → Texts
conflict_texts id message = codes "conflict" ∷ (id_texts id ++ codes "," ∷ quoted message ∷ [])

-- a member, where the spelling of a module in it is known
unfoldable pub member_texts : MapMember-F Texts Texts → Texts
member_texts (MapMember-F.Requires features) = requires_texts features
member_texts (MapMember-F.Header private textual path place) = header_texts private textual path
member_texts (MapMember-F.UmbrellaHeader path place) = codes "umbrella" ∷ codes "header" ∷ quoted path ∷ []
member_texts (MapMember-F.Exclude path place) = codes "exclude" ∷ codes "header" ∷ quoted path ∷ []
member_texts (MapMember-F.Umbrella path place) = codes "umbrella" ∷ quoted path ∷ []
member_texts (MapMember-F.Module texts) = texts
member_texts MapMember-F.ExportAll = codes "export" ∷ codes "*" ∷ []
member_texts (MapMember-F.Export id all_below place) = export_texts id all_below
member_texts (MapMember-F.ExportAs name) = codes "export_as" ∷ name ∷ []
member_texts (MapMember-F.Use id place) = codes "use" ∷ id_texts id
member_texts (MapMember-F.Link framework name) = link_texts framework name
member_texts (MapMember-F.Config attributes names place) = config_texts attributes names
member_texts (MapMember-F.Conflict id place message) = conflict_texts id message

-- a module, where the spellings of its members are known
unfoldable pub module_texts : MapModule-F Texts Texts → Texts
module_texts m =
    word_if (codes "explicit") m.explicit ++ codes "module" ∷ m.name
    ∷ (flat_map attribute_texts m.attributes ++ codes "{" ∷ (flat_map (λ texts. texts) m.members ++ codes "}" ∷ []))

unfoldable pub member_spelling : MapMember → Texts
member_spelling = fold-MapMember Texts Texts member_texts module_texts

unfoldable pub module_spelling : MapModule → Texts
module_spelling = fold-MapModule Texts Texts member_texts module_texts

abbrev pub extern_texts : List ℕ → List ℕ → Texts
extern_texts id path = codes "extern" ∷ codes "module" ∷ (id_texts id ++ quoted path ∷ [])

unfoldable pub spelling : MapDecl → Texts
spelling (Module m) = module_spelling m
spelling (Extern id path place) = extern_texts id path
