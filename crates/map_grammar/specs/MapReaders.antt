-- Reading the words of a module map from the left. Own: no public promise cites this, and the laws join it to the
-- grammar.
use Rattle.std.specs.Prelude.{◌≡◌, ℕ, zero, suc, Bool, true, false, ◌&&◌, ◌||◌, if◌then◌else◌, List, [], ◌∷◌, length, Option, Some, None, Result, Ok, Err, codes, ⊤}
use Rattle.std.specs.Option.{option_and_then}
use Rattle.map_grammar.specs.declared.refusal.Refusal.{Refusal}
use Rattle.map_grammar.specs.declared.refusal.Refusal.TheVariants.{NotInGrammar, NoMemory}
use Rattle.map_grammar.specs.declared.word.Word.{Word}
use Rattle.map_grammar.specs.declared.names.Named.{Named}
use Rattle.map_grammar.specs.declared.declaration.Feature.{Feature}
use Rattle.map_grammar.specs.declared.declaration.MapMember.{MapMember}
use Rattle.map_grammar.specs.declared.declaration.MapMember.TheVariants.{Requires, UmbrellaHeader, Exclude, Umbrella, Module, ExportAll, ExportAs, Use}
use Rattle.map_grammar.specs.declared.declaration.MapModule.{MapModule}
use Rattle.map_grammar.specs.declared.declaration.MapDecl.{MapDecl}
use Rattle.map_grammar.specs.declared.declaration.MapDecl.TheVariants.{Module as TopModule}
use Rattle.map_grammar.specs.Readers.{begins, token, after, before, both, made, either, optional, many}
use Rattle.map_grammar.specs.Grammar.{is, is_name, is_string, named, unquoted, dotted, text_of, first_and_rest, feature_of, header_of, export_of, link_of, config_of, conflict_of, module_of, extern_of}

abbrev pub Reader : Type 0 → Type 0
Reader A = List Word → Option (A × List Word)

-- whether the next word is spelled so
abbrev pub sees : List ℕ → List Word → Bool
sees text = begins (is text)

unfoldable pub name : Reader Named
name = made named (token is_name)

unfoldable pub string : Reader Named
string = made unquoted (token is_string)

-- a dot and a name come next
abbrev pub is_dotted : List Word → Bool
is_dotted [] = false
is_dotted (w ∷ ws) = is (codes ".") w && begins is_name ws

unfoldable pub dotted_name : Reader Named
dotted_name = after (is (codes ".")) name

unfoldable pub id : Reader Named
id = made dotted (both name (many is_dotted dotted_name))

unfoldable pub flag : List ℕ → Reader Bool
flag text = optional (sees text) false (made (λ w. true) (token (is text)))

unfoldable pub identifier : Reader (List ℕ)
identifier = made text_of name

unfoldable pub attribute : Reader (List ℕ)
attribute = after (is (codes "[")) (before identifier (is (codes "]")))

unfoldable pub attributes : Reader (List (List ℕ))
attributes = many (sees (codes "[")) attribute

unfoldable pub feature : Reader Feature
feature = made feature_of (both (flag (codes "!")) identifier)

unfoldable pub next_feature : Reader Feature
next_feature = after (is (codes ",")) feature

unfoldable pub features : Reader (List Feature)
features = made first_and_rest (both feature (many (sees (codes ",")) next_feature))

unfoldable pub next_identifier : Reader (List ℕ)
next_identifier = after (is (codes ",")) identifier

unfoldable pub identifiers : Reader (List (List ℕ))
identifiers = made first_and_rest (both identifier (many (sees (codes ",")) next_identifier))

unfoldable pub requires_ : Reader MapMember
requires_ = after (is (codes "requires")) (made Requires features)

unfoldable pub header : Reader MapMember
header = made header_of (both (flag (codes "private")) (both (flag (codes "textual")) (after (is (codes "header")) string)))

unfoldable pub umbrella_header : Reader MapMember
umbrella_header = after (is (codes "header")) (made (λ n. UmbrellaHeader n.text n.place) string)

unfoldable pub umbrella : Reader MapMember
umbrella = after (is (codes "umbrella")) (either (sees (codes "header")) umbrella_header (made (λ n. Umbrella n.text n.place) string))

unfoldable pub exclude : Reader MapMember
exclude = after (is (codes "exclude")) (after (is (codes "header")) (made (λ n. Exclude n.text n.place) string))

unfoldable pub all_below : Reader Bool
all_below = optional (sees (codes ".")) false (after (is (codes ".")) (made (λ w. true) (token (is (codes "*")))))

unfoldable pub export_id : Reader MapMember
export_id = made export_of (both id all_below)

unfoldable pub export : Reader MapMember
export = after (is (codes "export")) (either (sees (codes "*")) (made (λ w. ExportAll) (token (is (codes "*")))) export_id)

unfoldable pub export_as : Reader MapMember
export_as = after (is (codes "export_as")) (made ExportAs identifier)

unfoldable pub use_ : Reader MapMember
use_ = after (is (codes "use")) (made (λ n. Use n.text n.place) id)

unfoldable pub link : Reader MapMember
link = after (is (codes "link")) (made link_of (both (flag (codes "framework")) string))

unfoldable pub names_if_any : Reader (List (List ℕ))
names_if_any = optional (begins is_name) [] identifiers

unfoldable pub config : Reader MapMember
config = made config_of (both (token (is (codes "config_macros"))) (both attributes names_if_any))

unfoldable pub conflict : Reader MapMember
conflict = after (is (codes "conflict")) (made conflict_of (both id (after (is (codes ",")) string)))

-- whether the words go on within braces
abbrev pub is_inside : List Word → Bool
is_inside [] = false
is_inside (w ∷ ws) = if is (codes "}") w then false else true

unfoldable pub braced : {A : Type 0} → Reader A → Reader A
braced p = after (is (codes "{")) (before p (is (codes "}")))

unfoldable pub named_module : Reader MapMember → Bool → Reader MapModule
named_module member explicit = made (module_of explicit false) (both name (both attributes (braced (many is_inside member))))

unfoldable pub export_star : Reader MapMember
export_star = after (is (codes "export")) (made (λ w. ExportAll) (token (is (codes "*"))))

unfoldable pub star : Reader Named
star = made named (token (is (codes "*")))

unfoldable pub inferred_module : Bool → Reader MapModule
inferred_module explicit = made (module_of explicit true) (both star (both attributes (braced (many is_inside export_star))))

unfoldable pub any_module : Reader MapMember → Bool → Reader MapModule
any_module member explicit = either (sees (codes "*")) (inferred_module explicit) (named_module member explicit)

-- whether `explicit` stands before `module`
unfoldable pub module_head : Reader Bool
module_head =
    either (sees (codes "explicit")) (after (is (codes "explicit")) (made (λ w. true) (token (is (codes "module"))))) (made (λ w. false) (token (is (codes "module"))))

abbrev pub explicit_or_not : (Bool → Reader MapModule) → Reader MapModule
explicit_or_not p ts = option_and_then (λ r. p r.0 r.1) (module_head ts)

abbrev pub begins_module : List Word → Bool
begins_module ts = sees (codes "explicit") ts || sees (codes "module") ts

abbrev pub begins_header : List Word → Bool
begins_header ts = sees (codes "private") ts || sees (codes "textual") ts || sees (codes "header") ts

-- a member that is no module
unfoldable pub simple_member : Reader MapMember
simple_member =
    either (sees (codes "requires")) requires_ (either begins_header header (either (sees (codes "umbrella")) umbrella
    (either (sees (codes "exclude")) exclude (either (sees (codes "export")) export (either (sees (codes "export_as")) export_as
    (either (sees (codes "use")) use_ (either (sees (codes "link")) link (either (sees (codes "config_macros")) config conflict))))))))

unfoldable pub submodule : Reader MapMember → Reader MapMember
submodule member = made Module (explicit_or_not (any_module member))

-- a member, in which fewer than so many modules stand within one another
unfoldable pub member : ℕ → Reader MapMember
member zero ts = None
member (suc n) ts = either begins_module (submodule (member n)) simple_member ts

unfoldable pub extern_ : Reader MapDecl
extern_ = after (is (codes "extern")) (after (is (codes "module")) (made extern_of (both id string)))

unfoldable pub top_module : ℕ → Reader MapDecl
top_module n = made TopModule (explicit_or_not (named_module (member n)))

unfoldable pub declaration : ℕ → Reader MapDecl
declaration n = either (sees (codes "extern")) extern_ (top_module n)

abbrev pub is_end : List Word → Bool
is_end [] = true
is_end (w ∷ ws) = false

abbrev pub at_end : MapDecl → List Word → Option MapDecl
at_end d ts = if is_end ts then Some d else None

-- the declaration that the words are
unfoldable pub whole : List Word → Option MapDecl
whole ts = option_and_then (λ r. at_end r.0 r.1) (declaration (length ts) ts)

-- what a call answers, by what the reader gives
abbrev pub Gives : Option MapDecl → Result MapDecl Refusal → Type 0
Gives given (Ok d) = given ≡ Some d
Gives given (Err NotInGrammar) = given ≡ None
Gives given (Err NoMemory) = ⊤
