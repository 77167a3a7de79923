-- The spelling of declarations, level by level.
use Rattle.std.proofs.Common.{◌≡◌, Bool, ℕ, List, [], ◌∷◌, ◌++◌, map, codes, refl, ap, append_assoc, append-nil, rules}
use Rattle.std.specs.List.{flat_map}
use Rattle.cm_core.specs.declared.numbers.Place.{Place}
use Rattle.map_grammar.specs.declared.declaration.Feature.{Feature}
use Rattle.map_grammar.specs.declared.declaration.MapMember.{the_lemmas}
use Rattle.map_grammar.specs.declared.declaration.MapMember.TheVariants as m
use Rattle.map_grammar.specs.declared.declaration.MapModule.{MapModule, out-MapModule}
use Rattle.map_grammar.specs.Spelling.{Texts, quoted, word_if, id_texts, attribute_texts, requires_texts, header_texts, export_texts, link_texts, config_texts, conflict_texts, member_texts, module_texts, member_spelling, module_spelling}

pub requires_spelled : (features : List Feature) → member_spelling (m.Requires features) ≡ requires_texts features
unfolding member_spelling member_texts
requires_spelled features = search (rules, the_lemmas)

pub header_spelled : (private textual : Bool) (path : List ℕ) (place : Place) → member_spelling (m.Header private textual path place) ≡ header_texts private textual path
unfolding member_spelling member_texts
header_spelled private textual path place = search (rules, the_lemmas)

pub umbrella_header_spelled : (path : List ℕ) (place : Place) → member_spelling (m.UmbrellaHeader path place) ≡ codes "umbrella" ∷ codes "header" ∷ quoted path ∷ []
unfolding member_spelling member_texts
umbrella_header_spelled path place = search (rules, the_lemmas)

pub exclude_spelled : (path : List ℕ) (place : Place) → member_spelling (m.Exclude path place) ≡ codes "exclude" ∷ codes "header" ∷ quoted path ∷ []
unfolding member_spelling member_texts
exclude_spelled path place = search (rules, the_lemmas)

pub umbrella_spelled : (path : List ℕ) (place : Place) → member_spelling (m.Umbrella path place) ≡ codes "umbrella" ∷ quoted path ∷ []
unfolding member_spelling member_texts
umbrella_spelled path place = search (rules, the_lemmas)

pub module_member_spelled : (x : MapModule) → member_spelling (m.Module x) ≡ module_spelling x
unfolding member_spelling member_texts module_spelling
module_member_spelled x = search (rules, the_lemmas)

pub export_all_spelled : member_spelling m.ExportAll ≡ codes "export" ∷ codes "*" ∷ []
unfolding member_spelling member_texts
export_all_spelled = search (rules, the_lemmas)

pub export_spelled : (id : List ℕ) (all_below : Bool) (place : Place) → member_spelling (m.Export id all_below place) ≡ export_texts id all_below
unfolding member_spelling member_texts
export_spelled id all_below place = search (rules, the_lemmas)

pub export_as_spelled : (name : List ℕ) → member_spelling (m.ExportAs name) ≡ codes "export_as" ∷ name ∷ []
unfolding member_spelling member_texts
export_as_spelled name = search (rules, the_lemmas)

pub use_spelled : (id : List ℕ) (place : Place) → member_spelling (m.Use id place) ≡ codes "use" ∷ id_texts id
unfolding member_spelling member_texts
use_spelled id place = search (rules, the_lemmas)

pub link_spelled : (framework : Bool) (name : List ℕ) → member_spelling (m.Link framework name) ≡ link_texts framework name
unfolding member_spelling member_texts
link_spelled framework name = search (rules, the_lemmas)

pub config_spelled : (attributes names : Texts) (place : Place) → member_spelling (m.Config attributes names place) ≡ config_texts attributes names
unfolding member_spelling member_texts
config_spelled attributes names place = search (rules, the_lemmas)

pub conflict_spelled : (id : List ℕ) (place : Place) (message : List ℕ) → member_spelling (m.Conflict id place message) ≡ conflict_texts id message
unfolding member_spelling member_texts
conflict_spelled id place message = search (rules, the_lemmas)

flat_mapped : {A : Type 0} (f : A → Texts) (xs : List A) → flat_map (λ texts. texts) (map f xs) ≡ flat_map f xs
flat_mapped f [] = refl
flat_mapped f (x ∷ xs) = ap (λ ts. f x ++ ts) (flat_mapped f xs)

pub module_spelled : (x : MapModule) → module_spelling x
    ≡ word_if (codes "explicit") (out-MapModule x).explicit ++ codes "module" ∷ (out-MapModule x).name
    ∷ (flat_map attribute_texts (out-MapModule x).attributes ++ codes "{" ∷ (flat_map member_spelling (out-MapModule x).members ++ codes "}" ∷ []))
unfolding member_spelling module_spelling module_texts
module_spelled x = search (rules, the_lemmas, flat_mapped)

pub ruleset spelled = (requires_spelled, header_spelled, umbrella_header_spelled, exclude_spelled, umbrella_spelled, module_member_spelled, export_all_spelled, export_spelled, export_as_spelled, use_spelled, link_spelled, config_spelled, conflict_spelled, module_spelled, append_assoc, append-nil)
