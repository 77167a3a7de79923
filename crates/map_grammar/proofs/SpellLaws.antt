-- A declaration is spelled as the words that it was read from.
use Rattle.std.proofs.Common.{◌≡◌, ℕ, zero, suc, ◌+◌, ◌-◌, ◌<◌, ◌≤◌, Bool, true, false, not, ◌==◌, refl, sym, ap, ◌∙◌, List, [], ◌∷◌, ◌++◌, length, take, map, get_or, slice_range, slice_index, append_assoc, append-nil, arith, rules}
use Rattle.std.specs.Prelude.{codes}
use Rattle.std.specs.List.{flat_map, list_all, slice_split}
use Rattle.std.proofs.Math.Seq.{take-length}
use Rattle.std.proofs.lemmas.Bool.{and_parts}
use Rattle.std.proofs.lemmas.Bool.Decides.{nat_tests}
use Rattle.std.proofs.lemmas.Grind.{common_steps}
use Rattle.std.proofs.lemmas.List.{take_more}
use Rattle.c_lex.specs.Pieces.{is_nondigit, is_word}
use Rattle.map_grammar.specs.declared.word.Word.{Word}
use Rattle.map_grammar.specs.declared.names.Named.{Named}
use Rattle.map_grammar.specs.declared.declaration.MapMember.{MapMember}
use Rattle.map_grammar.specs.declared.declaration.MapModule.{MapModule, the_lemmas}
use Rattle.map_grammar.specs.declared.declaration.MapDecl.{MapDecl}
use Rattle.map_grammar.specs.Rules.{IsToken, IsAfter, IsBefore, IsBoth, IsMade, IsEither, one, other, IsOptional, left_out, there, IsMany, no_more, one_more}
use Rattle.map_grammar.specs.Grammar.{is, is_identifier, is_reserved, is_name_text, named, module_of, IsName, IsString, IsId, IsFlag, IsListed, IsIdentifier, IsAttributes, IsFeature, IsRequires, IsHeader, IsUmbrella, IsExclude, IsAllBelow, IsExport, IsExportAs, IsUse, IsLink, IsConfig, IsConflict, IsBraced, IsNamed, IsExportStar, IsInferred, IsExplicitOrNot, IsSubmodule, IsSimpleMember, IsMember, IsDeclarationAt, IsDeclaration}
use Rattle.map_grammar.specs.Spelling.{Texts, quoted, between, alone, id_texts, word_if, attribute_texts, feature_texts, member_spelling, module_spelling, spelling}
use Rattle.map_grammar.proofs.Strings.{string_bounds}
use Rattle.map_grammar.proofs.MemberLaws.{text_is}
use Rattle.map_grammar.proofs.Spelled.{requires_spelled, header_spelled, umbrella_header_spelled, exclude_spelled, umbrella_spelled, module_member_spelled, export_all_spelled, export_spelled, export_as_spelled, use_spelled, link_spelled, config_spelled, conflict_spelled, module_spelled}

abbrev pub texts_of : List Word → Texts
texts_of ts = map (λ w. w.text) ts

texts_append : (vs us : List Word) → texts_of (vs ++ us) ≡ texts_of vs ++ texts_of us
texts_append [] us = refl
texts_append (v ∷ vs) us = ap (λ ts. v.text ∷ ts) (texts_append vs us)

-- what the rule derives is spelled as its words
pub record Spells {A : Type 0} (D : A → List Word → Type 0) (f : A → Texts) : Type 0 where
  pub of : (a : A) (ts : List Word) → D a ts → f a ≡ texts_of ts

-- ---- rule by rule

spells_after : {A : Type 0} (b : List ℕ) (D : A → List Word → Type 0) (f : A → Texts) → Spells D f → Spells (IsAfter (is b) D) (λ a. b ∷ f a)
spells_after b D f s = record { of = λ a ts d. rw d.whole (rw (text_is b d.mark d.passes) (ap (λ us. b ∷ us) (s.of a d.back d.derived))) }

spells_before : {A : Type 0} (b : List ℕ) (D : A → List Word → Type 0) (f : A → Texts) → Spells D f → Spells (IsBefore D (is b)) (λ a. f a ++ b ∷ [])
spells_before b D f s = record {
  of = λ a ts d.
      rw d.whole (rw (texts_append d.front (d.mark ∷ [])) (rw (text_is b d.mark d.passes) (ap (λ us. us ++ b ∷ []) (s.of a d.front d.derived))));
}

spells_both : {A B : Type 0} (P : A → List Word → Type 0) (f : A → Texts) (Q : B → List Word → Type 0) (g : B → Texts) → Spells P f → Spells Q g → Spells (IsBoth P Q) (λ c. f c.0 ++ g c.1)
spells_both P f Q g s t = record { of = λ c ts d. rw d.whole (rw (texts_append d.front d.back) (rw (s.of c.0 d.front d.first) (rw (t.of c.1 d.back d.second) refl))) }

spells_made : {A B : Type 0} (h : A → B) (P : A → List Word → Type 0) (f : A → Texts) (g : B → Texts) → ((a : A) → g (h a) ≡ f a) → Spells P f → Spells (IsMade h P) g
spells_made h P f g same s = record { of = λ b ts d. ap g d.made ∙ same d.of ∙ s.of d.of ts d.derived }

spells_either : {A : Type 0} (P Q : A → List Word → Type 0) (f : A → Texts) → Spells P f → Spells Q f → Spells (IsEither P Q) f
spells_either {A} P Q f s t = record { of = by }
  where
    by : (a : A) (ts : List Word) → IsEither P Q a ts → f a ≡ texts_of ts
    by x us (one a ts d) = s.of a ts d
    by x us (other a ts d) = t.of a ts d

spells_optional : {A : Type 0} (a : A) (P : A → List Word → Type 0) (f : A → Texts) → f a ≡ [] → Spells P f → Spells (IsOptional a P) f
spells_optional {A} a P f none s = record { of = by }
  where
    by : (x : A) (ts : List Word) → IsOptional a P x ts → f x ≡ texts_of ts
    by x us left_out = none
    by x us (there b ts d) = s.of b ts d

spells_many : {A : Type 0} (P : A → List Word → Type 0) (f : A → Texts) → Spells P f → Spells (IsMany P) (flat_map f)
spells_many {A} P f s = record { of = by }
  where
    by : (xs : List A) (ts : List Word) → IsMany P xs ts → flat_map f xs ≡ texts_of ts
    by xs us no_more = refl
    by xs vs (one_more a more ts us d l) = step a more ts us (s.of a ts d) (by more us l)
      where
        step : (a : A) (more : List A) (ts us : List Word) → f a ≡ texts_of ts → flat_map f more ≡ texts_of us → f a ++ flat_map f more ≡ texts_of (ts ++ us)
        step a more ts us x y = rw (texts_append ts us) (rw (x, y) refl)

-- a word of the grammar, whatever is made of it
spells_word : {B : Type 0} (h : Word → B) (b : List ℕ) (g : B → Texts) → ((w : Word) → w.text ≡ b → g (h w) ≡ b ∷ []) → Spells (IsMade h (IsToken (is b))) g
spells_word h b g same = record {
  of = λ x ts d.
      let text : d.of.text ≡ b = text_is b d.of d.derived.passes in
      ap g d.made ∙ same d.of text ∙ ap (λ t. t ∷ []) (sym text) ∙ ap texts_of (sym d.derived.whole);
}

-- ---- names and strings

spells_name : Spells IsName (λ n. n.text ∷ [])
spells_name = record { of = λ n ts d. ap (λ (x : Named). x.text ∷ []) d.made ∙ ap texts_of (sym d.derived.whole) }

spells_identifier : Spells IsIdentifier alone
spells_identifier = spells_made _ _ _ _ (λ n. refl) spells_name

last_apart : (xs : List ℕ) → 0 < length xs → xs ≡ take (length xs - 1) xs ++ get_or xs (length xs - 1) 0 ∷ []
last_apart xs some =
    let whole : length xs - 1 + 1 ≡ length xs = omega arith in
    sym (take-length xs) ∙ ap (λ n. take n xs) (sym whole) ∙ take_more xs (length xs - 1) 0 (omega arith)

quoted_whole : (text : List ℕ) → 2 ≤ length text → slice_index text 0 ≡ 34 → slice_index text (length text - 1) ≡ 34 → quoted (slice_range text 1 (length text - 1)) ≡ text
quoted_whole [] long first last = absurd (omega arith)
quoted_whole (q ∷ rest) long first last =
    let some : 0 < length rest = omega arith in
    let apart = last_apart rest some in
    let end : get_or rest (length rest - 1) 0 ≡ 34 = grind (arith, common_steps) in
    let middle : slice_range (q ∷ rest) 1 (length (q ∷ rest) - 1) ≡ take (length rest - 1) rest = grind (arith, common_steps) in
    rw middle (ap (λ (b : ℕ). b ∷ (take (length rest - 1) rest ++ 34 ∷ [])) (sym first) ∙ ap (λ (xs : List ℕ). q ∷ xs) (ap (λ (b : ℕ). take (length rest - 1) rest ++ b ∷ []) (sym end) ∙ sym apart))

spells_string : Spells IsString (λ n. quoted n.text ∷ [])
spells_string = record {
  of = λ n ts d.
      let b = string_bounds d.of.text d.derived.passes in
      ap (λ (x : Named). quoted x.text ∷ []) d.made ∙ ap (λ t. t ∷ []) (quoted_whole d.of.text b.0 b.1 b.2) ∙ ap texts_of (sym d.derived.whole);
}

-- ---- ids

abbrev is_dot : ℕ → Bool
is_dot b = b == 46

word_no_dot : (b : ℕ) → is_word b ≡ true → is_dot b ≡ false
word_no_dot b h = elim (is_dot b) as (λ x. is_dot b ≡ x → x ≡ false) [
  | true ↦ λ e. absurd (let same : b ≡ 46 = grind (arith, nat_tests) in let no : is_word b ≡ false = ap is_word same in cc)
  | false ↦ λ e. refl
] refl

name_words : (text : List ℕ) → is_name_text text ≡ true → list_all is_word text ≡ true
unfolding is_identifier
name_words [] h = refl
name_words (b ∷ bs) h =
    let plain : is_identifier (b ∷ bs) ≡ true = (and_parts (is_identifier (b ∷ bs)) (not (is_reserved (b ∷ bs))) h).0 in
    let parts = and_parts (is_nondigit b) (list_all is_word bs) plain in
    rw parts.0 parts.1

split_last : (xs : List ℕ) → list_all is_word xs ≡ true → slice_split is_dot xs ≡ xs ∷ []
split_last [] h = refl
split_last (x ∷ xs) h = let p = and_parts _ _ h in rw (word_no_dot x p.0) (rw (split_last xs p.1) refl)

split_dot : (xs ys : List ℕ) → list_all is_word xs ≡ true → slice_split is_dot (xs ++ 46 ∷ ys) ≡ xs ∷ slice_split is_dot ys
split_dot [] ys h = refl
split_dot (x ∷ xs) ys h = let p = and_parts _ _ h in rw (word_no_dot x p.0) (rw (split_dot xs ys p.1) refl)

abbrev AreNames : List Named → Type 0
AreNames [] = Unit {0}
AreNames (n ∷ ns) = (is_name_text n.text ≡ true) × AreNames ns

abbrev with_dot : Named → List ℕ
with_dot n = 46 ∷ n.text

split_names : (text : List ℕ) (ns : List Named) → is_name_text text ≡ true → AreNames ns → slice_split is_dot (text ++ flat_map with_dot ns) ≡ text ∷ map (λ n. n.text) ns
split_names text [] h g = rw (append-nil text) (split_last text (name_words text h))
split_names text (n ∷ ns) h g = split_dot text (n.text ++ flat_map with_dot ns) (name_words text h) ∙ ap (λ ts. text ∷ ts) (split_names n.text ns g.0 g.1)

name_is : (n : Named) (ts : List Word) → IsName n ts → is_name_text n.text ≡ true
name_is n ts d = ap (λ (x : Named). is_name_text x.text) d.made ∙ d.derived.passes

names_are : (ns : List Named) (ts : List Word) → IsMany (IsAfter (is (codes ".")) IsName) ns ts → AreNames ns
names_are ns us no_more = tt
names_are ns us (one_more a more ts vs d l) = (name_is a d.back d.derived, names_are more vs l)

dots : (ns : List Named) → flat_map (λ y. codes "." ∷ alone y) (map (λ n. n.text) ns) ≡ flat_map (λ n. codes "." ∷ n.text ∷ []) ns
dots [] = refl
dots (n ∷ ns) = ap (λ (ts : Texts). codes "." ∷ n.text ∷ ts) (dots ns)

spells_id : Spells IsId (λ n. id_texts n.text)
spells_id = record {
  of = λ n ts d.
      let b = d.derived in
      let names = names_are d.of.1 b.back b.second in
      let cut = split_names d.of.0.text d.of.1 (name_is d.of.0 b.front b.first) names in
      let all = spells_both _ _ _ _ spells_name (spells_many _ _ (spells_after (codes ".") _ _ spells_name)) in
      ap (λ (x : Named). id_texts x.text) d.made ∙ ap (λ (parts : Texts). between (codes ".") alone parts) cut ∙ ap (λ (ts : Texts). d.of.0.text ∷ ts) (dots d.of.1) ∙ all.of d.of ts b;
}

-- ---- parts

spells_flag : (b : List ℕ) → Spells (IsFlag b) (word_if b)
spells_flag b = spells_optional _ _ _ refl (spells_word _ b _ (λ w e. refl))

spells_attributes : Spells IsAttributes (flat_map attribute_texts)
spells_attributes = spells_many _ _ (spells_after (codes "[") _ _ (spells_before (codes "]") _ _ spells_identifier))

spells_feature : Spells IsFeature feature_texts
spells_feature = spells_made _ _ _ _ (λ p. refl) (spells_both _ _ _ _ (spells_flag (codes "!")) spells_identifier)

spells_listed : {A : Type 0} (P : A → List Word → Type 0) (f : A → Texts) → Spells P f → Spells (IsListed P) (between (codes ",") f)
spells_listed P f s = spells_made _ _ _ _ (λ p. refl) (spells_both _ _ _ _ s (spells_many _ _ (spells_after (codes ",") _ _ s)))

-- ---- rules after words that are spelled first

-- what the rule derives is spelled as `before` and then its words
record SpellsAfter {A : Type 0} (before : Texts) (D : A → List Word → Type 0) (g : A → Texts) : Type 0 where
  of : (a : A) (ts : List Word) → D a ts → g a ≡ before ++ texts_of ts

first : {A : Type 0} (D : A → List Word → Type 0) (g : A → Texts) → SpellsAfter [] D g → Spells D g
first D g s = record { of = λ a ts d. s.of a ts d }

then_word : {A : Type 0} (before : Texts) (b : List ℕ) (D : A → List Word → Type 0) (g : A → Texts) → SpellsAfter (before ++ b ∷ []) D g → SpellsAfter before (IsAfter (is b) D) g
then_word before b D g s = record {
  of = λ a ts d.
      s.of a d.back d.derived ∙ append_assoc before (b ∷ []) (texts_of d.back)
      ∙ ap (λ (t : List ℕ). before ++ (t ∷ texts_of d.back)) (sym (text_is b d.mark d.passes)) ∙ ap (λ (us : List Word). before ++ texts_of us) (sym d.whole);
}

then_made : {A B : Type 0} (before : Texts) (h : A → B) (P : A → List Word → Type 0) (f : A → Texts) (g : B → Texts) → ((a : A) → g (h a) ≡ before ++ f a) → Spells P f → SpellsAfter before (IsMade h P) g
then_made before h P f g same s = record { of = λ b ts d. ap g d.made ∙ same d.of ∙ ap (λ (us : Texts). before ++ us) (s.of d.of ts d.derived) }

then_star : {B : Type 0} (before : Texts) (h : Word → B) (b : List ℕ) (g : B → Texts) → ((w : Word) → g (h w) ≡ before ++ b ∷ []) → SpellsAfter before (IsMade h (IsToken (is b))) g
then_star before h b g same = record {
  of = λ x ts d.
      ap g d.made ∙ same d.of ∙ ap (λ (t : List ℕ). before ++ t ∷ []) (sym (text_is b d.of d.derived.passes)) ∙ ap (λ (us : List Word). before ++ texts_of us) (sym d.derived.whole);
}

then_either : {A : Type 0} (before : Texts) (P Q : A → List Word → Type 0) (g : A → Texts) → SpellsAfter before P g → SpellsAfter before Q g → SpellsAfter before (IsEither P Q) g
then_either {A} before P Q g s t = record { of = by }
  where
    by : (a : A) (ts : List Word) → IsEither P Q a ts → g a ≡ before ++ texts_of ts
    by x us (one a ts d) = s.of a ts d
    by x us (other a ts d) = t.of a ts d

-- ---- members

spells_requires : Spells IsRequires member_spelling
spells_requires = first _ _ (then_word _ _ _ _ (then_made _ _ _ _ _ requires_spelled (spells_listed _ _ spells_feature)))

spells_header : Spells IsHeader member_spelling
spells_header = spells_made _ _ _ _ (λ p. header_spelled p.0 p.1.0 p.1.1.text p.1.1.place ∙ append_assoc (word_if (codes "private") p.0) (word_if (codes "textual") p.1.0) (codes "header" ∷ quoted p.1.1.text ∷ []))
    (spells_both _ _ _ _ (spells_flag (codes "private")) (spells_both _ _ _ _ (spells_flag (codes "textual")) (spells_after (codes "header") _ _ spells_string)))

spells_umbrella : Spells IsUmbrella member_spelling
spells_umbrella = first _ _ (then_word _ _ _ _ (then_either _ _ _ _
    (then_word _ _ _ _ (then_made _ _ _ _ _ (λ n. umbrella_header_spelled n.text n.place) spells_string))
    (then_made _ _ _ _ _ (λ n. umbrella_spelled n.text n.place) spells_string)))

spells_exclude : Spells IsExclude member_spelling
spells_exclude = first _ _ (then_word _ _ _ _ (then_word _ _ _ _ (then_made _ _ _ _ _ (λ n. exclude_spelled n.text n.place) spells_string)))

spells_all_below : Spells IsAllBelow (λ b. word_if (codes ".") b ++ word_if (codes "*") b)
spells_all_below = spells_optional _ _ _ refl (first _ _ (then_word _ _ _ _ (then_star _ _ _ _ (λ w. refl))))

spells_export : Spells IsExport member_spelling
spells_export = first _ _ (then_word _ _ _ _ (then_either _ _ _ _ (then_star _ _ _ _ (λ w. export_all_spelled))
    (then_made _ _ _ _ _ (λ p. export_spelled p.0.text p.1 p.0.place ∙ ap (λ (ts : Texts). codes "export" ∷ ts) (append_assoc (id_texts p.0.text) (word_if (codes ".") p.1) (word_if (codes "*") p.1)))
    (spells_both _ _ _ _ spells_id spells_all_below))))

spells_export_as : Spells IsExportAs member_spelling
spells_export_as = first _ _ (then_word _ _ _ _ (then_made _ _ _ _ _ export_as_spelled spells_identifier))

spells_use : Spells IsUse member_spelling
spells_use = first _ _ (then_word _ _ _ _ (then_made _ _ _ _ _ (λ n. use_spelled n.text n.place) spells_id))

spells_link : Spells IsLink member_spelling
spells_link = first _ _ (then_word _ _ _ _ (then_made _ _ _ _ _ (λ p. link_spelled p.0 p.1.text) (spells_both _ _ _ _ (spells_flag (codes "framework")) spells_string)))

spells_token : (b : List ℕ) → Spells (IsToken (is b)) (λ w. b ∷ [])
spells_token b = record { of = λ w ts d. ap (λ t. t ∷ []) (sym (text_is b w d.passes)) ∙ ap texts_of (sym d.whole) }

spells_config : Spells IsConfig member_spelling
spells_config = spells_made _ _ _ _ (λ p. config_spelled p.1.0 p.1.1 p.0.place)
    (spells_both _ _ _ _ (spells_token (codes "config_macros")) (spells_both _ _ _ _ spells_attributes (spells_optional _ _ _ refl (spells_listed _ _ spells_identifier))))

spells_conflict : Spells IsConflict member_spelling
spells_conflict = first _ _ (then_word _ _ _ _ (then_made _ _ _ _ _ (λ p. conflict_spelled p.0.text p.0.place p.1.text) (spells_both _ _ _ _ spells_id (spells_after (codes ",") _ _ spells_string))))

spells_simple : Spells IsSimpleMember member_spelling
spells_simple =
    spells_either _ _ _ spells_requires (spells_either _ _ _ spells_header (spells_either _ _ _ spells_umbrella (spells_either _ _ _ spells_exclude (spells_either _ _ _ spells_export
    (spells_either _ _ _ spells_export_as (spells_either _ _ _ spells_use (spells_either _ _ _ spells_link (spells_either _ _ _ spells_config spells_conflict))))))))

-- ---- modules

-- what follows the word `module`
abbrev rest_texts : Named × (Texts × List MapMember) → Texts
rest_texts p = (p.0.text ∷ []) ++ (flat_map attribute_texts p.1.0 ++ (codes "{" ∷ (flat_map member_spelling p.1.1 ++ codes "}" ∷ [])))

module_of_spelled : (explicit inferred : Bool) (p : Named × (Texts × List MapMember)) → module_spelling (module_of explicit inferred p) ≡ word_if (codes "explicit") explicit ++ codes "module" ∷ rest_texts p
module_of_spelled explicit inferred p = module_spelled (module_of explicit inferred p) ∙ search (rules, the_lemmas)

spells_braced : (M : MapMember → List Word → Type 0) → Spells M member_spelling → Spells (IsBraced (IsMany M)) (λ ms. codes "{" ∷ (flat_map member_spelling ms ++ codes "}" ∷ []))
spells_braced M s = spells_after (codes "{") _ _ (spells_before (codes "}") _ _ (spells_many _ _ s))

abbrev BeforeModule : Bool → Texts
BeforeModule explicit = word_if (codes "explicit") explicit ++ codes "module" ∷ []

module_after : (explicit inferred : Bool) (p : Named × (Texts × List MapMember)) → module_spelling (module_of explicit inferred p) ≡ BeforeModule explicit ++ rest_texts p
module_after true inferred p = module_of_spelled true inferred p
module_after false inferred p = module_of_spelled false inferred p

spells_named : (M : MapMember → List Word → Type 0) → Spells M member_spelling → (explicit : Bool) → SpellsAfter (BeforeModule explicit) (IsNamed M explicit) module_spelling
spells_named M s explicit = then_made _ _ _ _ _ (module_after explicit false) (spells_both _ _ _ _ spells_name (spells_both _ _ _ _ spells_attributes (spells_braced M s)))

spells_export_star : Spells IsExportStar member_spelling
spells_export_star = first _ _ (then_word _ _ _ _ (then_star _ _ _ _ (λ w. export_all_spelled)))

spells_inferred : (explicit : Bool) → SpellsAfter (BeforeModule explicit) (IsInferred explicit) module_spelling
spells_inferred explicit = then_made _ _ _ _ _ (module_after explicit true)
    (spells_both _ _ _ _ (spells_word named (codes "*") (λ n. n.text ∷ []) (λ w e. ap (λ (t : List ℕ). t ∷ []) e)) (spells_both _ _ _ _ spells_attributes (spells_braced IsExportStar spells_export_star)))

spells_explicit_or_not : (P : Bool → MapModule → List Word → Type 0) → ((explicit : Bool) → SpellsAfter (BeforeModule explicit) (P explicit) module_spelling) → Spells (IsExplicitOrNot P) module_spelling
spells_explicit_or_not P s = spells_either _ _ _ (first _ _ (then_word _ _ _ _ (then_word _ _ _ _ (s true)))) (first _ _ (then_word _ _ _ _ (s false)))

spells_submodule : (M : MapMember → List Word → Type 0) → Spells M member_spelling → Spells (IsSubmodule M) member_spelling
spells_submodule M s = spells_made _ _ _ _ module_member_spelled (spells_explicit_or_not _ (λ explicit. then_either _ _ _ _ (spells_inferred explicit) (spells_named M s explicit)))

spells_member : (n : ℕ) → Spells (IsMember n) member_spelling
spells_member zero = record { of = λ a ts d. absurd d }
spells_member (suc n) = spells_either _ _ _ (spells_submodule (IsMember n) (spells_member n)) spells_simple

-- ---- declarations

spells_declaration : (n : ℕ) → Spells (IsDeclarationAt n) spelling
unfolding spelling
spells_declaration n = spells_either _ _ _
    (first _ _ (then_word _ _ _ _ (then_word _ _ _ _ (then_made _ _ _ _ _ (λ p. refl) (spells_both _ _ _ _ spells_id spells_string)))))
    (spells_made _ _ _ _ (λ m. refl) (spells_explicit_or_not _ (spells_named (IsMember n) (spells_member n))))

pub spelled_as_read : (d : MapDecl) (ts : List Word) → IsDeclaration d ts → spelling d ≡ texts_of ts
spelled_as_read d ts x = (spells_declaration x.depth).of d ts x.derived
