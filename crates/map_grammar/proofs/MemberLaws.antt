-- What the readers of names, strings and members read is what the grammar derives, both ways.
use Rattle.std.proofs.Common.{◌≡◌, ℕ, suc, Bool, true, false, not, ◌&&◌, ◌||◌, refl, ap, ◌∙◌, List, [], ◌∷◌, ◌++◌, arith, Option}
use Rattle.std.specs.Prelude.{codes}
use Rattle.std.specs.List.{list_any}
use Rattle.std.specs.Str.{bytes_eq}
use Rattle.std.proofs.lemmas.Slice.Eq.{bytes_eq-Decides}
use Rattle.std.proofs.lemmas.Bool.{and_parts}
use Rattle.map_grammar.specs.declared.word.Word.{Word}
use Rattle.map_grammar.specs.declared.names.Named.{Named}
use Rattle.map_grammar.specs.declared.declaration.MapMember.{MapMember}
use Rattle.map_grammar.specs.Rules.{IsToken, IsAfter, IsBefore, IsBoth, IsMade, IsEither, IsOptional, left_out, there}
use Rattle.map_grammar.specs.Readers.{begins}
use Rattle.map_grammar.specs.Grammar.{is, is_identifier, is_name_text, is_name, has_string_form, IsName, IsString, IsId, IsFlag, IsListed, IsIdentifier, IsAttributes, IsFeature, IsRequires, IsHeader, IsUmbrella, IsExclude, IsAllBelow, IsExport, IsExportAs, IsUse, IsLink, IsConfig, IsConflict, IsSimpleMember}
use Rattle.map_grammar.specs.MapReaders.{sees, name, string, is_dotted, dotted_name, id, flag, identifier, attribute, attributes, feature, next_feature, features, next_identifier, identifiers, requires_, header, umbrella_header, umbrella, exclude, all_below, export_id, export, export_as, use_, link, names_if_any, config, conflict, begins_header, simple_member}
use Rattle.map_grammar.proofs.RuleLaws.{Sound, Complete, Starts, Ends, anything, sound_token, complete_token, starts_token, sound_after, complete_after, starts_after, sound_before, complete_before, sound_both, complete_both, starts_both, sound_made, complete_made, starts_made, sound_either, complete_either, starts_either, sound_optional, complete_optional, starts_optional, sound_many, complete_many, complete_less, complete_ends, starts_wider}

-- ---- texts of words

pub text_is : (b : List ℕ) (w : Word) → is b w ≡ true → w.text ≡ b
text_is b w h = (bytes_eq-Decides w.text b).0 h

pub that : (f : List ℕ → Bool) (b : List ℕ) → f b ≡ true → (w : Word) → is b w ≡ true → f w.text ≡ true
that f b h w e = ap f (text_is b w e) ∙ h

pub not_that : (f : List ℕ → Bool) (b : List ℕ) → f b ≡ false → (w : Word) → f w.text ≡ true → is b w ≡ false
not_that f b h w e = elim (is b w) as (λ x. is b w ≡ x → x ≡ false) [
  | true ↦ λ g. absurd (let no : f w.text ≡ false = ap f (text_is b w g) ∙ h in cc)
  | false ↦ λ g. refl
] refl

-- the first word's text passes
abbrev pub by_text : (List ℕ → Bool) → Word → Bool
by_text f w = f w.text

pub sees_not : (f : List ℕ → Bool) (b : List ℕ) → f b ≡ false → (ts : List Word) → begins (by_text f) ts ≡ true → sees b ts ≡ false
sees_not f b h [] e = refl
sees_not f b h (w ∷ ws) e = not_that f b h w e

pub begins_wider : (f g : Word → Bool) → ((w : Word) → f w ≡ true → g w ≡ true) → (ts : List Word) → begins f ts ≡ true → begins g ts ≡ true
begins_wider f g h [] e = e
begins_wider f g h (w ∷ ws) e = h w e

abbrev pub one_of : List (List ℕ) → List ℕ → Bool
one_of keys text = list_any (bytes_eq text) keys

-- what holds of all keys holds of a word that is one of them
abbrev pub all_pass : (List ℕ → Bool) → List (List ℕ) → Bool
all_pass f [] = true
all_pass f (k ∷ ks) = f k && all_pass f ks

pub or_cases : (a b : Bool) (P : Type 0) → (a ≡ true → P) → (b ≡ true → P) → a || b ≡ true → P
or_cases true b P f g h = f refl
or_cases false b P f g h = g h

pub one_of_pass : (f : List ℕ → Bool) (keys : List (List ℕ)) → all_pass f keys ≡ true → (w : Word) → one_of keys w.text ≡ true → f w.text ≡ true
one_of_pass f [] h w e = absurd (cc)
one_of_pass f (k ∷ ks) h w e =
    let parts = and_parts (f k) (all_pass f ks) h in
    or_cases (bytes_eq w.text k) (one_of ks w.text) (f w.text ≡ true) (that f k parts.0 w) (one_of_pass f ks parts.1 w) e

pub not_true : (b : Bool) → not b ≡ true → b ≡ false
not_true true h = absurd (cc)
not_true false h = refl

pub not_false : (b : Bool) → b ≡ false → not b ≡ true
not_false b h = rw h refl

-- ---- what may follow

abbrev pub not_sees : List ℕ → List Word → Bool
not_sees b ts = not (sees b ts)

abbrev pub not_dotted : List Word → Bool
not_dotted ts = not (is_dotted ts)

-- a word that goes on none of the members
abbrev pub stop : List ℕ → Bool
stop text = not (is_name_text text) && not (bytes_eq text (codes ".")) && not (bytes_eq text (codes ",")) && not (bytes_eq text (codes "["))

abbrev pub ends : List Word → Bool
ends [] = true
ends (w ∷ ws) = stop w.text

pub ends_not : (b : List ℕ) → stop b ≡ false → (us : List Word) → ends us ≡ true → not_sees b us ≡ true
ends_not b h [] e = refl
ends_not b h (w ∷ ws) e = not_false _ (not_that stop b h w e)

pub ends_no_name : (us : List Word) → ends us ≡ true → begins is_name us ≡ false
ends_no_name [] e = refl
ends_no_name (w ∷ ws) e = not_true _ (and_parts _ _ (and_parts _ _ (and_parts _ _ e).0).0).0

pub no_dot : (us : List Word) → not_sees (codes ".") us ≡ true → not_dotted us ≡ true
no_dot [] h = refl
no_dot (w ∷ ws) h = rw (not_true _ h) refl

pub stop_no_dot : stop (codes ".") ≡ false
unfolding is_identifier
stop_no_dot = refl

pub stop_no_comma : stop (codes ",") ≡ false
unfolding is_identifier
stop_no_comma = refl

pub stop_no_bracket : stop (codes "[") ≡ false
unfolding is_identifier
stop_no_bracket = refl

pub name_no_bang : is_name_text (codes "!") ≡ false
unfolding is_identifier
name_no_bang = refl

pub ends_no_dot : (us : List Word) → ends us ≡ true → not_dotted us ≡ true
ends_no_dot us e = no_dot us (ends_not (codes ".") stop_no_dot us e)

-- ---- names and strings

pub sound_name : Sound name IsName
unfolding name
sound_name = sound_made _ _ _ (sound_token _)

pub complete_name : (k : ℕ) → Complete name IsName k anything
unfolding name
complete_name k = complete_made _ _ _ _ _ (complete_token _ _)

pub starts_name : Starts IsName (by_text is_name_text)
starts_name = starts_made _ _ _ (starts_token _)

pub sound_string : Sound string IsString
unfolding string
sound_string = sound_made _ _ _ (sound_token _)

pub complete_string : (k : ℕ) → Complete string IsString k anything
unfolding string
complete_string k = complete_made _ _ _ _ _ (complete_token _ _)

pub starts_string : Starts IsString (by_text has_string_form)
starts_string = starts_made _ _ _ (starts_token _)

-- ---- ids

pub sound_dotted_name : Sound dotted_name (IsAfter (is (codes ".")) IsName)
unfolding dotted_name
sound_dotted_name = sound_after _ _ _ sound_name

pub complete_dotted_name : (k : ℕ) → Complete dotted_name (IsAfter (is (codes ".")) IsName) k anything
unfolding dotted_name
complete_dotted_name k = complete_less _ _ (suc k) k _ (omega arith) (complete_after _ _ _ _ _ (complete_name k))

pub dotted_there : (a : Named) (vs us : List Word) → IsAfter (is (codes ".")) IsName a vs → is_dotted (vs ++ us) ≡ true
dotted_there a vs us d = rw d.whole (rw d.passes (starts_name.of a d.back us d.derived))

pub ends_dotted : Ends is_dotted (IsAfter (is (codes ".")) IsName) anything not_dotted
ends_dotted = record { off = λ us h. not_true _ h; last = λ us h. refl; inner = λ a vs us d. refl; empty = refl }

pub sound_id : Sound id IsId
unfolding id
sound_id = sound_made _ _ _ (sound_both _ _ _ _ sound_name (sound_many _ _ _ sound_dotted_name))

pub complete_id : (k : ℕ) → Complete id IsId k not_dotted
unfolding id
complete_id k = complete_made _ _ _ _ _ (complete_both _ _ _ _ _ _ _ (complete_name k) (complete_many _ _ _ _ _ _ (complete_dotted_name k) dotted_there ends_dotted) (λ b vs us d h. refl))

pub starts_id : Starts IsId (by_text is_name_text)
starts_id = starts_made _ _ _ (starts_both _ _ _ starts_name)

-- ---- flags, identifiers, attributes

pub sound_flag : (text : List ℕ) → Sound (flag text) (IsFlag text)
unfolding flag
sound_flag text = sound_optional (sees text) _ _ _ (sound_made _ _ _ (sound_token _))

pub complete_flag : (text : List ℕ) (k : ℕ) → Complete (flag text) (IsFlag text) k (not_sees text)
unfolding flag
complete_flag text k =
    complete_optional (sees text) _ _ _ _ anything _ (complete_made _ _ _ _ _ (complete_token _ _)) (starts_made _ _ _ (starts_token (is text))).of
    (λ us h. not_true _ h) (λ us h. refl)

pub sound_identifier : Sound identifier IsIdentifier
unfolding identifier
sound_identifier = sound_made _ _ _ sound_name

pub complete_identifier : (k : ℕ) → Complete identifier IsIdentifier k anything
unfolding identifier
complete_identifier k = complete_made _ _ _ _ _ (complete_name k)

pub starts_identifier : Starts IsIdentifier (by_text is_name_text)
starts_identifier = starts_made _ _ _ starts_name

abbrev pub IsAttribute : List ℕ → List Word → Type 0
IsAttribute = IsAfter (is (codes "[")) (IsBefore IsIdentifier (is (codes "]")))

pub sound_attribute : Sound attribute IsAttribute
unfolding attribute
sound_attribute = sound_after _ _ _ (sound_before _ _ _ sound_identifier)

pub complete_attribute : (k : ℕ) → Complete attribute IsAttribute k anything
unfolding attribute
complete_attribute k = complete_less _ _ (suc k) k _ (omega arith) (complete_after _ _ _ _ _ (complete_before _ _ _ _ _ (complete_identifier k) (λ w us h. refl)))

pub sound_attributes : Sound attributes IsAttributes
unfolding attributes
sound_attributes = sound_many _ _ _ sound_attribute

pub complete_attributes : (k : ℕ) → Complete attributes IsAttributes k (not_sees (codes "["))
unfolding attributes
complete_attributes k =
    complete_many _ _ _ _ anything _ (complete_attribute k) (starts_after _ _).of
    (record { off = λ us h. not_true _ h; last = λ us h. refl; inner = λ a vs us d. refl; empty = refl })

-- ---- lists with commas

pub sound_feature : Sound feature IsFeature
unfolding feature
sound_feature = sound_made _ _ _ (sound_both _ _ _ _ (sound_flag _) sound_identifier)

pub complete_feature : (k : ℕ) → Complete feature IsFeature k anything
unfolding feature
complete_feature k = complete_made _ _ _ _ _ (complete_both _ _ _ _ _ _ _ (complete_flag _ k) (complete_identifier k)
    (λ b vs us d h. not_false _ (sees_not is_name_text (codes "!") name_no_bang (vs ++ us) (starts_identifier.of b vs us d))))

pub sound_next_feature : Sound next_feature (IsAfter (is (codes ",")) IsFeature)
unfolding next_feature
sound_next_feature = sound_after _ _ _ sound_feature

pub complete_next_feature : (k : ℕ) → Complete next_feature (IsAfter (is (codes ",")) IsFeature) k anything
unfolding next_feature
complete_next_feature k = complete_less _ _ (suc k) k _ (omega arith) (complete_after _ _ _ _ _ (complete_feature k))

pub sound_features : Sound features (IsListed IsFeature)
unfolding features
sound_features = sound_made _ _ _ (sound_both _ _ _ _ sound_feature (sound_many _ _ _ sound_next_feature))

pub complete_features : (k : ℕ) → Complete features (IsListed IsFeature) k (not_sees (codes ","))
unfolding features
complete_features k = complete_made _ _ _ _ _ (complete_both _ _ _ _ _ anything _ (complete_feature k)
    (complete_many _ _ _ _ anything _ (complete_next_feature k) (starts_after _ _).of (record { off = λ us h. not_true _ h; last = λ us h. refl; inner = λ a vs us d. refl; empty = refl }))
    (λ b vs us d h. refl))

pub sound_next_identifier : Sound next_identifier (IsAfter (is (codes ",")) IsIdentifier)
unfolding next_identifier
sound_next_identifier = sound_after _ _ _ sound_identifier

pub complete_next_identifier : (k : ℕ) → Complete next_identifier (IsAfter (is (codes ",")) IsIdentifier) k anything
unfolding next_identifier
complete_next_identifier k = complete_less _ _ (suc k) k _ (omega arith) (complete_after _ _ _ _ _ (complete_identifier k))

pub sound_identifiers : Sound identifiers (IsListed IsIdentifier)
unfolding identifiers
sound_identifiers = sound_made _ _ _ (sound_both _ _ _ _ sound_identifier (sound_many _ _ _ sound_next_identifier))

pub complete_identifiers : (k : ℕ) → Complete identifiers (IsListed IsIdentifier) k (not_sees (codes ","))
unfolding identifiers
complete_identifiers k = complete_made _ _ _ _ _ (complete_both _ _ _ _ _ anything _ (complete_identifier k)
    (complete_many _ _ _ _ anything _ (complete_next_identifier k) (starts_after _ _).of (record { off = λ us h. not_true _ h; last = λ us h. refl; inner = λ a vs us d. refl; empty = refl }))
    (λ b vs us d h. refl))

pub starts_identifiers : Starts (IsListed IsIdentifier) (by_text is_name_text)
starts_identifiers = starts_made _ _ _ (starts_both _ _ _ starts_identifier)

-- ---- members

pub sound_requires : Sound requires_ IsRequires
unfolding requires_
sound_requires = sound_after _ _ _ (sound_made _ _ _ sound_features)

pub complete_requires : (k : ℕ) → Complete requires_ IsRequires k ends
unfolding requires_
complete_requires k = complete_less _ _ (suc k) k _ (omega arith) (complete_after _ _ _ _ _ (complete_ends _ _ _ _ _ (ends_not (codes ",") stop_no_comma) (complete_made _ _ _ _ _ (complete_features k))))

pub sound_header : Sound header IsHeader
unfolding header
sound_header = sound_made _ _ _ (sound_both _ _ _ _ (sound_flag _) (sound_both _ _ _ _ (sound_flag _) (sound_after _ _ _ sound_string)))

abbrev pub IsHeaderEnd : Bool × Named → List Word → Type 0
IsHeaderEnd = IsBoth (IsFlag (codes "textual")) (IsAfter (is (codes "header")) IsString)

pub starts_flag : (text : List ℕ) → Starts (IsMade (λ w. true) (IsToken (is text))) (is text)
starts_flag text = starts_made _ _ _ (starts_token _)

abbrev pub two : List (List ℕ)
two = codes "textual" ∷ codes "header" ∷ []

abbrev pub three : List (List ℕ)
three = codes "private" ∷ codes "textual" ∷ codes "header" ∷ []

pub is_among : (keys : List (List ℕ)) (b : List ℕ) → one_of keys b ≡ true → (w : Word) → is b w ≡ true → by_text (one_of keys) w ≡ true
is_among keys b h w e = that (one_of keys) b h w e

pub starts_header_end : Starts IsHeaderEnd (by_text (one_of two))
starts_header_end = starts_optional _ _ _ _ (starts_wider _ _ _ (is_among two (codes "textual") refl) (starts_flag _)) (starts_wider _ _ _ (is_among two (codes "header") refl) (starts_after _ _))

pub complete_header : (k : ℕ) → Complete header IsHeader k anything
unfolding header
complete_header k = complete_made _ _ _ _ _ (complete_both _ _ _ _ _ _ _ (complete_flag _ k)
    (complete_both _ _ _ _ _ _ _ (complete_flag _ k) (complete_less _ _ (suc k) k _ (omega arith) (complete_after _ _ _ _ _ (complete_string k)))
    (λ b vs us d h. not_false _ (sees_not (bytes_eq (codes "header")) (codes "textual") refl (vs ++ us) (begins_wider _ _ same_header (vs ++ us) ((starts_after _ _).of b vs us d)))))
    (λ b vs us d h. not_false _ (sees_not (one_of two) (codes "private") refl (vs ++ us) (starts_header_end.of b vs us d))))
  where
    same_header : (w : Word) → is (codes "header") w ≡ true → by_text (bytes_eq (codes "header")) w ≡ true
    same_header w e = that (bytes_eq (codes "header")) (codes "header") refl w e

pub starts_header : Starts IsHeader (by_text (one_of three))
starts_header = starts_made _ _ _ (starts_optional _ _ _ _ (starts_wider _ _ _ (is_among three (codes "private") refl) (starts_flag _))
    (starts_wider _ _ _ (one_of_pass (one_of three) two refl) starts_header_end))

pub header_begins : (ts : List Word) → begins (by_text (one_of three)) ts ≡ true → begins_header ts ≡ true
header_begins [] h = absurd (cc)
header_begins (w ∷ ws) h =
    or_cases (is (codes "private") w) (one_of two w.text) (begins_header (w ∷ ws) ≡ true) (λ e. rw e refl)
    (or_cases (is (codes "textual") w) (one_of (codes "header" ∷ []) w.text) (begins_header (w ∷ ws) ≡ true) (λ e. or_second (is (codes "private") w) _ _ e)
    (or_cases (is (codes "header") w) false (begins_header (w ∷ ws) ≡ true) (λ e. or_third (is (codes "private") w || is (codes "textual") w) _ e) (λ e. absurd (cc)))) h
  where
    or_second : (a b c : Bool) → b ≡ true → a || b || c ≡ true
    or_second true b c e = refl
    or_second false b c e = rw e refl

    or_third : (a c : Bool) → c ≡ true → a || c ≡ true
    or_third true c e = refl
    or_third false c e = e

-- none of the three words comes next
pub no_header : (f : List ℕ → Bool) → f (codes "private") ≡ false → f (codes "textual") ≡ false → f (codes "header") ≡ false → (ts : List Word) → begins (by_text f) ts ≡ true → begins_header ts ≡ false
no_header f a b c ts h = rw (sees_not f (codes "private") a ts h) (rw (sees_not f (codes "textual") b ts h) (sees_not f (codes "header") c ts h))

pub sound_umbrella : Sound umbrella IsUmbrella
unfolding umbrella umbrella_header
sound_umbrella = sound_after _ _ _ (sound_either (sees (codes "header")) _ _ _ _ (sound_after _ _ _ (sound_made _ _ _ sound_string)) (sound_made _ _ _ sound_string))

pub string_no_header : has_string_form (codes "header") ≡ false
unfolding has_string_form
string_no_header = refl

pub complete_umbrella : (k : ℕ) → Complete umbrella IsUmbrella k anything
unfolding umbrella umbrella_header
complete_umbrella k = complete_less _ _ (suc k) k _ (omega arith) (complete_after _ _ _ _ _ (complete_either (sees (codes "header")) _ _ _ _ _ _
    (complete_less _ _ (suc k) k _ (omega arith) (complete_after _ _ _ _ _ (complete_made _ _ _ _ _ (complete_string k))))
    (complete_made _ _ _ _ _ (complete_string k))
    (starts_after _ _).of
    (λ a vs us d. sees_not has_string_form (codes "header") string_no_header (vs ++ us) ((starts_made _ _ _ starts_string).of a vs us d))))

pub sound_exclude : Sound exclude IsExclude
unfolding exclude
sound_exclude = sound_after _ _ _ (sound_after _ _ _ (sound_made _ _ _ sound_string))

pub complete_exclude : (k : ℕ) → Complete exclude IsExclude k anything
unfolding exclude
complete_exclude k = complete_less _ _ (suc (suc k)) k _ (omega arith) (complete_after _ _ _ _ _ (complete_after _ _ _ _ _ (complete_made _ _ _ _ _ (complete_string k))))

pub sound_all_below : Sound all_below IsAllBelow
unfolding all_below
sound_all_below = sound_optional (sees (codes ".")) _ _ _ (sound_after _ _ _ (sound_made _ _ _ (sound_token _)))

pub complete_all_below : (k : ℕ) → Complete all_below IsAllBelow k ends
unfolding all_below
complete_all_below k = complete_optional (sees (codes ".")) _ _ _ _ anything _
    (complete_less _ _ (suc k) k _ (omega arith) (complete_after _ _ _ _ _ (complete_made _ _ _ _ _ (complete_token _ _))))
    (starts_after _ _).of (λ us h. not_true _ (ends_not (codes ".") stop_no_dot us h)) (λ us h. refl)

pub name_no_star : is_name_text (codes "*") ≡ false
unfolding is_identifier
name_no_star = refl

-- `.*` goes on no id
pub star_no_name : (w : Word) → is (codes "*") w ≡ true → is_name w ≡ false
star_no_name w e = ap is_name_text (text_is (codes "*") w e) ∙ name_no_star

pub below_ends : (b : Bool) (vs us : List Word) → IsAllBelow b vs → ends us ≡ true → not_dotted (vs ++ us) ≡ true
below_ends b vs us left_out h = ends_no_dot us h
below_ends b vs us (there c ts d) h = rw d.whole (by d.mark d.back us d.derived)
  where
    by : (m : Word) (back us : List Word) → IsMade (λ w. true) (IsToken (is (codes "*"))) c back → not_dotted (m ∷ (back ++ us)) ≡ true
    by m back us e = rw e.derived.whole (rw (star_no_name e.of e.derived.passes) (no_both (is (codes ".") m)))
      where
        no_both : (x : Bool) → not (x && false) ≡ true
        no_both true = refl
        no_both false = refl

pub sound_export : Sound export IsExport
unfolding export export_id
sound_export = sound_after _ _ _ (sound_either (sees (codes "*")) _ _ _ _ (sound_made _ _ _ (sound_token _)) (sound_made _ _ _ (sound_both _ _ _ _ sound_id sound_all_below)))

pub complete_export : (k : ℕ) → Complete export IsExport k ends
unfolding export export_id
complete_export k = complete_less _ _ (suc k) k _ (omega arith) (complete_after _ _ _ _ _ (complete_either (sees (codes "*")) _ _ _ _ _ _
    (complete_ends _ _ _ anything _ (λ us h. refl) (complete_made _ _ _ _ _ (complete_token _ _)))
    (complete_made _ _ _ _ _ (complete_both _ _ _ _ _ _ _ (complete_id k) (complete_all_below k) below_ends))
    (starts_made _ _ _ (starts_token _)).of
    (λ a vs us d. sees_not is_name_text (codes "*") name_no_star (vs ++ us) ((starts_made _ _ _ (starts_both _ _ _ starts_id)).of a vs us d))))

pub sound_export_as : Sound export_as IsExportAs
unfolding export_as
sound_export_as = sound_after _ _ _ (sound_made _ _ _ sound_identifier)

pub complete_export_as : (k : ℕ) → Complete export_as IsExportAs k anything
unfolding export_as
complete_export_as k = complete_less _ _ (suc k) k _ (omega arith) (complete_after _ _ _ _ _ (complete_made _ _ _ _ _ (complete_identifier k)))

pub sound_use : Sound use_ IsUse
unfolding use_
sound_use = sound_after _ _ _ (sound_made _ _ _ sound_id)

pub complete_use : (k : ℕ) → Complete use_ IsUse k ends
unfolding use_
complete_use k = complete_less _ _ (suc k) k _ (omega arith) (complete_after _ _ _ _ _ (complete_ends _ _ _ _ _ ends_no_dot (complete_made _ _ _ _ _ (complete_id k))))

pub sound_link : Sound link IsLink
unfolding link
sound_link = sound_after _ _ _ (sound_made _ _ _ (sound_both _ _ _ _ (sound_flag _) sound_string))

pub string_no_framework : has_string_form (codes "framework") ≡ false
unfolding has_string_form
string_no_framework = refl

pub complete_link : (k : ℕ) → Complete link IsLink k anything
unfolding link
complete_link k = complete_less _ _ (suc k) k _ (omega arith) (complete_after _ _ _ _ _ (complete_made _ _ _ _ _ (complete_both _ _ _ _ _ _ _ (complete_flag _ k) (complete_string k)
    (λ b vs us d h. not_false _ (sees_not has_string_form (codes "framework") string_no_framework (vs ++ us) (starts_string.of b vs us d))))))

abbrev pub IsNamesIfAny : List (List ℕ) → List Word → Type 0
IsNamesIfAny = IsOptional [] (IsListed IsIdentifier)

pub sound_names_if_any : Sound names_if_any IsNamesIfAny
unfolding names_if_any
sound_names_if_any = sound_optional (begins is_name) _ _ _ sound_identifiers

pub complete_names_if_any : (k : ℕ) → Complete names_if_any IsNamesIfAny k ends
unfolding names_if_any
complete_names_if_any k = complete_optional (begins is_name) _ _ _ _ _ _ (complete_identifiers k) starts_identifiers.of ends_no_name (ends_not (codes ",") stop_no_comma)

pub name_no_bracket : is_name_text (codes "[") ≡ false
unfolding is_identifier
name_no_bracket = refl

pub names_ends : (b : List (List ℕ)) (vs us : List Word) → IsNamesIfAny b vs → ends us ≡ true → not_sees (codes "[") (vs ++ us) ≡ true
names_ends b vs us left_out h = ends_not (codes "[") stop_no_bracket us h
names_ends b vs us (there c ts d) h = not_false _ (sees_not is_name_text (codes "[") name_no_bracket (ts ++ us) (starts_identifiers.of c ts us d))

pub sound_config : Sound config IsConfig
unfolding config
sound_config = sound_made _ _ _ (sound_both _ _ _ _ (sound_token _) (sound_both _ _ _ _ sound_attributes sound_names_if_any))

pub complete_config : (k : ℕ) → Complete config IsConfig k ends
unfolding config
complete_config k = complete_made _ _ _ _ _ (complete_both _ _ _ _ _ anything _ (complete_token _ _) (complete_both _ _ _ _ _ _ _ (complete_attributes k) (complete_names_if_any k) names_ends) (λ b vs us d h. refl))

-- a comma, or a string, goes on no id
pub comma_no_dot : (a : Named) (vs us : List Word) → IsAfter (is (codes ",")) IsString a vs → not_dotted (vs ++ us) ≡ true
comma_no_dot a vs us d = rw d.whole (no_dot (d.mark ∷ (d.back ++ us)) (not_false _ (not_that (bytes_eq (codes ",")) (codes ".") refl d.mark (that (bytes_eq (codes ",")) (codes ",") refl d.mark d.passes))))

pub string_no_dot_text : has_string_form (codes ".") ≡ false
unfolding has_string_form
string_no_dot_text = refl

pub string_no_dot : (a : Named) (vs us : List Word) → IsString a vs → not_dotted (vs ++ us) ≡ true
string_no_dot a vs us d = no_dot (vs ++ us) (not_false _ (sees_not has_string_form (codes ".") string_no_dot_text (vs ++ us) (starts_string.of a vs us d)))

pub sound_conflict : Sound conflict IsConflict
unfolding conflict
sound_conflict = sound_after _ _ _ (sound_made _ _ _ (sound_both _ _ _ _ sound_id (sound_after _ _ _ sound_string)))

pub complete_conflict : (k : ℕ) → Complete conflict IsConflict k anything
unfolding conflict
complete_conflict k = complete_less _ _ (suc k) k _ (omega arith) (complete_after _ _ _ _ _ (complete_made _ _ _ _ _
    (complete_both _ _ _ _ _ _ _ (complete_id k) (complete_less _ _ (suc k) k _ (omega arith) (complete_after _ _ _ _ _ (complete_string k))) (λ b vs us d h. comma_no_dot b vs us d))))

-- ---- the members that are no modules

pub same_key : (a : List ℕ) → bytes_eq a a ≡ true
same_key a = (bytes_eq-Decides a a).1 refl

pub key_not : (a b : List ℕ) → bytes_eq a b ≡ false → (ts : List Word) → sees a ts ≡ true → sees b ts ≡ false
key_not a b h [] e = refl
key_not a b h (w ∷ ws) e = not_that (bytes_eq a) b h w (that (bytes_eq a) a (same_key a) w e)

abbrev pub keys_9 : List (List ℕ)
keys_9 = codes "conflict" ∷ []

abbrev pub keys_8 : List (List ℕ)
keys_8 = codes "config_macros" ∷ keys_9

abbrev pub keys_7 : List (List ℕ)
keys_7 = codes "link" ∷ keys_8

abbrev pub keys_6 : List (List ℕ)
keys_6 = codes "use" ∷ keys_7

abbrev pub keys_5 : List (List ℕ)
keys_5 = codes "export_as" ∷ keys_6

abbrev pub keys_4 : List (List ℕ)
keys_4 = codes "export" ∷ keys_5

abbrev pub keys_3 : List (List ℕ)
keys_3 = codes "exclude" ∷ keys_4

abbrev pub keys_2 : List (List ℕ)
keys_2 = codes "umbrella" ∷ keys_3

abbrev pub keys_1 : List (List ℕ)
keys_1 = codes "private" ∷ codes "textual" ∷ codes "header" ∷ keys_2

abbrev pub simple_keys : List (List ℕ)
simple_keys = codes "requires" ∷ keys_1

pub starts_9 : Starts IsConflict (by_text (one_of keys_9))
starts_9 = starts_wider _ _ _ (is_among keys_9 (codes "conflict") refl) (starts_after _ _)

pub starts_8 : Starts (IsEither IsConfig IsConflict) (by_text (one_of keys_8))
starts_8 = starts_either _ _ _ (starts_wider _ _ _ (is_among keys_8 (codes "config_macros") refl) (starts_made _ _ _ (starts_both _ _ _ (starts_token _)))) (starts_wider _ _ _ (one_of_pass (one_of keys_8) keys_9 refl) starts_9)

pub starts_7 : Starts (IsEither IsLink (IsEither IsConfig IsConflict)) (by_text (one_of keys_7))
starts_7 = starts_either _ _ _ (starts_wider _ _ _ (is_among keys_7 (codes "link") refl) (starts_after _ _)) (starts_wider _ _ _ (one_of_pass (one_of keys_7) keys_8 refl) starts_8)

pub starts_6 : Starts (IsEither IsUse (IsEither IsLink (IsEither IsConfig IsConflict))) (by_text (one_of keys_6))
starts_6 = starts_either _ _ _ (starts_wider _ _ _ (is_among keys_6 (codes "use") refl) (starts_after _ _)) (starts_wider _ _ _ (one_of_pass (one_of keys_6) keys_7 refl) starts_7)

pub starts_5 : Starts (IsEither IsExportAs (IsEither IsUse (IsEither IsLink (IsEither IsConfig IsConflict)))) (by_text (one_of keys_5))
starts_5 = starts_either _ _ _ (starts_wider _ _ _ (is_among keys_5 (codes "export_as") refl) (starts_after _ _)) (starts_wider _ _ _ (one_of_pass (one_of keys_5) keys_6 refl) starts_6)

pub starts_4 : Starts (IsEither IsExport (IsEither IsExportAs (IsEither IsUse (IsEither IsLink (IsEither IsConfig IsConflict))))) (by_text (one_of keys_4))
starts_4 = starts_either _ _ _ (starts_wider _ _ _ (is_among keys_4 (codes "export") refl) (starts_after _ _)) (starts_wider _ _ _ (one_of_pass (one_of keys_4) keys_5 refl) starts_5)

pub starts_3 : Starts (IsEither IsExclude (IsEither IsExport (IsEither IsExportAs (IsEither IsUse (IsEither IsLink (IsEither IsConfig IsConflict)))))) (by_text (one_of keys_3))
starts_3 = starts_either _ _ _ (starts_wider _ _ _ (is_among keys_3 (codes "exclude") refl) (starts_after _ _)) (starts_wider _ _ _ (one_of_pass (one_of keys_3) keys_4 refl) starts_4)

pub starts_2 : Starts (IsEither IsUmbrella (IsEither IsExclude (IsEither IsExport (IsEither IsExportAs (IsEither IsUse (IsEither IsLink (IsEither IsConfig IsConflict))))))) (by_text (one_of keys_2))
starts_2 = starts_either _ _ _ (starts_wider _ _ _ (is_among keys_2 (codes "umbrella") refl) (starts_after _ _)) (starts_wider _ _ _ (one_of_pass (one_of keys_2) keys_3 refl) starts_3)

pub starts_1 : Starts (IsEither IsHeader (IsEither IsUmbrella (IsEither IsExclude (IsEither IsExport (IsEither IsExportAs (IsEither IsUse (IsEither IsLink (IsEither IsConfig IsConflict)))))))) (by_text (one_of keys_1))
starts_1 = starts_either _ _ _ (starts_wider _ _ _ (one_of_pass (one_of keys_1) three refl) starts_header) (starts_wider _ _ _ (one_of_pass (one_of keys_1) keys_2 refl) starts_2)

pub starts_simple : Starts IsSimpleMember (by_text (one_of simple_keys))
starts_simple = starts_either _ _ _ (starts_wider _ _ _ (is_among simple_keys (codes "requires") refl) (starts_after _ _)) (starts_wider _ _ _ (one_of_pass (one_of simple_keys) keys_1 refl) starts_1)

pub sound_simple : Sound simple_member IsSimpleMember
unfolding simple_member
sound_simple =
    sound_either (sees (codes "requires")) _ _ _ _ sound_requires (sound_either begins_header _ _ _ _ sound_header (sound_either (sees (codes "umbrella")) _ _ _ _ sound_umbrella
    (sound_either (sees (codes "exclude")) _ _ _ _ sound_exclude (sound_either (sees (codes "export")) _ _ _ _ sound_export (sound_either (sees (codes "export_as")) _ _ _ _ sound_export_as
    (sound_either (sees (codes "use")) _ _ _ _ sound_use (sound_either (sees (codes "link")) _ _ _ _ sound_link (sound_either (sees (codes "config_macros")) _ _ _ _ sound_config sound_conflict))))))))

pub to_ends : (p : List Word → Option (MapMember × List Word)) (D : MapMember → List Word → Type 0) (k : ℕ) → Complete p D k anything → Complete p D k ends
to_ends p D k c = complete_ends _ _ _ anything _ (λ us h. refl) c

pub complete_simple : (k : ℕ) → Complete simple_member IsSimpleMember k ends
unfolding simple_member
complete_simple k =
    complete_either (sees (codes "requires")) _ _ _ _ _ _ (complete_requires k)
    (complete_either begins_header _ _ _ _ _ _ (to_ends _ _ _ (complete_header k))
    (complete_either (sees (codes "umbrella")) _ _ _ _ _ _ (to_ends _ _ _ (complete_umbrella k))
    (complete_either (sees (codes "exclude")) _ _ _ _ _ _ (to_ends _ _ _ (complete_exclude k))
    (complete_either (sees (codes "export")) _ _ _ _ _ _ (complete_export k)
    (complete_either (sees (codes "export_as")) _ _ _ _ _ _ (to_ends _ _ _ (complete_export_as k))
    (complete_either (sees (codes "use")) _ _ _ _ _ _ (complete_use k)
    (complete_either (sees (codes "link")) _ _ _ _ _ _ (to_ends _ _ _ (complete_link k))
    (complete_either (sees (codes "config_macros")) _ _ _ _ _ _ (complete_config k) (to_ends _ _ _ (complete_conflict k))
    (starts_made _ _ _ (starts_both _ _ _ (starts_token _))).of (λ a vs us d. sees_not (one_of keys_9) (codes "config_macros") refl (vs ++ us) (starts_9.of a vs us d)))
    (starts_after _ _).of (λ a vs us d. sees_not (one_of keys_8) (codes "link") refl (vs ++ us) (starts_8.of a vs us d)))
    (starts_after _ _).of (λ a vs us d. sees_not (one_of keys_7) (codes "use") refl (vs ++ us) (starts_7.of a vs us d)))
    (starts_after _ _).of (λ a vs us d. sees_not (one_of keys_6) (codes "export_as") refl (vs ++ us) (starts_6.of a vs us d)))
    (starts_after _ _).of (λ a vs us d. sees_not (one_of keys_5) (codes "export") refl (vs ++ us) (starts_5.of a vs us d)))
    (starts_after _ _).of (λ a vs us d. sees_not (one_of keys_4) (codes "exclude") refl (vs ++ us) (starts_4.of a vs us d)))
    (starts_after _ _).of (λ a vs us d. sees_not (one_of keys_3) (codes "umbrella") refl (vs ++ us) (starts_3.of a vs us d)))
    (λ a vs us d. header_begins (vs ++ us) (starts_header.of a vs us d)) (λ a vs us d. no_header (one_of keys_2) refl refl refl (vs ++ us) (starts_2.of a vs us d)))
    (starts_after _ _).of (λ a vs us d. sees_not (one_of keys_1) (codes "requires") refl (vs ++ us) (starts_1.of a vs us d))
