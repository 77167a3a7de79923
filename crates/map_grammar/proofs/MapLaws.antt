-- What the readers of modules and declarations read is what the grammar derives, both ways.
use Rattle.std.proofs.Common.{◌≡◌, ℕ, zero, suc, ◌<◌, Bool, true, false, ◌||◌, refl, sym, ap, subst, ◌∙◌, List, [], ◌∷◌, ◌++◌, length, append-nil, arith, Option, Some, None}
use Rattle.std.specs.Prelude.{codes}
use Rattle.std.specs.Option.{option_map, option_and_then}
use Rattle.std.specs.Str.{bytes_eq}
use Rattle.map_grammar.specs.declared.word.Word.{Word}
use Rattle.map_grammar.specs.declared.declaration.MapMember.{MapMember}
use Rattle.map_grammar.specs.declared.declaration.MapModule.{MapModule}
use Rattle.map_grammar.specs.declared.declaration.MapDecl.{MapDecl}
use Rattle.map_grammar.specs.Rules.{IsEither, IsMany}
use Rattle.map_grammar.specs.Readers.{begins, token, after, either, many}
use Rattle.map_grammar.specs.Grammar.{is, is_reserved, is_identifier, is_name_text, IsBraced, IsNamed, IsExportStar, IsInferred, IsExplicitOrNot, IsSubmodule, IsMember, IsExtern, IsDeclarationAt, IsDeclaration}
use Rattle.map_grammar.specs.MapReaders.{sees, is_inside, braced, named_module, star, export_star, inferred_module, any_module, module_head, explicit_or_not, begins_module, submodule, member, extern_, top_module, declaration, at_end, whole}
use Rattle.map_grammar.proofs.RuleLaws.{some_same, and_then_some, Sound, Complete, Starts, anything, sound_token, complete_token, starts_token, sound_after, complete_after, starts_after, sound_before, complete_before, sound_both, complete_both, starts_both, sound_made, complete_made, starts_made, sound_either, complete_either, starts_either, sound_many, complete_many, complete_less, starts_wider}
use Rattle.map_grammar.proofs.MemberLaws.{that, not_that, by_text, sees_not, begins_wider, one_of, all_pass, or_cases, one_of_pass, not_false, not_sees, stop, ends, sound_name, complete_name, starts_name, sound_string, complete_string, sound_id, complete_id, sound_attributes, complete_attributes, is_among, name_no_star, string_no_dot, key_not, simple_keys, starts_simple, sound_simple, to_ends, complete_simple}

-- ---- braces

abbrev closes : List Word → Bool
closes = sees (codes "}")

stop_closing : stop (codes "}") ≡ true
unfolding is_identifier
stop_closing = refl

inside_not : (us : List Word) → closes us ≡ true → is_inside us ≡ false
inside_not [] h = refl
inside_not (w ∷ ws) h = rw h refl

closing_ends : (us : List Word) → closes us ≡ true → ends us ≡ true
closing_ends [] h = refl
closing_ends (w ∷ ws) h = that stop (codes "}") stop_closing w h

inside_by : (f : List ℕ → Bool) → f (codes "}") ≡ false → (ts : List Word) → begins (by_text f) ts ≡ true → is_inside ts ≡ true
inside_by f h [] e = absurd (cc)
inside_by f h (w ∷ ws) e = rw (not_that f (codes "}") h w e) refl

sound_braced : {A : Type 0} (p : List Word → Option (A × List Word)) (P : A → List Word → Type 0) → Sound p P → Sound (braced p) (IsBraced P)
unfolding braced
sound_braced p P s = sound_after _ _ _ (sound_before _ _ _ s)

complete_braced : {A : Type 0} (p : List Word → Option (A × List Word)) (P : A → List Word → Type 0) (k : ℕ) → Complete p P k closes → Complete (braced p) (IsBraced P) (suc k) anything
unfolding braced
complete_braced p P k c = complete_after _ _ _ _ _ (complete_before _ _ _ _ _ c (λ w us h. h))

braced_no_bracket : {A : Type 0} (P : A → List Word → Type 0) (b : A) (vs us : List Word) → IsBraced P b vs → anything us ≡ true → not_sees (codes "[") (vs ++ us) ≡ true
braced_no_bracket P b vs us d h = not_false _ (key_not (codes "{") (codes "[") refl (vs ++ us) ((starts_after _ _).of b vs us d))

-- ---- modules

sound_named : (m : List Word → Option (MapMember × List Word)) (M : MapMember → List Word → Type 0) → Sound m M → (e : Bool) → Sound (named_module m e) (IsNamed M e)
unfolding named_module
sound_named m M s e = sound_made _ _ _ (sound_both _ _ _ _ sound_name (sound_both _ _ _ _ sound_attributes (sound_braced _ _ (sound_many _ _ _ s))))

complete_named : (m : List Word → Option (MapMember × List Word)) (M : MapMember → List Word → Type 0) (k : ℕ) → Complete (many is_inside m) (IsMany M) k closes → (e : Bool) → Complete (named_module m e) (IsNamed M e) (suc k) anything
unfolding named_module
complete_named m M k c e = complete_made _ _ _ _ _ (complete_both _ _ _ _ _ anything _ (complete_name (suc k))
    (complete_both _ _ _ _ _ _ _ (complete_attributes (suc k)) (complete_braced _ _ k c) (braced_no_bracket (IsMany M))) (λ b vs us d h. refl))

starts_named : (M : MapMember → List Word → Type 0) (e : Bool) → Starts (IsNamed M e) (by_text is_name_text)
starts_named M e = starts_made _ _ _ (starts_both _ _ _ starts_name)

sound_export_star : Sound export_star IsExportStar
unfolding export_star
sound_export_star = sound_after _ _ _ (sound_made _ _ _ (sound_token _))

complete_export_star : (k : ℕ) → Complete export_star IsExportStar k anything
unfolding export_star
complete_export_star k = complete_less _ _ (suc k) k _ (omega arith) (complete_after _ _ _ _ _ (complete_made _ _ _ _ _ (complete_token _ _)))

sound_inferred : (e : Bool) → Sound (inferred_module e) (IsInferred e)
unfolding inferred_module star
sound_inferred e = sound_made _ _ _ (sound_both _ _ _ _ (sound_made _ _ _ (sound_token _)) (sound_both _ _ _ _ sound_attributes (sound_braced _ _ (sound_many _ _ _ sound_export_star))))

export_inside : (a : MapMember) (vs us : List Word) → IsExportStar a vs → is_inside (vs ++ us) ≡ true
export_inside a vs us d = inside_by (bytes_eq (codes "export")) refl (vs ++ us) (begins_wider _ _ (that (bytes_eq (codes "export")) (codes "export") refl) (vs ++ us) ((starts_after _ _).of a vs us d))

complete_inferred : (e : Bool) (k : ℕ) → Complete (inferred_module e) (IsInferred e) (suc k) anything
unfolding inferred_module star
complete_inferred e k = complete_made _ _ _ _ _ (complete_both _ _ _ _ _ anything _ (complete_made _ _ _ _ _ (complete_token _ (suc k)))
    (complete_both _ _ _ _ _ _ _ (complete_attributes (suc k)) (complete_braced _ _ k
    (complete_many _ _ _ _ anything _ (complete_export_star k) export_inside (record { off = inside_not; last = λ us h. refl; inner = λ a vs us d. refl; empty = refl })))
    (braced_no_bracket (IsMany IsExportStar))) (λ b vs us d h. refl))

starts_inferred : (e : Bool) → Starts (IsInferred e) (is (codes "*"))
starts_inferred e = starts_made _ _ _ (starts_both _ _ _ (starts_made _ _ _ (starts_token _)))

abbrev IsAny : (MapMember → List Word → Type 0) → Bool → MapModule → List Word → Type 0
IsAny M e = IsEither (IsInferred e) (IsNamed M e)

sound_any : (m : List Word → Option (MapMember × List Word)) (M : MapMember → List Word → Type 0) → Sound m M → (e : Bool) → Sound (any_module m e) (IsAny M e)
unfolding any_module
sound_any m M s e = sound_either (sees (codes "*")) _ _ _ _ (sound_inferred e) (sound_named m M s e)

complete_any : (m : List Word → Option (MapMember × List Word)) (M : MapMember → List Word → Type 0) (k : ℕ) → Complete (many is_inside m) (IsMany M) k closes → (e : Bool) → Complete (any_module m e) (IsAny M e) (suc k) anything
unfolding any_module
complete_any m M k c e = complete_either (sees (codes "*")) _ _ _ _ _ _ (complete_inferred e k) (complete_named m M k c e) (starts_inferred e).of
    (λ a vs us d. sees_not is_name_text (codes "*") name_no_star (vs ++ us) ((starts_named M e).of a vs us d))

-- ---- `explicit`

made_then : (p : Bool → List Word → Option (MapModule × List Word)) (b : Bool) (o : Option (Word × List Word))
    → option_and_then (λ (r : Bool × List Word). p r.0 r.1) (option_map (λ (r : Word × List Word). (b, r.1)) o) ≡ option_and_then (λ (r : Word × List Word). p b r.1) o
made_then p b None = refl
made_then p b (Some r) = refl

abbrev either_of : (Bool → List Word → Option (MapModule × List Word)) → List Word → Option (MapModule × List Word)
either_of p = either (sees (codes "explicit")) (after (is (codes "explicit")) (after (is (codes "module")) (p true))) (after (is (codes "module")) (p false))

head_same : (p : Bool → List Word → Option (MapModule × List Word)) (ts : List Word) → explicit_or_not p ts ≡ either_of p ts
unfolding module_head
head_same p [] = refl
head_same p (w ∷ ws) = by (is (codes "explicit") w) refl
  where
    by : (b : Bool) → is (codes "explicit") w ≡ b → explicit_or_not p (w ∷ ws) ≡ either_of p (w ∷ ws)
    by true e = rw e (made_then p true (token (is (codes "module")) ws))
    by false e = rw e (made_then p false (token (is (codes "module")) (w ∷ ws)))

sound_explicit_or_not : (p : Bool → List Word → Option (MapModule × List Word)) (P : Bool → MapModule → List Word → Type 0) → ((e : Bool) → Sound (p e) (P e)) → Sound (explicit_or_not p) (IsExplicitOrNot P)
sound_explicit_or_not p P s = record {
  of = λ ts a us h.
      (sound_either (sees (codes "explicit")) _ _ _ _ (sound_after _ _ _ (sound_after _ _ _ (s true))) (sound_after _ _ _ (s false))).of ts a us (sym (head_same p ts) ∙ h);
}

complete_explicit_or_not : (p : Bool → List Word → Option (MapModule × List Word)) (P : Bool → MapModule → List Word → Type 0) (k : ℕ) → ((e : Bool) → Complete (p e) (P e) k anything) → Complete (explicit_or_not p) (IsExplicitOrNot P) (suc k) anything
complete_explicit_or_not p P k c = record {
  of = λ a vs us d h e.
      head_same p (vs ++ us) ∙ (complete_either (sees (codes "explicit")) _ _ _ _ _ _
      (complete_less _ _ (suc (suc k)) (suc k) _ (omega arith) (complete_after _ _ _ _ _ (complete_after _ _ _ _ _ (c true)))) (complete_after _ _ _ _ _ (c false))
      (starts_after _ _).of (λ a vs us d. key_not (codes "module") (codes "explicit") refl (vs ++ us) ((starts_after _ _).of a vs us d))).of a vs us d h e;
}

abbrev heads : List (List ℕ)
heads = codes "explicit" ∷ codes "module" ∷ []

starts_explicit_or_not : (P : Bool → MapModule → List Word → Type 0) → Starts (IsExplicitOrNot P) (by_text (one_of heads))
starts_explicit_or_not P = starts_either _ _ _ (starts_wider _ _ _ (is_among heads (codes "explicit") refl) (starts_after _ _)) (starts_wider _ _ _ (is_among heads (codes "module") refl) (starts_after _ _))

-- ---- all members

sound_submodule : (m : List Word → Option (MapMember × List Word)) (M : MapMember → List Word → Type 0) → Sound m M → Sound (submodule m) (IsSubmodule M)
unfolding submodule
sound_submodule m M s = sound_made _ _ _ (sound_explicit_or_not _ _ (sound_any m M s))

complete_submodule : (m : List Word → Option (MapMember × List Word)) (M : MapMember → List Word → Type 0) (k : ℕ) → Complete (many is_inside m) (IsMany M) k closes → Complete (submodule m) (IsSubmodule M) (suc (suc k)) anything
unfolding submodule
complete_submodule m M k c = complete_made _ _ _ _ _ (complete_explicit_or_not _ _ _ (complete_any m M k c))

starts_submodule : (M : MapMember → List Word → Type 0) → Starts (IsSubmodule M) (by_text (one_of heads))
starts_submodule M = starts_made _ _ _ (starts_explicit_or_not (IsAny M))

abbrev member_keys : List (List ℕ)
member_keys = codes "explicit" ∷ codes "module" ∷ simple_keys

starts_member : (n : ℕ) → Starts (IsMember n) (by_text (one_of member_keys))
starts_member zero = record { of = λ a vs us d. absurd d }
starts_member (suc n) = starts_either _ _ _ (starts_wider _ _ _ (one_of_pass (one_of member_keys) heads refl) (starts_submodule (IsMember n))) (starts_wider _ _ _ (one_of_pass (one_of member_keys) simple_keys refl) starts_simple)

keys_stop : all_pass stop member_keys ≡ true
unfolding is_identifier is_reserved
keys_stop = refl

keys_end : (ts : List Word) → begins (by_text (one_of member_keys)) ts ≡ true → ends ts ≡ true
keys_end [] h = refl
keys_end (w ∷ ws) h = one_of_pass stop member_keys keys_stop w h

complete_members : (m : List Word → Option (MapMember × List Word)) (n k : ℕ) → Complete m (IsMember n) k ends → Complete (many is_inside m) (IsMany (IsMember n)) k closes
complete_members m n k c = complete_many _ _ _ _ ends _ c
    (λ a vs us d. inside_by (one_of member_keys) refl (vs ++ us) ((starts_member n).of a vs us d))
    (record { off = inside_not; last = closing_ends; inner = λ a vs us d. keys_end (vs ++ us) ((starts_member n).of a vs us d); empty = refl })

head_begins : (ts : List Word) → begins (by_text (one_of heads)) ts ≡ true → begins_module ts ≡ true
head_begins [] h = absurd (cc)
head_begins (w ∷ ws) h =
    or_cases (is (codes "explicit") w) (one_of (codes "module" ∷ []) w.text) (begins_module (w ∷ ws) ≡ true) (λ e. rw e refl)
    (or_cases (is (codes "module") w) false (begins_module (w ∷ ws) ≡ true) (λ e. or_second (is (codes "explicit") w) _ e) (λ e. absurd (cc))) h
  where
    or_second : (a b : Bool) → b ≡ true → a || b ≡ true
    or_second true b e = refl
    or_second false b e = e

no_head : (f : List ℕ → Bool) → f (codes "explicit") ≡ false → f (codes "module") ≡ false → (ts : List Word) → begins (by_text f) ts ≡ true → begins_module ts ≡ false
no_head f a b ts h = rw (sees_not f (codes "explicit") a ts h) (sees_not f (codes "module") b ts h)

pub sound_member : (k : ℕ) → Sound (member k) (IsMember k)
unfolding member
sound_member zero = record { of = λ ts a us h. absurd (cc) }
sound_member (suc k) = sound_either begins_module _ _ _ _ (sound_submodule (member k) (IsMember k) (sound_member k)) sound_simple

member_some : (n : ℕ) (a : MapMember) (vs : List Word) → IsMember n a vs → 0 < length vs
member_some n a [] d = let h = (starts_member n).of a [] [] d in absurd (cc)
member_some n a (v ∷ vs) d = omega arith

pub complete_member : (k n : ℕ) → Complete (member k) (IsMember n) k ends
unfolding member
complete_member zero n = record { of = λ a vs us d h e. absurd (omega (arith, member_some n a vs d)) }
complete_member (suc k) zero = record { of = λ a vs us d h e. absurd d }
complete_member (suc k) (suc n) = complete_either begins_module _ _ _ _ _ _
    (complete_less _ _ (suc (suc k)) (suc k) _ (omega arith) (to_ends _ _ _ (complete_submodule (member k) (IsMember n) k (complete_members (member k) n k (complete_member k n)))))
    (complete_simple (suc k))
    (λ a vs us d. head_begins (vs ++ us) ((starts_submodule (IsMember n)).of a vs us d))
    (λ a vs us d. no_head (one_of simple_keys) refl refl (vs ++ us) (starts_simple.of a vs us d))

-- ---- declarations

sound_extern : Sound extern_ IsExtern
unfolding extern_
sound_extern = sound_after _ _ _ (sound_after _ _ _ (sound_made _ _ _ (sound_both _ _ _ _ sound_id sound_string)))

complete_extern : (k : ℕ) → Complete extern_ IsExtern k anything
unfolding extern_
complete_extern k = complete_less _ _ (suc (suc k)) k _ (omega arith) (complete_after _ _ _ _ _ (complete_after _ _ _ _ _ (complete_made _ _ _ _ _
    (complete_both _ _ _ _ _ _ _ (complete_id k) (complete_string k) (λ b vs us d h. string_no_dot b vs us d)))))

pub sound_declaration : (k : ℕ) → Sound (declaration k) (IsDeclarationAt k)
unfolding declaration top_module
sound_declaration k = sound_either (sees (codes "extern")) _ _ _ _ sound_extern (sound_made _ _ _ (sound_explicit_or_not _ _ (sound_named (member k) (IsMember k) (sound_member k))))

pub complete_declaration : (k n : ℕ) → Complete (declaration k) (IsDeclarationAt n) k anything
unfolding declaration top_module
complete_declaration k n = complete_either (sees (codes "extern")) _ _ _ _ _ _ (complete_extern k)
    (complete_less _ _ (suc (suc k)) k _ (omega arith) (complete_made _ _ _ _ _ (complete_explicit_or_not _ _ _ (complete_named (member k) (IsMember n) k (complete_members (member k) n k (complete_member k n))))))
    (starts_after _ _).of
    (λ a vs us d. sees_not (one_of heads) (codes "extern") refl (vs ++ us) ((starts_made _ _ _ (starts_explicit_or_not (IsNamed (IsMember n)))).of a vs us d))

-- ---- whole declarations

read_whole : (ts : List Word) (d : MapDecl) → declaration (length ts) ts ≡ Some (d, []) → IsDeclaration d ts
read_whole ts d h =
    let x = (sound_declaration (length ts)).of ts d [] h in
    let same : x.front ≡ ts = sym (append-nil x.front) ∙ sym x.whole in
    record { depth = length ts; derived = subst (λ (vs : List Word). IsDeclarationAt (length ts) d vs) same x.derived }

derived_read : (ts : List Word) (d : MapDecl) → IsDeclaration d ts → declaration (length ts) ts ≡ Some (d, [])
derived_read ts d x =
    let read : declaration (length ts) (ts ++ []) ≡ Some (d, []) = (complete_declaration (length ts) x.depth).of d ts [] x.derived (omega arith) refl in
    subst (λ (vs : List Word). declaration (length ts) vs ≡ Some (d, [])) (append-nil ts) read

at_end_some : (d e : MapDecl) (us : List Word) → at_end d us ≡ Some e → (us ≡ []) × (d ≡ e)
at_end_some d e [] h = (refl, some_same h)
at_end_some d e (w ∷ ws) h = absurd (cc)

pub whole_some : (ts : List Word) (d : MapDecl) → whole ts ≡ Some d → IsDeclaration d ts
unfolding whole
whole_some ts d h =
    let q = and_then_some (declaration (length ts) ts) (λ (r : MapDecl × List Word). at_end r.0 r.1) d h in
    let e = at_end_some q.0.0 d q.0.1 q.2 in
    let pair : (q.0.0, q.0.1) ≡ (d, []) = cc in
    read_whole ts d (q.1 ∙ ap (λ (r : MapDecl × List Word). Some r) pair)

pub derived_whole : (ts : List Word) (d : MapDecl) → IsDeclaration d ts → whole ts ≡ Some d
unfolding whole
derived_whole ts d x = rw (derived_read ts d x) refl

pub whole_none : (ts : List Word) → whole ts ≡ None → (d : MapDecl) → IsDeclaration d ts → ⊥
whole_none ts h d x = let e = derived_whole ts d x in cc

pub one_tree : (ts : List Word) (d e : MapDecl) → IsDeclaration d ts → IsDeclaration e ts → d ≡ e
one_tree ts d e x y = some_same (sym (derived_whole ts d x) ∙ derived_whole ts e y)
