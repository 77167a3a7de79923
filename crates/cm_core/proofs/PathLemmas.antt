-- A folded text is spelled with names alone, so that reading it again leaves it as it is.
use Rattle.std.proofs.Common.{◌≡◌, ℕ, ◌-◌, Bool, true, false, cond, eqb, List, [], ◌∷◌, ◌++◌, length, take, Option, Some, None, Result, Ok, refl, ap, ◌∙◌, subst, suc, zero, arith, rules, append_assoc}
use Rattle.std.specs.List.{list_any, onto_first}
use Rattle.std.specs.Option.{option_and_then}
use Rattle.std.specs.Str.{bytes_eq}
use Rattle.std.proofs.lemmas.Bool.{or_parts, or_from, false_from_ne_true, cond-false, both_ways, ne_eqb}
use Rattle.std.proofs.lemmas.Slice.Eq.{bytes_eq-Decides}
use Rattle.std.proofs.lemmas.List.Folds.{list_any-append}
use Rattle.std.proofs.lemmas.List.Splits.{slice_split-cons_yes, slice_split-cons_no}
use Rattle.cm_core.specs.declared.path.PathFault.{PathFault}
use Rattle.cm_core.specs.declared.path.PathFault.TheVariants.{Empty, HasNul, Absolute}
use Rattle.cm_core.specs.Paths.{parts_of, is_dot, is_dot_dot, up, stepped, walked, slashed, spelled, spelled_or_climbs, folded, has_nul, refusal_of, unless_refused, IsPath}

-- whether a text has a slash
abbrev has_slash : List ℕ → Bool
has_slash text = list_any (λ b. eqb b 47) text

-- a part between slashes
record IsPart (part : List ℕ) : Type 0 where
  one : has_slash part ≡ false
  text : has_nul part ≡ false

abbrev AreParts : List (List ℕ) → Type 0
AreParts [] = Unit {0}
AreParts (part ∷ parts) = IsPart part × AreParts parts

-- a part that is a name
record IsName (name : List ℕ) : Type 0 where
  part : IsPart name
  no_dot : is_dot name ≡ false
  no_dot_dot : is_dot_dot name ≡ false

abbrev AreNames : List (List ℕ) → Type 0
AreNames [] = Unit {0}
AreNames (name ∷ names) = IsName name × AreNames names

AreParts-onto_first : (x : ℕ) (parts : List (List ℕ)) → eqb x 47 ≡ false → eqb x 0 ≡ false → AreParts parts → AreParts (onto_first x parts)
AreParts-onto_first x [] slash nul h = (record { one = or_from _ _ slash refl; text = or_from _ _ nul refl }, tt)
AreParts-onto_first x (part ∷ parts) slash nul h = (record { one = or_from _ _ slash h.0.one; text = or_from _ _ nul h.0.text }, h.1)

AreParts-cons : (b : Bool) (x : ℕ) (text : List ℕ) → eqb x 47 ≡ b → eqb x 0 ≡ false → AreParts (parts_of text) → AreParts (parts_of (x ∷ text))
AreParts-cons true x text slash nul h = rw (slice_split-cons_yes (λ b. eqb b 47) x text slash) (record { one = refl; text = refl }, h)
AreParts-cons false x text slash nul h = rw (slice_split-cons_no (λ b. eqb b 47) x text slash) (AreParts-onto_first x _ slash nul h)

AreParts-parts_of : (text : List ℕ) → has_nul text ≡ false → AreParts (parts_of text)
AreParts-parts_of [] nul = (record { one = refl; text = refl }, tt)
AreParts-parts_of (x ∷ text) nul =
    let both = or_parts _ _ nul in
    AreParts-cons (eqb x 47) x text refl both.0 (AreParts-parts_of text both.1)

-- what `stepped` gives where the two tests are known
stepped-name : (names : List (List ℕ)) (part : List ℕ) → is_dot part ≡ false → is_dot_dot part ≡ false → stepped names part ≡ Some (names ++ part ∷ [])
stepped-name names part dot dots = cond-false _ _ _ dot ∙ cond-false _ _ _ dots

bytes_eq-other : (xs ys : List ℕ) → (xs ≡ ys → ⊥) → bytes_eq xs ys ≡ false
bytes_eq-other xs ys other = false_from_ne_true _ (λ same. other ((bytes_eq-Decides xs ys).0 same))

pub stepped-other : (names : List (List ℕ)) (part : List ℕ) → (part ≡ [] → ⊥) → (part ≡ 46 ∷ [] → ⊥) → (part ≡ 46 ∷ 46 ∷ [] → ⊥) → stepped names part ≡ Some (names ++ part ∷ [])
stepped-other names part empty dot dots =
    stepped-name names part (or_from _ _ (bytes_eq-other part [] empty) (bytes_eq-other part _ dot)) (bytes_eq-other part _ dots)

AreNames-append : (names : List (List ℕ)) (name : List ℕ) → AreNames names → IsName name → AreNames (names ++ name ∷ [])
AreNames-append [] name h n = (n, tt)
AreNames-append (x ∷ names) name h n = (h.0, AreNames-append names name h.1 n)

AreNames-take : (n : ℕ) (names : List (List ℕ)) → AreNames names → AreNames (take n names)
AreNames-take zero names h = tt
AreNames-take (suc n) [] h = tt
AreNames-take (suc n) (x ∷ names) h = (h.0, AreNames-take n names h.1)

AreNames-up : (b : Bool) (names next : List (List ℕ)) → AreNames names → cond b None (Some (take (length names - 1) names)) ≡ Some next → AreNames next
AreNames-up true names next h e = absurd (cc)
AreNames-up false names next h e = let same : take (length names - 1) names ≡ next = cc in subst AreNames same (AreNames-take _ names h)

AreNames-stepped : (b d : Bool) (names : List (List ℕ)) (part : List ℕ) (next : List (List ℕ)) → is_dot part ≡ b → is_dot_dot part ≡ d → AreNames names → IsPart part
    → cond b (Some names) (cond d (up names) (Some (names ++ part ∷ []))) ≡ Some next → AreNames next
AreNames-stepped true d names part next dot dots h p e = let same : names ≡ next = cc in subst AreNames same h
AreNames-stepped false true names part next dot dots h p e = AreNames-up (eqb (length names) 0) names next h e
AreNames-stepped false false names part next dot dots h p e =
    let same : names ++ part ∷ [] ≡ next = cc in
    subst AreNames same (AreNames-append names part h (record { part = p; no_dot = dot; no_dot_dot = dots }))

AreNames-walked_on : (o : Option (List (List ℕ))) (names : List (List ℕ)) (part : List ℕ) (parts out : List (List ℕ)) → stepped names part ≡ o → AreNames names → IsPart part
    → ((next : List (List ℕ)) → AreNames next → walked next parts ≡ Some out → AreNames out) → option_and_then (λ next. walked next parts) o ≡ Some out → AreNames out
AreNames-walked_on None names part parts out s h p on e = absurd (cc)
AreNames-walked_on (Some next) names part parts out s h p on e =
    on next (AreNames-stepped (is_dot part) (is_dot_dot part) names part next refl refl h p s) e

AreNames-walked : (names parts out : List (List ℕ)) → AreNames names → AreParts parts → walked names parts ≡ Some out → AreNames out
AreNames-walked names [] out h p e = let same : names ≡ out = cc in subst AreNames same h
AreNames-walked names (part ∷ parts) out h p e =
    AreNames-walked_on (stepped names part) names part parts out refl h p.0 (λ next n w. AreNames-walked next parts out n p.1 w) e

-- the parts of a spelled path are its names
parts_of-name : (name rest : List ℕ) → has_slash name ≡ false → parts_of (name ++ 47 ∷ rest) ≡ name ∷ parts_of rest
parts_of-name [] rest h = refl
parts_of-name (x ∷ name) rest h =
    let both = or_parts _ _ h in
    slice_split-cons_no (λ b. eqb b 47) x (name ++ 47 ∷ rest) both.0 ∙ ap (onto_first x) (parts_of-name name rest both.1)

parts_of-last : (name : List ℕ) → has_slash name ≡ false → parts_of (name ++ []) ≡ name ∷ []
parts_of-last [] h = refl
parts_of-last (x ∷ name) h =
    let both = or_parts _ _ h in
    slice_split-cons_no (λ b. eqb b 47) x (name ++ []) both.0 ∙ ap (onto_first x) (parts_of-last name both.1)

parts_of-spelled : (name : List ℕ) (names : List (List ℕ)) → IsName name → AreNames names → parts_of (name ++ slashed names) ≡ name ∷ names
parts_of-spelled name [] n h = parts_of-last name n.part.one
parts_of-spelled name (next ∷ names) n h =
    parts_of-name name (next ++ slashed names) n.part.one ∙ ap (λ parts. name ∷ parts) (parts_of-spelled next names h.0 h.1)

walked-names : (before names : List (List ℕ)) → AreNames names → walked before names ≡ Some (before ++ names)
walked-names before [] h = search rules
walked-names before (name ∷ names) h =
    ap (option_and_then (λ next. walked next names)) (stepped-name before name h.0.no_dot h.0.no_dot_dot)
    ∙ walked-names (before ++ name ∷ []) names h.1 ∙ ap Some (append_assoc before (name ∷ []) names)

has_nul-slashed : (names : List (List ℕ)) → AreNames names → has_nul (slashed names) ≡ false
has_nul-slashed [] h = refl
has_nul-slashed (name ∷ names) h =
    list_any-append (λ b. eqb b 0) name (slashed names) ∙ or_from _ _ h.0.part.text (has_nul-slashed names h.1)

refusal_of-spelled : (name : List ℕ) (names : List (List ℕ)) → IsName name → AreNames names → refusal_of (name ++ slashed names) ≡ None
refusal_of-spelled [] names n h = absurd (both_ways (is_dot []) n.no_dot refl)
refusal_of-spelled (x ∷ name) names n h =
    let nul : has_nul ((x ∷ name) ++ slashed names) ≡ false = list_any-append (λ b. eqb b 0) (x ∷ name) (slashed names) ∙ or_from _ _ n.part.text (has_nul-slashed names h) in
    let slash : eqb x 47 ≡ false = (or_parts _ _ n.part.one).0 in
    let some : eqb (length ((x ∷ name) ++ slashed names)) 0 ≡ false = ne_eqb _ _ (λ e. omega arith) in
    cond-false _ _ _ some ∙ cond-false _ _ _ nul ∙ cond-false _ _ _ slash

IsPath-names : (names : List (List ℕ)) → AreNames names → IsPath (spelled names)
IsPath-names [] h = refl
IsPath-names (name ∷ names) h =
    ap (λ refusal. unless_refused refusal (folded (spelled (name ∷ names)))) (refusal_of-spelled name names h.0 h.1)
    ∙ ap (λ parts. spelled_or_climbs (walked [] parts)) (parts_of-spelled name names h.0 h.1)
    ∙ ap spelled_or_climbs (walked-names [] (name ∷ names) h)

-- what a text without a zero byte leads to is a path
pub IsPath-spelled : (text : List ℕ) (names : List (List ℕ)) → has_nul text ≡ false → walked [] (parts_of text) ≡ Some names → IsPath (spelled names)
IsPath-spelled text names nul leads = IsPath-names names (AreNames-walked [] (parts_of text) names tt (AreParts-parts_of text nul) leads)

has_nul-refusal_of : (a b c : Bool) → cond a (Some Empty) (cond b (Some HasNul) (cond c (Some Absolute) None)) ≡ None → b ≡ false
has_nul-refusal_of true b c e = absurd (cc)
has_nul-refusal_of false true c e = absurd (cc)
has_nul-refusal_of false false c e = refl

pub has_nul-unrefused : (text : List ℕ) → refusal_of text ≡ None → has_nul text ≡ false
has_nul-unrefused text e = has_nul-refusal_of _ _ _ e

has_nul-unless_refused : (text : List ℕ) (refusal : Option PathFault) (path : Result (List ℕ) PathFault) → refusal_of text ≡ refusal → unless_refused refusal path ≡ Ok text → has_nul text ≡ false
has_nul-unless_refused text None path r e = has_nul-unrefused text r
has_nul-unless_refused text (Some fault) path r e = absurd (cc)

-- a path has no zero byte
has_nul-path : (path : List ℕ) → IsPath path → has_nul path ≡ false
has_nul-path path h = has_nul-unless_refused path (refusal_of path) _ refl h

pub has_nul-joined : (path tail : List ℕ) → IsPath path → refusal_of tail ≡ None → has_nul (path ++ 47 ∷ tail) ≡ false
has_nul-joined path tail h r =
    list_any-append (λ b. eqb b 0) path (47 ∷ tail) ∙ or_from _ _ (has_nul-path path h) (has_nul-unrefused tail r)
