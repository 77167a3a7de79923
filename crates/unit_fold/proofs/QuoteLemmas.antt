-- What stands between double quotes, where a text is cut at them.
use Rattle.std.proofs.Common.{◌≡◌, ◌≢◌, Bor, MatchOption, sym, ℕ, zero, suc, ◌-◌, Bool, true, false, List, [], ◌∷◌, ◌++◌, length, take, drop, Option, Some, None, option_and_then, refl, ap, ◌∙◌, arith, length-append, if◌then◌else◌, codes}
use Rattle.std.specs.Option.{option_copied}
use Rattle.std.specs.Str.{bytes_eq}
use Rattle.std.proofs.lemmas.Slice.Eq.{bytes_eq-Decides}
use Rattle.unit_fold.specs.Lines.{after_front, before_back, between}

-- a double quote
abbrev quote : List ℕ
quote = codes "\""

front_found : (text rest : List ℕ) → text ≡ 34 ∷ rest → after_front quote text ≡ Some rest
front_found text rest is = ap (after_front quote) is

front_missing : (text : List ℕ) → ((rest : List ℕ) → text ≡ 34 ∷ rest → ⊥) → after_front quote text ≡ None
front_missing [] none = refl
front_missing (c ∷ cs) none = by (bytes_eq (c ∷ []) quote) refl
  where
    by : (b : Bool) → bytes_eq (c ∷ []) quote ≡ b → (if b then Some cs else None) ≡ None
    by false e = refl
    by true e =
        let same : c ∷ [] ≡ 34 ∷ [] = (bytes_eq-Decides (c ∷ []) quote).0 e in
        let first : c ≡ 34 = cc in
        absurd (none cs (ap (λ (x : ℕ). x ∷ cs) first))

take_front : (front back : List ℕ) → take (length front) (front ++ back) ≡ front
take_front [] back = refl
take_front (c ∷ front) back = ap (λ (cs : List ℕ). c ∷ cs) (take_front front back)

drop_front : (front back : List ℕ) → drop (length front) (front ++ back) ≡ back
drop_front [] back = refl
drop_front (c ∷ front) back = drop_front front back

parts : (n : ℕ) (text : List ℕ) → text ≡ take n text ++ drop n text
parts zero text = refl
parts (suc n) [] = refl
parts (suc n) (c ∷ cs) = ap (λ (xs : List ℕ). c ∷ xs) (parts n cs)

abbrev last_cut : ℕ → List ℕ → Option (List ℕ)
last_cut n text = if bytes_eq (drop n text) quote then Some (take n text) else None

back_found : (text front : List ℕ) → text ≡ front ++ quote → before_back quote text ≡ Some front
back_found text front is =
    let n : length (front ++ quote) - 1 ≡ length front = omega (arith, length-append front quote) in
    ap (before_back quote) is
    ∙ ap (λ (k : ℕ). last_cut k (front ++ quote)) n
    ∙ ap (λ (back : List ℕ). if bytes_eq back quote then Some (take (length front) (front ++ quote)) else None) (drop_front front quote)
    ∙ ap (λ (xs : List ℕ). Some xs) (take_front front quote)

back_missing : (text : List ℕ) → ((front : List ℕ) → text ≡ front ++ quote → ⊥) → before_back quote text ≡ None
back_missing text none = by (bytes_eq (drop n text) quote) refl
  where
    n : ℕ
    n = length text - 1

    by : (b : Bool) → bytes_eq (drop n text) quote ≡ b → (if b then Some (take n text) else None) ≡ None
    by false e = refl
    by true e =
        let same : drop n text ≡ quote = (bytes_eq-Decides (drop n text) quote).0 e in
        absurd (none (take n text) (parts n text ∙ ap (λ (back : List ℕ). take n text ++ back) same))

pub quotes_found : (text rest front : List ℕ) → text ≡ 34 ∷ rest → rest ≡ front ++ 34 ∷ [] → between quote quote text ≡ Some front
quotes_found text rest front opens closes = ap (option_and_then (before_back quote)) (front_found text rest opens) ∙ back_found rest front closes

pub quote_missing : (text : List ℕ) → ((rest : List ℕ) → text ≡ 34 ∷ rest → ⊥) → between quote quote text ≡ None
quote_missing text none = ap (option_and_then (before_back quote)) (front_missing text none)

pub quote_open : (text rest : List ℕ) → text ≡ 34 ∷ rest → ((front : List ℕ) → rest ≡ front ++ 34 ∷ [] → ⊥) → between quote quote text ≡ None
quote_open text rest opens none = ap (option_and_then (before_back quote)) (front_found text rest opens) ∙ back_missing rest none

-- what `strip_prefix` and `strip_suffix` give at a double quote
pub prefix_found : (text : List ℕ) (r : Option (Bor (List ℕ))) (x : Bor (List ℕ)) → MatchOption r ((rest : List ℕ) → text ≢ 34 ∷ rest) (λ y. text ≡ 34 ∷ y.now) → r ≡ Some x → text ≡ 34 ∷ x.now
prefix_found text None x cases is = absurd (cc)
prefix_found text (Some y) x cases is =
    let same : y ≡ x = cc in
    cases ∙ ap (λ (z : Bor (List ℕ)). 34 ∷ z.now) same

pub unquoted_none : (text : List ℕ) (r : Option (Bor (List ℕ))) → MatchOption r ((rest : List ℕ) → text ≢ 34 ∷ rest) (λ y. text ≡ 34 ∷ y.now) → r ≡ None → between quote quote text ≡ None
unquoted_none text None cases is = quote_missing text cases
unquoted_none text (Some y) cases is = absurd (cc)

pub unquoted_some : (text rest : List ℕ) (r : Option (Bor (List ℕ))) → text ≡ 34 ∷ rest → MatchOption r ((front : List ℕ) → rest ≢ front ++ 34 ∷ []) (λ y. rest ≡ y.now ++ 34 ∷ [])
    → option_copied r ≡ between quote quote text
unquoted_some text rest None opens cases = sym (quote_open text rest opens cases)
unquoted_some text rest (Some y) opens cases = sym (quotes_found text rest y.now opens cases)
