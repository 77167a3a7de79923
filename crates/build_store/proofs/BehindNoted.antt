-- The modules that were noted as built.
use Rattle.std.proofs.Common.{◌≡◌, ◌≢◌, refl, sym, ap, ◌∙◌, ℕ, Bool, true, false, ◌&&◌, ◌||◌, ◌==◌, List, [], ◌∷◌, ◌++◌, true≢false, eq-eqb, eqb-true}
use Rattle.build_store.specs.Memo.{AreApart}
use Rattle.build_store.specs.Modules.{is_in}
use Rattle.build_store.specs.Telling.{built_in, is_built, numbers_of_noted}
use Rattle.build_store.specs.declared.held.Noted.{Noted}

pub false_unless : (b : Bool) → (b ≡ true → ⊥) → b ≡ false
false_unless false other = refl
false_unless true other = absurd (other refl)

pub absent_unless : (x : ℕ) (xs : List ℕ) → (is_in x xs ≡ true → ⊥) → is_in x xs ≡ false
absent_unless x xs other = false_unless (is_in x xs) other

pub differ : (x y : ℕ) → x ≢ y → x == y ≡ false
differ x y other = false_unless (x == y) (λ e. other (eqb-true x y e))

or_none : (b c : Bool) → b || c ≡ false → (b ≡ false) × (c ≡ false)
or_none false c e = (refl, e)
or_none true c e = absurd (true≢false e)

pub apart_more : (xs : List ℕ) (x : ℕ) → AreApart xs → is_in x xs ≡ false → AreApart (xs ++ x ∷ [])
apart_more [] x apart absent = (refl, tt)
apart_more (y ∷ xs) x apart absent =
    let none = or_none (x == y) (is_in x xs) absent in
    (not_last xs y apart.0 (λ e. true≢false (sym (eq-eqb x y (sym e)) ∙ none.0)), apart_more xs x apart.1 none.1)
  where
    not_last : (xs : List ℕ) (y : ℕ) → is_in y xs ≡ false → y ≢ x → is_in y (xs ++ x ∷ []) ≡ false
    not_last [] y absent other = ap (λ b. b || false) (differ y x other)
    not_last (z ∷ xs) y absent other =
        let none = or_none (y == z) (is_in y xs) absent in
        ap (λ b. b || is_in y (xs ++ x ∷ [])) none.0 ∙ not_last xs y none.1 other

-- what another module is noted as
pub built_other : (ns : List Noted) (n : Noted) (m : ℕ) → m ≢ n.number → built_in (ns ++ n ∷ []) m ≡ built_in ns m
built_other [] n m other = ap (λ b. (b && is_built n.origin) || false) (differ m n.number other)
built_other (x ∷ ns) n m other = ap (λ b. ((m == x.number) && is_built x.origin) || b) (built_other ns n m other)

-- what one is noted as for the first time
pub built_here : (ns : List Noted) (n : Noted) → is_in n.number (numbers_of_noted ns) ≡ false → built_in (ns ++ n ∷ []) n.number ≡ is_built n.origin
built_here [] n absent = ap (λ b. (b && is_built n.origin) || false) (eq-eqb n.number n.number refl) ∙ or_false (is_built n.origin)
  where
    or_false : (b : Bool) → b || false ≡ b
    or_false false = refl
    or_false true = refl
built_here (x ∷ ns) n absent =
    let none = or_none (n.number == x.number) (is_in n.number (numbers_of_noted ns)) absent in
    ap (λ b. (b && is_built x.origin) || built_in (ns ++ n ∷ []) n.number) none.0 ∙ built_here ns n none.1

pub none_built : (ns : List Noted) (m : ℕ) → is_in m (numbers_of_noted ns) ≡ false → built_in ns m ≡ false
none_built [] m absent = refl
none_built (x ∷ ns) m absent =
    let none = or_none (m == x.number) (is_in m (numbers_of_noted ns)) absent in
    ap (λ b. (b && is_built x.origin) || built_in ns m) none.0 ∙ none_built ns m none.1
