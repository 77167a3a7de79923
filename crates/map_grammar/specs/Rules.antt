-- Rules of a grammar, and what is made of the tokens that they derive. Own; they stand for the notation of C11 6.1
-- with braces for what is repeated and brackets for what may be left out.
use Rattle.std.specs.Prelude.{◌≡◌, Bool, true, List, [], ◌∷◌, ◌++◌}

-- one token that passes the test
pub record IsToken {T : Type 0} (test : T → Bool) (w : T) (ts : List T) : Type 0 where
  pub passes : test w ≡ true
  pub whole : ts ≡ w ∷ []

-- such a token, and then what the rule derives
pub record IsAfter {T A : Type 0} (test : T → Bool) (P : A → List T → Type 0) (a : A) (ts : List T) : Type 0 where
  pub mark : T
  pub back : List T
  pub passes : test mark ≡ true
  pub derived : P a back
  pub whole : ts ≡ mark ∷ back

-- what the rule derives, and then such a token
pub record IsBefore {T A : Type 0} (P : A → List T → Type 0) (test : T → Bool) (a : A) (ts : List T) : Type 0 where
  pub front : List T
  pub mark : T
  pub derived : P a front
  pub passes : test mark ≡ true
  pub whole : ts ≡ front ++ mark ∷ []

-- what one rule derives, and then what another derives
pub record IsBoth {T A B : Type 0} (P : A → List T → Type 0) (Q : B → List T → Type 0) (c : A × B) (ts : List T) : Type 0 where
  pub front : List T
  pub back : List T
  pub first : P c.0 front
  pub second : Q c.1 back
  pub whole : ts ≡ front ++ back

-- what is made of what a rule derives
pub record IsMade {T A B : Type 0} (f : A → B) (P : A → List T → Type 0) (b : B) (ts : List T) : Type 0 where
  pub of : A
  pub derived : P of ts
  pub made : b ≡ f of

-- what the one rule or the other derives
pub data IsEither {T A : Type 0} (P Q : A → List T → Type 0) : A → List T → Type 0 where
  one : (a : A) (ts : List T) → P a ts → IsEither P Q a ts
  other : (a : A) (ts : List T) → Q a ts → IsEither P Q a ts

-- what the rule derives, or nothing, which stands for `a`
pub data IsOptional {T A : Type 0} (a : A) (P : A → List T → Type 0) : A → List T → Type 0 where
  left_out : IsOptional a P a []
  there : (b : A) (ts : List T) → P b ts → IsOptional a P b ts

-- what the rule derives, so many times in a row
pub data IsMany {T A : Type 0} (P : A → List T → Type 0) : List A → List T → Type 0 where
  no_more : IsMany P [] []
  one_more : (a : A) (more : List A) (ts us : List T) → P a ts → IsMany P more us → IsMany P (a ∷ more) (ts ++ us)
