-- Reading tokens from the left by the rules of a grammar: what is made of those at the front, and the tokens after
-- them. Own: no public promise cites this, and the laws join it to the rules.
use Rattle.std.specs.Prelude.{◌≡◌, ℕ, zero, suc, Bool, false, if◌then◌else◌, List, [], ◌∷◌, length, Option, Some, None, Result, Ok, Err, ⊤}
use Rattle.std.specs.Option.{option_map, option_and_then}
use Rattle.map_grammar.specs.declared.refusal.Refusal.{Refusal}
use Rattle.map_grammar.specs.declared.refusal.Refusal.TheVariants.{NotInGrammar, NoMemory}

-- whether the tokens begin with one that passes the test
abbrev pub begins : {T : Type 0} → (T → Bool) → List T → Bool
begins test [] = false
begins test (w ∷ ws) = test w

abbrev pub token : {T : Type 0} → (T → Bool) → List T → Option (T × List T)
token test [] = None
token test (w ∷ ws) = if test w then Some (w, ws) else None

abbrev pub after : {T A : Type 0} → (T → Bool) → (List T → Option (A × List T)) → List T → Option (A × List T)
after test p ts = option_and_then (λ r. p r.1) (token test ts)

abbrev pub before : {T A : Type 0} → (List T → Option (A × List T)) → (T → Bool) → List T → Option (A × List T)
before p test ts = option_and_then (λ r. option_map (λ s. (r.0, s.1)) (token test r.1)) (p ts)

abbrev pub both : {T A B : Type 0} → (List T → Option (A × List T)) → (List T → Option (B × List T)) → List T → Option ((A × B) × List T)
both p q ts = option_and_then (λ r. option_map (λ s. ((r.0, s.0), s.1)) (q r.1)) (p ts)

abbrev pub made : {T A B : Type 0} → (A → B) → (List T → Option (A × List T)) → List T → Option (B × List T)
made f p ts = option_map (λ r. (f r.0, r.1)) (p ts)

-- by the first token, the one rule or the other
abbrev pub either : {T A : Type 0} → (List T → Bool) → (List T → Option (A × List T)) → (List T → Option (A × List T)) → List T → Option (A × List T)
either is_one p q ts = if is_one ts then p ts else q ts

abbrev pub optional : {T A : Type 0} → (List T → Bool) → A → (List T → Option (A × List T)) → List T → Option (A × List T)
optional is_there a p ts = if is_there ts then p ts else Some (a, ts)

abbrev pub with_first : {T A : Type 0} → A → Option (List A × List T) → Option (List A × List T)
with_first a more = option_map (λ r. (a ∷ r.0, r.1)) more

-- as long as the test holds; the number bounds how many
unfoldable pub many_in : {T A : Type 0} → (List T → Bool) → (List T → Option (A × List T)) → ℕ → List T → Option (List A × List T)
many_in goes_on p zero ts = Some ([], ts)
many_in goes_on p (suc n) ts = if goes_on ts then option_and_then (λ r. with_first r.0 (many_in goes_on p n r.1)) (p ts) else Some ([], ts)

-- each time a token at least is read
unfoldable pub many : {T A : Type 0} → (List T → Bool) → (List T → Option (A × List T)) → List T → Option (List A × List T)
many goes_on p ts = many_in goes_on p (length ts) ts

-- what a call that reads answers and leaves to be read, by what the reader gives
abbrev pub Took : {T A : Type 0} → Option (A × List T) → Result A Refusal → List T → Type 0
Took given (Ok a) rest = given ≡ Some (a, rest)
Took given (Err NotInGrammar) rest = given ≡ None
Took given (Err NoMemory) rest = ⊤
