-- Loops that read one thing after another.
use Rattle.std.proofs.Common.{◌≡◌, ℕ, zero, suc, ◌<◌, ◌≤◌, Bool, true, false, refl, sym, ap, ◌∙◌, List, [], ◌∷◌, ◌++◌, length, append_assoc, arith, Option, Some, None}
use Rattle.std.specs.Option.{option_map, option_and_then}
use Rattle.map_grammar.specs.Readers.{made, with_first, many_in, many}

abbrev pub with_front : {T A : Type 0} → List A → Option (List A × List T) → Option (List A × List T)
with_front found more = option_map (λ r. (found ++ r.0, r.1)) more

-- `found` was read since `from`, where all of it is `all`, and `ts` is left
pub record Looping {T A : Type 0} (goes_on : List T → Bool) (p : List T → Option (A × List T)) (from : List T) (all : Option (List A × List T)) (found : List A) (ts : List T) : Type 0 where
  pub shorter : length ts ≤ length from
  pub fuel : ℕ
  pub enough : length ts ≤ fuel
  pub same : with_front found (many_in goes_on p fuel ts) ≡ all

front_none : {T A : Type 0} (more : Option (List A × List T)) → with_front [] more ≡ more
front_none None = refl
front_none (Some r) = refl

front_more : {T A : Type 0} (found : List A) (a : A) (more : Option (List A × List T)) → with_front found (with_first a more) ≡ with_front (found ++ a ∷ []) more
front_more found a None = refl
front_more found a (Some r) = ap (λ xs. Some (xs, r.1)) (sym (append_assoc found (a ∷ []) r.0))

pub loop_start : {T A : Type 0} (goes_on : List T → Bool) (p : List T → Option (A × List T)) (ts : List T) → Looping goes_on p ts (many goes_on p ts) [] ts
unfolding many
loop_start goes_on p ts = record { shorter = omega arith; fuel = length ts; enough = omega arith; same = front_none (many_in goes_on p (length ts) ts) }

pub loop_start_with : {T A : Type 0} (goes_on : List T → Bool) (p : List T → Option (A × List T)) (a : A) (ts : List T) → Looping goes_on p ts (made (λ more. a ∷ more) (many goes_on p) ts) (a ∷ []) ts
unfolding many
loop_start_with goes_on p a ts = record { shorter = omega arith; fuel = length ts; enough = omega arith; same = refl }

many_on : {T A : Type 0} (goes_on : List T → Bool) (p : List T → Option (A × List T)) (n : ℕ) (ts : List T) → goes_on ts ≡ true → many_in goes_on p (suc n) ts ≡ option_and_then (λ r. with_first r.0 (many_in goes_on p n r.1)) (p ts)
unfolding many_in
many_on goes_on p n ts h = rw h refl

many_off : {T A : Type 0} (goes_on : List T → Bool) (p : List T → Option (A × List T)) (n : ℕ) (ts : List T) → goes_on ts ≡ false → many_in goes_on p n ts ≡ Some ([], ts)
unfolding many_in
many_off goes_on p zero ts h = refl
many_off goes_on p (suc n) ts h = rw h refl

pub loop_next : {T A : Type 0} (goes_on : List T → Bool) (p : List T → Option (A × List T)) (from : List T) (all : Option (List A × List T)) (found : List A) (ts : List T) (a : A) (us : List T)
    → Looping goes_on p from all found ts → goes_on ts ≡ true → p ts ≡ Some (a, us) → length us < length ts → Looping goes_on p from all (found ++ a ∷ []) us
loop_next {T} {A} goes_on p from all found ts a us l on read less = by l.fuel l.enough l.same
  where
    by : (n : ℕ) → length ts ≤ n → with_front found (many_in goes_on p n ts) ≡ all → Looping goes_on p from all (found ++ a ∷ []) us
    by zero enough same = absurd (omega arith)
    by (suc n) enough same =
        let step : many_in goes_on p (suc n) ts ≡ with_first a (many_in goes_on p n us) = many_on goes_on p n ts on ∙ rw read refl in
        record {
          shorter = omega (arith, l.shorter);
          fuel = n;
          enough = omega arith;
          same = sym (front_more found a (many_in goes_on p n us)) ∙ ap (λ (o : Option (List A × List T)). with_front found o) (sym step) ∙ same;
        }

pub loop_ends : {T A : Type 0} (goes_on : List T → Bool) (p : List T → Option (A × List T)) (from : List T) (all : Option (List A × List T)) (found : List A) (ts : List T)
    → Looping goes_on p from all found ts → goes_on ts ≡ false → all ≡ Some (found, ts)
loop_ends {T} {A} goes_on p from all found ts l off =
    sym l.same ∙ ap (λ (o : Option (List A × List T)). with_front found o) (many_off goes_on p l.fuel ts off) ∙ ap (λ xs. Some (xs, ts)) (append_none found)
  where
    append_none : (xs : List A) → xs ++ [] ≡ xs
    append_none [] = refl
    append_none (x ∷ xs) = ap (λ ys. x ∷ ys) (append_none xs)

pub loop_fails : {T A : Type 0} (goes_on : List T → Bool) (p : List T → Option (A × List T)) (from : List T) (all : Option (List A × List T)) (found : List A) (ts : List T)
    → goes_on [] ≡ false → Looping goes_on p from all found ts → goes_on ts ≡ true → p ts ≡ None → all ≡ None
loop_fails {T} {A} goes_on p from all found ts none l on read = by l.fuel l.enough l.same
  where
    empty : (xs : List T) → length xs ≤ 0 → goes_on xs ≡ true → ⊥
    empty [] h g = (cc)
    empty (x ∷ xs) h g = omega arith

    by : (n : ℕ) → length ts ≤ n → with_front found (many_in goes_on p n ts) ≡ all → all ≡ None
    by zero enough same = absurd (empty ts enough on)
    by (suc n) enough same =
        let step : many_in goes_on p (suc n) ts ≡ None = many_on goes_on p n ts on ∙ rw read refl in
        sym same ∙ ap (λ (o : Option (List A × List T)). with_front found o) step
