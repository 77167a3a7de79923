-- A name has a number among those that are defined exactly where it is defined.
use Rattle.std.proofs.Common.{◌≡◌, ℕ, ◌+◌, ◌<◌, ◌≤◌, Bool, true, false, not, ◌||◌, cond, List, [], ◌∷◌, ◌++◌, length, map, refl, ap, sym, subst, ◌∙◌, arith, Result, Ok, Err}
use Rattle.std.specs.List.{list_any, position_or_len}
use Rattle.std.specs.Str.{bytes_eq}
use Rattle.std.proofs.lemmas.List.{length-map, map-append}
use Rattle.cm_core.specs.declared.macros.Define.{Define}
use Rattle.cm_core.specs.Tables.{numbered, number_of}
use Rattle.job_text.specs.declared.fault.JobKind.{JobKind}
use Rattle.job_text.specs.declared.fault.JobKind.TheVariants.{Macro}
use Rattle.job_text.specs.declared.job.Job.{Job}
use Rattle.job_text.specs.declared.job_line.JobLine.TheVariants.{Definition}
use Rattle.job_text.specs.Drafts.{added, with_line}

any_found : (p : List ℕ → Bool) (xs : List (List ℕ)) → position_or_len p xs < length xs → list_any p xs ≡ true
any_found p [] h = absurd (omega arith)
any_found p (x ∷ xs) h = by (p x) h (any_found p xs)
  where
    by : (b : Bool) → cond (not b) (1 + position_or_len p xs) 0 < length (x ∷ xs) → (position_or_len p xs < length xs → list_any p xs ≡ true) → (b || list_any p xs) ≡ true
    by true g more = refl
    by false g more = more (omega arith)

none_found : (p : List ℕ → Bool) (xs : List (List ℕ)) → length xs ≤ position_or_len p xs → list_any p xs ≡ false
none_found p [] h = refl
none_found p (x ∷ xs) h = by (p x) h (none_found p xs)
  where
    by : (b : Bool) → length (x ∷ xs) ≤ cond (not b) (1 + position_or_len p xs) 0 → (length xs ≤ position_or_len p xs → list_any p xs ≡ false) → (b || list_any p xs) ≡ false
    by true g more = absurd (omega arith)
    by false g more = more (omega arith)

-- the number n of a name where these are defined
defined : (names : List (List ℕ)) (defines : List Define) (name : List ℕ) (n : ℕ) → names ≡ map (λ x. x.name) defines → n ≡ number_of names name → n < length defines → list_any (bytes_eq name) (map (λ x. x.name) defines) ≡ true
defined names defines name n same is below =
    let at : position_or_len (bytes_eq name) (map (λ x. x.name) defines) ≡ n = ap (position_or_len (bytes_eq name)) (sym same) ∙ sym is in
    any_found (bytes_eq name) (map (λ x. x.name) defines) (omega (arith, at, length-map defines (λ x. x.name)))

undefined : (names : List (List ℕ)) (defines : List Define) (name : List ℕ) (n : ℕ) → names ≡ map (λ x. x.name) defines → n ≡ number_of names name → length defines ≤ n → list_any (bytes_eq name) (map (λ x. x.name) defines) ≡ false
undefined names defines name n same is above =
    let at : position_or_len (bytes_eq name) (map (λ x. x.name) defines) ≡ n = ap (position_or_len (bytes_eq name)) (sym same) ∙ sym is in
    none_found (bytes_eq name) (map (λ x. x.name) defines) (omega (arith, at, length-map defines (λ x. x.name)))

pub given_twice : (job : Job) (d : Define) (names : List (List ℕ)) (n : ℕ) → names ≡ map (λ x. x.name) job.defines → n ≡ number_of names d.name → n < length job.defines → added job (Definition d) ≡ Err Macro
given_twice job d names n same is below = rw (defined names job.defines d.name n same is below) refl

pub given_once : (job : Job) (d : Define) (names : List (List ℕ)) (n : ℕ) → names ≡ map (λ x. x.name) job.defines → n ≡ number_of names d.name → length job.defines ≤ n → added job (Definition d) ≡ Ok (with_line job (Definition d))
given_once job d names n same is above = rw (undefined names job.defines d.name n same is above) refl

pub names_more : (defines : List Define) (d : Define) (names after : List (List ℕ)) (n : ℕ) → names ≡ map (λ x. x.name) defines → n ≡ number_of names d.name → length defines ≤ n → after ≡ numbered names d.name → after ≡ map (λ x. x.name) (defines ++ d ∷ [])
names_more defines d names after n same is above grown =
    let new : list_any (bytes_eq d.name) names ≡ false = subst (λ (xs : List (List ℕ)). list_any (bytes_eq d.name) xs ≡ false) (sym same) (undefined names defines d.name n same is above) in
    let last : numbered names d.name ≡ names ++ d.name ∷ [] = rw new refl in
    grown ∙ last ∙ ap (λ (xs : List (List ℕ)). xs ++ d.name ∷ []) same ∙ sym (map-append (λ x. x.name) defines (d ∷ []))
