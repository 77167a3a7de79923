use Rattle.std.proofs.Common.{◌≡◌, ℕ, ◌+◌, ◌-◌, ◌≤◌, List, length, Option, Some, None, take, drop, refl, ap, append_assoc, sym, ◌∙◌, arith, length-drop}
use Rattle.std.proofs.Math.Seq.{take-add, take-length}
use Rattle.cm_outside.specs.Sinks.{and_then}

-- a front, and then a front of the rest
pub and_then-take : (before : Option (List ℕ)) (n m : ℕ) (bytes : List ℕ) → and_then (and_then before (take n bytes)) (take m (drop n bytes)) ≡ and_then before (take (n + m) bytes)
and_then-take None n m bytes = refl
and_then-take (Some taken) n m bytes = rw (append_assoc, take-add n m bytes) refl

-- the whole rest, as a slice to the end
pub take-rest : (n : ℕ) (bytes : List ℕ) → take (length bytes - n) (drop n bytes) ≡ drop n bytes
take-rest n bytes = ap (λ k. take k (drop n bytes)) (sym (length-drop n bytes)) ∙ take-length (drop n bytes)

-- one write more
pub written : (before mid now : Option (List ℕ)) (n m : ℕ) (bytes : List ℕ) → mid ≡ and_then before (take n bytes) → now ≡ and_then mid (take m (take (length bytes - n) (drop n bytes))) → now ≡ and_then before (take (n + m) bytes)
written before mid now n m bytes so_far more =
    more ∙ ap (λ rest. and_then mid (take m rest)) (take-rest n bytes) ∙ ap (λ taken. and_then taken (take m (drop n bytes))) so_far ∙ and_then-take before n m bytes

pub within : (n m : ℕ) (bytes : List ℕ) → n ≤ length bytes → m ≤ length (take (length bytes - n) (drop n bytes)) → n + m ≤ length bytes
within n m bytes here more =
    let whole : length (take (length bytes - n) (drop n bytes)) ≡ length bytes - n = ap length (take-rest n bytes) ∙ length-drop n bytes in
    omega (arith, whole)
