-- Lists of tokens: what compares them pair by pair.
use Rattle.std.proofs.Common.{◌≡◌, Bool, ◌&&◌, List, [], ◌∷◌, length, refl, ap, arith}
use Rattle.std.specs.Cmp.Lexicographic.{pointwise}
use Rattle.std.specs.List.{list_all, zip}

pub list_all-zip : {A : Type 0} (same : A → A → Bool) (xs ys : List A) → length xs ≡ length ys → list_all (λ p. same p.0 p.1) (zip xs ys) ≡ pointwise same xs ys
list_all-zip same [] [] h = refl
list_all-zip same [] (y ∷ ys) h = absurd (omega arith)
list_all-zip same (x ∷ xs) [] h = absurd (omega arith)
list_all-zip same (x ∷ xs) (y ∷ ys) h = ap (λ b. same x y && b) (list_all-zip same xs ys (omega arith))
