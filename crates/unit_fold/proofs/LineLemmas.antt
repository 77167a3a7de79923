use Rattle.std.proofs.Common.{◌≡◌, ℕ, zero, suc, ◌+◌, ◌-◌, ◌<◌, Bool, true, false, List, [], ◌∷◌, length, take, drop, refl, ap, sym, ◌∙◌, arith, nat_eq, Some, None, add-one}
use Rattle.std.proofs.Math.Seq.{drop-length}
use Rattle.std.proofs.Math.Bool.{true≢false}
use Rattle.cm_outside.proofs.Fronts.{take-rest}
use Rattle.memchr.specs.Find.{IsFirstByte, Nowhere, Passes, is_byte}
use Rattle.unit_fold.specs.Lines.{lines, onto_first}

not_true : (b : Bool) → (b ≡ true → ⊥) → b ≡ false
not_true true h = absurd (h refl)
not_true false h = refl

line_more : (c : ℕ) (cs : List ℕ) → nat_eq c 10 ≡ false → lines (c ∷ cs) ≡ onto_first c (lines cs)
line_more c cs other = rw other refl

-- where the byte at a place is the first line end, the text before it is the first line
pub lines-at : (text : List ℕ) (k : ℕ) → k < length text → Nowhere (Passes (is_byte 10) text) 0 k → Passes (is_byte 10) text k → lines text ≡ take k text ∷ lines (drop (suc k) text)
lines-at [] k within before here = absurd (omega arith)
lines-at (c ∷ cs) zero within before here = rw here refl
lines-at (c ∷ cs) (suc k) within before here =
    let other : nat_eq c 10 ≡ false = not_true (nat_eq c 10) (before 0 (omega arith) (omega arith)) in
    let more : lines cs ≡ take k cs ∷ lines (drop (suc k) cs) = lines-at cs k (omega arith) (λ j low high. before (suc j) (omega arith) (omega arith)) here in
    line_more c cs other ∙ ap (onto_first c) more

-- a text without a line end is one line
pub lines-whole : (c : ℕ) (cs : List ℕ) → Nowhere (Passes (is_byte 10) (c ∷ cs)) 0 (length (c ∷ cs)) → lines (c ∷ cs) ≡ (c ∷ cs) ∷ []
lines-whole c [] none =
    let other : nat_eq c 10 ≡ false = not_true (nat_eq c 10) (none 0 (omega arith) (omega arith)) in line_more c [] other
lines-whole c (d ∷ ds) none =
    let other : nat_eq c 10 ≡ false = not_true (nat_eq c 10) (none 0 (omega arith) (omega arith)) in
    let more : lines (d ∷ ds) ≡ (d ∷ ds) ∷ [] = lines-whole d ds (λ j low high. none (suc j) (omega arith) (omega arith)) in
    line_more c (d ∷ ds) other ∙ ap (onto_first c) more

pub first_line : (text : List ℕ) (k : ℕ) → IsFirstByte (is_byte 10) text (Some k) → lines text ≡ take k text ∷ lines (take (length text - (k + 1)) (drop (k + 1) text))
first_line text k first = rw (take-rest (k + 1) text, add-one) (lines-at text k first.0.high first.0.before first.1)

pub only_line : (text : List ℕ) → false ≡ nat_eq (length text) 0 → IsFirstByte (is_byte 10) text None → lines text ≡ text ∷ lines (take (length text - length text) (drop (length text) text))
only_line [] some none = absurd (true≢false (sym some))
only_line (c ∷ cs) some none = rw (take-rest (length (c ∷ cs)) (c ∷ cs), drop-length (c ∷ cs)) (lines-whole c cs none)
