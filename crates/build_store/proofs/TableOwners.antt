-- The header of a module of a table is found as that module's.
use Rattle.std.proofs.Common.{◌≡◌, ℕ, ◌<◌, Bool, true, false, cond, List, slice_get, get_or, length, Some, None, refl, sym, ap, ◌∙◌, arith, nat_lt}
use Rattle.std.specs.List.{position_or_len}
use Rattle.std.specs.Str.{bytes_eq}
use Rattle.std.proofs.lemmas.Bool.{lt-ltb}
use Rattle.std.proofs.lemmas.List.Sums.{position_or_len_is}
use Rattle.std.proofs.lemmas.Option.{get_or_from_slice_get, slice_get-get_or, slice_get_within}
use Rattle.std.proofs.lemmas.Slice.Eq.{bytes_eq-Decides}
use Rattle.cm_outside.specs.Asks.{value}
use Rattle.cm_outside.specs.declared.question.Question.{Question}
use Rattle.cm_outside.specs.declared.question.Answer.{Answer}
use Rattle.build_store.specs.Search.{owner_of}
use Rattle.build_store.specs.Tables.{table_of}
use Rattle.build_store.specs.declared.table.Target.{Target}
use Rattle.build_store.proofs.TableOnce.{headers_once}

not_true : (b : Bool) → (b ≡ true → false ≡ true) → b ≡ false
not_true true h = sym (h refl)
not_true false h = refl

pub owner_is : (maps : List (List ℕ)) (f : Question → Answer) (i : ℕ) (t : Target) → slice_get (value (table_of maps) f).targets i ≡ Some t
    → owner_of (value (table_of maps) f) t.header ≡ Some i
owner_is maps f i t there =
    let ts : List Target = (value (table_of maps) f).targets in
    let p : Target → Bool = λ u. bytes_eq u.header t.header in
    let within : i < length ts = slice_get_within ts i t there in
    let before : (k : ℕ) → k < i → p (get_or ts k t) ≡ false =
    λ k low. not_true (p (get_or ts k t))
    (λ same.
    let other : slice_get ts k ≡ Some (get_or ts k t) = slice_get-get_or ts k t (omega arith) in
    let equal : k ≡ i = headers_once maps f k i (get_or ts k t) t other there ((bytes_eq-Decides (get_or ts k t).header t.header).0 same) in
    absurd (omega arith)) in
    let here : i < length ts → p (get_or ts i t) ≡ true = λ h. ap p (get_or_from_slice_get ts i t t there) ∙ (bytes_eq-Decides t.header t.header).1 refl in
    let first : position_or_len p ts ≡ i = position_or_len_is p ts i t (omega arith) before here in
    let small : nat_lt i (length ts) ≡ true = lt-ltb i (length ts) within in
    ap (λ n. cond (nat_lt n (length ts)) (Some n) None) first ∙ ap (λ b. cond b (Some i) None) small
