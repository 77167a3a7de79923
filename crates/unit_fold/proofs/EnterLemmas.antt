-- A file that is UTF-8, and one that is not.
use Rattle.std.proofs.Common.{◌≡◌, ℕ, Bool, true, false, List, [], ◌∷◌, ◌++◌, length, refl, ap, ◌∙◌, arith, if◌then◌else◌}
use Rattle.std.specs.Str.{IsUtf8, IsValidUpTo, is_utf8}
use Rattle.std.specs.Str.Lossy.{utf8_valid_len}
use Rattle.std.proofs.lemmas.Str.{IsUtf8-from_is_utf8, is_utf8-from_IsUtf8, utf8_valid_len-IsUtf8, utf8_valid_len-IsValidUpTo}
use Rattle.cm_core.specs.declared.numbers.Owner.{Owner}
use Rattle.cm_source.specs.LogicalText.{text_of}
use Rattle.unit_fold.specs.Owners.{SoFar, Ends, add_fault, read_on, read_text, start}
use Rattle.unit_fold.specs.declared.item.FaultKind.TheVariants.{NotUtf8}

not_utf8 : (bytes : List ℕ) (n : ℕ) → IsValidUpTo bytes n → is_utf8 bytes ≡ false
not_utf8 bytes n valid = by (is_utf8 bytes) refl
  where
    by : (b : Bool) → is_utf8 bytes ≡ b → b ≡ false
    by false e = refl
    by true e =
        let whole : utf8_valid_len bytes ≡ length bytes = utf8_valid_len-IsUtf8 bytes (IsUtf8-from_is_utf8 bytes e) in
        let part : utf8_valid_len bytes ≡ n = utf8_valid_len-IsValidUpTo bytes n valid in
        absurd (omega (arith, whole, part, valid.short))

pub reads_entered : (owner : Owner) (p : SoFar) (path bytes : List ℕ) → IsUtf8 bytes
    → read_text owner p path bytes ≡ read_on owner (text_of bytes) true (record p { entered = p.entered ++ (path ∷ []) }) 0
reads_entered owner p path bytes utf8 =
    let there = read_on owner (text_of bytes) true (record p { entered = p.entered ++ (path ∷ []) }) 0 in
    ap (λ (b : Bool). if b then there else Ends false (add_fault p start (NotUtf8 (utf8_valid_len bytes)))) (is_utf8-from_IsUtf8 bytes utf8)

pub reads_refused : (owner : Owner) (p : SoFar) (path bytes : List ℕ) (n : ℕ) → IsValidUpTo bytes n
    → read_text owner p path bytes ≡ Ends false (add_fault p start (NotUtf8 n))
reads_refused owner p path bytes n valid =
    let there = read_on owner (text_of bytes) true (record p { entered = p.entered ++ (path ∷ []) }) 0 in
    ap (λ (b : Bool). if b then there else Ends false (add_fault p start (NotUtf8 (utf8_valid_len bytes)))) (not_utf8 bytes n valid)
    ∙ ap (λ (k : ℕ). Ends false (add_fault p start (NotUtf8 k))) (utf8_valid_len-IsValidUpTo bytes n valid)
