-- What stays UTF-8 where ASCII bytes of a text are left out or replaced.
use Rattle.std.proofs.Common.{◌≡◌, ℕ, zero, suc, ◌+◌, ◌<◌, List, [], ◌∷◌, ◌++◌, length, get_or, drop, refl, arith, length-append}
use Rattle.std.specs.Str.{IsUtf8, IsAscii}
use Rattle.std.proofs.lemmas.Str.{IsUtf8-append, IsUtf8-take, IsUtf8-drop, IsCharBoundary-before_ascii, IsCharBoundary-after_ascii, IsUtf8-from_ascii}
use Rattle.std.proofs.Math.Seq.{get_or-append_seam, take-append_seam}

drop_past : (xs ys : List ℕ) (b : ℕ) → drop (length xs + 1) (xs ++ b ∷ ys) ≡ ys
drop_past [] ys b = refl
drop_past (x ∷ xs) ys b = let more : length (x ∷ xs) + 1 ≡ suc (length xs + 1) = omega arith in rw more (drop_past xs ys b)

-- both sides of an ASCII byte are UTF-8
pub around_ascii : (xs ys : List ℕ) (b : ℕ) → b < 128 → IsUtf8 (xs ++ b ∷ ys) → IsUtf8 xs × IsUtf8 ys
around_ascii xs ys b ascii utf8 =
    let inside : length xs < length (xs ++ b ∷ ys) = rw length-append (omega arith) in
    let read : get_or (xs ++ b ∷ ys) (length xs) 0 ≡ b = get_or-append_seam xs b ys 0 in
    let byte : get_or (xs ++ b ∷ ys) (length xs) 0 < 128 = omega arith in
    let before = IsUtf8-take (xs ++ b ∷ ys) (length xs) utf8 (IsCharBoundary-before_ascii _ _ inside byte) in
    let behind = IsUtf8-drop (xs ++ b ∷ ys) (length xs + 1) utf8 (IsCharBoundary-after_ascii _ _ utf8 inside byte) in
    let ends : drop (length xs + 1) (xs ++ b ∷ ys) ≡ ys = drop_past xs ys b in
    (rw take-append_seam at before, rw ends at behind)

-- both sides of some ASCII bytes are UTF-8
pub around_all_ascii : (ys xs zs : List ℕ) → 0 < length ys → IsAscii ys → IsUtf8 (xs ++ (ys ++ zs)) → IsUtf8 xs × IsUtf8 zs
around_all_ascii [] xs zs some ascii utf8 = absurd (omega arith)
around_all_ascii (b ∷ []) xs zs some ascii utf8 = around_ascii xs zs b (ascii 0) utf8
around_all_ascii (b ∷ c ∷ ys) xs zs some ascii utf8 =
    let parts = around_ascii xs (c ∷ (ys ++ zs)) b (ascii 0) utf8 in
    (parts.0, (around_all_ascii (c ∷ ys) [] zs (omega arith) (λ i. ascii (suc i)) parts.1).1)

pub all_below : (b : ℕ) → b < 128 → IsAscii (b ∷ [])
all_below b h zero = h
all_below b h (suc i) = omega arith

-- one ASCII byte is UTF-8
pub one_ascii : (b : ℕ) → b < 128 → IsUtf8 (b ∷ [])
one_ascii b h = IsUtf8-from_ascii (b ∷ []) (all_below b h)

-- ASCII in place of ASCII
pub ascii_for_ascii : (front ys zs : List ℕ) (b : ℕ) → 0 < length ys → IsAscii ys → b < 128 → IsUtf8 (front ++ (ys ++ zs)) → IsUtf8 (front ++ b ∷ zs)
ascii_for_ascii front ys zs b some ascii h utf8 =
    let parts = around_all_ascii ys front zs some ascii utf8 in
    IsUtf8-append front (b ∷ zs) parts.0 (IsUtf8-append (b ∷ []) zs (one_ascii b h) parts.1)

-- ASCII left out
pub without_ascii : (front ys zs : List ℕ) → 0 < length ys → IsAscii ys → IsUtf8 (front ++ (ys ++ zs)) → IsUtf8 (front ++ zs)
without_ascii front ys zs some ascii utf8 =
    let parts = around_all_ascii ys front zs some ascii utf8 in
    IsUtf8-append front zs parts.0 parts.1

-- a trigraph is ASCII
pub three_ascii : (c : ℕ) → c < 128 → IsAscii (63 ∷ 63 ∷ c ∷ [])
three_ascii c h zero = omega arith
three_ascii c h (suc zero) = omega arith
three_ascii c h (suc (suc zero)) = h
three_ascii c h (suc (suc (suc i))) = omega arith

-- a carriage return and a line feed are ASCII
pub two_ascii : IsAscii (13 ∷ 10 ∷ [])
two_ascii zero = omega arith
two_ascii (suc zero) = omega arith
two_ascii (suc (suc i)) = omega arith
